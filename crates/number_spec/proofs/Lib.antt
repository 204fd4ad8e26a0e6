-- Laws of refusals.
pub mod Real
