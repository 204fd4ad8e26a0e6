-- Laws of executing in a loop.
pub mod Rounding
