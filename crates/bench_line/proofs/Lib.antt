-- Laws of adding bytes to a text.
pub mod Adding
