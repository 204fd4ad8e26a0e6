-- Laws of the code that cuts: where what is left of a chart stands.
pub mod Leaving
