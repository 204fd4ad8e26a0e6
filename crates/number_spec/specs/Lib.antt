-- What refuses, as a number and a place.
pub mod Refusals
