-- Laws of executing in a pair.
pub mod Pairing
