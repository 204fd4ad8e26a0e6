-- Laws of packing.
pub mod Packing
