-- Laws that the functions' proofs cite.
pub mod Depths
pub mod Sets
