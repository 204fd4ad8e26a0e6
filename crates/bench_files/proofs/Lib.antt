-- Laws of reading a file.
pub mod Filling
