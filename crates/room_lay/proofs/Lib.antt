-- Laws of laying.
pub mod Placed
pub mod Onward
