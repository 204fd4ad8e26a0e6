-- Laws of searching.
pub mod Deepest
pub mod Turns
pub mod Trying
pub mod Searching
pub mod Stopping
