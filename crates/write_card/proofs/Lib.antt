-- Laws of counting and writing a chart in a room, part by part.
pub mod Counting
pub mod Putting
pub mod Whole
