-- Laws of nodes and of rows of nodes.
pub mod Ranges
pub mod Numbering
pub mod Rows
pub mod Trees
