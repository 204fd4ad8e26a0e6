-- Working definitions, which nobody has to believe, of counting children.
pub mod Counting
