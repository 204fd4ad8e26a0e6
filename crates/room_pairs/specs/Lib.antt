-- Working definitions, which nobody has to believe, of executing in a pair.
pub mod Beside
