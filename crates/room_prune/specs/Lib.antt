-- Working definitions, which nobody has to believe, of pruning.
pub mod Sides
