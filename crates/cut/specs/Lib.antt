-- A working definition, which nobody has to believe, of pruning for a cut.
pub mod Found
