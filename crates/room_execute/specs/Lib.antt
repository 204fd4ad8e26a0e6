-- A working definition, which nobody has to believe, of executing.
pub mod Occurrences
