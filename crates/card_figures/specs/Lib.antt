-- A working definition, which nobody has to believe, of the set of acting lifelines.
pub mod Bits
