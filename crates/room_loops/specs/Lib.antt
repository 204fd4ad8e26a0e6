-- A working definition, which nobody has to believe, of executing in a loop.
pub mod Orders
