-- Working definitions, which nobody has to believe, of spelling a line.
pub mod Texts
