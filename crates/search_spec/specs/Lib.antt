-- Working definitions, which nobody has to believe: how the code's search ends, in the words of the search under a
-- lending.
pub mod Ending
