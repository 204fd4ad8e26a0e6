-- What a cut answers and writes.
pub mod Cutting
pub mod Table
