-- Laws of what the program tells and of the line. Begin at the end, with Promises.
pub mod Digits
pub mod Words
pub mod Ascii
pub mod Promises
