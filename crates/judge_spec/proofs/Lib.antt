-- Laws of judgments. A reader of the demands begins at the end, with Promises.
pub mod Refusing
pub mod Telling
pub mod Numbers
pub mod Wiped
pub mod Example
pub mod Promises
