-- Laws of cuts. A reader of the demands begins at the end, with Promises.
pub mod Declaring
pub mod Holding
pub mod Refusing
pub mod Telling
pub mod Again
pub mod Numbers
pub mod Promises
