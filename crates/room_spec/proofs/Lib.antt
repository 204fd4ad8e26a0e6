-- Laws of rooms, and of what is built in them.
pub mod Standing
pub mod Adding
pub mod Apart
pub mod Descending
pub mod Answering
pub mod Onward
