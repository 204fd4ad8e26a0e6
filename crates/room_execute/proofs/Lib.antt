-- Laws of executing in a room.
pub mod Occurring
pub mod Placing
