-- Laws of pruning in a room.
pub mod Left
