-- Working definitions, which nobody has to believe, of a node in a place of the room.
pub mod Place
