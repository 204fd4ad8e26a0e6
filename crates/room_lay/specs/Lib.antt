-- Working definitions, which nobody has to believe, of a card's chart in a room.
pub mod Rooms
