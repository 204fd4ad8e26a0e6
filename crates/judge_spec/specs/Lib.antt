-- The answer to the bytes of a card and of a log, and the room afterwards.
pub mod Judgment
pub mod Table
