-- A chart written down, as a row of nodes and as a card.
pub mod Rows
pub mod Cards
