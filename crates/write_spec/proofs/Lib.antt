-- Laws of charts that are written down, as a row of nodes and as the bytes of a card.
pub mod Nodes
pub mod Read
