-- The bytes of a card as an answer, a chart and a note. Read them in this order.
pub mod Parts
pub mod Nodes
pub mod Figures
pub mod Findings
pub mod Checking
pub mod Note
pub mod Table
pub mod Meaning
pub mod Faultless
