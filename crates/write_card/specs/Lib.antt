-- Working definitions, which nobody has to believe, of writing a card.
pub mod Outputs
