-- Laws of the code that judges: its answers are those of the definition.
pub mod Answering
