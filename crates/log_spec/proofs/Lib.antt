-- Laws of logs.
pub mod Actions
pub mod Rules
