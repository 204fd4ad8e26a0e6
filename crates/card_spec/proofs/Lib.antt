-- Laws of cards. A reader begins with proofs/Promises.antt.
pub mod Trailers
pub mod Rows
pub mod Lowest
pub mod Relied
pub mod Answers
pub mod Decided
pub mod Orderly
pub mod Children
pub mod LowestAt
pub mod Deciding
pub mod Telling
pub mod Charted
pub mod Promises
pub mod Example
