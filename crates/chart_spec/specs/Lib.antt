-- What a chart means, how a log is executed and counted, and the answer: the definitions that everything else cites.
-- Read them in this order. Theorems about them stand in proofs/, the customer's demands in proofs/Demands.antt.
pub mod Action
pub mod Chart
pub mod Traces
pub mod Published
pub mod Openings
pub mod Member
pub mod Executing
pub mod Searching
pub mod Lending
pub mod Reaching
pub mod ByHand
