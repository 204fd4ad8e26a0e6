-- Working definitions, which nobody has to believe: a place and the node in it, a room and the charts in it, and what
-- it means that a part was built in it. No public call's contract speaks of them. Read them in this order.
pub mod Room
pub mod Building
pub mod Passing
pub mod Descending
