-- A node, a row of nodes, and the charts that they stand for. Read them in this order.
pub mod Kind
pub mod Row
