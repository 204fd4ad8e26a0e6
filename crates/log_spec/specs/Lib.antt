-- The bytes of a log: its actions, and what refuses it. Read them in this order.
pub mod Bytes
pub mod Refusing
