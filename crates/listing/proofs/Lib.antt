pub mod Writing
pub mod Pens
pub mod Rows
pub mod Uses
pub mod Texts
pub mod Nodes
