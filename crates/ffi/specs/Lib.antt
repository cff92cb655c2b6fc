-- The exported functions. Assumes nothing.
pub mod Called
