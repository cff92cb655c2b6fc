pub mod Parts
pub mod Marks
pub mod Loops
pub mod Canonical
