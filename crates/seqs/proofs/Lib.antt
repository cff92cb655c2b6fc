pub mod Base
pub mod Sums
pub mod Says
pub mod Parts
pub mod Cells
pub mod Each
