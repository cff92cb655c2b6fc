pub mod Laws
pub mod View
pub mod Getters
pub mod Moves
pub mod Along
pub mod Checks
pub mod Index
pub mod Truncated
