pub mod Rooms
pub mod Listed
pub mod Blocks
pub mod Names
pub mod Operations
