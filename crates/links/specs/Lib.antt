pub mod Climbing
pub mod Tests
pub mod Moving
