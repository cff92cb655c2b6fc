pub mod Drop
pub mod Judge
pub mod Tests
pub mod Erase
