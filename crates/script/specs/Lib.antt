pub mod See
pub mod Calls
pub mod Runs
pub mod Records
