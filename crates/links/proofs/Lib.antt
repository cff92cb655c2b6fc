pub mod Climb
pub mod Stepping
pub mod Sorts
pub mod Testing
pub mod Performing
pub mod Moving
