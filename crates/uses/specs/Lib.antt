pub mod Look
pub mod Some
pub mod Retarget
