pub mod Telling
pub mod Public
