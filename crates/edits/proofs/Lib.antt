pub mod ByKind
pub mod Zeros
