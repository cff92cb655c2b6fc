pub mod Record
pub mod Kinds
pub mod Taken
pub mod ByKind
pub mod Answer
