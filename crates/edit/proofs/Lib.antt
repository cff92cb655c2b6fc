pub mod Cuts
pub mod Numbers
pub mod Limits
pub mod Answers
pub mod Asked
pub mod ByKind
