pub mod Seqs
pub mod Split
pub mod Entries
pub mod Cells
