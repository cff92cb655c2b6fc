pub mod Replies
pub mod Printing
pub mod Examples
pub mod Fits
