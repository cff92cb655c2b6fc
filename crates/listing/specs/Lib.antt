-- The listing of a store, as text in a lent buffer. Assumes nothing.
pub mod Writer
pub mod Lines
