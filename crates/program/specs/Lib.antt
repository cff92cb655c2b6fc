-- The program over the store. Assumes nothing.
pub mod Program
