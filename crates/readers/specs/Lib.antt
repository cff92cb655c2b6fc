-- The uses of a definition, handed to a reader. Assumes nothing.
pub mod UsesOf
