-- The examples of document 01 and longer ones, as statements; all of them computed from the definitions.
pub mod Clause
pub mod Longer
pub mod Rows
