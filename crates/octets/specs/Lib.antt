pub mod Number
pub mod Part
pub mod Rows
pub mod inner
pub mod laws
