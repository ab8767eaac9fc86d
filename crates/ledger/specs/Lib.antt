pub mod Entries
pub mod Rules
pub mod View
pub mod inner
pub mod laws
