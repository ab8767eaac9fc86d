pub mod Calls
pub mod Close
pub mod Outcome
pub mod Rules
pub mod Runs
pub mod World
pub mod inner
pub mod laws
