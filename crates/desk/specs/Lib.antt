pub mod Outcome
pub mod Part
pub mod Read
pub mod Source
pub mod Take
pub mod inner
pub mod laws
