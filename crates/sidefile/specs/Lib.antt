pub mod Encode
pub mod Judge
pub mod Told
pub mod inner
pub mod laws
