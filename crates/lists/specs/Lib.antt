pub mod Below
pub mod Bools
pub mod Options
pub mod Scans
pub mod laws
