-- What is proved of the definitions in specs/. Nothing here has to be believed.
pub mod Below
pub mod Bools
pub mod Maps
pub mod Passes
pub mod Scans
