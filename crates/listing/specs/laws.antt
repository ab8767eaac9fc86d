-- What is proved of the definitions in specs/. Nothing here has to be believed.
pub mod Decimal
pub mod Encoded
pub mod Judged
pub mod Kept
pub mod Whole
