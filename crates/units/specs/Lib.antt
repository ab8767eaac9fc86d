pub mod Ages
pub mod Refusals
pub mod Sizes
pub mod Tests
pub mod inner
pub mod laws
