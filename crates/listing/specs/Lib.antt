pub mod Decimal
pub mod Text
pub mod inner
pub mod laws
