pub mod Rules
pub mod Table
pub mod inner
pub mod laws
