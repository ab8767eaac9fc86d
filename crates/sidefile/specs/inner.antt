-- What the contracts of inner functions cite, and the laws about it. No public contract cites it.
pub mod Passed
pub mod Sealed
pub mod Table
pub mod Tables
