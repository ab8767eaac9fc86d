-- What the contracts of inner functions cite, and the laws about it. No public contract cites it.
pub mod Carried
pub mod Copies
pub mod Handed
pub mod Kinds
pub mod Planned
pub mod Seats
pub mod Tests
pub mod Using
