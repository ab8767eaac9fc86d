-- What the contracts of inner functions cite, and the laws about it. No public contract cites it.
pub mod Changed
pub mod Fits
pub mod Flagged
pub mod Numbers
pub mod Placed
pub mod Renewed
pub mod Search
pub mod Tables
