-- What the contracts of inner functions cite, and the laws about it. No public contract cites it.
pub mod Answers
pub mod Asked
pub mod Judged
pub mod Lent
