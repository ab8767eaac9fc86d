pub mod Flagging
pub mod Giving
pub mod Indexing
pub mod Judging
pub mod Keeping
pub mod Placing
pub mod Putting
pub mod Ranges
