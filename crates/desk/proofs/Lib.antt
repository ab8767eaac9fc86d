pub mod Followed
pub mod Raised
pub mod Replied
pub mod Scans
pub mod Spans
