-- What a close keeps: a world after it, and, as long as no more than L further ticks are closed, what desks of it need.
pub mod CloseWay
pub mod ClosedFiles
pub mod ClosedGood
pub mod ClosedKept
pub mod ClosedRules
pub mod Demanded
pub mod KeptSelf
pub mod Since
