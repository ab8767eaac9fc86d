-- What runs alike share: recordings that differ only where demand 3 lets them, call by call and to a desk.
pub mod Agree
pub mod Alike
pub mod AlikeCalls
pub mod AlikeClose
pub mod AlikeDesk
pub mod AlikeGood
pub mod AlikeRecordings
pub mod AlikeRuns
pub mod AlikeSlices
