-- What desks do with such worlds: a take, a read behind the recorder, a refresh and its marks.
pub mod Lagging
pub mod Refreshed
pub mod Snapshot
pub mod Taken
pub mod Telling
