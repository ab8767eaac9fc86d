pub mod Changing
pub mod Counted
pub mod Listing
pub mod Turns
