pub mod Index
pub mod Laying
pub mod Rowwise
pub mod Scans
pub mod Telling
pub mod Verdicts
