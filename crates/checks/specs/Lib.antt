-- Definitions that the contracts of this crate's helpers cite.
pub mod Reading
pub mod Crossings
pub mod Verdicts
