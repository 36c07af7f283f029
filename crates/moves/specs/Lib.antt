-- Definitions that the contracts of this crate's helpers cite.
pub mod Report
