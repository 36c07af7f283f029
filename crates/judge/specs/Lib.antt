-- Definitions that speak of the climbs of this crate.
pub mod Climb
