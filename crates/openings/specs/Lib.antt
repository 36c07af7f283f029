-- What the helpers for the openings promise one another (request 2.13).
pub mod Listing
pub mod Ways
