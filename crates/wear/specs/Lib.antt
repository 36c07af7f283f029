-- What the helpers for the wear promise one another (request 2.12).
pub mod Wearing
