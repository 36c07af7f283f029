-- Laws that several proofs of this crate cite.
pub mod Decimals
pub mod Writing
pub mod Rows
pub mod Edges
pub mod WriteCall
