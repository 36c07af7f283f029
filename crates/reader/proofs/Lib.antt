-- Laws that several proofs of this crate cite.
pub mod Fields
pub mod ReadLines
pub mod ReadCall
pub mod Blank
