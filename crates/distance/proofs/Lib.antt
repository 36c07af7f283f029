-- Laws that the proofs of the functions share.
pub mod Climbing
pub mod Marking
pub mod Pebbles
