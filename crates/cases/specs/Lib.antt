-- What this crate's functions for other crates read and print.
pub mod Printing
pub mod Reading
