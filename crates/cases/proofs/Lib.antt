-- Laws of what the values of this crate print, and of spaces cut off a text.
pub mod Printing
pub mod Spaces
