-- Laws for a loop that copies, of what a search finds, and of the larger of two numbers.
pub mod Copied
pub mod Found
pub mod Larger
