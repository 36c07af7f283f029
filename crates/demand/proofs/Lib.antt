-- Laws that the proofs of the functions share.
pub mod Numbers
pub mod Lists
pub mod Partial
pub mod Answers
pub mod Refused
