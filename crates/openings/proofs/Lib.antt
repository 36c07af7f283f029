-- Laws about marking, listing and the call, beside the functions' proofs.
pub mod Marking
pub mod Listing
pub mod Calling
