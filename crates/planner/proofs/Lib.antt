-- Laws about balancing and the state that it starts from, beside the functions' proofs.
pub mod Settle
pub mod Children
pub mod Planning
pub mod Promise
