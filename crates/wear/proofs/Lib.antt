-- Laws about counting within a stretch, beside the functions' proofs.
pub mod Wearing
