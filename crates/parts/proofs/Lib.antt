-- Laws about naming and planning the parts, beside the functions' proofs.
pub mod Naming
pub mod Planning
