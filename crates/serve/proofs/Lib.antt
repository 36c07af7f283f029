-- Laws about the planner's tables and state, beside the functions' proofs.
pub mod Links
pub mod Numbers
pub mod Siblings
pub mod Looking
pub mod Picking
pub mod Moving
pub mod Stretches
pub mod Serving
