-- What the planner's helpers promise one another.
pub mod Balancing
