-- What the helpers of the planner promise one another.
pub mod Serving
