-- What the helpers of planning part by part promise one another (request 2.11).
pub mod Naming
pub mod Planning
