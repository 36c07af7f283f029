-- Laws of marks and climbs, and of the root.
pub mod Lists
pub mod Climb
pub mod Rooted
