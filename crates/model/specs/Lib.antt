-- What a reader must believe, in the order of document 01.
pub mod Yard
pub mod Judge
pub mod Push
pub mod Plan
pub mod Follow
pub mod Distance
pub mod Parts
pub mod Wear
pub mod Openings
pub mod Calls
pub mod Sheets
pub mod CheckSheets
pub mod Paper
pub mod Cabinet
pub mod Given
