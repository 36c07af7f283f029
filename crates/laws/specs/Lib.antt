-- What is promised of the definitions as a whole, and the words that it is said in: a file for each demand, request or program that has such a promise.
pub mod Algorithms
pub mod Demand2
pub mod Demand3
pub mod Equation2
pub mod Events
pub mod Shallow
pub mod SheetsBefore
pub mod Parts
pub mod Wear
pub mod Openings
pub mod Spare
pub mod CheckSheets
pub mod Limits
pub mod Cabinet
pub mod Choice
pub mod Nearest
pub mod Report
