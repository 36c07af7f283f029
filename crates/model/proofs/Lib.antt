-- Cases worked by hand, against which each definition stands.
pub mod Yards
pub mod Worked
pub mod WorkedChecks
pub mod WorkedNumbers
