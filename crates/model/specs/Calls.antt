-- The answer of each call of document 01 and of the requests as a function of what it is handed, and what each lent list then holds, by family of calls.
pub mod Answers
pub mod Demands
pub mod Events
pub mod Distances
pub mod Plans
pub mod Parts
pub mod Checks
pub mod Wear
pub mod Openings
pub mod Registers
