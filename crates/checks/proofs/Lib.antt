-- Laws that several proofs of this crate cite.
mod YardEnd
mod MovesRead
mod Counting
mod Reporting
mod Printed
