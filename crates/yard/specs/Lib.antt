-- Definitions that the contracts cite: three lent lists as a yard, and the yard state.
pub mod Given
pub mod State
