-- What the searches answer.
pub mod Find
