pub mod Looks
pub mod Walks
