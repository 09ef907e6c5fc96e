pub mod Demands
pub mod Denial
pub mod Judge
pub mod Masks
pub mod Search
pub mod Verdict
