pub mod BoundedReach
pub mod Outcomes
pub mod Refusal
pub mod Tables
pub mod WalkPlace
