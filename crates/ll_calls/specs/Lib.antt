pub mod Typed
pub mod TreeLimits
