pub mod Pictures
pub mod Windows
