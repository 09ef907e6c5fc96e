pub mod Hex
pub mod Maps
pub mod RightNames
pub mod Places
pub mod Sizes
