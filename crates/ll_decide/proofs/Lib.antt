pub mod OneByOne
pub mod Bits
pub mod Carried
pub mod FirstDenial
pub mod Mapped
pub mod Sets
