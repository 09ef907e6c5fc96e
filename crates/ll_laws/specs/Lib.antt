pub mod Commits
pub mod Growth
pub mod NoGain
pub mod Sound
pub mod Walk
pub mod Walks
pub mod Withheld
pub mod World
