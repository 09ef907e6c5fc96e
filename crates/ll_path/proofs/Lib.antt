pub mod CommonNames
pub mod NameLemmas
pub mod PathLemmas
pub mod Places
pub mod Splits
pub mod TargetLemmas
