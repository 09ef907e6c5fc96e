pub mod LayerExamples
pub mod Grants
pub mod RuleTables
