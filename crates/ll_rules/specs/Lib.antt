pub mod LayerCodes
pub mod Layer
pub mod Rules
pub mod RuleTable
