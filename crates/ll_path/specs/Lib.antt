pub mod Name
pub mod Names
pub mod Path
pub mod Place
pub mod Target
pub mod Word
