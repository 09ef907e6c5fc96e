pub mod Checked
pub mod Ends
pub mod Learned
pub mod Told
pub mod Wish
