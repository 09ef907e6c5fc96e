pub mod Access
pub mod MapCodes
pub mod Errno
pub mod Kind
pub mod Map
pub mod Right
