pub mod EntriesThatStand
pub mod EntryLines
pub mod FileRead
pub mod FollowedParts
pub mod Follows
pub mod Judged
pub mod SavedText
