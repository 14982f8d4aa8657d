-- What the contracts of this crate speak of: each module is the file of that name beside this one.
pub mod Locks
pub mod Cover
pub mod Plans
pub mod Ranks
pub mod Removal
pub mod Places
pub mod Candidates
pub mod Judge
