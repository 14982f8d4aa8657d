-- What the contracts of this crate speak of: each module is the file of that name beside this one.
pub mod Account
pub mod Runs
pub mod Agreement
pub mod History
pub mod Places
pub mod Memory
