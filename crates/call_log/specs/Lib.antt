-- What the contracts of this crate speak of: each module is the file of that name beside this one.
pub mod Counting
pub mod Logs
pub mod Reading
