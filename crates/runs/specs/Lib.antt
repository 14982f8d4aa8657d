-- What the contracts of this crate speak of: each module is the file of that name beside this one.
pub mod Holds
pub mod Passing
pub mod Calls
pub mod Register
pub mod Desk
