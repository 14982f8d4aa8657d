-- What the contracts of this crate speak of: each module is the file of that name beside this one.
pub mod Text
pub mod Fault
pub mod Checks
pub mod Reading
pub mod Requests
pub mod Responses
pub mod Report
pub mod Cut
pub mod Steps
pub mod Loading
pub mod Laws
pub mod Figures
