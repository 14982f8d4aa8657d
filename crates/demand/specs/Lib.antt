-- What the contracts of this crate speak of: each module is the file of that name beside this one.
pub mod Demand
pub mod Basic
pub mod Made
pub mod Refusals
pub mod Figures
pub mod Laws
pub mod Rounding
pub mod Runs
