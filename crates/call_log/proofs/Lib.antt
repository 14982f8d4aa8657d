pub mod Taken
pub mod Lines
pub mod Held
pub mod Tells
pub mod Says
pub mod Evenings
