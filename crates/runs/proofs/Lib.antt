pub mod Frame
pub mod Held
pub mod Passing
pub mod Hands
