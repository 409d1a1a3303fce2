pub mod Check
pub mod Held
pub mod Laws
pub mod Levels
pub mod List
pub mod Refusals
pub mod Wires
pub mod Wiring
