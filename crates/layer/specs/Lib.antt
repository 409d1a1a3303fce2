-- The words of the contracts.
pub mod Refusals
pub mod Times
pub mod Wires
