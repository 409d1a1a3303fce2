-- The words of the engine's contracts.
pub mod Calls
pub mod Carried
pub mod Fit
pub mod Hops
pub mod Leftover
pub mod Messages
pub mod Moves
pub mod OfRows
pub mod Pick
pub mod Round
pub mod Rows
pub mod State
pub mod Step
pub mod Stepped
pub mod Table
