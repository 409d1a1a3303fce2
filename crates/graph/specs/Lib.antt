-- The words of the contracts.
pub mod Chains
pub mod Digraph
pub mod Frontier
pub mod Reach
pub mod Refusals
pub mod Sums
pub mod Trace
