pub mod Greatest
pub mod Published
pub mod Ranges
pub mod Tallies
