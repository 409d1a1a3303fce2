-- The words of the contracts.
pub mod Numbers
pub mod Records
pub mod Refusals
pub mod Rewritten
pub mod Written
