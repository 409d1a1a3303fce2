-- The words of the theorems.
pub mod Laws
pub mod Nearest
pub mod Push
pub mod Tied
pub mod Witness
