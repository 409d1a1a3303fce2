-- The lemmas behind the records and the file.
pub mod Determined
pub mod Fronts
pub mod Pinning
pub mod Putting
pub mod Rewriting
pub mod Settling
