-- The lemmas behind the interleaving.
pub mod Choosing
pub mod Opening
pub mod Scaling
