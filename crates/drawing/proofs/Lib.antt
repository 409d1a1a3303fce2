pub mod Chunks
pub mod Drawn
