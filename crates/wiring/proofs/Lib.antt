pub mod Holding
pub mod Keeping
pub mod Lawful
pub mod Leading
pub mod Pinning
pub mod Rising
pub mod Verdicts
