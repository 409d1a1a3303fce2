pub mod Lags
pub mod Net
pub mod Path
pub mod Tally
