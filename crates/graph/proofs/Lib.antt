-- The lemmas behind the search, from sums to the end of the search.
pub mod Totals
pub mod Zeros
pub mod Chaining
pub mod Queueing
pub mod Starts
pub mod Growth
pub mod Walks
pub mod Ends
