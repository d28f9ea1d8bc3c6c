-- Laws and theorems of the list of holes.
pub mod Walk
pub mod Most
pub mod Positions
pub mod Output
pub mod Replies
pub mod Holes
pub mod Calls
pub mod Rewritten
pub mod Empty
pub mod Held
pub mod Masking
