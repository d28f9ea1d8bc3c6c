-- Laws of the pieces of lines, of lines, and of what is read and written.
pub mod PieceLaws
pub mod LineLaws
pub mod Writing
pub mod Settled
pub mod Free
pub mod Unsaid
pub mod Sound
pub mod Examples
