-- What the fold card shows.
pub mod Shown
