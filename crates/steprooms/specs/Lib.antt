-- Steps as bytes.
pub mod Steps
