-- What the inner functions of aggregate ask and say; what the calls answer is said in the crate calls.
pub mod Walks
