-- The laws of lookup and addresses held. The theorems to look for are those of Calls, of the two calls, and of Masking, of host bits in them.
pub mod Pass
pub mod Calls
pub mod Masking
pub mod Examples
