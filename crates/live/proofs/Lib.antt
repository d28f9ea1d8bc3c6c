-- The laws of the live map, in the order to read them. The theorems to look for are those of Demands, Calls, Promises, Wrong and Cases.
pub mod Present
pub mod Calling
pub mod Replies
pub mod Maps
pub mod Demands
pub mod Calls
pub mod Promises
pub mod Cases
pub mod Wrong
