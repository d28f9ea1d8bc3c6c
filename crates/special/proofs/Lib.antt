-- The laws of the special-use call. Calls: what its statement settles, the theorems to look for. Listed: that the lists are accepted tables, by one computed
-- test. Inside: what it is to lie in a range, said of addresses. Scan: the passes of the code. Masking: host bits. Examples: worked replies.
pub mod Inside
pub mod Listed
pub mod Scan
pub mod Calls
pub mod Masking
pub mod Examples
