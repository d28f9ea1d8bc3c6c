-- The laws of the text of answers. The theorems to look for: Numbers.decimal_is, reads_back, no_leading_zero and no_hex_zero; Ipv6.longest-most, first-there,
-- first-before, shortened_end and ipv6_parts; Puts.put_then; Replies.rewritten_text_lem; Examples.
pub mod Numbers
pub mod Ipv6
pub mod Signs
pub mod Puts
pub mod Lines
pub mod Replies
pub mod Examples
