-- What the text of answers is: lines, and the answers made of them.
pub mod Places
pub mod Ipv6
pub mod Text
pub mod Answers
