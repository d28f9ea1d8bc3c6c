-- The table on the wire over the size of a record, the same at 8 bytes, and how a table's bytes are read.
pub mod Sized
pub mod Wire
pub mod Forms
