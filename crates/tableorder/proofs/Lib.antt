-- Laws of bytes and rows that change places, of lists of rows, and of their order.
pub mod Exchange
pub mod Order
pub mod Sinking
pub mod Lists
pub mod Settled
