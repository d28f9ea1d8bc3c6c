-- The definitions of the special-use call, in the order to read them: the lists, what it is to lie in one, the call's statement and its conditions for a refusal.
pub mod Editions
pub mod Ranges
pub mod Calls
