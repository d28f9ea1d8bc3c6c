-- The definitions of the list of holes, in the order to read them: the holes of a table, the call's statement, its conditions for a refusal; and what the
-- walk's positions are.
pub mod Holes
pub mod Listing
pub mod Conditions
pub mod Kinds
