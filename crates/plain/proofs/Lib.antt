-- Laws and theorems of the second engine. The theorems: Calls (what the statement settles), Agreement (the two engines agree), Demand3, Shortest and Ranks (of
-- both engines), Masking (host bits).
-- Walk, Positions and Output are the walks' laws, Whole and Replies the call's.
pub mod Walk
pub mod Positions
pub mod Output
pub mod Whole
pub mod Replies
pub mod Calls
pub mod Agreement
pub mod Demand3
pub mod Masking
pub mod Shortest
pub mod Ranks
