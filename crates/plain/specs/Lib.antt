-- What the contracts of plain say, in the order to read them: the call's rules and its conditions for a refusal; what a position's set and entries are and how
-- it is taken apart; what is written where there is room.
pub mod Rewriting
pub mod Conditions
pub mod Positions
pub mod Output
