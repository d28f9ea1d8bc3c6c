-- What a rewrite and the cover query must answer, and what they leave in what they were lent; and what it is for a rewrite's result to be shortest.
pub mod Rewriting
pub mod Covering
pub mod Conditions
pub mod Ending
pub mod Shortest
pub mod Modes
