-- The definitions of the theory, in the order to read them: routes and the longest match, what each mode answers, the choice of a hop by rank; then the same and
-- what is demanded of it, said without a walk: the longest match by the routes alone, what a result must keep, and that it is as short as can be; then how many
-- addresses a table holds, and its routes by falling length; and the mode that is retired. Shapes are for the laws.
pub mod Routes
pub mod Results
pub mod Ranks
pub mod Longest
pub mod Demands
pub mod Shortest
pub mod Reach
pub mod Falling
pub mod Retired
pub mod Shapes
