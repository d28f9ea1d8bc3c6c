-- How the engine sees a table: at a wider address, as the routes in and at each position, and by a walk down the positions.
pub mod Wide
pub mod Runs
pub mod Walk
pub mod Walks
