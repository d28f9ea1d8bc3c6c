-- The definitions of the room of a live map. Rooms: which rooms hold one, and what routes each shows. Inner is for the functions.
pub mod Rooms
pub mod Inner
