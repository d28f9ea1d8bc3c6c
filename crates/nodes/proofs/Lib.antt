-- The laws of what a node writes, and of the work room.
pub mod OutputLaws
pub mod OutputLevels
pub mod OutputHeads
pub mod OutputWalk
pub mod RoomLaws
pub mod RoomBlocks
pub mod RoomSizes
pub mod RoomWalk
pub mod RoomNodes
