-- Laws of where text is kept, and of rooms.
pub mod KeptLaws
