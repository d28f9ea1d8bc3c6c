-- What replay keeps for a case with call 10, the live map. Lines: the line of an answer. Commands: what each command does, and the lines of them all.
pub mod Lines
pub mod Commands
