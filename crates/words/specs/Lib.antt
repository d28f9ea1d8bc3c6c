-- What the contracts of words say, in the order to read it: bits, prefixes, keys, the positions of a node, the rules of folds and pushes, the
-- fold card, coverage.
pub mod Bits
pub mod Prefix
pub mod Keys
pub mod Positions
pub mod Rules
pub mod Card
pub mod Coverage
