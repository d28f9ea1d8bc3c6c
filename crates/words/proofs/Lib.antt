-- The laws of words.
pub mod BitLaws
pub mod PrefixLaws
pub mod KeyLaws
pub mod Ladders
pub mod CardLaws
pub mod PositionLaws
pub mod CoverageLaws
