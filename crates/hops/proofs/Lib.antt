-- The laws of sets as words.
pub mod SetLaws
pub mod RankLaws
