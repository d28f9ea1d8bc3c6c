-- Laws of what replay keeps for a case.
pub mod AnswerLaws
