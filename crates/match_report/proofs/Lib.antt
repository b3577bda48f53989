pub mod AnswerLemmas
pub mod CompleteLemmas
pub mod LineLemmas
pub mod NumberedLemmas
