pub mod Line
pub mod AnswerText
pub mod TallyText
pub mod BoardText
pub mod CompleteLists
pub mod Statuses
