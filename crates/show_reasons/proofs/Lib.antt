pub mod Totals
pub mod TextLemmas
pub mod MeetLemmas
pub mod CountLemmas
pub mod BorderCounts
pub mod InnerCounts
pub mod LawLemmas
pub mod ReasonLemmas
