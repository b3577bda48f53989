pub mod ReadingLemmas
pub mod TallyLemmas
pub mod TextLemmas
pub mod CountLemmas
