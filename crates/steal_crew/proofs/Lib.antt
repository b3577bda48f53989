pub mod BesideLemmas
pub mod QueueRuleLemmas
pub mod QueueLemmas
pub mod ResultLemmas
pub mod NumberSourceLemmas
pub mod TicketLemmas
pub mod JobLemmas
