pub mod BoardTurnLemmas
pub mod FrameLemmas
pub mod LikeLemmas
mod MateLemmas
pub mod PlanLemmas
