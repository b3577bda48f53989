pub mod LiveHands
pub mod LiveWorkers
