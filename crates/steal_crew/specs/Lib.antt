pub mod QueueRule
pub mod Queues
pub mod Results
pub mod NumberSource
pub mod Tickets
pub mod Jobs
