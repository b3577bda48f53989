pub mod TurnedAssemblyLemmas
pub mod TurningLemmas
