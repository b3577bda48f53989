pub mod CountLemmas
pub mod MachineLemmas
