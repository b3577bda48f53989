pub mod Reasons
pub mod Sentences
pub mod Laws
