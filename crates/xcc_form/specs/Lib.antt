pub mod ExactCover
pub mod Options
pub mod Correspondence
pub mod Laws
pub mod Numbers
pub mod Layout
pub mod Clashes
pub mod Chosen
