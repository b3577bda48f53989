pub mod Drafts
pub mod MisfitText
