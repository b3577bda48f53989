mod EdgeLemmas
mod ClueLemmas
pub mod JoinedLemmas
pub mod PaletteLemmas
mod GrownLemmas
mod SiteLemmas
mod TileLemmas
mod PictureLemmas
mod CutLemmas
mod LawLemmas
