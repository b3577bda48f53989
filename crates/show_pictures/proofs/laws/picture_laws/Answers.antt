use Rattle.show_pictures.proofs.PaletteLemmas.{palette_law}
use Rattle.show_pictures.proofs.LawLemmas.{fill_law, fitting_law, seam_law}
use Rattle.show_pictures.proofs.laws.picture_laws.Goals as goal

pub returns-clause-palette : goal.returns-clause-palette
returns-clause-palette c = palette_law

pub returns-clause-fills : goal.returns-clause-fills
returns-clause-fills c = fill_law

pub returns-clause-fitting : goal.returns-clause-fitting
returns-clause-fitting c = fitting_law

pub returns-clause-seams : goal.returns-clause-seams
returns-clause-seams c = seam_law
