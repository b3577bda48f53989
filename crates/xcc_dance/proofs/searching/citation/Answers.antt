use Rattle.std.proofs.Common.{refl, sym, subst}
use Rattle.cert_tree.specs.Tree.{same, image}
use Rattle.xcc_dance.specs.Found.{IsCitation}
use Rattle.xcc_dance.proofs.searching.citation.Goals as goal

pub returns-in-Same : goal.returns-in-Same
returns-in-Same c = let w = c.in-Same in (same w.lemma, subst (λ cite. IsCitation cite (same w.lemma)) (sym w.is) refl, refl)

pub returns-in-Image : goal.returns-in-Image
returns-in-Image c = let w = c.in-Image in (image w.lemma w.symmetry, subst (λ cite. IsCitation cite (image w.lemma w.symmetry)) (sym w.is) refl, refl)
