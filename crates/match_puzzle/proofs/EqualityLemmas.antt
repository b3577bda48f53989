-- Equality of placements and of lists of them, as a test sees it.
use Rattle.std.proofs.Common.{◌≡◌, ◌==◌, List, refl, ap}
use Rattle.std.specs.Bool.{Decides}
use Rattle.std.specs.Cmp.Lexicographic.{pointwise}
use Rattle.std.proofs.lemmas.Bool.Decides.{Decides-and, Decides-eqb}
use Rattle.std.proofs.lemmas.Slice.Eq.{slice_eq-Decides}
use Rattle.match_puzzle.specs.Equality.{is_same}
use Rattle.match_puzzle.specs.declared.placements.Placement.{Placement}
use Rattle.match_puzzle.proofs.FittingLemmas.{same_placement}

is_same-Decides : (x y : Placement) → Decides (is_same x y) (x ≡ y)
is_same-Decides x y =
    let both = Decides-and (x.tile == y.tile) (x.turn == y.turn) (Decides-eqb x.tile y.tile) (Decides-eqb x.turn y.turn) in
    (λ e. let w = both.0 e in same_placement w.0 w.1, λ e. both.1 (ap (λ (z : Placement). z.tile) e, ap (λ (z : Placement). z.turn) e))

pub same_entry : (a b : List Placement) → Decides (pointwise is_same a b) (a ≡ b)
same_entry a b = slice_eq-Decides is_same-Decides a b (pointwise is_same a b) refl
