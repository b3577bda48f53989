use Rattle.std.proofs.Common.{◌≡◌, ◌==◌, ◌∷◌, ◌∙◌, [], suc, List, Bool, false, not, length, true≢false, refl, ap, sym, arith}
use Rattle.std.proofs.lemmas.Bool.{ne_eqb}
use Rattle.match_puzzle.proofs.tables.has_clues.Goals as goal

none_left : {X : Type 0} (xs : List X) (empty : Bool) → empty ≡ (length xs == 0) → not empty ≡ false → xs ≡ []
none_left [] empty is e = refl
none_left (x ∷ xs) empty is e =
    let some : (length (x ∷ xs) == 0) ≡ false = ne_eqb (suc (length xs)) 0 (λ e. omega (arith, e)) in
    absurd (true≢false (ap not (sym (is ∙ some)) ∙ e))

pub returns : goal.returns
returns c = none_left c.args.rules.now.clues.now c.is_empty.result c.is_empty.ensures
