use Rattle.std.proofs.Common.{◌≡◌, ◌<◌, ◌≤◌, ◌+◌, ℕ, Some, slice_get, ◌∙◌, sym, ap, subst, arith, ⊎_elim}
use Rattle.std.proofs.lemmas.Bool.Decides.{eqb_tells}
use Rattle.match_limits.proofs.OptionLemmas.{inside}
use Rattle.cert_tree.specs.Certificate.{Piece}
use Rattle.cert_tree.specs.Limits.{IsLemmaWithin}
use Rattle.cert_text.proofs.limits.are_lemmas_within.Goals as goal

pub loop-number-preserved : goal.loop-number-preserved
loop-number-preserved c = each
  where
    each : (number : ℕ) (piece : Piece) → c.args.first ≤ number → number < c.loop-number.number + 1 → slice_get c.args.lemmas.now number ≡ Some piece → IsLemmaWithin c.args.ranges.now.most_cells piece
    each number piece from below at =
        ⊎_elim
        (λ e. subst (IsLemmaWithin c.args.ranges.now.most_cells) (inside (sym c.at.ensures ∙ ap (slice_get c.args.lemmas.now) (sym e.1) ∙ at)) c.if-not-is_within.ensures)
        (λ ne. let other = ne.1 in c.loop-number.invariant number piece from (omega (arith, other, below)) at)
        (eqb_tells number c.loop-number.number)
