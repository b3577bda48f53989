use Rattle.std.proofs.Common.{◌≡◌, ◌++◌, ◌∷◌, ◌∙◌, [], Some, None, map, slice_get, ap, sym, subst}
use Rattle.std.proofs.lemmas.List.{map-append}
use Rattle.match_limits.proofs.ListLemmas.{mapped_at, none≢some, taken_more}
use Rattle.match_puzzle.specs.Prefix.{Prefix}
use Rattle.match_puzzle.specs.declared.placements.Placement.{Placement}
use Rattle.show_refusals.proofs.findings.placements_on.Goals as goal

pub returns-in_default : goal.returns-in_default
returns-in_default c = λ a stands.
    let there = mapped_at (λ (x : Placement). Some x) a c.loop-cell.cell None (subst (λ (q : Prefix). slice_get q c.loop-cell.cell ≡ Some None) stands c.in_default.ensures.value) in
    none≢some there.2

pub loop-cell-preserved : goal.loop-cell-preserved
loop-cell-preserved c =
    let placed = c.args.partial.now.placed in
    let cell = c.loop-cell.cell in
    let items = c.loop-cell.placements.items in
    let x = c.in-Some.placement in
    taken_more placed cell (Some x) c.in-Some.ensures.value ∙ ap (λ (q : Prefix). q ++ Some x ∷ []) c.loop-cell.invariant
    ∙ sym (map-append (λ (y : Placement). Some y) items (x ∷ [])) ∙ sym (ap (map (λ (y : Placement). Some y)) c.in_ok-push.ensures.items)
