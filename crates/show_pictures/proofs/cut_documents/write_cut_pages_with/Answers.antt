use Rattle.std.proofs.Common.{◌≡◌, List, Some, ap, arith, refl, slice_get, subst, sym, ◌∙◌}
use Rattle.std.proofs.lemmas.Option.{slice_get_read}
use Rattle.match_puzzle.specs.Arrangement.{IsArrangement}
use Rattle.match_puzzle.specs.declared.placements.Placement.{Placement}
use Rattle.show_pictures.specs.Cuts.{IsCutDocumentWith}
use Rattle.show_pictures.specs.Plans.{to_be_drawn}
use Rattle.show_pictures.proofs.CutLemmas.{drawn_alone}
use Rattle.show_pictures.proofs.cut_documents.write_cut_pages_with.Goals as goal

pub write_with_solution-requires : goal.write_with_solution-requires
write_with_solution-requires c =
    let a = c.index-drawn-0.result in
    let some = c.in_ok-drawn.ensures.some in
    let here = slice_get_read c.in_ok-drawn.drawn.now _ 0 a refl (omega (arith, some)) c.index-drawn-0.is in
    subst (IsArrangement c.args.puzzle.now) (sym c.placements.ensures) (c.in_ok-drawn.ensures.arrangements 0 a here)

pub returns-clause-draws : goal.returns-clause-draws
returns-clause-draws c =
    let p = c.args.puzzle.now in
    let number = c.args.number in
    let listed = c.args.listed.now in
    let a = c.index-drawn-0.result in
    let some = c.in_ok-drawn.ensures.some in
    let here = slice_get_read c.in_ok-drawn.drawn.now _ 0 a refl (omega (arith, some)) c.index-drawn-0.is in
    let alone = c.in_ok-drawn.ensures.drawn ∙ ap (λ first. to_be_drawn number first listed) c.new.ensures in
    let at = drawn_alone number listed a (subst (λ (xs : List (List Placement)). slice_get xs 0 ≡ Some a) alone here) in
    let document = subst (λ (b : List Placement). IsCutDocumentWith c.args.plan.size p b c.in_ok-text.text.items) c.placements.ensures c.in_ok-text.ensures in
    (a, at, (c.in_ok-drawn.ensures.arrangements 0 a here, document))
