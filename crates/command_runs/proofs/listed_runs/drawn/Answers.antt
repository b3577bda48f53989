use Rattle.std.proofs.Common.{◌≡◌, List, ℕ, Ok, Some, length, refl, slice_get, subst, sym, ◌∙◌, ap}
use Rattle.std.proofs.lemmas.Option.{slice_get_read}
use Rattle.match_puzzle.specs.Arrangement.{IsArrangement}
use Rattle.match_puzzle.specs.ArrangementFaults.{IsArrangementFault}
use Rattle.match_puzzle.specs.declared.placements.Placement.{Placement}
use Rattle.show_text.specs.Arrangement.{IsDrawnArrangement}
use Rattle.match_text.specs.Lists.{list_of}
use Rattle.match_text.specs.Puzzles.{PuzzleReads}
use Rattle.command_runs.proofs.listed_runs.drawn.Goals as goal

pub returns-in-Some-arrangement_fault : goal.returns-in-Some-arrangement_fault
returns-in-Some-arrangement_fault c =
    let p = c.in_ok-puzzle.puzzle in
    let a = c.in-Some.arrangement.now in
    let found = slice_get_read c.deref.result.now (length c.deref.result.now) c.args.number a refl c.in-Some.ensures.lookup.3.0 c.in-Some.ensures.lookup.1 in
    let at = subst (λ (xs : List (List Placement)). slice_get xs c.args.number ≡ Some a) c.deref.ensures.value found in
    let fault = subst (λ (b : List Placement). IsArrangementFault p b c.in-Some-arrangement_fault.fault) c.placements-placements.ensures c.in-Some-arrangement_fault.ensures in
    let reads = subst (λ (t : List ℕ). PuzzleReads t (Ok p)) c.bytes.ensures.bytes c.in_ok-puzzle.ensures.exact in
    let lists = ap list_of (sym c.bytes-2.ensures.bytes) ∙ c.in_ok-listed.ensures.exact in
    ((refl, (p, c.in_ok-listed.listed.items, reads, lists, (a, at, fault))), tt)

pub returns : goal.returns
returns c =
    let p = c.in_ok-puzzle.puzzle in
    let a = c.in-Some.arrangement.now in
    let found = slice_get_read c.deref.result.now (length c.deref.result.now) c.args.number a refl c.in-Some.ensures.lookup.3.0 c.in-Some.ensures.lookup.1 in
    let at = subst (λ (xs : List (List Placement)). slice_get xs c.args.number ≡ Some a) c.deref.ensures.value found in
    let is = subst (λ (b : List Placement). IsArrangement p b) c.placements-placements.ensures c.in_default-arrangement_fault.ensures in
    let drawn = subst (λ (b : List Placement). IsDrawnArrangement p b c.new.result) c.placements-placements.ensures
    (subst (IsDrawnArrangement p c.placements-placements.result.now) (sym c.new.ensures) c.in_ok-drawing.ensures) in
    let reads = subst (λ (t : List ℕ). PuzzleReads t (Ok p)) c.bytes.ensures.bytes c.in_ok-puzzle.ensures.exact in
    let lists = ap list_of (sym c.bytes-2.ensures.bytes) ∙ c.in_ok-listed.ensures.exact in
    (p, c.in_ok-listed.listed.items, reads, lists, (a, at, (is, drawn)))
