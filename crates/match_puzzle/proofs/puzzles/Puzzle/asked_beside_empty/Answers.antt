use Rattle.std.proofs.Common.{◌≡◌, ◌+◌, ◌*◌, ◌∙◌, [], ℕ, List, get_or, length, ap, arith, sym, subst}
use Rattle.std.proofs.lemmas.List.{get_or-replicate}
use Rattle.match_limits.specs.declared.TheConstants.{MOST_COLOURS}
use Rattle.match_board.proofs.Places.{Meets-turned}
use Rattle.match_puzzle.specs.Puzzle.{Task, HasRule}
use Rattle.match_puzzle.specs.Prefix.{empty_prefix}
use Rattle.match_puzzle.specs.PlacementSets.{TellsOf}
use Rattle.match_puzzle.specs.Partials.{AreAsking}
use Rattle.match_puzzle.specs.declared.tables.TheConstants.{FIRST_PLACE}
use Rattle.match_puzzle.proofs.Words.{few_sides}
use Rattle.match_puzzle.proofs.ArrangementLemmas.{side_in_range}
use Rattle.match_puzzle.proofs.AskingLemmas.{empty_tells, unclued_tells}
use Rattle.match_puzzle.proofs.puzzles.Puzzle.asked_beside_empty.Goals as goal

pub returns-then-not-self : goal.returns-then-not-self
returns-then-not-self c = λ other met side meets.
    let p = c.args.self.now in
    let none : p.clues ≡ [] = subst (λ (q : Task). q.clues ≡ []) c.self.view_is (c.self.invariant.clued c.if-not-self.true) in
    let side_in = side_in_range (Meets-turned meets) in
    subst (TellsOf (HasRule p other met)) (sym (get_or-replicate 4 side MOST_COLOURS 0 (omega (arith, side_in, few_sides p.board)))) (unclued_tells p other met c.args.cell side none meets)

pub four_from-requires : goal.four_from-requires
four_from-requires c =
    let are = subst (λ (q : Task). AreAsking q (empty_prefix q) c.self.inside.tables.asks.items) c.self.view_is c.self.invariant.asks in
    let long = are.long in
    let same = ap length c.deref.ensures.value in
    let cell = c.from.ensures in
    omega (arith, long, same, cell, c.requires)

pub returns : goal.returns
returns c = λ other met side meets.
    let p = c.args.self.now in
    let asks = c.self.inside.tables.asks.items in
    let are = subst (λ (q : Task). AreAsking q (empty_prefix q) asks) c.self.view_is c.self.invariant.asks in
    let side_in = side_in_range (Meets-turned meets) in
    let cell = c.from.ensures in
    let same : get_or c.four_from.result side 0 ≡ get_or asks (FIRST_PLACE + 4 * c.args.cell + side) 0 = c.four_from.ensures side (omega (arith, side_in, few_sides p.board)) ∙ ap (λ (xs : List ℕ). get_or xs (FIRST_PLACE + 4 * c.from.result + side) 0) c.deref.ensures.value ∙ ap (λ n. get_or asks (FIRST_PLACE + 4 * n + side) 0) cell in
    subst (TellsOf (HasRule p other met)) (sym same) (empty_tells p asks are other met c.args.cell side meets)
