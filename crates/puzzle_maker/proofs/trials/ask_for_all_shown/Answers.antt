use Rattle.std.proofs.Common.{◌≡◌, Some, length, slice_get, subst, ap, refl, arith}
use Rattle.std.proofs.lemmas.List.{length-map}
use Rattle.std.proofs.lemmas.Option.{slice_get_read, slice_get_within}
use Rattle.match_limits.proofs.ListLemmas.{each_more}
use Rattle.match_board.specs.Clues.{Clue, clue_of}
use Rattle.match_puzzle.proofs.ClueLemmas.{map_at}
use Rattle.puzzle_maker.specs.Made.{AskForAllShownAt}
use Rattle.puzzle_maker.proofs.trials.ask_for_all_shown.Goals as goal

pub loop-clue-preserved : goal.loop-clue-preserved
loop-clue-preserved c =
    let clue = c.clue-item.result in
    let here = slice_get_read c.clues-clues.result.now (length c.clues-clues.result.now) c.loop-clue.clue-index clue refl c.loop-clue-test.true c.clue-item.is in
    let listed = subst (λ xs. slice_get xs c.loop-clue.clue-index ≡ Some (clue_of clue)) c.clues-clues.ensures.clues (map_at clue_of c.clues-clues.result.now c.loop-clue.clue-index clue here) in
    let asks = subst (AskForAllShownAt c.args.puzzle.now c.args.planted.now) c.cell-cell.ensures (c.ask_for_all_shown_at.ensures c.if-not-ask_for_all_shown_at.false) in
    each_more (λ (k : Clue). AskForAllShownAt c.args.puzzle.now c.args.planted.now k.cell) c.args.puzzle.now.clues c.loop-clue.clue-index (clue_of clue) c.loop-clue.invariant listed asks

pub returns : goal.returns
returns c = λ _ number k at.
    let within = slice_get_within c.args.puzzle.now.clues number k at in
    let long = ap length c.clues-clues.ensures.clues in
    let same = length-map c.clues-clues.result.now clue_of in
    c.loop-clue.invariant number k (omega (arith, within, long, same)) at
