use Rattle.std.proofs.Common.{◌≢◌, length, arith, refl, sym, ◌∙◌}
use Rattle.std.proofs.lemmas.Option.{slice_get_read}
use Rattle.match_limits.proofs.ListLemmas.{each_more}
use Rattle.match_board.specs.Clues.{clue_of}
use Rattle.match_board.specs.declared.clues.Clue.{Clue}
use Rattle.match_puzzle.proofs.ClueLemmas.{is_clue, asked_is, none_asked}
use Rattle.match_puzzle.proofs.clue_rules.asked_by_clue.Goals as goal

pub asks-requires : goal.asks-requires
asks-requires c =
    let clues = c.args.clues.now in
    let x = c.clue-item.result in
    c.requires.sides (clue_of x) (is_clue clues c.loop-clue.clue-index x (slice_get_read clues (length clues) c.loop-clue.clue-index x refl c.loop-clue-test.true c.clue-item.is))

pub returns-then-cell : goal.returns-then-cell
returns-then-cell c =
    let clues = c.args.clues.now in
    let x = c.clue-item.result in
    asked_is clues c.loop-clue.clue-index x c.args.cell c.args.side c.asks.result (slice_get_read clues (length clues) c.loop-clue.clue-index x refl c.loop-clue-test.true c.clue-item.is)
    (sym c.cell.ensures ∙ c.if-cell.true) c.requires.once c.asks.ensures.asked

pub loop-clue-preserved : goal.loop-clue-preserved
loop-clue-preserved c = λ k d lt at.
    let clues = c.args.clues.now in
    let x = c.clue-item.result in
    each_more (λ (e : Clue). e.cell ≢ c.args.cell) clues c.loop-clue.clue-index x (λ n e lt at. c.loop-clue.invariant n e lt at)
    (slice_get_read clues (length clues) c.loop-clue.clue-index x refl c.loop-clue-test.true c.clue-item.is) (λ same. c.if-cell.false (c.cell.ensures ∙ same)) k d lt at

pub returns : goal.returns
returns c = none_asked c.args.clues.now c.args.cell c.args.side (λ k d lt at. c.loop-clue.invariant k d (omega (arith, lt, c.loop-clue-test.false)) at)
