use Rattle.std.proofs.Common.{◌≡◌, ◌<◌, Some, length, slice_get, arith, refl, subst}
use Rattle.std.proofs.lemmas.Option.{slice_get_read}
use Rattle.match_limits.proofs.ListLemmas.{each_more}
use Rattle.match_board.specs.Clues.{Clue as Asking, clue_of}
use Rattle.match_board.specs.declared.clues.Clue.{Clue}
use Rattle.match_puzzle.proofs.ClueLemmas.{is_clue, clue_stands}
use Rattle.match_puzzle.proofs.clue_rules.clue_colour_count.Goals as goal

pub loop-clue-preserved : goal.loop-clue-preserved
loop-clue-preserved c =
    let clues = c.args.clues.now in
    let x = c.clue-item.result in
    let i = c.loop-clue.clue-index in
    let at = slice_get_read clues (length clues) i x refl c.loop-clue-test.true c.clue-item.is in
    let more = c.max-count.ensures in
    record {
      above = λ k d side colour lt there shows.
          each_more (λ (e : Clue). slice_get (clue_of e).asks side ≡ Some (Some colour) → colour < c.max-count.result) clues i x
          (λ n e lt at shows. let few = c.loop-clue.invariant.above n e side colour lt at shows in omega (arith, few, more)) at
          (λ shows. let few = c.colour_count.ensures.above side colour shows in omega (arith, few, more)) k d lt there shows;
      least = λ other bound.
          let first = c.loop-clue.invariant.least other bound in
          let second = c.colour_count.ensures.least other (λ side colour shows. bound x.cell side colour (clue_of x, is_clue clues i x at, refl, shows)) in
          omega (arith, first, second, more);
    }

pub returns-clause-above : goal.returns-clause-above
returns-clause-above c = λ cell side colour asks.
    let x = clue_stands c.args.clues.now asks.0 asks.1 in
    c.loop-clue.invariant.above x.0 x.1 side colour (omega (arith, x.3, c.loop-clue-test.false)) x.2 (subst (λ (e : Asking). slice_get e.asks side ≡ Some (Some colour)) x.4 asks.3)
