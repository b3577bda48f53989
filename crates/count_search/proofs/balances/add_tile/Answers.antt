use Rattle.std.proofs.Common.{◌+◌, ◌==◌, get_or, set, ap, sym, subst, arith}
use Rattle.match_puzzle.specs.Puzzle.{colour_of, word_of}
use Rattle.count_search.specs.Balance.{word_gives}
use Rattle.count_search.proofs.BalanceStepLemmas.{IsOneMore, adds_one, one_more_set}
use Rattle.count_search.proofs.balances.add_tile.Goals as goal

pub loop-side-preserved : goal.loop-side-preserved
unfolding colour_of
loop-side-preserved c =
    let p = c.args.puzzle.now in
    let tile = c.args.tile in
    let sides = c.loop-side.sides in
    let place = c.number_of.result in
    let more = get_or sides place 0 + 1 in
    adds_one (λ side colour. word_gives p side colour (word_of p tile)) c.loop-side.side c.args.sides.now sides c.loop-side.invariant
    c.given-colour.result c.given-colour.ensures.below (λ k. ap (λ g. g == k) (sym c.given-colour.ensures.given)) (set sides place more)
    (subst (λ n. IsOneMore n sides (set sides place more)) c.number_of.ensures.place (one_more_set sides place (let below = c.number_of.ensures.below in omega (arith, below))))
