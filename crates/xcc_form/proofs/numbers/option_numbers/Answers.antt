use Rattle.std.proofs.Common.{◌+◌, ◌*◌, [], None, Some, arith, ap, get_or, length, refl, rules, replicate, set, subst, sym, take, ◌∙◌}
use Rattle.match_puzzle.specs.declared.placements.Pair.{Pair}
use Rattle.match_puzzle.proofs.PairLemmas.{read_pair}
use Rattle.xcc_form.specs.Numbers.{AreNumbered, pair_number}
use Rattle.xcc_form.proofs.NumberLemmas.{number_within, small_pair, option_pair, none_numbered, one_more_numbered}
use Rattle.xcc_form.proofs.numbers.option_numbers.Goals as goal

-- what is read past the end
abbrev no_pair : Pair
no_pair = record { cell = 0; placement = record { tile = 0; turn = 0 } }

pub loop-pair-init : goal.loop-pair-init
loop-pair-init c =
    let p = c.args.puzzle.now in
    let n = c.from.ensures ∙ c.tile_count-tiles.ensures.count in
    let m = c.from-2.ensures ∙ c.tile_count-tiles.ensures.count in
    let items = c.in_ok-numbers.ensures.items_if_clones_equal (search rules) in
    record {
      option = refl;
      numbered = subst (AreNumbered (length p.words) []) (sym (items ∙ ap (λ k. replicate (4 * k * c.from-2.result) None) n ∙ ap (λ k. replicate (4 * length p.words * k) None) m))
          (none_numbered p c.requires.puzzle c.args.pairs.now c.requires.pairs);
    }

pub index_mut-requires : goal.index_mut-requires
index_mut-requires c =
    let p = c.args.puzzle.now in
    let pairs = c.args.pairs.now in
    let k = c.loop-pair.pair-index in
    let y = get_or pairs k no_pair in
    let at = read_pair pairs k no_pair c.loop-pair-test.true in
    let within = number_within (length p.words) y (small_pair p y c.requires.puzzle (option_pair p c.requires.puzzle pairs c.requires.pairs k y at)) in
    let number = c.number_of.ensures ∙ ap (λ n. pair_number n y) c.tile_count-tiles.ensures.count in
    let long = c.loop-pair.invariant.numbered.long in
    omega (arith, within, number, long, c.loop-pair.numbers.ok.0)

pub loop-pair-preserved : goal.loop-pair-preserved
loop-pair-preserved c =
    let p = c.args.puzzle.now in
    let pairs = c.args.pairs.now in
    let k = c.loop-pair.pair-index in
    let y = get_or pairs k no_pair in
    let at = read_pair pairs k no_pair c.loop-pair-test.true in
    let numbers = c.loop-pair.numbers.items in
    let number = c.number_of.ensures ∙ ap (λ n. pair_number n y) c.tile_count-tiles.ensures.count in
    let more = one_more_numbered p c.requires.puzzle pairs c.requires.pairs k y numbers at c.loop-pair.invariant.numbered in
    record {
      option = ap (λ n. n + 1) c.loop-pair.invariant.option;
      numbered = subst (λ n. AreNumbered (length p.words) (take (k + 1) pairs) (set numbers n (Some c.loop-pair.option))) (sym number) (subst (λ o. AreNumbered (length p.words) (take (k + 1) pairs) (set numbers (pair_number (length p.words) y) (Some o))) (sym c.loop-pair.invariant.option) more);
    }
