use Rattle.std.proofs.Common.{◌≡◌, refl, ap, sym, subst, ◌∙◌, get_or, take, arith}
use Rattle.match_puzzle.specs.Fitting.{Fits}
use Rattle.match_puzzle.specs.Prefix.{Layout, empty_prefix, with_pair, with_pairs}
use Rattle.match_puzzle.specs.declared.placements.Pair.{Pair}
use Rattle.match_puzzle.proofs.PairLemmas.{read_pair, next_pair}
use Rattle.std.proofs.lemmas.Option.{slice_get_within}
use Rattle.solver.proofs.SolvingLemmas.{fit_more}
use Rattle.solver.proofs.branches.fit_in_turn.Goals as goal

-- what is read past the end
abbrev no_pair : Pair
no_pair = record { cell = 0; placement = record { tile = 0; turn = 0 } }

pub loop-pair-preserved : goal.loop-pair-preserved
loop-pair-preserved c =
    let p = c.args.puzzle.now in
    let pairs = c.args.pairs.now in
    let i = c.loop-pair.pair-index in
    let x = get_or pairs i no_pair in
    let there = read_pair pairs i no_pair c.loop-pair-test.true in
    let now : c.loop-pair.partial ≡ record { puzzle = p; placed = with_pairs (take i pairs) (empty_prefix p) } = c.loop-pair.invariant.placed in
    record {
      placed = c.place.ensures
          ∙ ap (λ (v : Layout). let r : Layout = record { puzzle = v.puzzle; placed = with_pair v.placed x.cell x.placement } in r) now
          ∙ sym (ap (λ q. let r : Layout = record { puzzle = p; placed = q } in r) (next_pair pairs i x (empty_prefix p) there));
      fit = fit_more p pairs i x there c.loop-pair.invariant.fit
          (subst (λ (v : Layout). Fits p v.placed x.cell x.placement) now (c.if-not-fits.ensures refl));
    }

pub returns : goal.returns
returns c = λ _ place y at. c.loop-pair.invariant.fit place y (let n = slice_get_within c.args.pairs.now place y at in omega (arith, c.loop-pair-test.false)) at
