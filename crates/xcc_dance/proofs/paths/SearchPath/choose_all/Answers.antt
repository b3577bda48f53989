use Rattle.std.proofs.Common.{◌+◌, ◌++◌, ◌∷◌, [], length, refl, sym, subst, ap, ◌∙◌, take, get_or}
use Rattle.std.proofs.lemmas.List.{take_all}
use Rattle.match_puzzle.specs.declared.placements.Pair.{Pair}
use Rattle.match_puzzle.proofs.PairLemmas.{read_pair, taken_more}
use Rattle.xcc_form.specs.Options.{Compiled, IsOptionPair}
use Rattle.xcc_form.specs.Chosen.{Selection}
use Rattle.fit_counts.specs.Placing.{FitInTurn}
use Rattle.xcc_dance.specs.Placing.{ArePairsOf}
use Rattle.xcc_dance.proofs.PlacingLemmas.{option_pair_at, next_is_open, no_pairs, pairs_pushed}
use Rattle.xcc_dance.proofs.BackLemmas.{one_back, none_back}
use Rattle.xcc_dance.proofs.paths.SearchPath.choose_all.Goals as goal

-- what is read past the end
abbrev no_pair : Pair
no_pair = record { cell = 0; placement = record { tile = 0; turn = 0 } }

pub option_of-option-requires : goal.option_of-option-requires
option_of-option-requires g c =
    let place = c.loop-pair.pair-index in
    let pairs = c.args.pairs.now in
    subst (λ (x : Compiled). IsOptionPair x.puzzle (get_or pairs place no_pair)) (sym c.loop-pair.invariant.compiled)
    (option_pair_at (g.E.OpenOptions.selection c.args.self.now).compiled.puzzle pairs c.requires.fit place (get_or pairs place no_pair) (read_pair pairs place no_pair c.loop-pair-test.true))

pub loop-pair-init : goal.loop-pair-init
loop-pair-init g c =
    let s = g.E.OpenOptions.selection c.args.self.now in
    let none = c.requires.empty in
    record {
      compiled = refl;
      pairs = subst (λ chosen. ArePairsOf s.compiled chosen []) (sym none) (no_pairs s.compiled);
      before = none_back _ g.E.OpenOptions.selection g.E.OpenOptions.taken_back c.args.self.now (ap length none);
    }

pub choose-requires : goal.choose-requires
choose-requires g c =
    let place = c.loop-pair.pair-index in
    let s = g.E.OpenOptions.selection c.loop-pair.self in
    let pairs = c.args.pairs.now in
    let fit = subst (λ (x : Compiled). FitInTurn x.puzzle pairs) (sym c.loop-pair.invariant.compiled) c.requires.fit in
    let found = c.option_of-option.ensures in
    next_is_open s.compiled found.compiled pairs fit s.chosen place c.option_of-option.result (get_or pairs place no_pair) c.loop-pair.invariant.pairs (read_pair pairs place no_pair c.loop-pair-test.true) found.pair

pub loop-pair-preserved : goal.loop-pair-preserved
loop-pair-preserved g c =
    let place = c.loop-pair.pair-index in
    let s = g.E.OpenOptions.selection c.loop-pair.self in
    let pairs = c.args.pairs.now in
    let chosen = c.in_ok-choose.ensures.chosen in
    let y = get_or pairs place no_pair in
    let pushed = pairs_pushed s.compiled s.chosen (take place pairs) c.option_of-option.result y c.option_of-option.ensures.pair c.loop-pair.invariant.pairs in
    record {
      compiled = ap (λ (v : Selection). v.compiled) chosen ∙ c.loop-pair.invariant.compiled;
      pairs = subst (λ (v : Selection). ArePairsOf v.compiled v.chosen (take (place + 1) pairs)) (sym chosen)
          (subst (ArePairsOf s.compiled (s.chosen ++ c.option_of-option.result ∷ [])) (sym (taken_more pairs place y (read_pair pairs place no_pair c.loop-pair-test.true))) pushed);
      before = one_back _ g.E.OpenOptions.selection g.E.OpenOptions.taken_back c.loop-pair.self c.choose.new.self c.option_of-option.result chosen c.in_ok-choose.ensures.before ∙ c.loop-pair.invariant.before;
    }

pub returns-in_err-choose-clause-compiled : goal.returns-in_err-choose-clause-compiled
returns-in_err-choose-clause-compiled g c = ap (λ s. (g.E.OpenOptions.selection s).compiled) c.in_err-choose.ensures.refused ∙ c.loop-pair.invariant.compiled

pub returns-clause-compiled : goal.returns-clause-compiled
returns-clause-compiled g c = c.loop-pair.invariant.compiled

pub returns-clause-pairs : goal.returns-clause-pairs
returns-clause-pairs g c =
    let s = g.E.OpenOptions.selection c.loop-pair.self in
    subst (ArePairsOf s.compiled s.chosen) (take_all c.loop-pair.pair-index c.args.pairs.now c.loop-pair-test.false) c.loop-pair.invariant.pairs

pub returns-clause-before : goal.returns-clause-before
returns-clause-before g c = c.loop-pair.invariant.before
