use Rattle.std.proofs.Common.{MatchOption, ap, sym, ◌∙◌, subst}
use Rattle.match_board.specs.Board.{cell_count}
use Rattle.match_puzzle.specs.Fitting.{IsNumberOf}
use Rattle.xcc_form.specs.Options.{IsOptionPair, cover_of}
use Rattle.xcc_form.specs.Correspondence.{IsPairOf}
use Rattle.xcc_form.specs.Chosen.{Selection, IsNext, IsLast}
use Rattle.xcc_dance.specs.Placing.{IsPlacingOf}
use Rattle.xcc_dance.proofs.OpenSetLemmas.{uncovered_opens, pair_before, last_by_pairs, next_of_option}
use Rattle.xcc_dance.proofs.open_sets.OpenSetsOpenOptions.next_option.Goals as goal

pub next-requires-clause-item : goal.next-requires-clause-item
next-requires-clause-item c =
    let v = c.args.self.now in
    let is = subst (λ (s : Selection). IsPlacingOf s.compiled s.chosen c.self.inside.counts) c.self.view_is c.self.invariant in
    let number = subst (λ n. IsNumberOf n c.args.item c.numbered-item.result) (c.cells.ensures.count ∙ ap (λ (s : Selection). cell_count s.compiled.puzzle.board) c.self.view_is) c.numbered-item.ensures in
    uncovered_opens v.compiled v.chosen c.self.inside.counts is c.numbered-item.result c.args.item number c.requires.item

pub next-requires-clause-after : goal.next-requires-clause-after
next-requires-clause-after c =
    let v = c.args.self.now in
    let is = subst (λ (s : Selection). IsPlacingOf s.compiled s.chosen c.self.inside.counts) c.self.view_is c.self.invariant in
    let number = subst (λ n. IsNumberOf n c.args.item c.numbered-item.result) (c.cells.ensures.count ∙ ap (λ (s : Selection). cell_count s.compiled.puzzle.board) c.self.view_is) c.numbered-item.ensures in
    pair_before v.compiled v.chosen c.self.inside.counts is c.numbered-item.result c.args.item number c.args.after c.pair_of.result c.pair_of.ensures c.requires.after

pub returns-in_err-pair : goal.returns-in_err-pair
returns-in_err-pair c =
    let v = c.args.self.now in
    let is = subst (λ (s : Selection). IsPlacingOf s.compiled s.chosen c.self.inside.counts) c.self.view_is c.self.invariant in
    let number = subst (λ n. IsNumberOf n c.args.item c.numbered-item.result) (c.cells.ensures.count ∙ ap (λ (s : Selection). cell_count s.compiled.puzzle.board) c.self.view_is) c.numbered-item.ensures in
    let fits = pair_before v.compiled v.chosen c.self.inside.counts is c.numbered-item.result c.args.item number c.args.after c.pair_of.result c.pair_of.ensures c.requires.after in
    subst (λ r. MatchOption r (IsLast (cover_of v.compiled) v.chosen c.args.item c.args.after) (IsNext (cover_of v.compiled) v.chosen c.args.item c.args.after)) (sym c.from_residual.ensures)
    (last_by_pairs v.compiled v.chosen c.self.inside.counts is c.numbered-item.result c.args.item number c.args.after c.pair_of.result c.pair_of.ensures fits c.in_err-pair.ensures)

pub returns : goal.returns
returns c =
    let v = c.args.self.now in
    let is = subst (λ (s : Selection). IsPlacingOf s.compiled s.chosen c.self.inside.counts) c.self.view_is c.self.invariant in
    let number = subst (λ n. IsNumberOf n c.args.item c.numbered-item.result) (c.cells.ensures.count ∙ ap (λ (s : Selection). cell_count s.compiled.puzzle.board) c.self.view_is) c.numbered-item.ensures in
    let fits = pair_before v.compiled v.chosen c.self.inside.counts is c.numbered-item.result c.args.item number c.args.after c.pair_of.result c.pair_of.ensures c.requires.after in
    let option = subst (λ (s : Selection). MatchOption c.option_of.result (IsOptionPair s.compiled.puzzle c.in_ok-pair.pair → ⊥) (λ o. IsPairOf s.compiled o c.in_ok-pair.pair)) c.self.view_is c.option_of.ensures in
    next_of_option v.compiled v.chosen c.self.inside.counts is c.numbered-item.result c.args.item number c.args.after c.pair_of.result c.pair_of.ensures fits c.in_ok-pair.pair c.option_of.result option c.in_ok-pair.ensures
