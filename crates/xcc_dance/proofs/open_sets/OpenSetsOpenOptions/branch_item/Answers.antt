use Rattle.std.proofs.Common.{◌≡◌, MatchOption, ap, sym, ◌∙◌, subst}
use Rattle.match_board.specs.Board.{cell_count}
use Rattle.match_puzzle.specs.Fitting.{item_place}
use Rattle.xcc_form.specs.Options.{cover_of}
use Rattle.xcc_form.specs.Chosen.{Selection, AreAllCovered, IsToBranchOn}
use Rattle.xcc_dance.specs.Placing.{IsPlacingOf}
use Rattle.xcc_dance.proofs.OpenSetLemmas.{all_covered, fewest_branches, open_numbered}
use Rattle.xcc_dance.proofs.open_sets.OpenSetsOpenOptions.branch_item.Goals as goal

pub returns-in_err-item : goal.returns-in_err-item
returns-in_err-item c =
    let v = c.args.self.now in
    let is = subst (λ (s : Selection). IsPlacingOf s.compiled s.chosen c.self.inside.counts) c.self.view_is c.self.invariant in
    subst (λ r. MatchOption r (AreAllCovered (cover_of v.compiled) v.chosen) (IsToBranchOn (cover_of v.compiled) v.chosen)) (sym c.from_residual.ensures) (all_covered v.compiled v.chosen c.self.inside.counts is c.in_err-item.ensures)

pub returns : goal.returns
returns c =
    let v = c.args.self.now in
    let is = subst (λ (s : Selection). IsPlacingOf s.compiled s.chosen c.self.inside.counts) c.self.view_is c.self.invariant in
    let cells = c.cells.ensures.count ∙ ap (λ (s : Selection). cell_count s.compiled.puzzle.board) c.self.view_is in
    let few = c.in_ok-item.ensures in
    let at = subst (λ n. c.number.result ≡ item_place n c.in_ok-item.item) cells c.number.ensures in
    fewest_branches v.compiled v.chosen c.self.inside.counts is c.in_ok-item.item c.number.result (open_numbered v.compiled v.chosen c.self.inside.counts is c.in_ok-item.item c.number.result few.is_open at) few
