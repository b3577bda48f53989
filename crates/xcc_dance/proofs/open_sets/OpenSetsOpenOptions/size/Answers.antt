use Rattle.std.proofs.Common.{ap, ◌∙◌, subst}
use Rattle.match_board.specs.Board.{cell_count}
use Rattle.match_puzzle.specs.Fitting.{IsNumberOf}
use Rattle.xcc_form.specs.Chosen.{Selection}
use Rattle.xcc_dance.specs.Placing.{IsPlacingOf}
use Rattle.xcc_dance.proofs.OpenSetLemmas.{uncovered_opens, sized_by}
use Rattle.xcc_dance.proofs.open_sets.OpenSetsOpenOptions.size.Goals as goal

pub count-requires : goal.count-requires
count-requires c =
    let v = c.args.self.now in
    let is = subst (λ (s : Selection). IsPlacingOf s.compiled s.chosen c.self.inside.counts) c.self.view_is c.self.invariant in
    let number = subst (λ n. IsNumberOf n c.args.item c.numbered.result) (c.cells.ensures.count ∙ ap (λ (s : Selection). cell_count s.compiled.puzzle.board) c.self.view_is) c.numbered.ensures in
    uncovered_opens v.compiled v.chosen c.self.inside.counts is c.numbered.result c.args.item number c.requires

pub returns : goal.returns
returns c =
    let v = c.args.self.now in
    let is = subst (λ (s : Selection). IsPlacingOf s.compiled s.chosen c.self.inside.counts) c.self.view_is c.self.invariant in
    let number = subst (λ n. IsNumberOf n c.args.item c.numbered.result) (c.cells.ensures.count ∙ ap (λ (s : Selection). cell_count s.compiled.puzzle.board) c.self.view_is) c.numbered.ensures in
    sized_by v.compiled v.chosen c.self.inside.counts is c.numbered.result c.args.item number c.count.result c.count.ensures
