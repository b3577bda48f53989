use Rattle.std.proofs.Common.{◌≢◌, ◌≤◌, arith, ap, sym, ◌∙◌, subst}
use Rattle.std.proofs.lemmas.Bool.{false≢true}
use Rattle.match_board.specs.Board.{cell_count}
use Rattle.match_puzzle.specs.Fitting.{IsNumberOf}
use Rattle.xcc_form.specs.Options.{cover_of}
use Rattle.xcc_form.specs.Chosen.{Selection, IsUncovered}
use Rattle.xcc_dance.specs.Placing.{IsPlacingOf}
use Rattle.xcc_dance.proofs.OpenSetLemmas.{open_uncovers, uncovered_opens, behind_from}
use Rattle.xcc_dance.proofs.open_sets.OpenSetsOpenOptions.next_item.Goals as goal

pub returns-then-is_open : goal.returns-then-is_open
returns-then-is_open c =
    let v = c.args.self.now in
    let is = subst (λ (s : Selection). IsPlacingOf s.compiled s.chosen c.self.inside.counts) c.self.view_is c.self.invariant in
    let cells = c.cells-cells.ensures.count ∙ ap (λ (s : Selection). cell_count s.compiled.puzzle.board) c.self.view_is in
    let number = subst (λ n. IsNumberOf n c.loop-item.item c.numbered.result) cells c.numbered.ensures in
    let first : c.first_behind-item.result ≤ c.loop-item.item = omega arith in
    record {
      uncovered = open_uncovers v.compiled v.chosen c.self.inside.counts is c.numbered.result c.loop-item.item number (c.is_open.ensures.0 c.if-is_open.true);
      after_it = behind_from c.args.after c.first_behind-item.result c.loop-item.item c.first_behind-item.ensures first;
      first = c.loop-item.invariant;
    }

pub loop-item-preserved : goal.loop-item-preserved
loop-item-preserved c = λ other un comes.
    let v = c.args.self.now in
    let is = subst (λ (s : Selection). IsPlacingOf s.compiled s.chosen c.self.inside.counts) c.self.view_is c.self.invariant in
    let cells = c.cells-cells.ensures.count ∙ ap (λ (s : Selection). cell_count s.compiled.puzzle.board) c.self.view_is in
    let number = subst (λ n. IsNumberOf n c.loop-item.item c.numbered.result) cells c.numbered.ensures in
    let le = c.loop-item.invariant other un comes in
    let ne : other ≢ c.loop-item.item = λ e.
    false≢true (sym c.if-is_open.false ∙ c.is_open.ensures.1 (uncovered_opens v.compiled v.chosen c.self.inside.counts is c.numbered.result c.loop-item.item number (subst (IsUncovered (cover_of v.compiled) v.chosen) e un))) in
    omega (arith, le, ne)
