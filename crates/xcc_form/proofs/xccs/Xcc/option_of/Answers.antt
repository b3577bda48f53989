use Rattle.std.proofs.Common.{◌≡◌, MatchOption, Some, arith, ap, length, refl, slice_get, subst, sym, ◌∙◌}
use Rattle.std.proofs.lemmas.Option.{slice_get_read}
use Rattle.match_board.specs.Board.{cell_count}
use Rattle.xcc_form.specs.Options.{Compiled, IsOptionPair}
use Rattle.xcc_form.specs.Correspondence.{IsPairOf}
use Rattle.xcc_form.specs.Numbers.{pair_number}
use Rattle.xcc_form.proofs.NumberLemmas.{IsSmall, number_within, small_pair, told}
use Rattle.xcc_form.proofs.xccs.Xcc.option_of.Goals as goal
use Rattle.xcc_form.proofs.xccs.Xcc.option_of.Goals.{then-pair-cells-via-then-pair-cells, then-pair-cells-via-else-pair-cells+then-tile-tiles, then-pair-cells-via-else-pair-cells+else-tile-tiles+then-turn-ge-MOST_TURNS}

pub returns-then-pair-cells : goal.returns-then-pair-cells
returns-then-pair-cells c = λ good.
    let i = c.self.inside in
    let kept = c.self.invariant in
    let good' : IsOptionPair i.puzzle.now c.args.pair = subst (λ (x : Compiled). IsOptionPair x.puzzle c.args.pair) (sym c.self.view_is) good in
    let cell = good.cell in
    let tile = good'.legal.tile in
    let turn = (small_pair i.puzzle.now c.args.pair kept.puzzle good').turn in
    elim c.then-pair-cells.branch [
      | then-pair-cells-via-then-pair-cells w ↦ let count = c.cells.ensures.count in omega (arith, w.if-pair-cells.true, cell, count)
      | then-pair-cells-via-else-pair-cells+then-tile-tiles w ↦ let many = c.tile_count-tiles.ensures.count in omega (arith, w.if-tile-tiles.true, tile, many)
      | then-pair-cells-via-else-pair-cells+else-tile-tiles+then-turn-ge-MOST_TURNS w ↦ omega (arith, w.if-turn-ge-MOST_TURNS.true, turn)
    ]

pub returns : goal.returns
returns c =
    let i = c.self.inside in
    let p = i.puzzle.now in
    let kept = c.self.invariant in
    let y = c.args.pair in
    let count : c.tile_count-tiles.result ≡ length p.words = c.tile_count-tiles.ensures.count in
    let cells : c.cells.result ≡ cell_count p.board = c.cells.ensures.count ∙ sym (ap (λ (x : Compiled). cell_count x.puzzle.board) c.self.view_is) in
    let small : IsSmall (length p.words) y = record {
      cell = let enough = kept.puzzle.tiles.enough in omega (arith, c.if-pair-cells.false, cells, enough);
      tile = omega (arith, c.if-tile-tiles.false, count);
      turn = omega (arith, c.if-turn-ge-MOST_TURNS.false);
    } in
    let number = c.number_of.ensures ∙ ap (λ n. pair_number n y) count in
    let within = number_within (length p.words) y small in
    let numbers = i.numbers.items in
    let here : slice_get numbers c.number_of.result ≡ Some c.index.result.now = slice_get_read numbers (length numbers) c.number_of.result c.index.result.now refl (let long = kept.numbered.long in omega (arith, within, number, long)) c.index.ensures in
    subst (λ (x : Compiled). MatchOption c.index.result.now (IsOptionPair x.puzzle y → ⊥) (λ option. IsPairOf x option y)) c.self.view_is
    (told p kept.puzzle i.options.pairs.items kept.all_pairs i.shared.items i.options.starts.items i.options.edges.items numbers y c.index.result.now kept.numbered small (ap (slice_get numbers) (sym number) ∙ here))
