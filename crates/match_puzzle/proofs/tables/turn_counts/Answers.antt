use Rattle.std.proofs.Common.{◌≡◌, ◌++◌, ◌∷◌, ◌∙◌, [], ℕ, List, Some, length, length-append, slice_get, arith, ap, sym, subst}
use Rattle.std.proofs.lemmas.List.{length-map}
use Rattle.match_board.specs.Tile.{word}
use Rattle.match_puzzle.specs.Puzzle.{task_by}
use Rattle.match_puzzle.specs.Tables.{IsTurnCount}
use Rattle.match_puzzle.proofs.TableLemmas.{in_empty_table, turn_counts_more, turn_count_is}
use Rattle.match_puzzle.proofs.tables.turn_counts.Goals as goal

pub loop-tile-init : goal.loop-tile-init
loop-tile-init c = record {
  long = ap length c.in_ok-table.ensures.items;
  is = λ tile count get. absurd (in_empty_table tile count (subst (λ (xs : List ℕ). slice_get xs tile ≡ Some count) c.in_ok-table.ensures.items get));
}

pub loop-tile-preserved : goal.loop-tile-preserved
loop-tile-preserved c =
    let i = c.loop-tile.tile-index in
    let table = c.loop-tile.table.items in
    let grown : c.push.new.self.items ≡ table ++ c.turn_count.result ∷ [] = c.in_ok-push.ensures.items in
    record {
      long = ap length grown ∙ omega (arith, length-append table (c.turn_count.result ∷ []), c.loop-tile.invariant.long);
      is = λ tile count get board version.
          turn_counts_more (task_by board c.args.rules.now version c.args.tiles.now) table c.turn_count.result (λ t k g. c.loop-tile.invariant.is t k g board version)
          (subst (λ n. IsTurnCount (task_by board c.args.rules.now version c.args.tiles.now) n c.turn_count.result) (sym c.loop-tile.invariant.long)
          (turn_count_is board c.args.rules.now version c.args.tiles.now i c.tile-item.result c.turn_count.result c.loop-tile-test.true c.tile-item.is c.turn_count.ensures))
          tile count (subst (λ (xs : List ℕ). slice_get xs tile ≡ Some count) grown get);
    }

pub returns : goal.returns
returns c = λ board version. record {
  long = omega (arith, c.loop-tile.invariant.long, c.loop-tile-test.false, c.loop-tile.auto.tile-index-end, length-map c.args.tiles.now word);
  is = λ tile count get. c.loop-tile.invariant.is tile count get board version;
}
