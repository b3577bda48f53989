use Rattle.std.proofs.Common.{◌≡◌, ◌<◌, ◌≤◌, ◌+◌, ◌*◌, ℕ, Some, length, slice_get, slice_index}
use Rattle.match_limits.specs.declared.TheConstants.{MOST_COLOURS}
use Rattle.match_puzzle.specs.Tables.{Begins}
use Rattle.match_puzzle.specs.declared.tables.TheConstants.{FIRST_PLACE}
use Rattle.match_puzzle.specs.declared.tables.CellSides.{CellSides}
use Rattle.match_puzzle.specs.declared.tables.Side.{Side}
use Rattle.match_puzzle.proofs.asking.beginning.Given as goal

abbrev pub invariant-loop-cell : goal.invariant-loop-cell
invariant-loop-cell l = record {
  long : length l.asks.items ≡ FIRST_PLACE + 4 * length l.table;
  own : (colour : ℕ) → colour ≤ MOST_COLOURS → slice_index l.asks.items colour ≡ colour;
  begins : (cell side : ℕ) (sides : CellSides) (x : Side) → cell < l.cell → slice_get l.table cell ≡ Some sides → slice_get sides.sides side ≡ Some x → side < 4
      → Begins l.table x (slice_index l.asks.items (FIRST_PLACE + 4 * cell + side));
}
