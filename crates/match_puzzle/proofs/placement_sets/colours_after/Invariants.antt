use Rattle.std.proofs.Common.{◌≡◌, ◌<◌, ℕ, length, slice_index}
use Rattle.match_limits.specs.declared.TheConstants.{MOST_COLOURS}
use Rattle.match_board.specs.Tile.{word}
use Rattle.match_board.specs.Turns.{shown}
use Rattle.match_puzzle.proofs.placement_sets.colours_after.Given as goal

abbrev pub invariant-loop-side : goal.invariant-loop-side
invariant-loop-side l = record {
  long : length l.colours ≡ 4;
  done : (k : ℕ) → k < l.side → (slice_index l.colours k ≡ shown (word l.tile) l.turn k) × (slice_index l.colours k < MOST_COLOURS);
}
