use Rattle.std.proofs.Common.{◌≡◌, ◌<◌, ◌^◌, ℕ}
use Rattle.std.specs.Int.{bit_at}
use Rattle.match_board.specs.Tile.{word}
use Rattle.match_board.specs.Turns.{shown}
use Rattle.match_puzzle.proofs.placement_sets.showing_turns.Given as goal

abbrev pub invariant-loop-turn : goal.invariant-loop-turn
invariant-loop-turn l = record {
  few : l.turns < 2 ^ l.turn;
  shows : (turn : ℕ) → turn < l.turn → bit_at l.turns turn ≡ 1 → shown (word l.tile) turn l.side ≡ l.colour;
  all : (turn : ℕ) → turn < l.turn → shown (word l.tile) turn l.side ≡ l.colour → bit_at l.turns turn ≡ 1;
}
