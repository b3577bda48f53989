use Rattle.std.proofs.Common.{◌≡◌, ◌<◌, ◌≤◌, ℕ, Some, map, slice_get}
use Rattle.match_board.specs.declared.clues.Clue.{Clue}
use Rattle.match_board.specs.Clues.{clue_of, AsksByClue}
use Rattle.match_puzzle.proofs.clue_rules.clue_colour_count.Given as goal

abbrev pub invariant-loop-clue : goal.invariant-loop-clue
invariant-loop-clue l = record {
  above : (k : ℕ) (c : Clue) (side colour : ℕ) → k < l.clue-index → slice_get l.clues k ≡ Some c → slice_get (clue_of c).asks side ≡ Some (Some colour) → colour < l.count;
  least : (other : ℕ) → ((cell side colour : ℕ) → AsksByClue (map clue_of l.clues) cell side colour → colour < other) → l.count ≤ other;
}
