use Rattle.std.proofs.Common.{◌≡◌, ◌<◌, ℕ, count_by, get_or, take}
use Rattle.match_limits.specs.declared.TheConstants.{MOST_COLOURS}
use Rattle.count_search.specs.Balance.{place_of, word_gives}
use Rattle.count_search.proofs.balances.tile_sides.Given as goal

abbrev pub invariant-loop-tile : goal.invariant-loop-tile
invariant-loop-tile l = (side colour : ℕ) → side < 4 → colour < MOST_COLOURS → get_or l.sides (place_of side colour) 0 ≡ count_by (word_gives l.puzzle side colour) (take l.tile l.puzzle.words)
