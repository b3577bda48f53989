use Rattle.std.proofs.Common.{◌<◌, ℕ, Contains}
use Rattle.match_puzzle.specs.Puzzle.{word_of}
use Rattle.puzzle_maker.proofs.puzzles.shows_colours_below.Given as goal

abbrev pub invariant-loop-tile : goal.invariant-loop-tile
invariant-loop-tile l = (tile colour : ℕ) → tile < l.tile → Contains (word_of l.puzzle tile) colour → colour < l.colours
