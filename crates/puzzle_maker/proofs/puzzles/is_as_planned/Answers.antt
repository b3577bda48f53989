use Rattle.std.proofs.Common.{rules}
use Rattle.puzzle_maker.proofs.puzzles.is_as_planned.Goals as goal

pub returns : goal.returns
returns c = λ is. record {
  rules = record { board = c.requires.board; turns = c.requires.turns; border = c.requires.border; version = search rules; mates = search rules };
  tiles = search rules;
  colours = c.shows_colours_below.ensures is;
}
