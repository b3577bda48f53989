use Rattle.std.proofs.Common.{refl}
use Rattle.match_text.specs.Puzzles.{board_part, puzzle_text}
use Rattle.match_text.proofs.puzzles.whole.Goals as goal

pub returns-clause-reads : goal.returns-clause-reads
unfolding puzzle_text board_part
returns-clause-reads c =
    let ranges = c.ranges_of-ranges.ensures.value in
    let border = rw ranges at c.in_ok-border.ensures in
    let count = rw (c.from.ensures, ranges) at c.in_ok-count.ensures.gives in
    rw (c.in_ok-version.ensures.gives, c.in_ok-board.ensures, c.in_ok-marks.ensures.reads, c.in_ok-turns.ensures, border, c.in_ok-mates.ensures, c.in_ok-clues.ensures, count, c.in_ok-tiles.ensures, c.in_ok-closing.ensures) refl
