use Rattle.std.specs.List.{AllByRecursion}
use Rattle.match_limits.specs.declared.TheConstants.{MOST_COLOURS}
use Rattle.std.proofs.Common.{◌<◌, ◌≡◌, length, sym, subst, ap, ◌∙◌}
use Rattle.std.proofs.lemmas.List.{length-map}
use Rattle.match_board.specs.Tile.{word}
use Rattle.match_limits.specs.Ranges.{ranges_of}
use Rattle.match_text.specs.Puzzles.{puzzle_of}
use Rattle.match_text.specs.PuzzleSpelling.{AreRulesWithin}
use Rattle.match_text.proofs.LimitLemmas.{puzzle_within, rules_of_border}
use Rattle.match_text.proofs.PuzzleLemmas.{puzzle_only, puzzle_written}
use Rattle.match_text.proofs.puzzle_spellings.write_puzzle.Goals as goal

pub put_border-requires : goal.put_border-requires
put_border-requires c =
    let p = c.args.puzzle.now in
    subst AreRulesWithin (sym c.border.ensures) (rules_of_border (ranges_of p.mating.version) p.border (puzzle_within p c.board-board.ensures.puzzle).border)

pub put_mating-requires : goal.put_mating-requires
put_mating-requires c = subst (AllByRecursion (λ colour. colour < MOST_COLOURS)) (sym c.mates.ensures.list) (puzzle_within c.args.puzzle.now c.board-board.ensures.puzzle).mating.2

pub returns-clause-spelling : goal.returns-clause-spelling
returns-clause-spelling c =
    let p = c.args.puzzle.now in
    let count : length c.tiles-tiles.result.now ≡ length p.words = sym (length-map c.tiles-tiles.result.now word) ∙ ap length c.tiles-tiles.ensures in
    rw (c.in_ok-put_end.ensures, c.in_ok-put_tiles.ensures, c.in_ok-put_number_line-2.ensures, c.in_ok-put_clue_part.ensures, c.in_ok-put_mating.ensures, c.in_ok-put_border.ensures, c.in_ok-put_turns.ensures, c.in_ok-put_board.ensures, c.in_ok-put_number_line.ensures, c.from.ensures, c.new-text.ensures.items, c.tiles-tiles.ensures, count, c.clues.ensures.clues, c.mates.ensures.list, c.version.ensures.version, c.version-2.ensures.version, c.version-3.ensures.version, c.border.ensures, c.turns.ensures, c.board-board.ensures.value)
    (sym (puzzle_written p))

pub returns-clause-reads : goal.returns-clause-reads
returns-clause-reads c =
    let is = c.board-board.ensures.puzzle in
    (ap puzzle_of (returns-clause-spelling c) ∙ puzzle_only c.args.puzzle.now (puzzle_within c.args.puzzle.now is), is)
