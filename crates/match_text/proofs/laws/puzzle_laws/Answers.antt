use Rattle.match_text.specs.Puzzles.{puzzle_of}
use Rattle.match_text.specs.PuzzleSpelling.{puzzle_spelling, IsTaskWithin}
use Rattle.text_words.proofs.TextLaws.{reads_what_is_spelled}
use Rattle.match_text.proofs.PuzzleLemmas.{puzzle_found, puzzle_only, puzzle_short}
use Rattle.match_text.proofs.laws.puzzle_laws.Goals as goal

pub returns : goal.returns
returns c = reads_what_is_spelled puzzle_of IsTaskWithin puzzle_spelling puzzle_found puzzle_only puzzle_short
