use Rattle.match_text.proofs.PuzzleCharacterLemmas.{puzzles_are}
use Rattle.match_text.proofs.character_laws.puzzle_characters.Goals as goal

pub returns : goal.returns
returns c = puzzles_are
