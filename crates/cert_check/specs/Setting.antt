-- What a tree speaks of.
use Rattle.std.specs.Prelude.{◌≡◌, ℕ, List, Some, map, take, slice_get}
use Rattle.match_puzzle.specs.Puzzle.{Task, second_form_of}
use Rattle.match_puzzle.specs.PrefixFaults.{IsPairList}
use Rattle.match_puzzle.specs.declared.placements.Placement.{Placement}
use Rattle.match_puzzle.specs.declared.placements.Pair.{Pair}
use Rattle.match_board.specs.declared.symmetry_lines.SymmetryLine.{SymmetryLine}
use Rattle.puzzle_symmetry.specs.Motion.{Motion, motion_of, line_of, AreOfPuzzle}
use Rattle.cert_tree.specs.Certificate.{Contents, Piece}

-- what is asked of the checker: whether these are all arrangements of the puzzle, by these symmetries and lemmas
pub record Question : Type 0 where
  pub puzzle : Task
  pub listed : List (List Placement)
  pub symmetries : List SymmetryLine
  pub lemmas : List Piece

-- the same question of the puzzle's second form
abbrev pub in_second_form : Question → Question
in_second_form question = record {
  puzzle = second_form_of question.puzzle;
  listed = question.listed;
  symmetries = question.symmetries;
  lemmas = question.lemmas;
}

-- what the tree of a lemma may name: the listed arrangements, the symmetries, and the prefixes of the lemmas before it,
-- each by number
pub record Setting : Type 0 where
  pub puzzle : Task
  pub listed : List (List Placement)
  pub symmetries : List SymmetryLine
  pub earlier : List (List Pair)

abbrev pub question_of : Task → List (List Placement) → Contents → Question
question_of puzzle listed certificate = record {
  puzzle = puzzle;
  listed = listed;
  symmetries = certificate.symmetries;
  lemmas = certificate.lemmas;
}

-- the pairs that a lemma begins with
abbrev pub prefix_of : Piece → List Pair
prefix_of lemma = lemma.prefix

-- what the tree of the lemma with this number may name
abbrev pub setting_at : Question → ℕ → Setting
setting_at question number = record {
  puzzle = question.puzzle;
  listed = question.listed;
  symmetries = question.symmetries;
  earlier = take number (map prefix_of question.lemmas);
}

-- the symmetries of a question's lines
abbrev pub motions_of : Question → List Motion
motions_of question = map (motion_of question.puzzle) question.symmetries

abbrev pub setting_of : Task → List (List Placement) → List Motion → List Piece → Setting
setting_of puzzle listed motions earlier = record {
  puzzle = puzzle;
  listed = listed;
  symmetries = map line_of motions;
  earlier = map prefix_of earlier;
}

-- Each lemma begins with a prefix.
abbrev pub BeginWithPrefixes : Task → List Piece → Type 0
BeginWithPrefixes p lemmas =
    (number : ℕ) (lemma : Piece) → slice_get lemmas number ≡ Some lemma → IsPairList p lemma.prefix

-- what holds of each setting that the code makes
pub record IsSetting (p : Task) (motions : List Motion) (earlier : List Piece) : Type 0 where
  pub symmetries : AreOfPuzzle p motions
  pub prefixes : BeginWithPrefixes p earlier
