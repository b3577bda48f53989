-- What is printed of a complete list.
use Rattle.std.specs.Prelude.{◌≤◌, ◌↔◌, ◌∷◌, [], ℕ, List, Contains, codes, length}
use Rattle.match_limits.specs.declared.TheConstants.{MOST_ARRANGEMENTS}
use Rattle.match_puzzle.specs.Arrangement.{IsArrangement, AreDistinct, HasArrangements}
use Rattle.match_puzzle.specs.declared.placements.Placement.{Placement}
use Rattle.text_words.specs.Spelling.{count_words, text_of}
use Rattle.cert_check.specs.Setting.{Question, motions_of}
use Rattle.symmetry_orbits.specs.Expansion.{IsExpansion}
use Rattle.symmetry_orbits.specs.Firsts.{AreFirstOfEachOrbit}
use Rattle.symmetry_orbits.specs.Orbits.{AreOneOfEachOrbit, IsCount}
use Rattle.symmetry_orbits.specs.Pictures.{HasPictures}
use Rattle.symmetry_orbits.specs.declared.numbers.Count.{Count}

-- These are all arrangements of the puzzle, each once, in the order of the closure of the list, and they can be listed.
pub record AreAllInOrder (question : Question) (all : List (List Placement)) : Type 0 where
  pub expansion : IsExpansion (motions_of question) question.listed all
  pub just : (a : List Placement) → Contains all a ↔ IsArrangement question.puzzle a
  pub once : AreDistinct all
  pub few : length all ≤ MOST_ARRANGEMENTS

-- These are one arrangement of each orbit: of the listed ones the first of each, in the order of the list.
pub record AreFirstsOf (question : Question) (firsts : List (List Placement)) : Type 0 where
  pub first_listed : AreFirstOfEachOrbit question.puzzle question.symmetries question.listed firsts
  pub one_of_each : AreOneOfEachOrbit question.puzzle question.symmetries question.listed firsts

-- how many arrangements there are, how many pictures and how many orbits, and by how many symmetries: a line each
abbrev pub count_text : Count → (symmetries : ℕ) → List ℕ
count_text count symmetries =
    text_of (count_words (codes "arrangements") count.arrangements ∷ count_words (codes "pictures") count.pictures
    ∷ count_words (codes "orbits") count.orbits ∷ count_words (codes "symmetries") symmetries ∷ [])

-- The count says how many arrangements are reached from the list and in how many orbits, and how many arrangements and
-- pictures the puzzle has.
pub record IsCountOf (question : Question) (count : Count) : Type 0 where
  pub reached : IsCount question.puzzle question.symmetries question.listed count
  pub arrangements : HasArrangements question.puzzle count.arrangements
  pub pictures : HasPictures question.puzzle count.pictures
