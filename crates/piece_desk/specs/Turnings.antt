-- Lemmas that are turned by several threads.
use Rattle.std.specs.Prelude.{◌≡◌, ◌≤◌, ◌<◌, ℕ, List, All, length, map, reverse}
use Rattle.match_limits.specs.declared.TheConstants.{MOST_ARRANGEMENTS, MOST_CELLS}
use Rattle.cert_tree.specs.declared.flat_lemmas.FlatLemma.{FlatLemma}
use Rattle.cert_tree.specs.Certificate.{Piece, flat_piece}
use Rattle.cert_tree.specs.Limits.{IsLemmaWithin}
use Rattle.piece_desk.specs.TurnedAssembly.{turned_piece}

-- The lemmas can be turned: each is within the limits of its text, and its number has a first listed arrangement.
pub record CanBeTurned (first : List ℕ) (lemmas : List FlatLemma) : Type 0 where
  pub numbers : All (λ lemma. lemma.number < length first) lemmas
  pub firsts : All (λ n. n ≤ MOST_ARRANGEMENTS) first
  pub within : All (λ lemma. IsLemmaWithin MOST_CELLS (flat_piece lemma)) lemmas

-- The lemmas were turned, and the last comes first.
abbrev pub AreTurned : (count : ℕ) (first : List ℕ) (lemmas : List FlatLemma) (turned : List Piece) → Type 0
AreTurned count first lemmas turned = turned ≡ reverse (map (turned_piece count first) (map flat_piece lemmas))
