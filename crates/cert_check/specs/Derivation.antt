-- Lemmas that derive what they claim.
use Rattle.std.specs.Prelude.{◌≡◌, ◌+◌, ℕ, List, [], Some, length, slice_get}
use Rattle.match_puzzle.specs.Puzzle.{Task}
use Rattle.match_puzzle.specs.Prefix.{Prefix, empty_prefix, with_pairs}
use Rattle.cert_tree.specs.Certificate.{Piece}
use Rattle.cert_check.specs.Setting.{Question, setting_at}
use Rattle.cert_check.specs.NodeRules.{Holds}

-- what is placed where a lemma begins
abbrev pub start_of : Task → Piece → Prefix
start_of p lemma = with_pairs lemma.prefix (empty_prefix p)

-- There is a last lemma, and it begins with nothing placed.
abbrev pub HasRoot : List Piece → Type 0
HasRoot lemmas =
    (number : ℕ) × (root : Piece) × (length lemmas ≡ number + 1) × (slice_get lemmas number ≡ Some root)
    × (root.prefix ≡ [])

-- The tree of each lemma holds at its prefix.
abbrev pub TreesHold : Question → Type 0
TreesHold question =
    (number : ℕ) (lemma : Piece) → slice_get question.lemmas number ≡ Some lemma
    → Holds (setting_at question number) lemma.tree (start_of question.puzzle lemma)
