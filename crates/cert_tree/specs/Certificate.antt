-- Certificates as plain data.
use Rattle.std.specs.Prelude.{◌≡◌, ◌≤◌, ◌<◌, ◌^◌, ℕ, List, Some, length, slice_get}
use Rattle.std.specs.Borrow.{Bor}
use Rattle.match_limits.specs.declared.TheConstants.{MOST_LEMMAS}
use Rattle.match_puzzle.specs.declared.placements.Pair.{Pair}
use Rattle.match_board.specs.declared.symmetry_lines.SymmetryLine.{SymmetryLine}
use Rattle.cert_tree.specs.declared.certificates.Lemma.{Lemma}
use Rattle.cert_tree.specs.declared.flat_lemmas.FlatLemma.{FlatLemma}
use Rattle.cert_tree.specs.Tree.{Tree, tree_of}

-- a lemma without where it lies in memory
pub record Piece : Type 0 where
  pub number : ℕ
  pub prefix : List Pair
  pub tree : Tree

-- a certificate: its symmetries and its lemmas, each by number
pub record Contents : Type 0 where
  pub symmetries : List SymmetryLine
  pub lemmas : List Piece

abbrev pub piece_of : Lemma → Piece
piece_of lemma = record { number = lemma.number; prefix = lemma.prefix; tree = tree_of lemma.tree }

-- a lemma that is lent, without where it lies in memory
abbrev pub lent_piece : Bor Lemma → Piece
lent_piece lemma = piece_of lemma.now

-- a lemma of a certificate, without where it lies in memory
abbrev pub flat_piece : FlatLemma → Piece
flat_piece lemma = record { number = lemma.number; prefix = lemma.prefix.now; tree = lemma.tree }

abbrev pub piece_number : Piece → ℕ
piece_number piece = piece.number

-- Each lemma has the number of its place, and there are no more of anything than its number can say.
pub record IsNumbered (c : Contents) : Type 0 where
  pub numbered : (number : ℕ) (lemma : Piece) → slice_get c.lemmas number ≡ Some lemma → lemma.number ≡ number
  pub few_lemmas : length c.lemmas ≤ MOST_LEMMAS
  pub few_symmetries : length c.symmetries < 2 ^ 32
  pub prefixes : (number : ℕ) (lemma : Piece) → slice_get c.lemmas number ≡ Some lemma → length lemma.prefix < 2 ^ 32
