-- Lemmas that lie among the pairs and the heads of all lemmas.
use Rattle.std.specs.Prelude.{◌≡◌, ◌+◌, ◌≤◌, ◌<◌, ◌^◌, [], ℕ, List, Contains, slice_index_or, length, map}
use Rattle.std.specs.List.{slice_range}
use Rattle.match_puzzle.specs.declared.placements.Pair.{Pair}
use Rattle.cert_tree.specs.declared.heads.Head.{Head}
use Rattle.cert_tree.specs.declared.flat_lemmas.Block.{Block}
use Rattle.cert_tree.specs.declared.flat_lemmas.LemmaSpan.{LemmaSpan}
use Rattle.cert_tree.specs.Heads.{trees_in, first, AreOfTree}
use Rattle.cert_tree.specs.Certificate.{Piece}

-- the lemma that lies there
abbrev pub piece_in : List Pair → List Head → LemmaSpan → Piece
piece_in pairs heads span = record {
  number = span.number;
  prefix = slice_range pairs span.pairs_start span.pairs_end;
  tree = first (trees_in (slice_range heads span.heads_start span.heads_end));
}

abbrev pub number_of : LemmaSpan → ℕ
number_of span = span.number

-- A lemma lies there: these pairs, and the heads of a tree.
pub record LiesIn (pairs : List Pair) (heads : List Head) (span : LemmaSpan) : Type 0 where
  pub some_pairs : span.pairs_start ≤ span.pairs_end
  pub within_pairs : span.pairs_end ≤ length pairs
  pub some_heads : span.heads_start ≤ span.heads_end
  pub within_heads : span.heads_end ≤ length heads
  pub tree : AreOfTree (slice_range heads span.heads_start span.heads_end)

-- It lies there, and that is the first block.
pub record IsSpan (pairs : List Pair) (heads : List Head) (span : LemmaSpan) : Type 0 where
  pub lies : LiesIn pairs heads span
  pub first : span.block ≡ 0

abbrev pub AreSpans : List Pair → List Head → List LemmaSpan → Type 0
AreSpans pairs heads spans = (span : LemmaSpan) → Contains spans span → IsSpan pairs heads span

-- the pairs and the heads of a block
abbrev pub pairs_of : Block → List Pair
pairs_of block = block.pairs.items

abbrev pub heads_of_block : Block → List Head
heads_of_block block = block.heads.items

abbrev pub pairs_at : List Block → ℕ → List Pair
pairs_at blocks n = slice_index_or (map pairs_of blocks) n []

abbrev pub heads_at : List Block → ℕ → List Head
heads_at blocks n = slice_index_or (map heads_of_block blocks) n []

-- the lemma that lies there, in its block
abbrev pub piece_at : List Block → LemmaSpan → Piece
piece_at blocks span = piece_in (pairs_at blocks span.block) (heads_at blocks span.block) span

-- A lemma lies there, in one of the blocks.
pub record IsPlaced (blocks : List Block) (span : LemmaSpan) : Type 0 where
  pub some : span.block < length blocks
  pub lies : LiesIn (pairs_at blocks span.block) (heads_at blocks span.block) span

abbrev pub ArePlaced : List Block → List LemmaSpan → Type 0
ArePlaced blocks spans = (span : LemmaSpan) → Contains spans span → IsPlaced blocks span

-- the span of the same lemma once there are `blocks` more blocks before its own
abbrev pub moved_by : (blocks : ℕ) → LemmaSpan → LemmaSpan
moved_by blocks span = record {
  number = span.number;
  block = blocks + span.block;
  pairs_start = span.pairs_start;
  pairs_end = span.pairs_end;
  heads_start = span.heads_start;
  heads_end = span.heads_end;
}

-- There may be `blocks` more blocks before the span's own: its block's number stays below 2^64.
abbrev pub CanMove : (blocks : ℕ) → LemmaSpan → Type 0
CanMove blocks span = blocks + span.block < 2 ^ 64
