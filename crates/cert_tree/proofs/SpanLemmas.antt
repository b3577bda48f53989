-- Lemmas that lie among others, and stay where they are while more are put behind them.
use Rattle.std.proofs.Common.{◌≡◌, ◌≤◌, ◌<◌, ◌^◌, ◌-◌, ◌++◌, ◌∷◌, ◌+◌, ℕ, zero, suc, List, [], Some, Contains, get_or, slice_get, length, take, drop, map, Ok, refl, sym, ap, subst, ◌∙◌, arith, ⊎_elim}
use Rattle.std.specs.List.{slice_range}
use Rattle.std.proofs.lemmas.List.{take-append-le, drop-append-le, get_or_append_left, get_or-append-add, length-append, length-drop, length-map, map-append, take_rest}
use Rattle.std.proofs.lemmas.List.Elements.{Contains-append_cases, Contains-push_cases}
use Rattle.std.proofs.Math.Seq.{drop-append_seam}
use Rattle.match_puzzle.specs.declared.placements.Pair.{Pair}
use Rattle.cert_tree.specs.declared.heads.Head.{Head}
use Rattle.cert_tree.specs.declared.flat_lemmas.LemmaSpan.{LemmaSpan}
use Rattle.cert_tree.specs.Heads.{heads_of, trees_in, first, AreOfTree}
use Rattle.std.specs.Prelude.{All}
use Rattle.match_limits.proofs.ListLemmas.{place_of}
use Rattle.cert_tree.specs.Assembly.{Assembles}
use Rattle.match_puzzle.proofs.Prefixes.{inside}
use Rattle.cert_tree.specs.declared.certificates.Lemma.{Lemma}
use Rattle.cert_tree.specs.Tree.{Tree, tree_of, IsNarrow}
use Rattle.cert_tree.specs.Certificate.{Piece, piece_of}
use Rattle.cert_tree.specs.declared.flat_lemmas.Block.{Block}
use Rattle.cert_tree.specs.Spans.{number_of, piece_in, piece_at, pairs_of, pairs_at, heads_of_block, heads_at, LiesIn, IsSpan, AreSpans, IsPlaced, ArePlaced, CanMove, moved_by}
use Rattle.cert_tree.proofs.HeadLemmas.{of_tree}

-- ---- what stands behind other things

-- These stand behind those.
abbrev pub IsBehind : {X : Type 0} → (old new : List X) → Type 0
IsBehind old new = new ≡ old ++ drop (length old) new

pub behind_is : {X : Type 0} (old new more : List X) → new ≡ old ++ more → drop (length old) new ≡ more
behind_is old new more is = ap (drop (length old)) is ∙ drop-append_seam old more

pub is_behind : {X : Type 0} (old new more : List X) → new ≡ old ++ more → IsBehind old new
is_behind old new more is = is ∙ ap (λ xs. old ++ xs) (sym (behind_is old new more is))

pub length_behind : {X : Type 0} (old new : List X) → IsBehind old new → length old ≤ length new
length_behind old new behind = let e = ap length behind ∙ length-append old (drop (length old) new) in omega (arith, e)

-- a part of the old ones is the same part of the new ones
pub same_part : {X : Type 0} (old new : List X) (start end : ℕ) → IsBehind old new → start ≤ end → end ≤ length old → slice_range new start end ≡ slice_range old start end
same_part old new start end behind some within =
    let more = drop (length old) new in
    let long : end - start ≤ length (drop start old) = let e = length-drop start old in omega (arith, e, within, some) in
    ap (λ xs. slice_range xs start end) behind ∙ ap (take (end - start)) (drop-append-le start old more (omega (arith, some, within))) ∙ take-append-le (end - start) (drop start old) more long

-- the part up to the end
pub last_part : {X : Type 0} (xs : List X) (start : ℕ) → slice_range xs start (length xs) ≡ drop start xs
last_part xs start = take_rest xs start

-- ---- lemmas

module _ (pairs pairs' : List Pair) (heads heads' : List Head) (more_pairs : IsBehind pairs pairs') (more_heads : IsBehind heads heads') where
  same_piece : (span : LemmaSpan) → IsSpan pairs heads span → piece_in pairs' heads' span ≡ piece_in pairs heads span
  same_piece span is =
      let prefix = same_part pairs pairs' span.pairs_start span.pairs_end more_pairs is.lies.some_pairs is.lies.within_pairs in
      let tree = same_part heads heads' span.heads_start span.heads_end more_heads is.lies.some_heads is.lies.within_heads in
      rw (prefix, tree) refl

  still_lies : (span : LemmaSpan) → LiesIn pairs heads span → LiesIn pairs' heads' span
  still_lies span is = record {
    some_pairs = is.some_pairs;
    within_pairs = let more = length_behind pairs pairs' more_pairs in let old = is.within_pairs in omega (arith, more, old);
    some_heads = is.some_heads;
    within_heads = let more = length_behind heads heads' more_heads in let old = is.within_heads in omega (arith, more, old);
    tree = subst AreOfTree (sym (same_part heads heads' span.heads_start span.heads_end more_heads is.some_heads is.within_heads)) is.tree;
  }

  pub still_span : (span : LemmaSpan) → IsSpan pairs heads span → IsSpan pairs' heads' span
  still_span span is = record { lies = still_lies span is.lies; first = is.first }

  pub same_pieces : (spans : List LemmaSpan) → AreSpans pairs heads spans → map (piece_in pairs' heads') spans ≡ map (piece_in pairs heads) spans
  same_pieces [] are = refl
  same_pieces (span ∷ spans) are =
      let one = same_piece span (are span (0, omega arith, refl)) in
      let others = same_pieces spans (λ other at. are other (suc at.0, omega (arith, at.1), at.2)) in
      ap (λ piece. piece ∷ map (piece_in pairs' heads') spans) one ∙ ap (λ pieces. piece_in pairs heads span ∷ pieces) others

  -- one lemma more, behind the others
  module _ (spans longer : List LemmaSpan) (span : LemmaSpan) (are : AreSpans pairs heads spans) (is : IsSpan pairs' heads' span) (pushed : longer ≡ spans ++ span ∷ []) where
    pub more_spans : AreSpans pairs' heads' longer
    more_spans other at =
        ⊎_elim
        (λ old. still_span other (are other old))
        (λ e. subst (IsSpan pairs' heads') e is)
        (Contains-push_cases spans span other (subst (λ (xs : List LemmaSpan). Contains xs other) pushed at))

    pub more_pieces : map (piece_in pairs' heads') longer ≡ map (piece_in pairs heads) spans ++ piece_in pairs' heads' span ∷ []
    more_pieces =
        ap (map (piece_in pairs' heads')) pushed ∙ map-append (piece_in pairs' heads') spans (span ∷ [])
        ∙ ap (λ pieces. pieces ++ piece_in pairs' heads' span ∷ []) (same_pieces spans are)

-- ---- lemmas in blocks

-- what stands at a place, of those before and of those behind
module _ {X Y : Type 0} (f : X → Y) (d : Y) (xs more : List X) where
  at_left : (n : ℕ) → n < length xs → get_or (map f (xs ++ more)) n d ≡ get_or (map f xs) n d
  at_left n lt =
      let long = length-map xs f in
      ap (λ ys. get_or ys n d) (map-append f xs more) ∙ get_or_append_left (map f xs) (map f more) d n (omega (arith, lt, long))

  at_right : (n : ℕ) → get_or (map f (xs ++ more)) (length xs + n) d ≡ get_or (map f more) n d
  at_right n =
      ap (λ ys. get_or ys (length xs + n) d) (map-append f xs more)
      ∙ ap (λ k. get_or (map f xs ++ map f more) (k + n) d) (sym (length-map xs f))
      ∙ get_or-append-add (map f xs) (map f more) n d

-- the same lemma lies in the same pieces of memory
lies_in : (pairs pairs' : List Pair) (heads heads' : List Head) (span : LemmaSpan) → pairs' ≡ pairs → heads' ≡ heads → LiesIn pairs heads span → LiesIn pairs' heads' span
lies_in pairs pairs' heads heads' span same_pairs same_heads is =
    subst (λ (ps : List Pair). LiesIn ps heads' span) (sym same_pairs) (subst (λ (hs : List Head). LiesIn pairs hs span) (sym same_heads) is)

-- where it lies in its block doesn't hang on which block that is
moved_lies : (n : ℕ) (pairs : List Pair) (heads : List Head) (span : LemmaSpan) → LiesIn pairs heads span → LiesIn pairs heads (moved_by n span)
moved_lies n pairs heads span is = record { some_pairs = is.some_pairs; within_pairs = is.within_pairs; some_heads = is.some_heads; within_heads = is.within_heads; tree = is.tree }

module _ (blocks more : List Block) where
  abbrev moved : LemmaSpan → LemmaSpan
  moved span = moved_by (length blocks) span

  still_piece : (span : LemmaSpan) → span.block < length blocks → piece_at (blocks ++ more) span ≡ piece_at blocks span
  still_piece span lt = rw (at_left pairs_of [] blocks more span.block lt, at_left heads_of_block [] blocks more span.block lt) refl

  still_placed : (span : LemmaSpan) → IsPlaced blocks span → IsPlaced (blocks ++ more) span
  still_placed span is = record {
    some = let some = is.some in let long = length-append blocks more in omega (arith, some, long);
    lies = lies_in (pairs_at blocks span.block) (pairs_at (blocks ++ more) span.block) (heads_at blocks span.block) (heads_at (blocks ++ more) span.block) span
        (at_left pairs_of [] blocks more span.block is.some) (at_left heads_of_block [] blocks more span.block is.some) is.lies;
  }

  moved_piece : (span : LemmaSpan) → piece_at (blocks ++ more) (moved span) ≡ piece_at more span
  moved_piece span = rw (at_right pairs_of [] blocks more span.block, at_right heads_of_block [] blocks more span.block) refl

  moved_placed : (span : LemmaSpan) → IsPlaced more span → IsPlaced (blocks ++ more) (moved span)
  moved_placed span is = record {
    some = let some = is.some in let long = length-append blocks more in omega (arith, some, long);
    lies = lies_in (pairs_at more span.block) (pairs_at (blocks ++ more) (length blocks + span.block)) (heads_at more span.block) (heads_at (blocks ++ more) (length blocks + span.block)) (moved span)
        (at_right pairs_of [] blocks more span.block) (at_right heads_of_block [] blocks more span.block)
        (moved_lies (length blocks) (pairs_at more span.block) (heads_at more span.block) span is.lies);
  }

  still_pieces : (spans : List LemmaSpan) → ArePlaced blocks spans → map (piece_at (blocks ++ more)) spans ≡ map (piece_at blocks) spans
  still_pieces [] are = refl
  still_pieces (span ∷ spans) are =
      let one = still_piece span (are span (0, omega arith, refl)).some in
      let others = still_pieces spans (λ other at. are other (suc at.0, omega (arith, at.1), at.2)) in
      ap (λ piece. piece ∷ map (piece_at (blocks ++ more)) spans) one ∙ ap (λ pieces. piece_at blocks span ∷ pieces) others

  moved_pieces : (others : List LemmaSpan) → map (piece_at (blocks ++ more)) (map moved others) ≡ map (piece_at more) others
  moved_pieces [] = refl
  moved_pieces (span ∷ others) =
      ap (λ piece. piece ∷ map (piece_at (blocks ++ more)) (map moved others)) (moved_piece span)
      ∙ ap (λ pieces. piece_at more span ∷ pieces) (moved_pieces others)

  all_moved : (others : List LemmaSpan) → ArePlaced more others → ArePlaced (blocks ++ more) (map moved others)
  all_moved [] are span at = absurd (omega (arith, at.1))
  all_moved (other ∷ others) are span (zero, lt, is) = subst (IsPlaced (blocks ++ more)) is (moved_placed other (are other (0, omega arith, refl)))
  all_moved (other ∷ others) are span (suc k, lt, is) = all_moved others (λ x at. are x (suc at.0, omega (arith, at.1), at.2)) span (k, omega (arith, lt), is)

  -- the blocks of those that are moved are numbers of a machine
  pub can_move : (before : ℕ) (others : List LemmaSpan) → ArePlaced more others → before + length more < 2 ^ 64 → All (CanMove before) others
  can_move before [] are few k d lt = absurd (omega (arith, lt))
  can_move before (span ∷ others) are few zero d lt = let some = (are span (0, omega arith, refl)).some in omega (arith, some, few)
  can_move before (span ∷ others) are few (suc k) d lt = can_move before others (λ x at. are x (suc at.0, omega (arith, at.1), at.2)) few k d (omega (arith, lt))

  pub joined_placed : (spans others : List LemmaSpan) → ArePlaced blocks spans → ArePlaced more others → ArePlaced (blocks ++ more) (spans ++ map moved others)
  joined_placed spans others are more_are span at =
      ⊎_elim
      (λ old. still_placed span (are span old))
      (λ new. all_moved others more_are span new)
      (Contains-append_cases spans (map moved others) span at)

  pub joined_pieces : (spans others : List LemmaSpan) → ArePlaced blocks spans
      → map (piece_at (blocks ++ more)) (spans ++ map moved others) ≡ map (piece_at blocks) spans ++ map (piece_at more) others
  joined_pieces spans others are =
      map-append (piece_at (blocks ++ more)) spans (map moved others)
      ∙ ap (λ pieces. pieces ++ map (piece_at (blocks ++ more)) (map moved others)) (still_pieces spans are)
      ∙ ap (λ pieces. map (piece_at blocks) spans ++ pieces) (moved_pieces others)

-- these lemmas and those
module _ (blocks more blocks' : List Block) (before : ℕ) (spans others spans' : List LemmaSpan)
    (at : before ≡ length blocks) (blocks_are : blocks' ≡ blocks ++ more) (spans_are : spans' ≡ spans ++ map (moved_by before) others)
    (are : ArePlaced blocks spans) (more_are : ArePlaced more others) where
  moved_are : spans' ≡ spans ++ map (moved_by (length blocks)) others
  moved_are = spans_are ∙ ap (λ n. spans ++ map (moved_by n) others) at

  pub with_placed : ArePlaced blocks' spans'
  with_placed =
      subst (λ (bs : List Block). ArePlaced bs spans') (sym blocks_are)
      (subst (λ (ss : List LemmaSpan). ArePlaced (blocks ++ more) ss) (sym moved_are) (joined_placed blocks more spans others are more_are))

  pub with_pieces : map (piece_at blocks') spans' ≡ map (piece_at blocks) spans ++ map (piece_at more) others
  with_pieces =
      ap (λ (bs : List Block). map (piece_at bs) spans') blocks_are
      ∙ ap (map (piece_at (blocks ++ more))) moved_are
      ∙ joined_pieces blocks more spans others are

-- lemmas in one block
module _ (block : Block) where
  alone_piece : (span : LemmaSpan) → span.block ≡ 0 → piece_at (block ∷ []) span ≡ piece_in (pairs_of block) (heads_of_block block) span
  alone_piece span first = rw (first) refl

  alone_placed : (span : LemmaSpan) → IsSpan (pairs_of block) (heads_of_block block) span → IsPlaced (block ∷ []) span
  alone_placed span is = record {
    some = let first = is.first in omega (arith, first);
    lies = lies_in (pairs_of block) (pairs_at (block ∷ []) span.block) (heads_of_block block) (heads_at (block ∷ []) span.block) span
        (ap (pairs_at (block ∷ [])) is.first) (ap (heads_at (block ∷ [])) is.first) is.lies;
  }

  pub all_alone : (blocks : List Block) (spans : List LemmaSpan) → blocks ≡ block ∷ [] → AreSpans (pairs_of block) (heads_of_block block) spans → ArePlaced blocks spans
  all_alone blocks spans one are span at = subst (λ (bs : List Block). IsPlaced bs span) (sym one) (alone_placed span (are span at))

  pub alone_pieces : (blocks : List Block) (spans : List LemmaSpan) → blocks ≡ block ∷ [] → AreSpans (pairs_of block) (heads_of_block block) spans
      → map (piece_at blocks) spans ≡ map (piece_in (pairs_of block) (heads_of_block block)) spans
  alone_pieces blocks spans one are = ap (λ (bs : List Block). map (piece_at bs) spans) one ∙ each spans are
    where
      each : (spans : List LemmaSpan) → AreSpans (pairs_of block) (heads_of_block block) spans → map (piece_at (block ∷ [])) spans ≡ map (piece_in (pairs_of block) (heads_of_block block)) spans
      each [] are = refl
      each (span ∷ spans) are =
          ap (λ piece. piece ∷ map (piece_at (block ∷ [])) spans) (alone_piece span (are span (0, omega arith, refl)).first)
          ∙ ap (λ pieces. piece_in (pairs_of block) (heads_of_block block) span ∷ pieces) (each spans (λ other at. are other (suc at.0, omega (arith, at.1), at.2)))

-- what is assembled lies there still
pub assembled_spans : (blocks : List Block) (count : ℕ) (spans sorted : List LemmaSpan) → ArePlaced blocks spans → Assembles number_of count spans (Ok sorted) → ArePlaced blocks sorted
assembled_spans blocks count spans sorted are is span at =
    let place = place_of sorted span at in
    are span (is.only place.0 span place.1).among

-- ---- a lemma that was put behind the others

module _ (tree : Tree) (heads heads' : List Head) (start : ℕ) (at : start ≡ length heads) (more : heads' ≡ heads ++ heads_of tree) where
  put_heads : drop start heads' ≡ heads_of tree
  put_heads = ap (λ n. drop n heads') at ∙ behind_is heads heads' (heads_of tree) more

  pub put_tree : AreOfTree (drop start heads')
  put_tree = (of_tree tree (drop start heads') put_heads).0

  pub put_piece : (number : ℕ) (prefix pairs pairs' : List Pair) (pairs_start : ℕ) → pairs_start ≡ length pairs → pairs' ≡ pairs ++ prefix → (piece : Piece)
      → piece ≡ record { number = number; prefix = drop pairs_start pairs'; tree = first (trees_in (drop start heads')) } → piece ≡ record { number = number; prefix = prefix; tree = tree }
  put_piece number prefix pairs pairs' pairs_start pairs_at more_pairs piece is =
      let same_prefix : drop pairs_start pairs' ≡ prefix = ap (λ n. drop n pairs') pairs_at ∙ behind_is pairs pairs' prefix more_pairs in
      is
      ∙ ap (λ (xs : List Pair). let p : Piece = record { number = number; prefix = xs; tree = first (trees_in (drop start heads')) } in p) same_prefix
      ∙ ap (λ (t : Tree). let p : Piece = record { number = number; prefix = prefix; tree = t } in p) (of_tree tree (drop start heads') put_heads).1

-- ---- lemmas by number

-- what is read at a place
pub read_at : {X : Type 0} (xs : List X) (i : ℕ) (x : X) → slice_get xs i ≡ Some x → x ≡ get_or xs i x
read_at [] i x at = absurd cc
read_at (y ∷ xs) zero x at = sym (inside at)
read_at (y ∷ xs) (suc i) x at = read_at xs i x at

-- those from a place on are the one there, and the others
pub from_place : {X : Type 0} (xs : List X) (i : ℕ) (x : X) → slice_get xs i ≡ Some x → drop i xs ≡ x ∷ drop (i + 1) xs
from_place [] i x at = absurd cc
from_place (y ∷ xs) zero x at = ap (λ z. z ∷ xs) (inside at)
from_place (y ∷ xs) (suc i) x at = from_place xs i x at ∙ ap (λ n. x ∷ drop n (y ∷ xs)) (let e : suc (i + 1) ≡ suc i + 1 = omega arith in e)

-- a lemma that was laid out alone
pub alone_at : (flat : List Piece) (lemmas : List Lemma) (lemma : Lemma) (piece : Piece) → flat ≡ map piece_of lemmas → lemmas ≡ lemma ∷ [] → slice_get flat 0 ≡ Some piece → piece ≡ piece_of lemma
alone_at flat lemmas lemma piece are one at =
    let first : slice_get flat 0 ≡ Some (piece_of lemma) = ap (λ ps. slice_get ps 0) (are ∙ ap (map piece_of) one) in
    inside (sym at ∙ first)

pub alone_narrow : (lemmas : List Lemma) (lemma : Lemma) → lemmas ≡ lemma ∷ [] → IsNarrow (tree_of lemma.tree) → All (λ (l : Lemma). IsNarrow (tree_of l.tree)) lemmas
alone_narrow lemmas lemma one narrow = subst (λ (ls : List Lemma). All (λ (l : Lemma). IsNarrow (tree_of l.tree)) ls) (sym one) each
  where
    each : All (λ (l : Lemma). IsNarrow (tree_of l.tree)) (lemma ∷ [])
    each zero d lt = narrow
    each (suc k) d lt = absurd (omega (arith, lt))
