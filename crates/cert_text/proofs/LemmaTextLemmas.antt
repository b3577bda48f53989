-- The lines of symmetries and of lemmas: what is read is what was written, and what was written is read again.
use Rattle.std.proofs.Common.{◌≡◌, ℕ, ◌+◌, ◌<◌, ◌≤◌, ◌^◌, Bool, true, false, cond, eqb, zero, suc, List, [], ◌∷◌, ◌++◌, length, map, Result, Ok, Err, refl, sym, ap, subst, ◌∙◌, arith, codes}
use Rattle.match_limits.specs.declared.TheConstants.{LAST_SIDE, LAST_TURN, MOST_COLOURS, LAST_LEMMA}
use Rattle.std.specs.Fmt.{decimal}
use Rattle.std.specs.List.{AllByRecursion}
use Rattle.std.specs.Str.{bytes_eq}
use Rattle.std.specs.Str.Parse.{AllDigits}
use Rattle.std.proofs.lemmas.Str.Parse.{digit_from_value}
use Rattle.std.proofs.lemmas.Fmt.{digits_decimal}
use Rattle.std.proofs.lemmas.Bool.{ne_eqb}
use Rattle.std.proofs.lemmas.Slice.Eq.{bytes_eq-Decides}
use Rattle.match_puzzle.specs.declared.placements.Pair.{Pair}
use Rattle.match_board.specs.declared.symmetry_lines.SymmetryLine.{SymmetryLine}
use Rattle.match_limits.specs.declared.ranges.Ranges.{Ranges}
use Rattle.match_limits.specs.Ranges.{AreRanges}
use Rattle.text_words.specs.declared.faults.TextKind.{TextKind}
use Rattle.text_words.specs.declared.faults.TextKind.TheVariants.{Word, Number}
use Rattle.text_words.specs.Bytes.{cut_at}
use Rattle.text_words.specs.PlainWords.{fixed_in, number_in, or_word}
use Rattle.text_words.specs.Words.{colour_in, pair_in}
use Rattle.text_words.specs.Place.{Read, ◌>>=◌, give, word_by, entries}
use Rattle.text_words.specs.Spelling.{colour_word, placement_word}
use Rattle.text_words.proofs.CutLemmas.{CutsShort, cuts_bind, cuts_give, cuts_word, cuts_entries, cuts_line}
use Rattle.text_words.proofs.WordLemmas.{Spells, after_word, judged_ok, judged_ok_is, judged_bind, or_word_is, cut_parts, cut_dot, own, spells_number, has_no, decimal_lacks, clean-decimal, clean-append, is_clean, are_clean}
use Rattle.text_words.proofs.PlacementLemmas.{last_fits, clean-placement}
use Rattle.text_words.proofs.ColourLemmas.{spells_colour, clean-colour}
use Rattle.text_words.proofs.LineLemmas.{TakesRest, TakesLines, takes_word, takes_then_rest, takes_all, takes_line}
use Rattle.cert_tree.specs.Certificate.{Piece}
use Rattle.cert_tree.specs.Tree.{Tree, Forest, branch, dead, found, same, image, none, more, count}
use Rattle.cert_tree.specs.Limits.{IsItemWithin, IsTreeWithin, AreTreesWithin, IsPairWithin, IsLemmaWithin}
use Rattle.cert_text.specs.CertificateText.{mirrored_in, symmetry_line, lemma_line}
use Rattle.cert_text.specs.CertificateSpelling.{mirrored_word, symmetry_words, pair_word, lemma_words, IsSymmetryWithin}
use Rattle.match_puzzle.specs.declared.items.Item.{Item}
use Rattle.match_puzzle.specs.declared.items.Item.TheVariants as items
use Rattle.cert_text.specs.Entries.{entries_before}
use Rattle.cert_text.specs.TreeText.{tree_by}
use Rattle.cert_text.specs.TreeSpelling.{tree_words, forest_words}
use Rattle.cert_text.proofs.FieldLemmas.{takes_field_rest, takes_last, takes_rest_as, takes_fixed, takes_few, takes_until, cuts_before}
use Rattle.cert_text.proofs.TreeTextLemmas.{takes_tree, cuts_tree}

abbrev pair_of : ℕ → ℕ → ℕ → Pair
pair_of cell tile turn = record { cell = cell; placement = record { tile = tile; turn = turn } }

-- ---- numbers from 0 on, and a sign

-- digits have no colon
digits_lack_colon : (word : List ℕ) → AllDigits 10 word → has_no 58 word ≡ true
digits_lack_colon [] digits = refl
digits_lack_colon (b ∷ word) digits =
    let range = digit_from_value b digits.0 in
    let other : eqb b 58 ≡ false = ne_eqb b 58 (omega (arith, range.1)) in
    rw (other, digits_lack_colon word digits.1) refl

decimal_lacks_colon : (n : ℕ) → n < 2 ^ 64 → has_no 58 (decimal n) ≡ true
decimal_lacks_colon n lt = digits_lack_colon (decimal n) (own.to (decimal n) (digits_decimal own n lt))

spells_up_to : (most : ℕ) → most < 2 ^ 64 → Spells (number_in 0 most) decimal (λ n. n ≤ most)
spells_up_to most small = record {
  is = λ word n e. let h = (spells_number 0 most small).is word n e in (h.0, h.1.1);
  passes = λ n fits. (spells_number 0 most small).passes n (omega arith, fits);
}

mirrored_first : (word : List ℕ) (mirrored : Bool) (t u : Bool) → bytes_eq word (codes "+") ≡ t → bytes_eq word (codes "-") ≡ u → cond t (judged_ok false) (cond u (judged_ok true) (Err Word)) ≡ judged_ok mirrored → word ≡ mirrored_word mirrored
mirrored_first word mirrored true u is is' e = (bytes_eq-Decides word (codes "+")).0 is ∙ ap mirrored_word (judged_ok_is false mirrored e)
mirrored_first word mirrored false true is is' e = (bytes_eq-Decides word (codes "-")).0 is' ∙ ap mirrored_word (judged_ok_is true mirrored e)
mirrored_first word mirrored false false is is' e = absurd cc

mirrored_again : (mirrored : Bool) → mirrored_in (mirrored_word mirrored) ≡ Ok mirrored
mirrored_again false = refl
mirrored_again true = refl

spells_mirrored : Spells mirrored_in mirrored_word (λ _. Unit {0})
spells_mirrored = record {
  is = λ word mirrored e. (mirrored_first word mirrored (bytes_eq word (codes "+")) (bytes_eq word (codes "-")) refl refl e, tt);
  passes = λ mirrored fits. mirrored_again mirrored;
}

-- ---- words that end a run of entries

-- a word that the test refuses spells no value
apart_of : {X : Type 0} (test : List ℕ → Result X TextKind) (word_of : X → List ℕ) (Fits : X → Type 0) (stop : List ℕ) (kind : TextKind) → Spells test word_of Fits → test stop ≡ Err kind → (x : X) → Fits x → bytes_eq (word_of x) stop ≡ false
apart_of test word_of Fits stop kind spells refused x fits = by_test (bytes_eq (word_of x) stop) refl
  where
    clash : judged_ok x ≡ Err kind → ⊥
    clash e = absurd cc

    by_test : (b : Bool) → bytes_eq (word_of x) stop ≡ b → b ≡ false
    by_test true is = absurd (clash (sym (spells.passes x fits) ∙ ap test ((bytes_eq-Decides (word_of x) stop).0 is) ∙ refused))
    by_test false is = refl

no_colour : colour_in (codes "tiles") ≡ Err Word
unfolding colour_in
no_colour = refl

abbrev symmetry_of : ℕ → Bool → List ℕ → List ℕ → List ℕ → SymmetryLine
symmetry_of shift mirrored cells colours tiles = record { shift = shift; mirrored = mirrored; cells = cells; colours = colours; tiles = tiles }

abbrev piece : ℕ → List Pair → Tree → Piece
piece number prefix tree = record { number = number; prefix = prefix; tree = tree }

-- ---- words with no space and no LF

abbrev pub AreClean : List (List ℕ) → Type 0
AreClean words = AllByRecursion (λ word. is_clean word ≡ true) words

pub clean_line : (word : List ℕ) (words : List (List ℕ)) → is_clean word ≡ true → AreClean words → are_clean (word ∷ words) ≡ true
clean_line word [] one others = one
clean_line word (w ∷ words) one others = rw one (clean_line w words others.0 others.1)

pub clean_both : (words others : List (List ℕ)) → AreClean words → AreClean others → AreClean (words ++ others)
clean_both [] others a b = b
clean_both (word ∷ words) others a b = (a.0, clean_both words others a.1 b)

clean_each : {X : Type 0} (word_of : X → List ℕ) (Fits : X → Type 0) → ((x : X) → Fits x → is_clean (word_of x) ≡ true) → (xs : List X) → AllByRecursion Fits xs → AreClean (map word_of xs)
clean_each word_of Fits clean [] fits = tt
clean_each word_of Fits clean (x ∷ xs) fits = (clean x fits.0, clean_each word_of Fits clean xs fits.1)

clean_number : (n : ℕ) → n ≤ LAST_LEMMA → is_clean (decimal n) ≡ true
clean_number n few = clean-decimal n (omega (arith, few))

clean_mirrored : (mirrored : Bool) → is_clean (mirrored_word mirrored) ≡ true
clean_mirrored false = refl
clean_mirrored true = refl

-- ---- a line that is cut short

cuts_fixed : {X : Type 0} (wanted : List ℕ) (r : Read X) → CutsShort r → CutsShort (word_by (fixed_in wanted) >>= λ _. r)
cuts_fixed wanted r cuts = cuts_bind (word_by (fixed_in wanted)) (λ _. r) (cuts_word (fixed_in wanted)) (λ _. cuts)

-- ---- what is read in these ranges

module _ (ranges : Ranges) (are : AreRanges ranges) where
  last_below : ranges.last_cell ≤ LAST_LEMMA
  last_below = omega (arith, are.few, are.last)

  children_below : ranges.most_children ≤ LAST_LEMMA
  children_below = omega (arith, are.few, are.children)

  -- ---- a pair

  pair_is : (word : List ℕ) (x : Pair) → pair_in ranges word ≡ judged_ok x → (word ≡ pair_word x) × IsPairWithin ranges.most_cells x
  unfolding pair_in
  pair_is word x e =
      let a = judged_bind (or_word (cut_at 58 word)) (λ parts. after_word (or_word (cut_at 46 parts.1)) (λ placed. after_word (number_in 0 ranges.last_cell parts.0) (λ cell. after_word (number_in 0 ranges.last_cell placed.0) (λ tile. after_word (number_in 0 LAST_TURN placed.1) (λ turn. judged_ok (pair_of cell tile turn)))))) x e in
      let b = judged_bind (or_word (cut_at 46 a.0.1)) (λ placed. after_word (number_in 0 ranges.last_cell a.0.0) (λ cell. after_word (number_in 0 ranges.last_cell placed.0) (λ tile. after_word (number_in 0 LAST_TURN placed.1) (λ turn. judged_ok (pair_of cell tile turn))))) x a.2 in
      let d = judged_bind (number_in 0 ranges.last_cell a.0.0) (λ cell. after_word (number_in 0 ranges.last_cell b.0.0) (λ tile. after_word (number_in 0 LAST_TURN b.0.1) (λ turn. judged_ok (pair_of cell tile turn)))) x b.2 in
      let g = judged_bind (number_in 0 ranges.last_cell b.0.0) (λ tile. after_word (number_in 0 LAST_TURN b.0.1) (λ turn. judged_ok (pair_of d.0 tile turn))) x d.2 in
      let h = judged_bind (number_in 0 LAST_TURN b.0.1) (λ turn. judged_ok (pair_of d.0 g.0 turn)) x g.2 in
      let cell = (spells_number 0 ranges.last_cell (last_fits ranges are)).is a.0.0 d.0 d.1 in
      let tile = (spells_number 0 ranges.last_cell (last_fits ranges are)).is b.0.0 g.0 g.1 in
      let turn = (spells_number 0 LAST_TURN (omega arith)).is b.0.1 h.0 h.1 in
      let placed : a.0.1 ≡ decimal g.0 ++ 46 ∷ decimal h.0 = cut_parts 46 a.0.1 b.0 (or_word_is (cut_at 46 a.0.1) b.0 b.1) ∙ ap (λ w. w ++ 46 ∷ b.0.1) tile.0 ∙ ap (λ w. decimal g.0 ++ 46 ∷ w) turn.0 in
      let whole : word ≡ decimal d.0 ++ 58 ∷ (decimal g.0 ++ 46 ∷ decimal h.0) = cut_parts 58 word a.0 (or_word_is (cut_at 58 word) a.0 a.1) ∙ ap (λ w. w ++ 58 ∷ a.0.1) cell.0 ∙ ap (λ w. decimal d.0 ++ 58 ∷ w) placed in
      subst (λ (z : Pair). (word ≡ pair_word z) × IsPairWithin ranges.most_cells z) (judged_ok_is (pair_of d.0 g.0 h.0) x h.2) (whole, (omega (arith, cell.1.1, are.last), omega (arith, tile.1.1, are.last), turn.1.1))

  pair_again : (x : Pair) → IsPairWithin ranges.most_cells x → pair_in ranges (pair_word x) ≡ Ok x
  unfolding pair_in
  pair_again x fits =
      let placed = x.placement in
      rw (
        cut_dot 58 (decimal x.cell) (placement_word placed) (decimal_lacks_colon x.cell (omega (arith, fits.0, are.last, last_fits ranges are))),
        cut_dot 46 (decimal placed.tile) (decimal placed.turn) (decimal_lacks 46 placed.tile (omega arith) (omega (arith, fits.1, are.last, last_fits ranges are))),
        (spells_number 0 ranges.last_cell (last_fits ranges are)).passes x.cell (omega arith, omega (arith, fits.0, are.last)),
        (spells_number 0 ranges.last_cell (last_fits ranges are)).passes placed.tile (omega arith, omega (arith, fits.1, are.last)),
        (spells_number 0 LAST_TURN (omega arith)).passes placed.turn (omega arith, fits.2),
      ) refl

  pub spells_pair : Spells (pair_in ranges) pair_word (IsPairWithin ranges.most_cells)
  spells_pair = record { is = pair_is; passes = pair_again }

  no_number : number_in 0 ranges.last_cell (codes "colours") ≡ Err Number
  unfolding number_in
  no_number = refl

  no_pair : pair_in ranges (codes "tree") ≡ Err Word
  unfolding pair_in
  no_pair = refl

  -- ---- a symmetry's line

  abbrev tiles_then : ℕ → Bool → List ℕ → List ℕ → Read SymmetryLine
  tiles_then shift mirrored cells colours = entries ranges.most_cells (number_in 0 ranges.last_cell) >>= λ tiles. give (symmetry_of shift mirrored cells colours tiles)

  abbrev colours_then : ℕ → Bool → List ℕ → Read SymmetryLine
  colours_then shift mirrored cells = entries_before (codes "tiles") MOST_COLOURS colour_in >>= λ colours. word_by (fixed_in (codes "tiles")) >>= λ _. tiles_then shift mirrored cells colours

  abbrev cells_then : ℕ → Bool → Read SymmetryLine
  cells_then shift mirrored = entries_before (codes "colours") ranges.most_cells (number_in 0 ranges.last_cell) >>= λ cells. word_by (fixed_in (codes "colours")) >>= λ _. colours_then shift mirrored cells

  abbrev WithColours : ℕ → Bool → List ℕ → List ℕ → SymmetryLine → Type 0
  WithColours shift mirrored cells colours g = ((length g.tiles ≤ ranges.most_cells) × AllByRecursion (λ n. n ≤ ranges.last_cell) g.tiles) × (g ≡ symmetry_of shift mirrored cells colours g.tiles)

  abbrev WithCells : ℕ → Bool → List ℕ → SymmetryLine → Type 0
  WithCells shift mirrored cells g = ((length g.colours ≤ MOST_COLOURS) × AllByRecursion (λ n. n < MOST_COLOURS) g.colours) × WithColours shift mirrored cells g.colours g

  abbrev WithSign : ℕ → Bool → SymmetryLine → Type 0
  WithSign shift mirrored g = ((length g.cells ≤ ranges.most_cells) × AllByRecursion (λ n. n ≤ ranges.last_cell) g.cells) × WithCells shift mirrored g.cells g

  abbrev WithShift : ℕ → SymmetryLine → Type 0
  WithShift shift g = Unit {0} × WithSign shift g.mirrored g

  takes_tiles : (shift : ℕ) (mirrored : Bool) (cells colours : List ℕ) → TakesRest (tiles_then shift mirrored cells colours) (λ g. map decimal g.tiles) (WithColours shift mirrored cells colours)
  takes_tiles shift mirrored cells colours =
      takes_last (entries ranges.most_cells (number_in 0 ranges.last_cell)) (map decimal) (λ xs. (length xs ≤ ranges.most_cells) × AllByRecursion (λ n. n ≤ ranges.last_cell) xs) (symmetry_of shift mirrored cells colours) (λ g. g.tiles)
      (takes_few (number_in 0 ranges.last_cell) decimal (λ n. n ≤ ranges.last_cell) (spells_up_to ranges.last_cell (last_fits ranges are)) ranges.most_cells) (λ xs. refl)

  takes_colours : (shift : ℕ) (mirrored : Bool) (cells : List ℕ) → TakesRest (colours_then shift mirrored cells) (λ g. map colour_word g.colours ++ (codes "tiles" ∷ map decimal g.tiles)) (WithCells shift mirrored cells)
  takes_colours shift mirrored cells =
      takes_until colour_in colour_word (λ n. n < MOST_COLOURS) spells_colour (codes "tiles") (apart_of colour_in colour_word (λ n. n < MOST_COLOURS) (codes "tiles") Word spells_colour no_colour) MOST_COLOURS
      (tiles_then shift mirrored cells) (λ g. g.colours) (λ g. map decimal g.tiles) (WithColours shift mirrored cells) (takes_tiles shift mirrored cells) (λ colours g fits. ap (λ (h : SymmetryLine). h.colours) fits.1)

  takes_cells : (shift : ℕ) (mirrored : Bool) → TakesRest (cells_then shift mirrored) (λ g. map decimal g.cells ++ (codes "colours" ∷ (map colour_word g.colours ++ (codes "tiles" ∷ map decimal g.tiles)))) (WithSign shift mirrored)
  takes_cells shift mirrored =
      takes_until (number_in 0 ranges.last_cell) decimal (λ n. n ≤ ranges.last_cell) (spells_up_to ranges.last_cell (last_fits ranges are)) (codes "colours") (apart_of (number_in 0 ranges.last_cell) decimal (λ n. n ≤ ranges.last_cell) (codes "colours") Number (spells_up_to ranges.last_cell (last_fits ranges are)) no_number) ranges.most_cells
      (colours_then shift mirrored) (λ g. g.cells) (λ g. map colour_word g.colours ++ (codes "tiles" ∷ map decimal g.tiles)) (WithCells shift mirrored) (takes_colours shift mirrored) (λ cells g fits. ap (λ (h : SymmetryLine). h.cells) fits.1.1)

  abbrev sign_then : ℕ → Read SymmetryLine
  sign_then shift = word_by mirrored_in >>= λ mirrored. word_by (fixed_in (codes "cells")) >>= λ _. cells_then shift mirrored

  abbrev after_sign : SymmetryLine → List (List ℕ)
  after_sign g = codes "cells" ∷ (map decimal g.cells ++ (codes "colours" ∷ (map colour_word g.colours ++ (codes "tiles" ∷ map decimal g.tiles))))

  takes_sign : (shift : ℕ) → TakesRest (sign_then shift) (λ g. mirrored_word g.mirrored ∷ after_sign g) (WithShift shift)
  takes_sign shift =
      takes_field_rest (word_by mirrored_in) (λ mirrored. mirrored_word mirrored ∷ []) (λ _. Unit {0}) (λ mirrored. word_by (fixed_in (codes "cells")) >>= λ _. cells_then shift mirrored) (λ g. g.mirrored) after_sign (WithSign shift)
      (takes_word mirrored_in mirrored_word (λ _. Unit {0}) spells_mirrored)
      (λ mirrored. takes_then_rest (word_by (fixed_in (codes "cells"))) (codes "cells" ∷ []) (cells_then shift mirrored) (λ g. map decimal g.cells ++ (codes "colours" ∷ (map colour_word g.colours ++ (codes "tiles" ∷ map decimal g.tiles)))) (WithSign shift mirrored)
      (takes_fixed (codes "cells")) (takes_cells shift mirrored))
      (λ mirrored g fits. ap (λ (h : SymmetryLine). h.mirrored) fits.1.1.1)

  abbrev symmetry_rest : Read SymmetryLine
  symmetry_rest = word_by (fixed_in (codes "symmetry")) >>= λ _. word_by (number_in 0 LAST_SIDE) >>= λ shift. sign_then shift

  takes_symmetry_rest : TakesRest symmetry_rest symmetry_words (IsSymmetryWithin ranges)
  takes_symmetry_rest =
      takes_rest_as symmetry_rest (λ g. (codes "symmetry" ∷ []) ++ ((decimal g.shift ∷ []) ++ (mirrored_word g.mirrored ∷ after_sign g))) symmetry_words (λ g. (g.shift ≤ LAST_SIDE) × WithShift g.shift g) (IsSymmetryWithin ranges) (λ g. refl)
      (λ g fits. record { shift = fits.0; cells = fits.1.1.0; colours = fits.1.1.1.0; tiles = fits.1.1.1.1.0 })
      (λ g fits. (fits.shift, (tt, (fits.cells, (fits.colours, (fits.tiles, refl))))))
      (takes_then_rest (word_by (fixed_in (codes "symmetry"))) (codes "symmetry" ∷ []) (word_by (number_in 0 LAST_SIDE) >>= sign_then) (λ g. (decimal g.shift ∷ []) ++ (mirrored_word g.mirrored ∷ after_sign g)) (λ g. (g.shift ≤ LAST_SIDE) × WithShift g.shift g)
      (takes_fixed (codes "symmetry"))
      (takes_field_rest (word_by (number_in 0 LAST_SIDE)) (λ n. decimal n ∷ []) (λ n. n ≤ LAST_SIDE) sign_then (λ g. g.shift) (λ g. mirrored_word g.mirrored ∷ after_sign g) WithShift
      (takes_word (number_in 0 LAST_SIDE) decimal (λ n. n ≤ LAST_SIDE) (spells_up_to LAST_SIDE (omega arith))) takes_sign (λ shift g fits. ap (λ (h : SymmetryLine). h.shift) fits.1.1.1.1)))

  clean_pair : (x : Pair) → IsPairWithin ranges.most_cells x → is_clean (pair_word x) ≡ true
  clean_pair x fits = clean-append (decimal x.cell) (58 ∷ placement_word x.placement) (clean_number x.cell (omega (arith, fits.0, are.last, last_below))) (rw (clean-placement ranges are x.placement (omega (arith, fits.1, are.last), fits.2)) refl)

  clean_images : (images : List ℕ) → AllByRecursion (λ n. n ≤ ranges.last_cell) images → AreClean (map decimal images)
  clean_images images fits = clean_each decimal (λ n. n ≤ ranges.last_cell) (λ n few. clean_number n (omega (arith, few, last_below))) images fits

  clean_symmetry : (g : SymmetryLine) → IsSymmetryWithin ranges g → are_clean (symmetry_words g) ≡ true
  clean_symmetry g fits =
      let tiles = clean_images g.tiles fits.tiles.1 in
      let colours = clean_both (map colour_word g.colours) (codes "tiles" ∷ map decimal g.tiles) (clean_each colour_word (λ n. n < MOST_COLOURS) (λ n lt. clean-colour n) g.colours fits.colours.1) (refl, tiles) in
      let cells = clean_both (map decimal g.cells) (codes "colours" ∷ (map colour_word g.colours ++ (codes "tiles" ∷ map decimal g.tiles))) (clean_images g.cells fits.cells.1) (refl, colours) in
      clean_line (codes "symmetry") (decimal g.shift ∷ mirrored_word g.mirrored ∷ after_sign g) refl (clean_number g.shift (omega (arith, fits.shift)), (clean_mirrored g.mirrored, (refl, cells)))

  clean_branch : (item : Item) (children : Forest) → IsItemWithin ranges.most_cells item → count children ≤ ranges.most_children → AreClean (forest_words children) → AreClean (tree_words (branch item children))
  clean_branch (items.Cell cell) children fits few others = (refl, (clean_number cell (omega (arith, fits, are.last, last_below)), (clean_number (count children) (omega (arith, few, children_below)), others)))
  clean_branch (items.Tile tile) children fits few others = (refl, (clean_number tile (omega (arith, fits, are.last, last_below)), (clean_number (count children) (omega (arith, few, children_below)), others)))

  clean_dead : (item : Item) → IsItemWithin ranges.most_cells item → AreClean (tree_words (dead item))
  clean_dead (items.Cell cell) fits = (refl, (clean_number cell (omega (arith, fits, are.last, last_below)), tt))
  clean_dead (items.Tile tile) fits = (refl, (clean_number tile (omega (arith, fits, are.last, last_below)), tt))

  mutual
    clean_tree : (room : ℕ) (tree : Tree) → IsTreeWithin ranges.most_cells room tree → AreClean (tree_words tree)
    clean_tree zero tree fits = absurd fits
    clean_tree (suc room) (branch item children) fits = clean_branch item children fits.0 (omega (arith, fits.2, are.children)) (clean_forest room children fits.3)
    clean_tree (suc room) (dead item) fits = clean_dead item fits
    clean_tree (suc room) (found number) fits = (refl, (clean_number number fits, tt))
    clean_tree (suc room) (same lemma) fits = (refl, (clean_number lemma fits, tt))
    clean_tree (suc room) (image lemma symmetry) fits = (refl, (clean_number lemma fits.0, (clean_number symmetry (omega (arith, fits.1)), tt)))

    clean_forest : (room : ℕ) (trees : Forest) → AreTreesWithin ranges.most_cells room trees → AreClean (forest_words trees)
    clean_forest room none fits = tt
    clean_forest room (more tree trees) fits = clean_both (tree_words tree) (forest_words trees) (clean_tree room tree fits.0) (clean_forest room trees fits.1)

  pub clean_lemma : (piece : Piece) → IsLemmaWithin ranges.most_cells piece → are_clean (lemma_words piece) ≡ true
  clean_lemma piece fits =
      let pairs = clean_both (map pair_word piece.prefix) (codes "tree" ∷ tree_words piece.tree) (clean_each pair_word (IsPairWithin ranges.most_cells) clean_pair piece.prefix fits.pairs) (refl, clean_tree (ranges.most_cells + 1) piece.tree fits.tree) in
      clean_line (codes "lemma") (decimal piece.number ∷ codes "prefix" ∷ (map pair_word piece.prefix ++ (codes "tree" ∷ tree_words piece.tree))) refl (clean_number piece.number fits.number, (refl, pairs))

  -- ---- a lemma's line

  abbrev tree_then : ℕ → List Pair → Read Piece
  tree_then number prefix = tree_by ranges ranges.most_levels >>= λ tree. give (piece number prefix tree)

  abbrev pairs_then : ℕ → Read Piece
  pairs_then number = entries_before (codes "tree") ranges.most_cells (pair_in ranges) >>= λ prefix. word_by (fixed_in (codes "tree")) >>= λ _. tree_then number prefix

  abbrev number_then : ℕ → Read Piece
  number_then number = word_by (fixed_in (codes "prefix")) >>= λ _. pairs_then number

  abbrev WithPairs : ℕ → List Pair → Piece → Type 0
  WithPairs number prefix x = IsTreeWithin ranges.most_cells ranges.most_levels x.tree × (x ≡ piece number prefix x.tree)

  abbrev WithNumber : ℕ → Piece → Type 0
  WithNumber number x = ((length x.prefix ≤ ranges.most_cells) × AllByRecursion (IsPairWithin ranges.most_cells) x.prefix) × WithPairs number x.prefix x

  takes_tree_rest : (number : ℕ) (prefix : List Pair) → TakesRest (tree_then number prefix) (λ x. tree_words x.tree) (WithPairs number prefix)
  takes_tree_rest number prefix = takes_last (tree_by ranges ranges.most_levels) tree_words (IsTreeWithin ranges.most_cells ranges.most_levels) (piece number prefix) (λ x. x.tree) (takes_all (tree_by ranges ranges.most_levels) tree_words (IsTreeWithin ranges.most_cells ranges.most_levels) (takes_tree ranges are ranges.most_levels)) (λ tree. refl)

  abbrev after_number : Piece → List (List ℕ)
  after_number x = codes "prefix" ∷ (map pair_word x.prefix ++ (codes "tree" ∷ tree_words x.tree))

  takes_pairs : (number : ℕ) → TakesRest (number_then number) after_number (WithNumber number)
  takes_pairs number =
      takes_then_rest (word_by (fixed_in (codes "prefix"))) (codes "prefix" ∷ []) (pairs_then number) (λ x. map pair_word x.prefix ++ (codes "tree" ∷ tree_words x.tree)) (WithNumber number)
      (takes_fixed (codes "prefix"))
      (takes_until (pair_in ranges) pair_word (IsPairWithin ranges.most_cells) spells_pair (codes "tree") (apart_of (pair_in ranges) pair_word (IsPairWithin ranges.most_cells) (codes "tree") Word spells_pair no_pair) ranges.most_cells
      (tree_then number) (λ x. x.prefix) (λ x. tree_words x.tree) (WithPairs number) (takes_tree_rest number) (λ prefix x fits. ap (λ (y : Piece). y.prefix) fits.1))

  abbrev lemma_rest : Read Piece
  lemma_rest = word_by (fixed_in (codes "lemma")) >>= λ _. word_by (number_in 0 LAST_LEMMA) >>= λ number. number_then number

  takes_lemma_rest : TakesRest lemma_rest lemma_words (IsLemmaWithin ranges.most_cells)
  takes_lemma_rest =
      takes_rest_as lemma_rest (λ x. (codes "lemma" ∷ []) ++ ((decimal x.number ∷ []) ++ after_number x)) lemma_words (λ x. (x.number ≤ LAST_LEMMA) × WithNumber x.number x) (IsLemmaWithin ranges.most_cells) (λ x. refl)
      (λ x fits. record { number = fits.0; few_pairs = fits.1.0.0; pairs = fits.1.0.1; tree = subst (λ n. IsTreeWithin ranges.most_cells n x.tree) are.levels fits.1.1.0 })
      (λ x fits. (fits.number, ((fits.few_pairs, fits.pairs), (subst (λ n. IsTreeWithin ranges.most_cells n x.tree) (sym are.levels) fits.tree, refl))))
      (takes_then_rest (word_by (fixed_in (codes "lemma"))) (codes "lemma" ∷ []) (word_by (number_in 0 LAST_LEMMA) >>= number_then) (λ x. (decimal x.number ∷ []) ++ after_number x) (λ x. (x.number ≤ LAST_LEMMA) × WithNumber x.number x)
      (takes_fixed (codes "lemma"))
      (takes_field_rest (word_by (number_in 0 LAST_LEMMA)) (λ n. decimal n ∷ []) (λ n. n ≤ LAST_LEMMA) number_then (λ x. x.number) after_number WithNumber
      (takes_word (number_in 0 LAST_LEMMA) decimal (λ n. n ≤ LAST_LEMMA) (spells_up_to LAST_LEMMA (omega arith))) takes_pairs (λ number x fits. ap (λ (y : Piece). y.number) fits.1.1)))

  -- ---- whole lines

  pub takes_symmetry : TakesLines (symmetry_line ranges) (λ g. symmetry_words g ∷ []) (IsSymmetryWithin ranges)
  unfolding symmetry_line
  takes_symmetry = takes_line symmetry_rest symmetry_words (IsSymmetryWithin ranges) takes_symmetry_rest clean_symmetry

  pub takes_lemma : TakesLines (lemma_line ranges) (λ x. lemma_words x ∷ []) (IsLemmaWithin ranges.most_cells)
  unfolding lemma_line
  takes_lemma = takes_line lemma_rest lemma_words (IsLemmaWithin ranges.most_cells) takes_lemma_rest clean_lemma

  -- ---- lines that are cut short

  pub cuts_symmetry : CutsShort (symmetry_line ranges)
  unfolding symmetry_line
  cuts_symmetry =
      cuts_line symmetry_rest (cuts_fixed (codes "symmetry") (word_by (number_in 0 LAST_SIDE) >>= sign_then)
      (cuts_bind (word_by (number_in 0 LAST_SIDE)) sign_then (cuts_word (number_in 0 LAST_SIDE)) (λ shift.
      cuts_bind (word_by mirrored_in) (λ mirrored. word_by (fixed_in (codes "cells")) >>= λ _. cells_then shift mirrored) (cuts_word mirrored_in) (λ mirrored.
      cuts_fixed (codes "cells") (cells_then shift mirrored)
      (cuts_bind (entries_before (codes "colours") ranges.most_cells (number_in 0 ranges.last_cell)) (λ cells. word_by (fixed_in (codes "colours")) >>= λ _. colours_then shift mirrored cells) (cuts_before (codes "colours") ranges.most_cells (number_in 0 ranges.last_cell)) (λ cells.
      cuts_fixed (codes "colours") (colours_then shift mirrored cells)
      (cuts_bind (entries_before (codes "tiles") MOST_COLOURS colour_in) (λ colours. word_by (fixed_in (codes "tiles")) >>= λ _. tiles_then shift mirrored cells colours) (cuts_before (codes "tiles") MOST_COLOURS colour_in) (λ colours.
      cuts_fixed (codes "tiles") (tiles_then shift mirrored cells colours)
      (cuts_bind (entries ranges.most_cells (number_in 0 ranges.last_cell)) (λ tiles. give (symmetry_of shift mirrored cells colours tiles)) (cuts_entries ranges.most_cells (number_in 0 ranges.last_cell)) (λ tiles. cuts_give (symmetry_of shift mirrored cells colours tiles)))))))))))

  pub cuts_lemma : CutsShort (lemma_line ranges)
  unfolding lemma_line
  cuts_lemma =
      cuts_line lemma_rest (cuts_fixed (codes "lemma") (word_by (number_in 0 LAST_LEMMA) >>= number_then)
      (cuts_bind (word_by (number_in 0 LAST_LEMMA)) number_then (cuts_word (number_in 0 LAST_LEMMA)) (λ number.
      cuts_fixed (codes "prefix") (pairs_then number)
      (cuts_bind (entries_before (codes "tree") ranges.most_cells (pair_in ranges)) (λ prefix. word_by (fixed_in (codes "tree")) >>= λ _. tree_then number prefix) (cuts_before (codes "tree") ranges.most_cells (pair_in ranges)) (λ prefix.
      cuts_fixed (codes "tree") (tree_then number prefix)
      (cuts_bind (tree_by ranges ranges.most_levels) (λ tree. give (piece number prefix tree)) (cuts_tree ranges are ranges.most_levels) (λ tree. cuts_give (piece number prefix tree))))))))
