-- The list that is read is the one that was written, and what was written is read again.
use Rattle.std.proofs.Common.{◌≡◌, ◌≢◌, ℕ, ◌+◌, ◌<◌, ◌≤◌, List, [], ◌∷◌, ◌++◌, length, take, map, Result, Ok, Err, refl, sym, ap, subst, ◌∙◌, append_assoc, arith, codes, inl, inr}
use Rattle.match_limits.specs.declared.TheConstants.{MOST_ARRANGEMENTS}
use Rattle.std.specs.Prelude.{IfOk}
use Rattle.std.specs.Global.{Vec}
use Rattle.std.specs.List.{flat_map, AllByRecursion}
use Rattle.std.proofs.lemmas.List.{append-nil}
use Rattle.std.proofs.lemmas.List.Concat.{flat_map_single}
use Rattle.match_puzzle.specs.declared.placements.Placement.{Placement}
use Rattle.text_words.specs.declared.faults.TextKind.TheVariants.{Ends}
use Rattle.text_words.specs.declared.faults.ReadFault.{ReadFault}
use Rattle.text_words.specs.Bytes.{line_ends}
use Rattle.text_words.specs.Laws.{ReadsSpellingsAlone, ReadsEachSpelling, EndsWhereCut}
use Rattle.text_words.specs.Words.{placement_in}
use Rattle.text_words.specs.Place.{Place, Read, ◌>>=◌, give, fail, Says, some_entries, times, opening, counted, closing, start}
use Rattle.text_words.specs.declared.faults.TextFault.{TextFault}
use Rattle.match_limits.specs.declared.ranges.Ranges.{Ranges}
use Rattle.match_limits.specs.declared.ranges.TheConstants.{FIRST, SECOND}
use Rattle.match_limits.specs.Ranges.{ranges_of, AreRanges}
use Rattle.match_text.specs.Lists.{ListSaid, arrangement_line, list_text, list_said, rows_of, list_of}
use Rattle.text_words.specs.Spelling.{text_of, placement_word, first_words, count_words, end_lines}
use Rattle.match_text.specs.ListSpelling.{arrangement_words, list_head, list_lines, list_spelling, said_spelling, IsRowWithin, IsListWithin, IsSpelledIn, IsSaidWithin}
use Rattle.text_words.proofs.CutLemmas.{CutsShort, LeavesNothing, place, bind_ok, ok_is, cuts_bind, cuts_give, cuts_some_entries, cuts_line, cuts_times, cuts_opening, cuts_counted, cuts_closing, leaves_closing, leaves_after}
use Rattle.text_words.proofs.PlacementLemmas.{spells_placement, clean-row}
use Rattle.text_words.proofs.LineLemmas.{TakesLines, takes_line, takes_entries, takes_opening, takes_counted, closing_is, closing_again, times_is, times_again, lines_then, lines_apart}
use Rattle.text_words.proofs.TextLaws.{reads_alone, reads_each, ends_where_cut}
use Rattle.text_words.proofs.WritingLemmas.{text_of-append}
use Rattle.match_limits.proofs.RangesLemmas.{are_ranges, first_is, second_is}
use Rattle.text_words.specs.Within.{IsPlacementWithin}

takes_arrangement : (ranges : Ranges) → AreRanges ranges → TakesLines (arrangement_line ranges) (λ row. arrangement_words row ∷ []) (IsRowWithin ranges)
unfolding arrangement_line
takes_arrangement ranges are =
    takes_line (some_entries ranges.most_cells (placement_in ranges)) arrangement_words (IsRowWithin ranges)
    (takes_entries (placement_in ranges) placement_word (IsPlacementWithin ranges) (spells_placement ranges are) ranges.most_cells) (λ row fits. clean-row ranges are row fits.0 fits.2)

abbrev row_lines : List (List Placement) → List (List (List ℕ))
row_lines rows = flat_map (λ row. arrangement_words row ∷ []) rows

lines_are : (version : ℕ) (rows : List (List Placement)) → list_lines version rows ≡ list_head version (length rows) ++ (row_lines rows ++ end_lines)
lines_are version rows = ap (λ ls. list_head version (length rows) ++ (ls ++ end_lines)) (sym (flat_map_single arrangement_words rows))

-- what is still read behind each line
abbrev said_by : ℕ → List (List Placement) → ListSaid
said_by version rows = record { version = version; rows = rows }

abbrev after_rows : ℕ → List (List Placement) → Read ListSaid
after_rows version rows = closing >>= λ _. give (said_by version rows)

abbrev after_count : ℕ → ℕ → Read ListSaid
after_count version count = times count (arrangement_line (ranges_of version)) >>= λ rows. after_rows version rows

abbrev after_opening : ℕ → Read ListSaid
after_opening version = counted (codes "arrangements") 0 MOST_ARRANGEMENTS >>= λ count. after_count version count

abbrev list_opening : Read ℕ
list_opening = opening (codes "list")

abbrev list_count : Read ℕ
list_count = counted (codes "arrangements") 0 MOST_ARRANGEMENTS

abbrev lines_of_said : ListSaid → List (List (List ℕ))
lines_of_said said = list_lines said.version said.rows

list_is : (p : Place) (x : ListSaid × Place) → list_text p ≡ Ok x → (p.ahead ≡ text_of (lines_of_said x.0)) × IsSaidWithin x.0
unfolding list_text
list_is p x e =
    let o = bind_ok (list_opening p) after_opening x e in
    let version = o.0.0 in
    let line = arrangement_line (ranges_of version) in
    let a = bind_ok (list_count o.0.1) (after_count version) x o.2 in
    let b = bind_ok (times a.0.0 line a.0.1) (after_rows version) x a.2 in
    let d = bind_ok (closing b.0.1) (λ _. give (said_by version b.0.0)) x b.2 in
    let rows = b.0.0 in
    let zero_th = (takes_opening (codes "list") refl).is p version o.0.1 o.1 in
    let one = (takes_counted (codes "arrangements") 0 MOST_ARRANGEMENTS refl (omega arith)).is o.0.1 a.0.0 a.0.1 a.1 in
    let two = times_is line (λ row. arrangement_words row ∷ []) (IsRowWithin (ranges_of version)) (takes_arrangement (ranges_of version) (are_ranges version)) a.0.0 a.0.1 rows b.0.1 b.1 in
    let three : b.0.1.ahead ≡ text_of end_lines ++ [] = closing_is b.0.1 d.0 d.1 ∙ sym (append-nil (text_of end_lines)) in
    let later = lines_then a.0.1.ahead (row_lines rows) end_lines b.0.1.ahead [] two.0 three in
    let head : p.ahead ≡ text_of (list_head version a.0.0) ++ a.0.1.ahead = lines_then p.ahead (first_words (codes "list") version ∷ []) (count_words (codes "arrangements") a.0.0 ∷ []) o.0.1.ahead a.0.1.ahead zero_th.0 one.0 in
    let first : p.ahead ≡ text_of (list_head version (length rows)) ++ a.0.1.ahead = subst (λ n. p.ahead ≡ text_of (list_head version n) ++ a.0.1.ahead) (sym two.1) head in
    let whole = lines_then p.ahead (list_head version (length rows)) (row_lines rows ++ end_lines) a.0.1.ahead [] first later in
    let spelled : p.ahead ≡ text_of (list_lines version rows) = whole ∙ append-nil (text_of (list_head version (length rows) ++ (row_lines rows ++ end_lines))) ∙ ap text_of (sym (lines_are version rows)) in
    let small : length rows ≤ MOST_ARRANGEMENTS = omega (arith, one.1.1, two.1) in
    subst (λ (z : ListSaid × Place). (p.ahead ≡ text_of (lines_of_said z.0)) × IsSaidWithin z.0) (ok_is (said_by version rows, d.0.1) x d.2) (spelled, (zero_th.1, (small, two.2)))

list_again : (said : ListSaid) → IsSaidWithin said → (end : ℕ) × (list_text (start (text_of (lines_of_said said))) ≡ Ok (said, place end [] []))
unfolding list_text
list_again said fits =
    let version = said.version in
    let rows = said.rows in
    let last = text_of end_lines in
    let second = count_words (codes "arrangements") (length rows) ∷ [] in
    let zero_th = (takes_opening (codes "list") refl).passes version fits.0 0 [] (text_of second ++ (text_of (row_lines rows) ++ last)) in
    let one = (takes_counted (codes "arrangements") 0 MOST_ARRANGEMENTS refl (omega arith)).passes (length rows) (omega arith, fits.1.0) zero_th.0 [] (text_of (row_lines rows) ++ last) in
    let two = times_again (arrangement_line (ranges_of version)) (λ row. arrangement_words row ∷ []) (IsRowWithin (ranges_of version)) (takes_arrangement (ranges_of version) (are_ranges version)) rows fits.1.1 one.0 last in
    let three = closing_again two.0 [] in
    let apart : text_of (list_lines version rows) ≡ text_of (first_words (codes "list") version ∷ []) ++ (text_of second ++ (text_of (row_lines rows) ++ last)) =
    ap text_of (lines_are version rows) ∙ sym (append-nil (text_of (list_head version (length rows) ++ (row_lines rows ++ end_lines)))) ∙ lines_apart (list_head version (length rows)) (row_lines rows ++ end_lines) []
    ∙ ap (λ t. text_of (list_head version (length rows)) ++ t) (lines_apart (row_lines rows) end_lines [] ∙ ap (λ t. text_of (row_lines rows) ++ t) (append-nil last))
    ∙ lines_apart (first_words (codes "list") version ∷ []) second (text_of (row_lines rows) ++ last) in
    (three.0, rw (apart, zero_th.1, one.1, two.1, three.1) refl)

-- ---- texts that are cut short

cuts_arrangement : (ranges : Ranges) → CutsShort (arrangement_line ranges)
unfolding arrangement_line
cuts_arrangement ranges = cuts_line (some_entries ranges.most_cells (placement_in ranges)) (cuts_some_entries ranges.most_cells (placement_in ranges))

cuts_list : CutsShort list_text
unfolding list_text
cuts_list = cuts_bind list_opening after_opening (cuts_opening (codes "list"))
    (λ version. cuts_bind list_count (after_count version) (cuts_counted (codes "arrangements") 0 MOST_ARRANGEMENTS)
    (λ count. cuts_bind (times count (arrangement_line (ranges_of version))) (after_rows version) (cuts_times count (arrangement_line (ranges_of version)) (cuts_arrangement (ranges_of version)))
    (λ rows. cuts_bind closing (λ _. give (said_by version rows)) cuts_closing (λ _. cuts_give (said_by version rows)))))

list_leaves : LeavesNothing list_text
unfolding list_text
list_leaves = leaves_after list_opening after_opening
    (λ version. leaves_after list_count (after_count version)
    (λ count. leaves_after (times count (arrangement_line (ranges_of version))) (after_rows version) (λ rows. leaves_closing (said_by version rows))))

-- ---- the laws of `list_said`

-- what is read is spelled so
pub list_found : ReadsSpellingsAlone list_said IsSaidWithin said_spelling
unfolding list_said list_spelling
list_found = reads_alone list_text IsSaidWithin (λ said. text_of (lines_of_said said)) list_is

-- what is spelled so is read
pub list_only : ReadsEachSpelling list_said IsSaidWithin said_spelling
unfolding list_said list_spelling
list_only = reads_each list_text IsSaidWithin (λ said. text_of (lines_of_said said)) list_again

-- a text that is cut short ends at its last line
pub list_short : EndsWhereCut list_said
unfolding list_said
list_short = ends_where_cut list_text IsSaidWithin said_spelling cuts_list list_leaves

-- ---- the arrangements alone

rows_are : (outcome : Result ListSaid TextFault) (rows : List (List Placement)) → rows_of outcome ≡ Ok rows → (said : ListSaid) × (outcome ≡ Ok said) × (said.rows ≡ rows)
rows_are (Ok said) rows e = (said, refl, ok_is said.rows rows e)
rows_are (Err fault) rows e = absurd cc

-- what is read is spelled so, in some version
pub rows_found : (text : List ℕ) (rows : List (List Placement)) → list_of text ≡ Ok rows → (version : ℕ) × IsSpelledIn version rows × (text ≡ list_spelling version rows)
unfolding list_of
rows_found text rows e =
    let said = rows_are (list_said text) rows e in
    let found = list_found text said.0 said.1 in
    (said.0.version, subst (IsSpelledIn said.0.version) said.2 found.0, subst (λ (z : List (List Placement)). text ≡ list_spelling said.0.version z) said.2 found.1)

-- what is spelled in a version is read
pub rows_only : (version : ℕ) (rows : List (List Placement)) → IsSpelledIn version rows → list_of (list_spelling version rows) ≡ Ok rows
unfolding list_of
rows_only version rows fits = ap rows_of (list_only (said_by version rows) fits)

-- a spelling that is cut short ends at its last line
rows_short : (version : ℕ) (rows : List (List Placement)) (k : ℕ) → IsSpelledIn version rows → k < length (list_spelling version rows)
    → list_of (take k (list_spelling version rows)) ≡ fail (line_ends (take k (list_spelling version rows)) + 1) Ends
unfolding list_of
rows_short version rows k fits lt = ap rows_of (list_short (list_spelling version rows) (said_by version rows) k (list_only (said_by version rows) fits) lt)

-- ---- version 2 spells each list

placements_second : (ranges : Ranges) → AreRanges ranges → (row : List Placement) → AllByRecursion (IsPlacementWithin ranges) row → AllByRecursion (IsPlacementWithin SECOND) row
placements_second ranges are [] fits = tt
placements_second ranges are (p ∷ row) fits = ((omega (arith, fits.0.0, are.few, are.last), fits.0.1), placements_second ranges are row fits.1)

rows_second : (ranges : Ranges) → AreRanges ranges → (rows : List (List Placement)) → AllByRecursion (IsRowWithin ranges) rows → AllByRecursion (IsRowWithin SECOND) rows
rows_second ranges are [] fits = tt
rows_second ranges are (row ∷ rows) fits = ((fits.0.0, omega (arith, fits.0.1, are.few), placements_second ranges are row fits.0.2), rows_second ranges are rows fits.1)

pub spelled_second : (version : ℕ) (rows : List (List Placement)) → IsSpelledIn version rows → IsListWithin SECOND rows
spelled_second version rows fits = (fits.1.0, rows_second (ranges_of version) (are_ranges version) rows fits.1.1)

pub second_spelled : (rows : List (List Placement)) → IsListWithin SECOND rows → IsSpelledIn 2 rows
second_spelled rows fits = (inr refl, subst (λ (r : Ranges). IsListWithin r rows) (sym second_is) fits)

pub first_spelled : (rows : List (List Placement)) → IsListWithin FIRST rows → IsSpelledIn 1 rows
first_spelled rows fits = (inl refl, subst (λ (r : Ranges). IsListWithin r rows) (sym first_is) fits)

-- what is within the limits has a text, and nothing else
pub list_spelled : (rows : List (List Placement)) → IsListWithin SECOND rows → (text : List ℕ) × (list_of text ≡ Ok rows)
list_spelled rows fits = (list_spelling 2 rows, rows_only 2 rows (second_spelled rows fits))

pub list_unspelled : (rows : List (List Placement)) → (IsListWithin SECOND rows → ⊥) → (text : List ℕ) → list_of text ≢ Ok rows
list_unspelled rows not text e = let found = rows_found text rows e in not (spelled_second found.0 rows found.1)

-- ---- what a call returned

pub found_of : (text : List ℕ) (result : Result (Vec (List Placement)) ReadFault) → Says (λ rows. rows.items) result (list_of text) → IfOk result (λ rows. (version : ℕ) × IsSpelledIn version rows.items × (text ≡ list_spelling version rows.items))
found_of text (Ok rows) e = rows_found text rows.items e
found_of text (Err f) e = tt

pub within_of : (text : List ℕ) (result : Result (Vec (List Placement)) ReadFault) → Says (λ rows. rows.items) result (list_of text) → IfOk result (λ rows. IsListWithin SECOND rows.items)
within_of text (Ok rows) e = let found = rows_found text rows.items e in spelled_second found.0 rows.items found.1
within_of text (Err f) e = tt

pub only_of : (text : List ℕ) (result : Result (Vec (List Placement)) ReadFault) → Says (λ rows. rows.items) result (list_of text) → (version : ℕ) (rows : List (List Placement)) → IsSpelledIn version rows → text ≡ list_spelling version rows → Says (λ rows. rows.items) result (Ok rows)
only_of text result gives version rows fits e = subst (λ outcome. Says (λ rows. rows.items) result outcome) (ap list_of e ∙ rows_only version rows fits) gives

pub cut_of : (text : List ℕ) (result : Result (Vec (List Placement)) ReadFault) → Says (λ rows. rows.items) result (list_of text) → (version : ℕ) (rows : List (List Placement)) (k : ℕ) → IsSpelledIn version rows → k < length (list_spelling version rows)
    → text ≡ take k (list_spelling version rows) → Says (λ rows. rows.items) result (fail (line_ends text + 1) Ends)
cut_of text result gives version rows k fits lt e =
    subst (λ outcome. Says (λ rows. rows.items) result outcome) (ap list_of e ∙ rows_short version rows k fits lt ∙ ap (λ t. fail (line_ends t + 1) Ends) (sym e)) gives

-- ---- writing

-- what was written in a version that spells it is read again
pub reads_back : {E : Type 0} (version : ℕ) (rows : List (List Placement)) → IsSpelledIn version rows → (result : Result (Vec ℕ) E) → IfOk result (λ text. text.items ≡ list_spelling version rows) → IfOk result (λ text. list_of text.items ≡ Ok rows)
reads_back version rows fits (Ok text) e = ap list_of e ∙ rows_only version rows fits
reads_back version rows fits (Err error) e = tt

-- the parts of a spelling, one behind the other
pub list_parts : (version : ℕ) (rows : List (List Placement)) → list_spelling version rows ≡ (text_of (list_head version (length rows)) ++ text_of (map arrangement_words rows)) ++ text_of end_lines
unfolding list_spelling
list_parts version rows =
    let head = list_head version (length rows) in
    text_of-append head (map arrangement_words rows ++ end_lines) ∙ ap (λ t. text_of head ++ t) (text_of-append (map arrangement_words rows) end_lines)
    ∙ sym (append_assoc (text_of head) (text_of (map arrangement_words rows)) (text_of end_lines))

-- what stands before the arrangements
pub head_parts : (version count : ℕ) → text_of (list_head version count) ≡ text_of (first_words (codes "list") version ∷ []) ++ text_of (count_words (codes "arrangements") count ∷ [])
head_parts version count = text_of-append (first_words (codes "list") version ∷ []) (count_words (codes "arrangements") count ∷ [])
