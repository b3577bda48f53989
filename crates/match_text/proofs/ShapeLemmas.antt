-- Rows of a shape: what is read is what was written, and what was written is read again.
use Rattle.std.proofs.Common.{◌≡◌, ℕ, zero, suc, ◌+◌, ◌-◌, ◌*◌, ◌<◌, ◌≤◌, Bool, true, false, eqb, ◌&&◌, ◌||◌, List, [], ◌∷◌, ◌++◌, length, map, take, drop, Result, Ok, Err, refl, sym, ap, subst, ◌∙◌, append_assoc, arith, codes, length-append}
use Rattle.std.specs.Fmt.{decimal}
use Rattle.std.specs.List.{flat_map, list_all, AllByRecursion}
use Rattle.std.proofs.lemmas.List.{append-nil, length-map, length-take, length-drop, take-append-drop, take_all}
use Rattle.std.proofs.lemmas.Bool.{eqb-true, eq-eqb}
use Rattle.text_words.specs.declared.faults.TextFault.{TextFault}
use Rattle.text_words.specs.declared.faults.TextKind.{TextKind}
use Rattle.text_words.specs.declared.faults.TextKind.TheVariants.{Word}
use Rattle.text_words.specs.declared.faults.ReadFault.{ReadFault}
use Rattle.text_words.specs.declared.faults.ReadFault.TheVariants as faults
use Rattle.text_words.specs.PlainWords.{fixed_in, Judges}
use Rattle.text_words.specs.Words.{is_cell, is_mark, marks_in}
use Rattle.text_words.specs.Place.{Place, Read, go_on, give, first_word, other_words, next_line, judged, word_from, word_by, end_of_line, times, fail, Fails}
use Rattle.text_words.specs.Spelling.{line_text, text_of}
use Rattle.match_text.specs.PuzzleSpelling.{mark_character, row_words, row_lines, board_words, board_lines}
use Rattle.text_words.proofs.WritingLemmas.{text_of-append, line_alone}
use Rattle.match_board.specs.Board.{shape_of}
use Rattle.match_board.specs.declared.figures.Figure.{Figure}
use Rattle.match_board.specs.declared.figures.Figure.TheVariants.{Shape}
use Rattle.match_text.specs.Puzzles.{row_line, shape_by, shape_rows, AddsRow}
use Rattle.text_words.proofs.CutLemmas.{CutsShort, place, ok_is, cuts_word, cuts_word_line}
use Rattle.text_words.proofs.WordLemmas.{Spells, judged_ok, judged_ok_is, if_ok, both, is_clean, some, some_is}
use Rattle.text_words.proofs.LineLemmas.{TakesLines, takes_two_words}
use Rattle.text_words.proofs.LoopLemmas.{with_front, err_is, times_goes_on, times_fail, times_done}

-- ---- marks

mark_is : (c : ℕ) (t : Bool) → eqb c 35 ≡ t → (t || eqb c 46) ≡ true → c ≡ mark_character t
mark_is c true is e = eqb-true c 35 is
mark_is c false is e = eqb-true c 46 e

marks_are : (word : List ℕ) → list_all is_mark word ≡ true → word ≡ map mark_character (map is_cell word)
marks_are [] e = refl
marks_are (c ∷ word) e =
    let h = both (is_mark c) (list_all is_mark word) e in
    ap (λ x. x ∷ word) (mark_is c (eqb c 35) refl h.0) ∙ ap (λ xs. mark_character (is_cell c) ∷ xs) (marks_are word h.1)

are_marks : (row : List Bool) → list_all is_mark (map mark_character row) ≡ true
are_marks [] = refl
are_marks (true ∷ row) = are_marks row
are_marks (false ∷ row) = are_marks row

cells_are : (row : List Bool) → map is_cell (map mark_character row) ≡ row
cells_are [] = refl
cells_are (true ∷ row) = ap (λ xs. true ∷ xs) (cells_are row)
cells_are (false ∷ row) = ap (λ xs. false ∷ xs) (cells_are row)

clean-marks : (row : List Bool) → is_clean (map mark_character row) ≡ true
clean-marks [] = refl
clean-marks (true ∷ row) = clean-marks row
clean-marks (false ∷ row) = clean-marks row

-- a row of this width
abbrev pub IsRowOf : ℕ → List Bool → Type 0
IsRowOf width row = length row ≡ width

abbrev mark_word : List Bool → List ℕ
mark_word row = map mark_character row

marks_in_is : (width : ℕ) (word : List ℕ) (row : List Bool) → marks_in width word ≡ Ok row → (word ≡ mark_word row) × IsRowOf width row
unfolding marks_in
marks_in_is width word row e =
    let a = if_ok (eqb (length word) width && list_all is_mark word) (Ok (map is_cell word)) Word row e in
    let h = both (eqb (length word) width) (list_all is_mark word) a.0 in
    let long : length (map is_cell word) ≡ width = length-map word is_cell ∙ eqb-true (length word) width h.0 in
    subst (λ (z : List Bool). (word ≡ mark_word z) × IsRowOf width z) (judged_ok_is (map is_cell word) row a.1) (marks_are word h.1, long)

marks_in_again : (width : ℕ) (row : List Bool) → IsRowOf width row → marks_in width (mark_word row) ≡ Ok row
unfolding marks_in
marks_in_again width row fits =
    let long : eqb (length (mark_word row)) width ≡ true = eq-eqb (length (mark_word row)) width (length-map row mark_character ∙ fits) in
    rw (long, are_marks row) (ap judged_ok (cells_are row))

spells_marks : (width : ℕ) → Spells (marks_in width) mark_word (IsRowOf width)
spells_marks width = record { is = marks_in_is width; passes = marks_in_again width }

pub takes_row : (width : ℕ) → TakesLines (row_line width) (λ row. row_words row ∷ []) (IsRowOf width)
unfolding row_line
takes_row width = takes_two_words (codes "row") (marks_in width) mark_word (IsRowOf width) refl (spells_marks width) (λ row fits. clean-marks row)

pub cuts_row : (width : ℕ) → CutsShort (row_line width)
unfolding row_line
cuts_row width = cuts_word_line (codes "row") (word_by (marks_in width)) (cuts_word (marks_in width))

-- ---- a mask by its rows

abbrev pub joined : List (List Bool) → List Bool
joined rows = flat_map (λ row. row) rows

pub joined_length : (width : ℕ) (rows : List (List Bool)) → AllByRecursion (IsRowOf width) rows → length (joined rows) ≡ length rows * width
joined_length width [] fits = omega arith
joined_length width (row ∷ rows) fits = omega (arith, length-append row (joined rows), fits.0, joined_length width rows fits.1)

take_front : (row more : List Bool) → take (length row) (row ++ more) ≡ row
take_front [] more = refl
take_front (b ∷ row) more = ap (λ xs. b ∷ xs) (take_front row more)

drop_front : (row more : List Bool) → drop (length row) (row ++ more) ≡ more
drop_front [] more = refl
drop_front (b ∷ row) more = drop_front row more

-- the lines of a mask that begins with these rows
pub lines_of_rows : (width : ℕ) (rows : List (List Bool)) (more : List Bool) → AllByRecursion (IsRowOf width) rows → row_lines width (length rows) (joined rows ++ more) ≡ map row_words rows
lines_of_rows width [] more fits = refl
lines_of_rows width (row ∷ rows) more fits =
    let whole : (row ++ joined rows) ++ more ≡ row ++ (joined rows ++ more) = append_assoc row (joined rows) more in
    let front : take width ((row ++ joined rows) ++ more) ≡ row = ap (λ n. take n ((row ++ joined rows) ++ more)) (sym fits.0) ∙ ap (take (length row)) whole ∙ take_front row (joined rows ++ more) in
    let rest : drop width ((row ++ joined rows) ++ more) ≡ joined rows ++ more = ap (λ n. drop n ((row ++ joined rows) ++ more)) (sym fits.0) ∙ ap (drop (length row)) whole ∙ drop_front row (joined rows ++ more) in
    ap (λ r. row_words r ∷ row_lines width (length rows) (drop width ((row ++ joined rows) ++ more))) front ∙ ap (λ m. row_words row ∷ row_lines width (length rows) m) rest ∙ ap (λ ls. row_words row ∷ ls) (lines_of_rows width rows more fits.1)

-- marks, cut into so many rows
abbrev pub rows_cut : (width height : ℕ) → List Bool → List (List Bool)
rows_cut width zero marks = []
rows_cut width (suc height) marks = take width marks ∷ rows_cut width height (drop width marks)

-- these rows are the marks
pub record AreRowsOf (width height : ℕ) (marks : List Bool) (rows : List (List Bool)) : Type 0 where
  pub count : length rows ≡ height
  pub long : AllByRecursion (IsRowOf width) rows
  pub whole : joined rows ≡ marks

none_left : (marks : List Bool) → length marks ≡ 0 → [] ≡ marks
none_left [] e = refl
none_left (b ∷ marks) e = absurd (omega (arith, e))

pub rows_are_cut : (width height : ℕ) (marks : List Bool) → length marks ≡ height * width → AreRowsOf width height marks (rows_cut width height marks)
rows_are_cut width zero marks e = record { count = refl; long = tt; whole = none_left marks (omega (arith, e)) }
rows_are_cut width (suc height) marks e =
    let front : length (take width marks) ≡ width = omega (arith, length-take width marks, e) in
    let rest = rows_are_cut width height (drop width marks) (omega (arith, length-drop width marks, e)) in
    record { count = ap suc rest.count; long = (front, rest.long); whole = ap (λ xs. take width marks ++ xs) rest.whole ∙ take-append-drop width marks }

-- ---- a row that is read

row_from : (width : ℕ) (p : Place) (words : List (List ℕ)) (word : List ℕ) (judgement : Result (Unit {0}) TextKind) → first_word words ≡ some word → Judges (λ _. map is_cell word) judgement (marks_in width word)
    → (x : Unit {0}) (q : Place) → judged p (other_words words) judgement ≡ Ok (x, q) → word_from (marks_in width) p words ≡ Ok (map is_cell word, q)
row_from width p [] word judgement front is x q e = absurd cc
row_from width p (w ∷ others) word (Ok y) front is x q e =
    ap (judged p others) (ap (marks_in width) (some_is w word front) ∙ is) ∙ ap (λ (z : Unit {0} × Place). Ok (map is_cell word, z.1)) (ok_is (y, place p.line others p.ahead) (x, q) e)
row_from width p (w ∷ others) word (Err kind) front is x q e = absurd cc

-- where reading goes on after a row that was judged good
pub row_reads : (width : ℕ) (p : Place) (word : List ℕ) (judgement : Result (Unit {0}) TextKind) → first_word p.words ≡ some word → Judges (λ _. map is_cell word) judgement (marks_in width word)
    → (x : Unit {0}) (q : Place) → judged p (other_words p.words) judgement ≡ Ok (x, q) → word_by (marks_in width) p ≡ Ok (map is_cell word, q)
unfolding word_by
row_reads width p word judgement front is x q e = row_from width p p.words word judgement front is x q e

fails_from : (width : ℕ) (p : Place) (words : List (List ℕ)) (word : List ℕ) (judgement : Result (Unit {0}) TextKind) → first_word words ≡ some word → Judges (λ _. map is_cell word) judgement (marks_in width word)
    → (f : TextFault) → judged p (other_words words) judgement ≡ Err f → word_from (marks_in width) p words ≡ Err f
fails_from width p [] word judgement front is f e = absurd cc
fails_from width p (w ∷ others) word (Ok y) front is f e = absurd cc
fails_from width p (w ∷ others) word (Err kind) front is f e =
    ap (judged p others) (ap (marks_in width) (some_is w word front) ∙ is) ∙ ap (λ g. Err g) (err_is {A = Unit {0} × Place} (record { line = p.line; kind = kind }) f e)

pub row_fails : (width : ℕ) (p : Place) (word : List ℕ) (judgement : Result (Unit {0}) TextKind) → first_word p.words ≡ some word → Judges (λ _. map is_cell word) judgement (marks_in width word)
    → (f : TextFault) → judged p (other_words p.words) judgement ≡ Err f → word_by (marks_in width) p ≡ Err f
unfolding word_by
row_fails width p word judgement front is f e = fails_from width p p.words word judgement front is f e

-- a whole line
pub line_reads : (width : ℕ) (p a b d q : Place) (x y z : Unit {0}) (row : List Bool) → next_line p ≡ Ok (x, a) → word_by (fixed_in (codes "row")) a ≡ Ok (y, b) → word_by (marks_in width) b ≡ Ok (row, d) → end_of_line d ≡ Ok (z, q) → row_line width p ≡ Ok (row, q)
unfolding row_line
line_reads width p a b d q x y z row one two three four = rw (one, two, three, four) refl

pub line_ends_early : (width : ℕ) (p : Place) (f : TextFault) → next_line p ≡ Err f → row_line width p ≡ Err f
unfolding row_line
line_ends_early width p f none = rw none refl

pub line_word_fails : (width : ℕ) (p a : Place) (x : Unit {0}) (f : TextFault) → next_line p ≡ Ok (x, a) → word_by (fixed_in (codes "row")) a ≡ Err f → row_line width p ≡ Err f
unfolding row_line
line_word_fails width p a x f one two = rw (one, two) refl

pub line_row_fails : (width : ℕ) (p a b : Place) (x y : Unit {0}) (e : ReadFault) → next_line p ≡ Ok (x, a) → word_by (fixed_in (codes "row")) a ≡ Ok (y, b) → Fails e (word_by (marks_in width) b) → Fails e (row_line width p)
unfolding row_line
line_row_fails width p a b x y faults.Memory one two three = tt
line_row_fails width p a b x y (faults.Text f) one two three = rw (one, two, three) refl

pub line_goes_on : (width : ℕ) (p a b d : Place) (x y : Unit {0}) (row : List Bool) (f : TextFault) → next_line p ≡ Ok (x, a) → word_by (fixed_in (codes "row")) a ≡ Ok (y, b) → word_by (marks_in width) b ≡ Ok (row, d) → end_of_line d ≡ Err f → row_line width p ≡ Err f
unfolding row_line
line_goes_on width p a b d x y row f one two three four = rw (one, two, three, four) refl

pub no_word : {X : Type 0} (test : List ℕ → Result X TextKind) (p : Place) → p.words ≡ [] → word_by test p ≡ fail p.line Word
unfolding word_by
no_word test p none = rw none refl

-- ---- rows, one after the other

-- the rows that were read, and those that are still to be read
pub record RowsRead (width height counter : ℕ) (begin : Place) (marks : List Bool) (p : Place) : Type 0 where
  pub rows : List (List Bool)
  pub whole : marks ≡ joined rows
  pub long : AllByRecursion (IsRowOf width) rows
  pub count : length rows ≡ counter
  pub so_far : with_front rows (times (height - counter) (row_line width) p) ≡ times height (row_line width) begin

all_more : (width : ℕ) (rows : List (List Bool)) (row : List Bool) → AllByRecursion (IsRowOf width) rows → IsRowOf width row → AllByRecursion (IsRowOf width) (rows ++ row ∷ [])
all_more width [] row fits one = (one, tt)
all_more width (r ∷ rows) row fits one = (fits.0, all_more width rows row fits.1 one)

joined_more : (rows : List (List Bool)) (row : List Bool) → joined (rows ++ row ∷ []) ≡ joined rows ++ row
joined_more [] row = append-nil row
joined_more (r ∷ rows) row = ap (λ xs. r ++ xs) (joined_more rows row) ∙ sym (append_assoc r (joined rows) row)

pub one_row : (width height counter : ℕ) (begin p q : Place) (marks after : List Bool) (x : Unit {0}) → counter < height → RowsRead width height counter begin marks p → AddsRow (Ok x) marks after q (row_line width p) → RowsRead width height (counter + 1) begin after q
one_row width height counter begin p q marks after x lt read adds =
    let row = adds.0 in
    let long = ((takes_row width).is p row q adds.2).1 in
    let room : height - counter ≡ suc (height - (counter + 1)) = omega (arith, lt) in
    record {
      rows = read.rows ++ row ∷ [];
      whole = adds.1 ∙ ap (λ ms. ms ++ row) read.whole ∙ sym (joined_more read.rows row);
      long = all_more width read.rows row read.long long;
      count = omega (arith, length-append read.rows (row ∷ []), read.count);
      so_far = times_goes_on (row_line width) p q (height - counter) (height - (counter + 1)) read.rows (read.rows ++ row ∷ []) row (times height (row_line width) begin) room refl adds.2 read.so_far;
    }

fails_on : {A B : Type 0} (e : ReadFault) (read : Result (A × Place) TextFault) (f : A → Read B) → Fails e read → Fails e (go_on read f)
fails_on faults.Memory read f h = tt
fails_on (faults.Text fault) read f h = ap (λ r. go_on r f) h

pub row_fault : (width height counter : ℕ) (begin p : Place) (marks : List Bool) (e : ReadFault) → counter < height → RowsRead width height counter begin marks p → Fails e (row_line width p) → Fails e (shape_rows width height begin)
unfolding shape_rows
row_fault width height counter begin p marks e lt read fails =
    let room : height - counter ≡ suc (height - (counter + 1)) = omega (arith, lt) in
    fails_on e (times height (row_line width) begin) (λ rows. give (shape_by width height rows))
    (times_fail (row_line width) p (height - counter) (height - (counter + 1)) read.rows e (times height (row_line width) begin) room fails read.so_far)

pub all_rows : (width height counter : ℕ) (begin p : Place) (marks : List Bool) → height ≤ counter → RowsRead width height counter begin marks p → shape_rows width height begin ≡ Ok (shape_of width height marks, p)
unfolding shape_rows
all_rows width height counter begin p marks le read =
    let none : height - counter ≡ 0 = omega (arith, le) in
    ap (λ r. go_on r (λ rows. give (shape_by width height rows))) (times_done (row_line width) p (height - counter) read.rows (times height (row_line width) begin) none read.so_far)
    ∙ ap (λ ms. Ok (shape_of width height ms, p)) (sym read.whole)

pub rows_long : (width height counter : ℕ) (begin p : Place) (marks : List Bool) → counter ≡ height → RowsRead width height counter begin marks p → length marks ≡ height * width
rows_long width height counter begin p marks all read =
    let many : length read.rows * width ≡ height * width = ap (λ n. n * width) (read.count ∙ all) in
    ap length read.whole ∙ joined_length width read.rows read.long ∙ many

-- ---- a mask that is written

-- what is left behind a row
rest_is : (width : ℕ) (mask : List Bool) → take (length mask - width) (drop width mask) ≡ drop width mask
rest_is width mask = take_all (length mask - width) (drop width mask) (omega (arith, length-drop width mask))

line_first : (words : List (List ℕ)) (lines : List (List (List ℕ))) → text_of (words ∷ lines) ≡ line_text words ++ text_of lines
line_first words lines = text_of-append (words ∷ []) lines ∙ ap (λ t. t ++ text_of lines) (line_alone words)

-- one row more
pub row_written : (width left after : ℕ) (mask : List Bool) (before written total : List ℕ) → left ≡ suc after → written ≡ before ++ line_text (row_words (take width mask)) → before ++ text_of (row_lines width left mask) ≡ total
    → written ++ text_of (row_lines width after (take (length mask - width) (drop width mask))) ≡ total
row_written width left after mask before written total more e so_far =
    let row = row_words (take width mask) in
    let others = text_of (row_lines width after (drop width mask)) in
    let all : text_of (row_lines width left mask) ≡ line_text row ++ others = ap (λ n. text_of (row_lines width n mask)) more ∙ line_first row (row_lines width after (drop width mask)) in
    ap (λ m. written ++ text_of (row_lines width after m)) (rest_is width mask) ∙ ap (λ t. t ++ others) e ∙ append_assoc before (line_text row) others ∙ ap (λ t. before ++ t) (sym all) ∙ so_far

-- room for the first of them
pub row_room : (width left after : ℕ) (mask : List Bool) → left ≡ suc after → left * width ≤ length mask → width ≤ length mask
row_room width left after mask more room =
    let many : left * width ≡ width + after * width = ap (λ n. n * width) more ∙ omega arith in
    omega (arith, many, room)

-- room for the rows that are left
pub row_left : (width left after : ℕ) (mask : List Bool) → left ≡ suc after → left * width ≤ length mask → after * width ≤ length (take (length mask - width) (drop width mask))
row_left width left after mask more room =
    let many : left * width ≡ width + after * width = ap (λ n. n * width) more ∙ omega arith in
    let long : length (take (length mask - width) (drop width mask)) ≡ length mask - width = ap length (rest_is width mask) ∙ length-drop width mask in
    omega (arith, many, long, room)

pub mask_done : (width left : ℕ) (mask : List Bool) (written total : List ℕ) → left ≡ 0 → written ++ text_of (row_lines width left mask) ≡ total → written ≡ total
unfolding text_of
mask_done width left mask written total none so_far = sym (append-nil written) ∙ subst (λ n. written ++ text_of (row_lines width n mask) ≡ total) none so_far

-- the line and the rows of a shape
pub shape_written : (width height : ℕ) (mask : List Bool) (figure : Figure) (before first written : List ℕ) → figure ≡ Shape width height mask → first ≡ before ++ text_of (board_words (Shape width height []) ∷ []) → written ≡ first ++ text_of (row_lines width height mask)
    → written ≡ before ++ text_of (board_lines figure)
shape_written width height mask figure before first written is one two =
    let line = board_words (Shape width height []) ∷ [] in
    let rows = row_lines width height mask in
    two ∙ ap (λ t. t ++ text_of rows) one ∙ append_assoc before (text_of line) (text_of rows) ∙ ap (λ t. before ++ t) (sym (text_of-append line rows)) ∙ ap (λ f. before ++ text_of (board_lines f)) (sym is)

-- the line of a shape, by its parts
pub shape_line : (width height : ℕ) → codes "board shape " ++ (decimal width ++ 32 ∷ (decimal height ++ 10 ∷ [])) ≡ text_of (board_words (Shape width height []) ∷ [])
unfolding line_text text_of
shape_line width height = simp (append_assoc, append-nil) refl
