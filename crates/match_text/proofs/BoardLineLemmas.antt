-- The lines of a board: what is read is what was written, and what was written is read again.
use Rattle.std.proofs.Common.{◌≡◌, ℕ, ◌≤◌, ◌*◌, Bool, true, false, cond, leb, ◌&&◌, List, [], ◌∷◌, ◌++◌, length, Ok, Err, refl, sym, ap, subst, ◌∙◌, arith, codes}
use Rattle.match_limits.specs.declared.TheConstants.{MOST_LENGTH, MOST_PLACES}
use Rattle.std.specs.Fmt.{decimal}
use Rattle.std.specs.List.{flat_map, AllByRecursion}
use Rattle.std.specs.Str.{bytes_eq}
use Rattle.std.proofs.lemmas.Bool.{leb-true, le-leb}
use Rattle.std.proofs.lemmas.List.Concat.{flat_map_single}
use Rattle.std.proofs.lemmas.Slice.Eq.{bytes_eq-Decides}
use Rattle.match_board.specs.Board.{mask_of, shape_of, MarksItsPlaces}
use Rattle.match_board.specs.declared.figures.Figure.{Figure}
use Rattle.match_board.specs.declared.figures.Figure.TheVariants as figures
use Rattle.text_words.specs.declared.faults.TextKind.TheVariants.{Word}
use Rattle.match_text.specs.declared.puzzles.BoardKind.{BoardKind}
use Rattle.match_text.specs.declared.puzzles.BoardKind.TheVariants.{Rectangle, Triangle, Hexagon, Shape}
use Rattle.match_text.specs.declared.puzzles.BoardLine.{BoardLine}
use Rattle.match_text.specs.declared.puzzles.BoardLine.TheVariants as lines
use Rattle.text_words.specs.PlainWords.{fixed_in, number_in}
use Rattle.text_words.specs.Place.{Place, Read, ◌>>=◌, give, word_by, times}
use Rattle.match_text.specs.Puzzles.{board_kind_in, board_size, board_line, row_line, shape_by, shape_rows, board_rows, board_part}
use Rattle.text_words.specs.Spelling.{text_of}
use Rattle.match_text.specs.PuzzleSpelling.{board_words, row_words, row_lines, mask_lines, board_lines, IsShapeLength, IsFigureWithin}
use Rattle.text_words.proofs.CutLemmas.{CutsShort, place, bind_ok, ok_is, cuts_bind, cuts_give, cuts_word, cuts_times, cuts_word_line}
use Rattle.text_words.proofs.WordLemmas.{Spells, judged_ok, judged_ok_is, both, spells_fixed, spells_number, clean-decimal, are_clean}
use Rattle.text_words.proofs.LineLemmas.{TakesWords, TakesLines, takes_word, takes_then_rest, takes_choice, takes_all, takes_line, takes_same, times_is, times_again, lines_then, lines_apart}
use Rattle.match_text.proofs.ShapeLemmas.{IsRowOf, takes_row, cuts_row, joined, joined_length, lines_of_rows, rows_cut, rows_are_cut}

-- ---- the kind

kind_of : BoardLine → BoardKind
kind_of (lines.Rectangle width height) = Rectangle
kind_of (lines.Triangle size) = Triangle
kind_of (lines.Hexagon size) = Hexagon
kind_of (lines.Shape width height) = Shape

abbrev kind_word : BoardKind → List ℕ
kind_word Rectangle = codes "rect"
kind_word Triangle = codes "triangle"
kind_word Hexagon = codes "hexagon"
kind_word Shape = codes "shape"

-- The version has such boards.
abbrev IsKnown : ℕ → BoardKind → Type 0
IsKnown version Rectangle = Unit {0}
IsKnown version Triangle = Unit {0}
IsKnown version Hexagon = Unit {0}
IsKnown version Shape = 2 ≤ version

abbrev IsKindWord : ℕ → List ℕ → BoardKind → Type 0
IsKindWord version word kind = (word ≡ kind_word kind) × IsKnown version kind

kind_first : (version : ℕ) (word : List ℕ) (kind : BoardKind) (t u v w : Bool) → bytes_eq word (codes "rect") ≡ t → bytes_eq word (codes "triangle") ≡ u → bytes_eq word (codes "hexagon") ≡ v → (leb 2 version && bytes_eq word (codes "shape")) ≡ w
    → cond t (judged_ok Rectangle) (cond u (judged_ok Triangle) (cond v (judged_ok Hexagon) (cond w (judged_ok Shape) (Err Word)))) ≡ judged_ok kind → IsKindWord version word kind
kind_first version word kind true u v w r t h s e = subst (IsKindWord version word) (judged_ok_is Rectangle kind e) ((bytes_eq-Decides word (codes "rect")).0 r, tt)
kind_first version word kind false true v w r t h s e = subst (IsKindWord version word) (judged_ok_is Triangle kind e) ((bytes_eq-Decides word (codes "triangle")).0 t, tt)
kind_first version word kind false false true w r t h s e = subst (IsKindWord version word) (judged_ok_is Hexagon kind e) ((bytes_eq-Decides word (codes "hexagon")).0 h, tt)
kind_first version word kind false false false true r t h s e =
    let parts = both (leb 2 version) (bytes_eq word (codes "shape")) s in
    subst (IsKindWord version word) (judged_ok_is Shape kind e) ((bytes_eq-Decides word (codes "shape")).0 parts.1, leb-true 2 version parts.0)
kind_first version word kind false false false false r t h s e = absurd cc

kind_again : (version : ℕ) (kind : BoardKind) → IsKnown version kind → board_kind_in version (kind_word kind) ≡ Ok kind
kind_again version Rectangle known = refl
kind_again version Triangle known = refl
kind_again version Hexagon known = refl
kind_again version Shape known = rw (le-leb 2 version known) refl

spells_board_kind : (version : ℕ) → Spells (board_kind_in version) kind_word (IsKnown version)
spells_board_kind version = record {
  is = λ word kind e. kind_first version word kind (bytes_eq word (codes "rect")) (bytes_eq word (codes "triangle")) (bytes_eq word (codes "hexagon")) (leb 2 version && bytes_eq word (codes "shape")) refl refl refl refl e;
  passes = kind_again version;
}

-- ---- its numbers

abbrev IsPlainLength : ℕ → Type 0
IsPlainLength n = (0 ≤ n) × (n ≤ MOST_LENGTH)

takes_size : TakesWords (word_by (number_in 0 MOST_LENGTH)) (λ n. decimal n ∷ []) IsPlainLength
takes_size = takes_word (number_in 0 MOST_LENGTH) decimal IsPlainLength (spells_number 0 MOST_LENGTH (omega arith))

takes_shape_size : TakesWords (word_by (number_in 1 MOST_PLACES)) (λ n. decimal n ∷ []) IsShapeLength
takes_shape_size = takes_word (number_in 1 MOST_PLACES) decimal IsShapeLength (spells_number 1 MOST_PLACES (omega arith))

abbrev size_words : BoardLine → List (List ℕ)
size_words (lines.Rectangle width height) = decimal width ∷ decimal height ∷ []
size_words (lines.Triangle size) = decimal size ∷ []
size_words (lines.Hexagon size) = decimal size ∷ []
size_words (lines.Shape width height) = decimal width ∷ decimal height ∷ []

abbrev line_words : BoardLine → List (List ℕ)
line_words line = codes "board" ∷ kind_word (kind_of line) ∷ size_words line

-- what a board's numbers were read from
abbrev IsSizeWithin : BoardLine → Type 0
IsSizeWithin (lines.Rectangle width height) = IsPlainLength width × IsPlainLength height
IsSizeWithin (lines.Triangle size) = IsPlainLength size
IsSizeWithin (lines.Hexagon size) = IsPlainLength size
IsSizeWithin (lines.Shape width height) = IsShapeLength width × IsShapeLength height

abbrev IsLineWithin : ℕ → BoardLine → Type 0
IsLineWithin version line = IsKnown version (kind_of line) × IsSizeWithin line

abbrev IsOfKind : BoardKind → BoardLine → Type 0
IsOfKind kind line = (kind_of line ≡ kind) × IsSizeWithin line

abbrev IsSizeRead : BoardKind → Place → BoardLine × Place → Type 0
IsSizeRead kind p z = (p.words ≡ size_words z.0 ++ z.1.words) × (p.ahead ≡ z.1.ahead) × IsOfKind kind z.0

rectangle_is : (p : Place) (x : BoardLine) (q : Place) → board_size Rectangle p ≡ Ok (x, q) → IsSizeRead Rectangle p (x, q)
unfolding board_size kind_of
rectangle_is p x q e =
    let a = bind_ok (word_by (number_in 0 MOST_LENGTH) p) (λ width. word_by (number_in 0 MOST_LENGTH) >>= λ height. give (lines.Rectangle width height)) (x, q) e in
    let b = bind_ok (word_by (number_in 0 MOST_LENGTH) a.0.1) (λ height. give (lines.Rectangle a.0.0 height)) (x, q) a.2 in
    let w = takes_size.is p a.0.0 a.0.1 a.1 in
    let h = takes_size.is a.0.1 b.0.0 b.0.1 b.1 in
    subst (IsSizeRead Rectangle p) (ok_is (lines.Rectangle a.0.0 b.0.0, b.0.1) (x, q) b.2) (w.0 ∙ ap (λ ws. decimal a.0.0 ∷ ws) h.0, w.1 ∙ h.1, (refl, (w.2, h.2)))

triangle_is : (p : Place) (x : BoardLine) (q : Place) → board_size Triangle p ≡ Ok (x, q) → IsSizeRead Triangle p (x, q)
unfolding board_size kind_of
triangle_is p x q e =
    let a = bind_ok (word_by (number_in 0 MOST_LENGTH) p) (λ size. give (lines.Triangle size)) (x, q) e in
    let n = takes_size.is p a.0.0 a.0.1 a.1 in
    subst (IsSizeRead Triangle p) (ok_is (lines.Triangle a.0.0, a.0.1) (x, q) a.2) (n.0, n.1, (refl, n.2))

hexagon_is : (p : Place) (x : BoardLine) (q : Place) → board_size Hexagon p ≡ Ok (x, q) → IsSizeRead Hexagon p (x, q)
unfolding board_size kind_of
hexagon_is p x q e =
    let a = bind_ok (word_by (number_in 0 MOST_LENGTH) p) (λ size. give (lines.Hexagon size)) (x, q) e in
    let n = takes_size.is p a.0.0 a.0.1 a.1 in
    subst (IsSizeRead Hexagon p) (ok_is (lines.Hexagon a.0.0, a.0.1) (x, q) a.2) (n.0, n.1, (refl, n.2))

shape_is : (p : Place) (x : BoardLine) (q : Place) → board_size Shape p ≡ Ok (x, q) → IsSizeRead Shape p (x, q)
unfolding board_size kind_of
shape_is p x q e =
    let a = bind_ok (word_by (number_in 1 MOST_PLACES) p) (λ width. word_by (number_in 1 MOST_PLACES) >>= λ height. give (lines.Shape width height)) (x, q) e in
    let b = bind_ok (word_by (number_in 1 MOST_PLACES) a.0.1) (λ height. give (lines.Shape a.0.0 height)) (x, q) a.2 in
    let w = takes_shape_size.is p a.0.0 a.0.1 a.1 in
    let h = takes_shape_size.is a.0.1 b.0.0 b.0.1 b.1 in
    subst (IsSizeRead Shape p) (ok_is (lines.Shape a.0.0 b.0.0, b.0.1) (x, q) b.2) (w.0 ∙ ap (λ ws. decimal a.0.0 ∷ ws) h.0, w.1 ∙ h.1, (refl, (w.2, h.2)))

size_is : (kind : BoardKind) (p : Place) (x : BoardLine) (q : Place) → board_size kind p ≡ Ok (x, q) → IsSizeRead kind p (x, q)
size_is Rectangle p x q e = rectangle_is p x q e
size_is Triangle p x q e = triangle_is p x q e
size_is Hexagon p x q e = hexagon_is p x q e
size_is Shape p x q e = shape_is p x q e

size_again : (x : BoardLine) → IsSizeWithin x → (line : ℕ) (others : List (List ℕ)) (ahead : List ℕ) → board_size (kind_of x) (place line (size_words x ++ others) ahead) ≡ Ok (x, place line others ahead)
unfolding board_size kind_of
size_again (lines.Rectangle width height) fits line others ahead = rw (takes_size.passes width fits.0 line (decimal height ∷ others) ahead, takes_size.passes height fits.1 line others ahead) refl
size_again (lines.Triangle size) fits line others ahead = rw (takes_size.passes size fits line others ahead) refl
size_again (lines.Hexagon size) fits line others ahead = rw (takes_size.passes size fits line others ahead) refl
size_again (lines.Shape width height) fits line others ahead = rw (takes_shape_size.passes width fits.0 line (decimal height ∷ others) ahead, takes_shape_size.passes height fits.1 line others ahead) refl

takes_board_size : (version : ℕ) (kind : BoardKind) → IsKnown version kind → TakesWords (board_size kind) size_words (λ x. (kind_of x ≡ kind) × IsLineWithin version x)
takes_board_size version kind known = record {
  is = λ p x q e. let h = size_is kind p x q e in (h.0, h.1, (h.2.0, (subst (IsKnown version) (sym h.2.0) known, h.2.1)));
  passes = λ x fits line others ahead. subst (λ k. board_size k (place line (size_words x ++ others) ahead) ≡ Ok (x, place line others ahead)) fits.0 (size_again x fits.1.1 line others ahead);
}

-- ---- the line

abbrev kind_words : BoardKind → List (List ℕ)
kind_words kind = kind_word kind ∷ []

clean-line : (version : ℕ) (x : BoardLine) → IsLineWithin version x → are_clean (line_words x) ≡ true
unfolding kind_of
clean-line version (lines.Rectangle width height) fits = rw (clean-decimal width (omega (arith, fits.1.0.1)), clean-decimal height (omega (arith, fits.1.1.1))) refl
clean-line version (lines.Triangle size) fits = rw (clean-decimal size (omega (arith, fits.1.1))) refl
clean-line version (lines.Hexagon size) fits = rw (clean-decimal size (omega (arith, fits.1.1))) refl
clean-line version (lines.Shape width height) fits = rw (clean-decimal width (omega (arith, fits.1.0.1)), clean-decimal height (omega (arith, fits.1.1.1))) refl

abbrev line_rest : ℕ → Read BoardLine
line_rest version = word_by (board_kind_in version) >>= λ kind. board_size kind

takes_board_line : (version : ℕ) → TakesLines (board_line version) (λ x. line_words x ∷ []) (IsLineWithin version)
unfolding board_line
takes_board_line version =
    let kind = takes_choice (word_by (board_kind_in version)) kind_words (IsKnown version) board_size kind_of size_words (IsLineWithin version) (takes_word (board_kind_in version) kind_word (IsKnown version) (spells_board_kind version)) (λ x fits. fits.0)
    (λ k known. takes_all (board_size k) size_words (λ x. (kind_of x ≡ k) × IsLineWithin version x) (takes_board_size version k known)) in
    let line = takes_then_rest (word_by (fixed_in (codes "board"))) (codes "board" ∷ []) (line_rest version) (λ x. kind_words (kind_of x) ++ size_words x) (IsLineWithin version) (takes_word (fixed_in (codes "board")) (λ _. codes "board") (λ _. Unit {0}) (spells_fixed (codes "board"))) kind in
    takes_line (word_by (fixed_in (codes "board")) >>= λ _. line_rest version) line_words (IsLineWithin version)
    (takes_same (word_by (fixed_in (codes "board")) >>= λ _. line_rest version) (λ x. codes "board" ∷ (kind_words (kind_of x) ++ size_words x)) line_words (IsLineWithin version) (λ x. refl) line) (clean-line version)

cuts_size : (kind : BoardKind) → CutsShort (board_size kind)
unfolding board_size
cuts_size Rectangle = cuts_bind (word_by (number_in 0 MOST_LENGTH)) (λ width. word_by (number_in 0 MOST_LENGTH) >>= λ height. give (lines.Rectangle width height)) (cuts_word (number_in 0 MOST_LENGTH))
    (λ width. cuts_bind (word_by (number_in 0 MOST_LENGTH)) (λ height. give (lines.Rectangle width height)) (cuts_word (number_in 0 MOST_LENGTH)) (λ height. cuts_give (lines.Rectangle width height)))
cuts_size Triangle = cuts_bind (word_by (number_in 0 MOST_LENGTH)) (λ size. give (lines.Triangle size)) (cuts_word (number_in 0 MOST_LENGTH)) (λ size. cuts_give (lines.Triangle size))
cuts_size Hexagon = cuts_bind (word_by (number_in 0 MOST_LENGTH)) (λ size. give (lines.Hexagon size)) (cuts_word (number_in 0 MOST_LENGTH)) (λ size. cuts_give (lines.Hexagon size))
cuts_size Shape = cuts_bind (word_by (number_in 1 MOST_PLACES)) (λ width. word_by (number_in 1 MOST_PLACES) >>= λ height. give (lines.Shape width height)) (cuts_word (number_in 1 MOST_PLACES))
    (λ width. cuts_bind (word_by (number_in 1 MOST_PLACES)) (λ height. give (lines.Shape width height)) (cuts_word (number_in 1 MOST_PLACES)) (λ height. cuts_give (lines.Shape width height)))

cuts_board_line : (version : ℕ) → CutsShort (board_line version)
unfolding board_line
cuts_board_line version = cuts_word_line (codes "board") (line_rest version) (cuts_bind (word_by (board_kind_in version)) board_size (cuts_word (board_kind_in version)) cuts_size)

-- ---- the rows

-- what the rows behind a line were read from
abbrev IsRowsRead : ℕ → BoardLine → Place → Figure × Place → Type 0
IsRowsRead version line p z = (p.ahead ≡ text_of (mask_lines z.0) ++ z.1.ahead) × (board_words z.0 ≡ line_words line) × IsFigureWithin version z.0

abbrev one_row_lines : List (List Bool) → List (List (List ℕ))
one_row_lines rows = flat_map (λ row. row_words row ∷ []) rows

-- the lines of a shape are those of its rows
shape_lines : (width height : ℕ) (rows : List (List Bool)) → length rows ≡ height → AllByRecursion (IsRowOf width) rows → mask_lines (shape_by width height rows) ≡ one_row_lines rows
shape_lines width height rows count long =
    let tail = mask_of (joined rows) in
    ap (λ n. row_lines width n tail) (sym count) ∙ lines_of_rows width rows _ long ∙ sym (flat_map_single row_words rows)

shape_rows_is : (version width height : ℕ) → 2 ≤ version → IsShapeLength width → IsShapeLength height → (p : Place) (x : Figure) (q : Place) → shape_rows width height p ≡ Ok (x, q) → IsRowsRead version (lines.Shape width height) p (x, q)
unfolding shape_rows kind_of
shape_rows_is version width height two wide high p x q e =
    let a = bind_ok (times height (row_line width) p) (λ rows. give (shape_by width height rows)) (x, q) e in
    let rows = a.0.0 in
    let read = times_is (row_line width) (λ row. row_words row ∷ []) (IsRowOf width) (takes_row width) height p rows a.0.1 a.1 in
    let front : p.ahead ≡ text_of (mask_lines (shape_by width height rows)) ++ a.0.1.ahead = read.0 ∙ ap (λ ls. text_of ls ++ a.0.1.ahead) (sym (shape_lines width height rows read.1 read.2)) in
    let many : length rows * width ≡ height * width = ap (λ n. n * width) read.1 in
    let marks : MarksItsPlaces (shape_by width height rows) = (joined rows, joined_length width rows read.2 ∙ many, refl) in
    subst (IsRowsRead version (lines.Shape width height) p) (ok_is (shape_by width height rows, a.0.1) (x, q) a.2) (front, refl, (two, wide, high, marks))

rows_is : (version : ℕ) (line : BoardLine) → IsLineWithin version line → (p : Place) (x : Figure) (q : Place) → board_rows line p ≡ Ok (x, q) → IsRowsRead version line p (x, q)
unfolding board_rows text_of kind_of
rows_is version (lines.Rectangle width height) fits p x q e = subst (IsRowsRead version (lines.Rectangle width height) p) (ok_is (figures.Rectangle width height, p) (x, q) e) (refl, refl, (fits.1.0.1, fits.1.1.1))
rows_is version (lines.Triangle size) fits p x q e = subst (IsRowsRead version (lines.Triangle size) p) (ok_is (figures.Triangle size, p) (x, q) e) (refl, refl, fits.1.1)
rows_is version (lines.Hexagon size) fits p x q e = subst (IsRowsRead version (lines.Hexagon size) p) (ok_is (figures.Hexagon size, p) (x, q) e) (refl, refl, fits.1.1)
rows_is version (lines.Shape width height) fits p x q e = shape_rows_is version width height fits.0 fits.1.0 fits.1.1 p x q e

-- the line of a board
abbrev line_of_figure : Figure → BoardLine
line_of_figure (figures.Rectangle width height) = lines.Rectangle width height
line_of_figure (figures.Triangle size) = lines.Triangle size
line_of_figure (figures.Hexagon size) = lines.Hexagon size
line_of_figure (figures.Shape width height mask) = lines.Shape width height

line_within : (version : ℕ) (x : Figure) → IsFigureWithin version x → IsLineWithin version (line_of_figure x)
unfolding kind_of
line_within version (figures.Rectangle width height) fits = (tt, ((omega arith, fits.0), (omega arith, fits.1)))
line_within version (figures.Triangle size) fits = (tt, (omega arith, fits))
line_within version (figures.Hexagon size) fits = (tt, (omega arith, fits))
line_within version (figures.Shape width height mask) fits = (fits.0, (fits.1, fits.2))

words_are : (x : Figure) → line_words (line_of_figure x) ≡ board_words x
unfolding kind_of
words_are (figures.Rectangle width height) = refl
words_are (figures.Triangle size) = refl
words_are (figures.Hexagon size) = refl
words_are (figures.Shape width height mask) = refl

abbrev AreRowsAgain : ℕ → List ℕ → Figure → Type 0
AreRowsAgain line rest x = (end : ℕ) × (board_rows (line_of_figure x) (place line [] (text_of (mask_lines x) ++ rest)) ≡ Ok (x, place end [] rest))

shape_again : (width height : ℕ) (marks : List Bool) → length marks ≡ height * width → (line : ℕ) (rest : List ℕ) → AreRowsAgain line rest (shape_of width height marks)
unfolding board_rows shape_rows
shape_again width height marks many line rest =
    let rows = rows_cut width height marks in
    let are = rows_are_cut width height marks many in
    let same : shape_by width height rows ≡ shape_of width height marks = ap (shape_of width height) are.whole in
    let again = times_again (row_line width) (λ row. row_words row ∷ []) (IsRowOf width) (takes_row width) rows are.long line rest in
    let read : times height (row_line width) (place line [] (text_of (one_row_lines rows) ++ rest)) ≡ Ok (rows, place again.0 [] rest) =
    subst (λ n. times n (row_line width) (place line [] (text_of (one_row_lines rows) ++ rest)) ≡ Ok (rows, place again.0 [] rest)) are.count again.1 in
    subst (AreRowsAgain line rest) same (again.0, rw (shape_lines width height rows are.count are.long, read) refl)

rows_again : (version : ℕ) (x : Figure) → IsFigureWithin version x → (line : ℕ) (rest : List ℕ) → AreRowsAgain line rest x
unfolding board_rows text_of
rows_again version (figures.Rectangle width height) fits line rest = (line, refl)
rows_again version (figures.Triangle size) fits line rest = (line, refl)
rows_again version (figures.Hexagon size) fits line rest = (line, refl)
rows_again version (figures.Shape width height mask) fits line rest =
    let marks = fits.3 in
    subst (λ (m : List Bool). AreRowsAgain line rest (figures.Shape width height m)) (sym marks.2) (shape_again width height marks.0 marks.1 line rest)

-- ---- the whole board

pub takes_board : (version : ℕ) → TakesLines (board_part version) board_lines (IsFigureWithin version)
unfolding board_part
takes_board version = record {
  is = λ p x q e.
      let a = bind_ok (board_line version p) board_rows (x, q) e in
      let one = (takes_board_line version).is p a.0.0 a.0.1 a.1 in
      let two = rows_is version a.0.0 one.1 a.0.1 x q a.2 in
      let first : p.ahead ≡ text_of (board_words x ∷ []) ++ a.0.1.ahead = one.0 ∙ ap (λ ws. text_of (ws ∷ []) ++ a.0.1.ahead) (sym two.1) in
      (lines_then p.ahead (board_words x ∷ []) (mask_lines x) a.0.1.ahead q.ahead first two.0, two.2);
  passes = λ x fits line words rest.
      let one = (takes_board_line version).passes (line_of_figure x) (line_within version x fits) line words (text_of (mask_lines x) ++ rest) in
      let two = rows_again version x fits one.0 rest in
      (two.0, rw (lines_apart (board_words x ∷ []) (mask_lines x) rest, sym (words_are x), one.1, two.1) refl);
}

cuts_rows : (line : BoardLine) → CutsShort (board_rows line)
unfolding board_rows shape_rows
cuts_rows (lines.Rectangle width height) = cuts_give (figures.Rectangle width height)
cuts_rows (lines.Triangle size) = cuts_give (figures.Triangle size)
cuts_rows (lines.Hexagon size) = cuts_give (figures.Hexagon size)
cuts_rows (lines.Shape width height) =
    cuts_bind (times height (row_line width)) (λ rows. give (shape_by width height rows)) (cuts_times height (row_line width) (cuts_row width)) (λ rows. cuts_give (shape_by width height rows))

pub cuts_board : (version : ℕ) → CutsShort (board_part version)
unfolding board_part
cuts_board version = cuts_bind (board_line version) board_rows (cuts_board_line version) cuts_rows
