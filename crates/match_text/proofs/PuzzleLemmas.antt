-- The puzzle that is read is the one that was written, and what was written is read again.
use Rattle.std.proofs.Common.{◌≡◌, ℕ, ◌≤◌, Bool, List, [], ◌∷◌, ◌++◌, length, map, Ok, refl, sym, ap, subst, ◌∙◌, arith, codes, ◌<◌, ◌^◌, ⊎_elim}
use Rattle.match_limits.specs.Ranges.{ranges_of}
use Rattle.std.specs.List.{flat_map, AllByRecursion}
use Rattle.std.proofs.lemmas.List.{append-nil}
use Rattle.std.proofs.lemmas.List.Concat.{flat_map_single}
use Rattle.match_board.specs.declared.figures.Figure.{Figure}
use Rattle.match_board.specs.Mates.{Mating}
use Rattle.match_board.specs.Clues.{Clue}
use Rattle.match_puzzle.specs.Puzzle.{Task}
use Rattle.match_board.specs.Borders.{BorderRule}
use Rattle.text_words.specs.Laws.{ReadsSpellingsAlone, ReadsEachSpelling, EndsWhereCut}
use Rattle.text_words.specs.Place.{Place, Read, ◌>>=◌, give, times, counted, closing, start}
use Rattle.match_text.specs.Puzzles.{IsPuzzleVersion, match_line, mating_part, clues_part, board_part, turns_line, border_line, tile_line, puzzle_text, puzzle_of}
use Rattle.text_words.specs.Spelling.{text_of, first_words, count_words, end_lines}
use Rattle.match_text.specs.PuzzleSpelling.{board_lines, IsFigureWithin, turns_words, border_words, tile_words, puzzle_lines, puzzle_spelling, IsBorderWithin, IsMatingWithin, IsTaskWithin, mates_lines, clues_lines, AreCluesWithin}
use Rattle.text_words.proofs.CutLemmas.{CutsShort, LeavesNothing, place, bind_ok, ok_is, cuts_bind, cuts_give, cuts_times, cuts_counted, cuts_closing, leaves_closing, leaves_after}
use Rattle.text_words.proofs.LineLemmas.{takes_counted, closing_is, closing_again, times_is, times_again, lines_then}
use Rattle.match_text.proofs.BoardLineLemmas.{takes_board, cuts_board}
use Rattle.match_text.proofs.PuzzleLineLemmas.{takes_match, cuts_match, clues_read, clues_read_again, cuts_clues, mating_is, mating_again, cuts_mating, takes_turns, takes_border, takes_tile, cuts_turns, cuts_border, cuts_tile}
use Rattle.match_limits.proofs.RangesLemmas.{are_ranges}
use Rattle.text_words.proofs.TextLaws.{reads_alone, reads_each, ends_where_cut}
use Rattle.text_words.proofs.WritingLemmas.{text_of-append, nine_parts}
use Rattle.text_words.specs.Within.{IsWordWithin}

abbrev task : Figure → Bool → BorderRule → Mating → List Clue → List (List ℕ) → Task
task board turns border mating clues words = record { board = board; turns = turns; border = border; mating = mating; clues = clues; words = words }

-- ---- what is still read behind each line

abbrev after_tiles : Figure → Bool → BorderRule → Mating → List Clue → List (List ℕ) → Read Task
after_tiles board turns border mating clues words = closing >>= λ _. give (task board turns border mating clues words)

abbrev after_count : Figure → Bool → BorderRule → Mating → List Clue → ℕ → Read Task
after_count board turns border mating clues count = times count tile_line >>= λ words. after_tiles board turns border mating clues words

abbrev tile_count : ℕ → Read ℕ
tile_count most = counted (codes "tiles") 1 most

abbrev after_clues : ℕ → Figure → Bool → BorderRule → Mating → List Clue → Read Task
after_clues most board turns border mating clues = tile_count most >>= λ count. after_count board turns border mating clues count

abbrev most_of : ℕ → ℕ
most_of version = (ranges_of version).most_cells

abbrev after_mating : ℕ → Figure → Bool → BorderRule → Mating → Read Task
after_mating version board turns border mating = clues_part version >>= λ clues. after_clues (most_of version) board turns border mating clues

abbrev after_border : ℕ → Figure → Bool → BorderRule → Read Task
after_border version board turns border = mating_part version >>= λ mating. after_mating version board turns border mating

abbrev after_turns : ℕ → Figure → Bool → Read Task
after_turns version board turns = border_line (ranges_of version) >>= λ border. after_border version board turns border

abbrev after_board : ℕ → Figure → Read Task
after_board version board = turns_line >>= λ turns. after_turns version board turns

abbrev after_opening : ℕ → Read Task
after_opening version = board_part version >>= λ board. after_board version board

-- ---- the lines from each line on

abbrev lines_of_tiles : List (List ℕ) → List (List (List ℕ))
lines_of_tiles words = flat_map (λ word. tile_words word ∷ []) words

abbrev from_count : List (List ℕ) → List (List (List ℕ))
from_count words = (count_words (codes "tiles") (length words) ∷ []) ++ (lines_of_tiles words ++ end_lines)

abbrev from_clues : ℕ → List Clue → List (List ℕ) → List (List (List ℕ))
from_clues version clues words = clues_lines version clues ++ from_count words

abbrev from_mating : Mating → List Clue → List (List ℕ) → List (List (List ℕ))
from_mating mating clues words = mates_lines mating ++ from_clues mating.version clues words

abbrev from_border : BorderRule → Mating → List Clue → List (List ℕ) → List (List (List ℕ))
from_border border mating clues words = (border_words border ∷ []) ++ from_mating mating clues words

abbrev from_turns : Bool → BorderRule → Mating → List Clue → List (List ℕ) → List (List (List ℕ))
from_turns turns border mating clues words = (turns_words turns ∷ []) ++ from_border border mating clues words

abbrev from_board : Figure → Bool → BorderRule → Mating → List Clue → List (List ℕ) → List (List (List ℕ))
from_board board turns border mating clues words = board_lines board ++ from_turns turns border mating clues words

abbrev first_line : Mating → List (List (List ℕ))
first_line mating = first_words (codes "match") mating.version ∷ []

lines_are : (p : Task) → first_line p.mating ++ from_board p.board p.turns p.border p.mating p.clues p.words ≡ puzzle_lines p
lines_are p = ap (λ ls. first_line p.mating ++ (board_lines p.board ++ ((turns_words p.turns ∷ []) ++ ((border_words p.border ∷ []) ++ (mates_lines p.mating ++ (clues_lines p.mating.version p.clues ++ ((count_words (codes "tiles") (length p.words) ∷ []) ++ (ls ++ end_lines)))))))) (flat_map_single tile_words p.words)

-- ---- reading

most_fits : (version : ℕ) → most_of version < 2 ^ 64
most_fits version = let are = are_ranges version in omega (arith, are.few)

mating_version : (m : Mating) → IsMatingWithin m → IsPuzzleVersion m.version
mating_version m fits = ⊎_elim (λ w. let one = w.0 in (omega (arith, one), omega (arith, one))) (λ later. ⊎_elim (λ two. (omega (arith, two), omega (arith, two))) (λ three. (omega (arith, three), omega (arith, three))) later) fits.0

tiles_is : (most : ℕ) → most < 2 ^ 64 → (board : Figure) (turns : Bool) (border : BorderRule) (mating : Mating) (clues : List Clue) (p : Place) (x : Task × Place) → after_clues most board turns border mating clues p ≡ Ok x
    → (words : List (List ℕ)) × (x.0 ≡ task board turns border mating clues words) × (p.ahead ≡ text_of (from_count words) ++ []) × (1 ≤ length words) × (length words ≤ most) × AllByRecursion IsWordWithin words
tiles_is most small board turns border mating clues p x e =
    let n = bind_ok (tile_count most p) (after_count board turns border mating clues) x e in
    let w = bind_ok (times n.0.0 tile_line n.0.1) (after_tiles board turns border mating clues) x n.2 in
    let d = bind_ok (closing w.0.1) (λ _. give (task board turns border mating clues w.0.0)) x w.2 in
    let words = w.0.0 in
    let one = (takes_counted (codes "tiles") 1 most refl small).is p n.0.0 n.0.1 n.1 in
    let two = times_is tile_line (λ word. tile_words word ∷ []) IsWordWithin takes_tile n.0.0 n.0.1 words w.0.1 w.1 in
    let three : w.0.1.ahead ≡ text_of end_lines ++ [] = closing_is w.0.1 d.0 d.1 ∙ sym (append-nil (text_of end_lines)) in
    let later = lines_then n.0.1.ahead (lines_of_tiles words) end_lines w.0.1.ahead [] two.0 three in
    let head : p.ahead ≡ text_of (count_words (codes "tiles") (length words) ∷ []) ++ n.0.1.ahead = subst (λ m. p.ahead ≡ text_of (count_words (codes "tiles") m ∷ []) ++ n.0.1.ahead) (sym two.1) one.0 in (
      words,
      sym (ap (λ (z : Task × Place). z.0) (ok_is (task board turns border mating clues words, d.0.1) x d.2)),
      lines_then p.ahead (count_words (codes "tiles") (length words) ∷ []) (lines_of_tiles words ++ end_lines) n.0.1.ahead [] head later,
      omega (arith, one.1.0, two.1),
      omega (arith, one.1.1, two.1),
      two.2,
    )

puzzle_is : (p : Place) (x : Task × Place) → puzzle_text p ≡ Ok x → (p.ahead ≡ text_of (puzzle_lines x.0)) × IsTaskWithin x.0
unfolding puzzle_text
puzzle_is p x e =
    let o = bind_ok (match_line p) after_opening x e in
    let ranges = ranges_of o.0.0 in
    let a = bind_ok (board_part o.0.0 o.0.1) (after_board o.0.0) x o.2 in
    let t = bind_ok (turns_line a.0.1) (after_turns o.0.0 a.0.0) x a.2 in
    let b = bind_ok (border_line ranges t.0.1) (after_border o.0.0 a.0.0 t.0.0) x t.2 in
    let g = bind_ok (mating_part o.0.0 b.0.1) (after_mating o.0.0 a.0.0 t.0.0 b.0.0) x b.2 in
    let k = bind_ok (clues_part o.0.0 g.0.1) (after_clues (most_of o.0.0) a.0.0 t.0.0 b.0.0 g.0.0) x g.2 in
    let tiles = tiles_is (most_of o.0.0) (most_fits o.0.0) a.0.0 t.0.0 b.0.0 g.0.0 k.0.0 k.0.1 x k.2 in
    let words = tiles.0 in
    let first = takes_match.is p o.0.0 o.0.1 o.1 in
    let board = (takes_board o.0.0).is o.0.1 a.0.0 a.0.1 a.1 in
    let turns = takes_turns.is a.0.1 t.0.0 t.0.1 t.1 in
    let border = (takes_border ranges).is t.0.1 b.0.0 b.0.1 b.1 in
    let mating = mating_is o.0.0 first.1 b.0.1 g.0.0 g.0.1 g.1 in
    let version : p.ahead ≡ text_of (first_line g.0.0) ++ o.0.1.ahead = subst (λ v. p.ahead ≡ text_of (first_words (codes "match") v ∷ []) ++ o.0.1.ahead) (sym mating.0) first.0 in
    let clues = clues_read o.0.0 g.0.1 k.0.0 k.0.1 k.1 in
    let clued : g.0.1.ahead ≡ text_of (clues_lines g.0.0.version k.0.0) ++ k.0.1.ahead = subst (λ v. g.0.1.ahead ≡ text_of (clues_lines v k.0.0) ++ k.0.1.ahead) (sym mating.0) clues.0 in
    let at_clues = lines_then g.0.1.ahead (clues_lines g.0.0.version k.0.0) (from_count words) k.0.1.ahead [] clued tiles.2 in
    let at_mating = lines_then b.0.1.ahead (mates_lines g.0.0) (from_clues g.0.0.version k.0.0 words) g.0.1.ahead [] mating.1 at_clues in
    let at_border = lines_then t.0.1.ahead (border_words b.0.0 ∷ []) (from_mating g.0.0 k.0.0 words) b.0.1.ahead [] border.0 at_mating in
    let at_turns = lines_then a.0.1.ahead (turns_words t.0.0 ∷ []) (from_border b.0.0 g.0.0 k.0.0 words) t.0.1.ahead [] turns.0 at_border in
    let at_board = lines_then o.0.1.ahead (board_lines a.0.0) (from_turns t.0.0 b.0.0 g.0.0 k.0.0 words) a.0.1.ahead [] board.0 at_turns in
    let whole = lines_then p.ahead (first_line g.0.0) (from_board a.0.0 t.0.0 b.0.0 g.0.0 k.0.0 words) o.0.1.ahead [] version at_board in
    let said = task a.0.0 t.0.0 b.0.0 g.0.0 k.0.0 words in
    let spelled : p.ahead ≡ text_of (puzzle_lines said) = whole ∙ append-nil (text_of (first_line g.0.0 ++ from_board a.0.0 t.0.0 b.0.0 g.0.0 k.0.0 words)) ∙ ap text_of (lines_are said) in
    let rules : IsBorderWithin (ranges_of g.0.0.version) b.0.0 = subst (λ v. IsBorderWithin (ranges_of v) b.0.0) (sym mating.0) border.1 in
    let few : length words ≤ most_of g.0.0.version = subst (λ v. length words ≤ most_of v) (sym mating.0) tiles.4 in
    let figure : IsFigureWithin g.0.0.version a.0.0 = subst (λ v. IsFigureWithin v a.0.0) (sym mating.0) board.1 in
    let few_clues : AreCluesWithin g.0.0.version k.0.0 = subst (λ v. AreCluesWithin v k.0.0) (sym mating.0) clues.1 in
    let within : IsTaskWithin said = record { board = figure; border = rules; mating = mating.2; clues = few_clues; some_tiles = tiles.3; few_tiles = few; words = tiles.5 } in
    subst (λ (z : Task). (p.ahead ≡ text_of (puzzle_lines z)) × IsTaskWithin z) (sym tiles.1) (spelled, within)

-- the parts of a spelling, one behind the other
pub puzzle_parts : (p : Task) → text_of (puzzle_lines p)
    ≡ text_of (first_line p.mating) ++ (text_of (board_lines p.board) ++ (text_of (turns_words p.turns ∷ []) ++ (text_of (border_words p.border ∷ []) ++ (text_of (mates_lines p.mating) ++ (text_of (clues_lines p.mating.version p.clues) ++ (text_of (count_words (codes "tiles") (length p.words) ∷ []) ++ (text_of (map tile_words p.words) ++ text_of end_lines)))))))
puzzle_parts p =
    let first = first_line p.mating in
    let board = board_lines p.board in
    let turns = turns_words p.turns ∷ [] in
    let border = border_words p.border ∷ [] in
    let mates = mates_lines p.mating in
    let clues = clues_lines p.mating.version p.clues in
    let count = count_words (codes "tiles") (length p.words) ∷ [] in
    let tiles = map tile_words p.words in
    text_of-append first (board ++ (turns ++ (border ++ (mates ++ (clues ++ (count ++ (tiles ++ end_lines)))))))
    ∙ ap (λ s. text_of first ++ s) (text_of-append board (turns ++ (border ++ (mates ++ (clues ++ (count ++ (tiles ++ end_lines))))))
    ∙ ap (λ s. text_of board ++ s) (text_of-append turns (border ++ (mates ++ (clues ++ (count ++ (tiles ++ end_lines)))))
    ∙ ap (λ s. text_of turns ++ s) (text_of-append border (mates ++ (clues ++ (count ++ (tiles ++ end_lines))))
    ∙ ap (λ s. text_of border ++ s) (text_of-append mates (clues ++ (count ++ (tiles ++ end_lines)))
    ∙ ap (λ s. text_of mates ++ s) (text_of-append clues (count ++ (tiles ++ end_lines))
    ∙ ap (λ s. text_of clues ++ s) (text_of-append count (tiles ++ end_lines)
    ∙ ap (λ s. text_of count ++ s) (text_of-append tiles end_lines)))))))

puzzle_again : (p : Task) → IsTaskWithin p → (end : ℕ) × (puzzle_text (start (text_of (puzzle_lines p))) ≡ Ok (p, place end [] []))
unfolding puzzle_text
puzzle_again p fits =
    let last = text_of end_lines in
    let tiles = text_of (lines_of_tiles p.words) ++ last in
    let count = text_of (count_words (codes "tiles") (length p.words) ∷ []) ++ tiles in
    let clues = text_of (clues_lines p.mating.version p.clues) ++ count in
    let mates = text_of (mates_lines p.mating) ++ clues in
    let border = text_of (border_words p.border ∷ []) ++ mates in
    let turns = text_of (turns_words p.turns ∷ []) ++ border in
    let ranges = ranges_of p.mating.version in
    let one = takes_match.passes p.mating.version (mating_version p.mating fits.mating) 0 [] (text_of (board_lines p.board) ++ turns) in
    let two = (takes_board p.mating.version).passes p.board fits.board one.0 [] turns in
    let three = takes_turns.passes p.turns tt two.0 [] border in
    let four = (takes_border ranges).passes p.border fits.border three.0 [] mates in
    let five = mating_again p.mating fits.mating four.0 clues in
    let clued = clues_read_again p.mating.version p.clues fits.clues five.0 count in
    let six = (takes_counted (codes "tiles") 1 (most_of p.mating.version) refl (most_fits p.mating.version)).passes (length p.words) (fits.some_tiles, fits.few_tiles) clued.0 [] tiles in
    let seven = times_again tile_line (λ word. tile_words word ∷ []) IsWordWithin takes_tile p.words fits.words six.0 last in
    let eight = closing_again seven.0 [] in
    (eight.0, rw (puzzle_parts p, sym (flat_map_single tile_words p.words), one.1, two.1, three.1, four.1, five.1, clued.1, six.1, seven.1, eight.1) refl)

-- ---- texts that are cut short

cuts_puzzle : CutsShort puzzle_text
unfolding puzzle_text
cuts_puzzle = cuts_bind match_line after_opening cuts_match
    (λ version. cuts_bind (board_part version) (after_board version) (cuts_board version)
    (λ board. cuts_bind turns_line (after_turns version board) cuts_turns
    (λ turns. cuts_bind (border_line (ranges_of version)) (after_border version board turns) (cuts_border (ranges_of version))
    (λ border. cuts_bind (mating_part version) (after_mating version board turns border) (cuts_mating version)
    (λ mating. cuts_bind (clues_part version) (after_clues (most_of version) board turns border mating) (cuts_clues version)
    (λ clues. cuts_bind (tile_count (most_of version)) (after_count board turns border mating clues) (cuts_counted (codes "tiles") 1 (most_of version))
    (λ count. cuts_bind (times count tile_line) (after_tiles board turns border mating clues) (cuts_times count tile_line cuts_tile)
    (λ words. cuts_bind closing (λ _. give (task board turns border mating clues words)) cuts_closing (λ _. cuts_give (task board turns border mating clues words))))))))))

puzzle_leaves : LeavesNothing puzzle_text
unfolding puzzle_text
puzzle_leaves = leaves_after match_line after_opening
    (λ version. leaves_after (board_part version) (after_board version)
    (λ board. leaves_after turns_line (after_turns version board)
    (λ turns. leaves_after (border_line (ranges_of version)) (after_border version board turns)
    (λ border. leaves_after (mating_part version) (after_mating version board turns border)
    (λ mating. leaves_after (clues_part version) (after_clues (most_of version) board turns border mating)
    (λ clues. leaves_after (tile_count (most_of version)) (after_count board turns border mating clues)
    (λ count. leaves_after (times count tile_line) (after_tiles board turns border mating clues)
    (λ words. leaves_closing (task board turns border mating clues words)))))))))

-- ---- the laws of `puzzle_of`

-- what is read is spelled so
pub puzzle_found : ReadsSpellingsAlone puzzle_of IsTaskWithin puzzle_spelling
unfolding puzzle_of puzzle_spelling
puzzle_found = reads_alone puzzle_text IsTaskWithin (λ p. text_of (puzzle_lines p)) puzzle_is

-- what is spelled so is read
pub puzzle_only : ReadsEachSpelling puzzle_of IsTaskWithin puzzle_spelling
unfolding puzzle_of puzzle_spelling
puzzle_only = reads_each puzzle_text IsTaskWithin (λ p. text_of (puzzle_lines p)) puzzle_again

-- a text that is cut short ends at its last line
pub puzzle_short : EndsWhereCut puzzle_of
unfolding puzzle_of
puzzle_short = ends_where_cut puzzle_text IsTaskWithin puzzle_spelling cuts_puzzle puzzle_leaves

-- ---- writing

-- a spelling, as its lines are written
pub puzzle_written : (p : Task) → puzzle_spelling p
    ≡ (((((((text_of (first_line p.mating) ++ text_of (board_lines p.board)) ++ text_of (turns_words p.turns ∷ [])) ++ text_of (border_words p.border ∷ [])) ++ text_of (mates_lines p.mating)) ++ text_of (clues_lines p.mating.version p.clues)) ++ text_of (count_words (codes "tiles") (length p.words) ∷ [])) ++ text_of (map tile_words p.words)) ++ text_of end_lines
unfolding puzzle_spelling
puzzle_written p = puzzle_parts p
    ∙ nine_parts (text_of (first_line p.mating)) (text_of (board_lines p.board)) (text_of (turns_words p.turns ∷ [])) (text_of (border_words p.border ∷ [])) (text_of (mates_lines p.mating)) (text_of (clues_lines p.mating.version p.clues)) (text_of (count_words (codes "tiles") (length p.words) ∷ [])) (text_of (map tile_words p.words)) (text_of end_lines)
