-- What reading a puzzle comes to.
use Rattle.std.proofs.Common.{◌≡◌, ◌≢◌, ◌⊎◌, [], Some, inl, inr, refl, ◌<◌, ◌≤◌, ◌+◌, ◌^◌, ℕ, List, ◌∷◌, length, map, take, Result, Ok, Err, sym, ap, subst, ◌∙◌, arith, ⊎_elim}
use Rattle.match_limits.specs.declared.TheConstants.{MOST_COLOURS, MOST_CELLS}
use Rattle.match_limits.specs.declared.ranges.Ranges.{Ranges}
use Rattle.match_limits.specs.Ranges.{ranges_of, AreRanges}
use Rattle.match_board.specs.Mates.{IsOfVersion}
use Rattle.match_limits.proofs.RangesLemmas.{are_ranges}
use Rattle.std.specs.Prelude.{IfOk, slice_get}
use Rattle.match_limits.proofs.ListLemmas.{contains_at}
use Rattle.match_board.specs.Clues.{Clue, clue_of}
use Rattle.match_board.specs.declared.clues.Clue.{Clue as BoardClue}
use Rattle.match_board.specs.declared.boards.BoardFault.{BoardFault}
use Rattle.match_board.specs.declared.boards.BoardFault.TheVariants.{Empty, TooLarge}
use Rattle.match_puzzle.specs.Puzzle.{Task, IsPuzzle, HasRule}
use Rattle.match_board.specs.Borders.{BorderRule, free, one, each, IsShortRule}
use Rattle.match_puzzle.specs.PuzzleFaults.{PuzzleFails, DefiesBorder}
use Rattle.match_puzzle.specs.declared.faults.PuzzleFault.{PuzzleFault}
use Rattle.match_puzzle.specs.declared.faults.PuzzleFault.TheVariants as puzzle
use Rattle.text_words.specs.declared.faults.TextFault.{TextFault}
use Rattle.text_words.specs.declared.faults.TextKind.TheVariants.{Ends}
use Rattle.match_text.specs.declared.faults.PuzzleTextFault.{PuzzleTextFault}
use Rattle.match_text.specs.declared.faults.PuzzleTextFault.TheVariants as faults
use Rattle.text_words.specs.Bytes.{line_ends}
use Rattle.text_words.specs.Place.{fail}
use Rattle.match_text.specs.Puzzles.{puzzle_of, BoardFails, PuzzleReads, PuzzleGives}
use Rattle.match_text.specs.PuzzleSpelling.{puzzle_spelling, IsFigureWithin, IsBorderWithin, IsTaskWithin}
use Rattle.match_board.specs.Board.{IsPlain, cell_count, side_count}
use Rattle.match_board.specs.declared.figures.Figure.{Figure}
use Rattle.match_board.specs.declared.figures.Figure.TheVariants.{Rectangle, Triangle, Hexagon, Shape}
use Rattle.text_words.proofs.CutLemmas.{ok_is}
use Rattle.match_text.proofs.PuzzleLemmas.{puzzle_found, puzzle_only, puzzle_short}
use Rattle.match_text.proofs.LimitLemmas.{puzzle_within}
use Rattle.match_board.proofs.MateLemmas.{not_without}

-- ---- how much was read

short_rule : (ranges : Ranges) → AreRanges ranges → (border : BorderRule) → IsBorderWithin ranges border → IsShortRule border
short_rule ranges are free within = tt
short_rule ranges are (one c) within = tt
short_rule ranges are (each rules) within = omega (arith, within.1, are.rules, are.few)

pub said_border : (text : List ℕ) (said : Task) → puzzle_of text ≡ Ok said → IsShortRule said.border
said_border text said e = short_rule (ranges_of said.mating.version) (are_ranges said.mating.version) said.border (puzzle_found text said e).0.border

pub said_tiles : (text : List ℕ) (said : Task) → puzzle_of text ≡ Ok said → length said.words < 2 ^ 32
said_tiles text said e = let are = are_ranges said.mating.version in omega (arith, (puzzle_found text said e).0.few_tiles, are.few)

pub said_mates : (text : List ℕ) (said : Task) → puzzle_of text ≡ Ok said → length said.mating.mates ≤ MOST_COLOURS
said_mates text said e = (puzzle_found text said e).0.mating.1

pub said_clues : (text : List ℕ) (said : Task) → puzzle_of text ≡ Ok said → length said.clues ≤ MOST_CELLS
said_clues text said e = (puzzle_found text said e).0.clues.1

-- there are clues in version 3 alone
pub said_without : (text : List ℕ) (said : Task) → puzzle_of text ≡ Ok said → said.mating.version ≢ 3 → said.clues ≡ []
said_without text said e = (puzzle_found text said e).0.clues.0

cons_not_nil : (c : Clue) (clues : List Clue) → c ∷ clues ≡ [] → ⊥
cons_not_nil c clues e = cc

-- of no clues
pub unmapped : (clues : List BoardClue) → map clue_of clues ≡ [] → clues ≡ []
unmapped [] e = refl
unmapped (c ∷ clues) e = absurd (cons_not_nil (clue_of c) (map clue_of clues) e)

pub said_version : (text : List ℕ) (said : Task) → puzzle_of text ≡ Ok said → IsOfVersion said.mating
said_version text said e = (puzzle_found text said e).0.mating.0

figure_plain : (s : Figure) (version : ℕ) → IsFigureWithin version s → version ≡ 1 → IsPlain s
figure_plain (Rectangle width height) version within first = tt
figure_plain (Triangle size) version within first = tt
figure_plain (Hexagon size) version within first = tt
figure_plain (Shape width height mask) version within first = absurd (omega (arith, first, within.0))

-- the board of version 1 is no shape
pub said_plain : (text : List ℕ) (said : Task) → puzzle_of text ≡ Ok said → said.mating.version ≡ 1 → IsPlain said.board
said_plain text said e first = figure_plain said.board said.mating.version (puzzle_found text said e).0.board first

-- ---- the laws of what a call returned

pub found_of : (text : List ℕ) (result : Result Task PuzzleTextFault) → PuzzleReads text result → IfOk result (λ p. text ≡ puzzle_spelling p)
found_of text (Ok p) is = (puzzle_found text p is.0).1
found_of text (Err fault) is = tt

ok_err : (p : Task) (fault : TextFault) → ◌≡◌ {A = Result Task TextFault} (Ok p) (Err fault) → ⊥
ok_err p fault e = cc

same_fault : (f g : TextFault) → ◌≡◌ {A = Result Task TextFault} (Err f) (Err g) → f ≡ g
same_fault f g e = cc

-- a puzzle has no fault
no_board_fault : (p : Task) (fault : BoardFault) → IsPuzzle p → BoardFails p.board fault → ⊥
no_board_fault p Empty is fails = omega (arith, is.board.some, fails)
no_board_fault p TooLarge is fails = fails.1 is.board.room

-- the border asks for no other colour than a clue
no_defiance : (p : Task) → IsPuzzle p → (n : ℕ) (c : Clue) → slice_get p.clues n ≡ Some c → DefiesBorder p.board p.border c → ⊥
no_defiance p is n c at w =
    let side = w.0 in
    let pair = w.3 in
    let border : HasRule p c.cell side w.1 = record { cell_in = pair.cell_in; side_in = pair.side_in; asked = inl (pair, w.4) } in
    let clue : HasRule p c.cell side w.2 = record { cell_in = pair.cell_in; side_in = pair.side_in; asked = inr (c, contains_at p.clues n c at, refl, w.5) } in
    w.6 (is.clues.agree c.cell side w.1 w.2 border clue)

-- what may be wrong with a clue
abbrev WhyBroken : Task → ℕ → Clue → Type 0
WhyBroken p n c =
    (cell_count p.board ≤ c.cell)
    ⊎ ((before : ℕ) × (d : Clue) × (before < n) × (slice_get p.clues before ≡ Some d) × (c.cell ≤ d.cell))
    ⊎ (length c.asks ≢ side_count p.board)
    ⊎ DefiesBorder p.board p.border c

no_broken_clue : (p : Task) → IsPuzzle p → (n : ℕ) (c : Clue) → slice_get p.clues n ≡ Some c → WhyBroken p n c → ⊥
no_broken_clue p is n c at why =
    ⊎_elim (λ outside. let cell = is.clues.cells n c at in omega (arith, cell, outside))
    (λ others. ⊎_elim (λ w. let less = is.clues.rising w.0 n w.1 c w.3 at w.2 in omega (arith, less, w.4))
    (λ last. ⊎_elim (λ long. long (is.clues.sides n c at)) (λ defies. no_defiance p is n c at defies) last) others) why

no_puzzle_fault : (p : Task) (fault : PuzzleFault) → IsPuzzle p → PuzzleFails p fault → ⊥
no_puzzle_fault p puzzle.FixedTriangles is fails = let yes' = is.triangles fails.0 in absurd cc
no_puzzle_fault p puzzle.TileCount is fails = fails is.tiles
no_puzzle_fault p (puzzle.TileSides tile) is fails = fails.1 (is.sides tile fails.0)
no_puzzle_fault p (puzzle.BadColour place) is fails = omega (arith, is.border_colours place fails.0 fails.1, fails.2)
no_puzzle_fault p puzzle.BorderLength is fails = fails is.border
no_puzzle_fault p (puzzle.Mates place) is fails =
    ⊎_elim (λ none. not_without p.mating.mates place (is.mating.mates.each place none.0) none) (λ long. let few = is.mating.mates.few in omega (arith, few, long.1)) fails
no_puzzle_fault p (puzzle.Clue number) is fails = no_broken_clue p is number fails.0 fails.1 fails.2
no_puzzle_fault p puzzle.Memory is fails = fails

only_one : (text : List ℕ) (p : Task) → puzzle_of text ≡ Ok p → IsPuzzle p → (result : Result Task PuzzleTextFault) → PuzzleReads text result → PuzzleGives result (Ok p)
only_one text p e is (Ok q) reads = sym e ∙ reads.0
only_one text p e is (Err (faults.Text fault)) reads = absurd (ok_err p fault (sym e ∙ reads))
only_one text p e is (Err (faults.Board fault)) reads =
    let same : reads.0 ≡ p = ok_is reads.0 p (sym reads.1 ∙ e) in
    absurd (no_board_fault p fault is (subst (λ (q : Task). BoardFails q.board fault) same reads.2))
only_one text p e is (Err (faults.Puzzle fault)) reads =
    let same : reads.0 ≡ p = ok_is reads.0 p (sym reads.1 ∙ e) in
    absurd (no_puzzle_fault p fault is (subst (λ (q : Task). PuzzleFails q fault) same reads.3.occurs))
only_one text p e is (Err faults.Memory) reads = tt

pub only_of : (text : List ℕ) (result : Result Task PuzzleTextFault) → PuzzleReads text result → (p : Task) → IsPuzzle p → text ≡ puzzle_spelling p → PuzzleGives result (Ok p)
only_of text result reads p is e = only_one text p (ap puzzle_of e ∙ puzzle_only p (puzzle_within p is)) is result reads

cut_one : (text : List ℕ) (fault : TextFault) → puzzle_of text ≡ Err fault → (result : Result Task PuzzleTextFault) → PuzzleReads text result → PuzzleGives result (Err fault)
cut_one text fault e (Ok q) reads = absurd (ok_err q fault (sym reads.0 ∙ e))
cut_one text fault e (Err (faults.Text other)) reads = sym e ∙ reads
cut_one text fault e (Err (faults.Board other)) reads = absurd (ok_err reads.0 fault (sym reads.1 ∙ e))
cut_one text fault e (Err (faults.Puzzle other)) reads = absurd (ok_err reads.0 fault (sym reads.1 ∙ e))
cut_one text fault e (Err faults.Memory) reads = tt

pub cut_of : (text : List ℕ) (result : Result Task PuzzleTextFault) → PuzzleReads text result → (p : Task) (k : ℕ) → IsTaskWithin p → k < length (puzzle_spelling p) → text ≡ take k (puzzle_spelling p)
    → PuzzleGives result (fail (line_ends text + 1) Ends)
cut_of text result reads p k within lt e =
    cut_one text (record { line = line_ends text + 1; kind = Ends }) (ap puzzle_of e ∙ puzzle_short (puzzle_spelling p) p k (puzzle_only p within) lt ∙ ap (λ t. fail (line_ends t + 1) Ends) (sym e)) result reads
