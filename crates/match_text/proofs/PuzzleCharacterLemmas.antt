-- A text that spells a puzzle is of the characters of texts.
use Rattle.std.proofs.Common.{◌≡◌, ◌==◌, ℕ, zero, suc, ◌<◌, ◌≤◌, ◌^◌, if◌then◌else◌, Bool, true, false, List, [], ◌∷◌, ◌++◌, length, map, take, drop, refl, sym, subst, arith, codes, ⊎_elim}
use Rattle.std.specs.List.{AllByRecursion}
use Rattle.match_limits.specs.declared.TheConstants.{MOST_CELLS, MOST_COLOURS}
use Rattle.match_limits.specs.Ranges.{ranges_of}
use Rattle.match_limits.proofs.RangesLemmas.{are_ranges}
use Rattle.match_board.specs.Borders.{BorderRule, free, one, each}
use Rattle.match_board.specs.Clues.{Clue}
use Rattle.match_board.specs.Mates.{Mating, IsOfVersion}
use Rattle.match_board.specs.declared.figures.Figure.{Figure}
use Rattle.match_board.specs.declared.figures.Figure.TheVariants.{Rectangle, Triangle, Hexagon, Shape}
use Rattle.match_puzzle.specs.Puzzle.{Task}
use Rattle.text_words.specs.Characters.{has_text_characters, IsOfTextCharacters, ReadsTextCharactersAlone}
use Rattle.text_words.specs.Spelling.{colour_word, rule_word, first_words, count_words, end_lines}
use Rattle.text_words.specs.Within.{IsRuleWithin, IsWordWithin, IsClueWithin}
use Rattle.text_words.proofs.CharacterLemmas.{are_plain, are_plain_lines, plain-asks, plain-colour, plain-counted, plain-decimal, plain-rule, plain-text, plain-tile, words-map, lines-append, lines-map}
use Rattle.match_text.specs.Puzzles.{puzzle_of}
use Rattle.match_text.specs.PuzzleSpelling.{mates_words, mates_lines, clue_words, counted_lines, clues_lines, mark_character, row_lines, board_lines, turns_words, border_words, tile_words, puzzle_lines, puzzle_spelling, IsFigureWithin, IsBorderWithin, IsTaskWithin}
use Rattle.match_text.proofs.PuzzleLemmas.{puzzle_found}

plain-tile_words : (word : List ℕ) → IsWordWithin word → are_plain (tile_words word) ≡ true
plain-tile_words word fits = rw (plain-tile word fits.1) refl

plain-marks : (row : List Bool) → has_text_characters (map mark_character row) ≡ true
plain-marks [] = refl
plain-marks (true ∷ row) = plain-marks row
plain-marks (false ∷ row) = plain-marks row

plain-row_lines : (width rows : ℕ) (mask : List Bool) → are_plain_lines (row_lines width rows mask) ≡ true
plain-row_lines width zero mask = refl
plain-row_lines width (suc rows) mask = rw (plain-marks (take width mask), plain-row_lines width rows (drop width mask)) refl

plain-board : (version : ℕ) (board : Figure) → IsFigureWithin version board → are_plain_lines (board_lines board) ≡ true
plain-board version (Rectangle width height) fits = rw (plain-decimal width (omega (arith, fits.0)), plain-decimal height (omega (arith, fits.1))) refl
plain-board version (Triangle size) fits = rw (plain-decimal size (omega (arith, fits))) refl
plain-board version (Hexagon size) fits = rw (plain-decimal size (omega (arith, fits))) refl
plain-board version (Shape width height mask) fits =
    rw (plain-decimal width (omega (arith, fits.1.1)), plain-decimal height (omega (arith, fits.2.1)), plain-row_lines width height mask) refl

plain-turns : (turns : Bool) → are_plain (turns_words turns) ≡ true
plain-turns true = refl
plain-turns false = refl

plain-border : (version : ℕ) (border : BorderRule) → IsBorderWithin (ranges_of version) border → are_plain (border_words border) ≡ true
plain-border version free fits = refl
plain-border version (one colour) fits = rw (plain-colour colour fits) refl
plain-border version (each rules) fits = words-map IsRuleWithin rule_word plain-rule rules fits.2

plain-clue : (c : Clue) → IsClueWithin c → are_plain (clue_words c) ≡ true
plain-clue c fits = rw (plain-decimal c.cell (omega (arith, fits.0)), plain-asks c.asks fits.1.1) refl

plain-clues : (third : Bool) (clues : List Clue) → length clues ≤ MOST_CELLS → AllByRecursion IsClueWithin clues → are_plain_lines (if third then counted_lines clues else []) ≡ true
plain-clues false clues few fits = refl
plain-clues true clues few fits = rw (plain-counted (codes "clues") (length clues) refl (omega (arith, few)), lines-map IsClueWithin clue_words plain-clue clues fits) refl

plain-mates : (first : Bool) (mates : List ℕ) → AllByRecursion (λ colour. colour < MOST_COLOURS) mates → are_plain_lines (if first then [] else mates_words mates ∷ []) ≡ true
plain-mates true mates fits = refl
plain-mates false mates fits = rw (words-map (λ colour. colour < MOST_COLOURS) colour_word plain-colour mates fits) refl

version_is : (m : Mating) → IsOfVersion m → m.version < 2 ^ 64
version_is m is = ⊎_elim (λ first. omega (arith, first.0)) (λ later. ⊎_elim (λ second. omega (arith, second)) (λ third. omega (arith, third)) later) is

plain-puzzle : (p : Task) → IsTaskWithin p → IsOfTextCharacters (puzzle_spelling p)
unfolding puzzle_spelling
plain-puzzle p fits =
    let tiles = map tile_words p.words in
    let counted = count_words (codes "tiles") (length p.words) in
    let clues = clues_lines p.mating.version p.clues in
    let mates = mates_lines p.mating in
    let few : length p.words < 2 ^ 64 = omega (arith, fits.few_tiles, (are_ranges p.mating.version).few) in
    let seven = lines-append tiles end_lines (lines-map IsWordWithin tile_words plain-tile_words p.words fits.words) refl in
    let six : are_plain_lines ((counted ∷ []) ++ (tiles ++ end_lines)) ≡ true = rw (plain-counted (codes "tiles") (length p.words) refl few, seven) refl in
    let five = lines-append clues ((counted ∷ []) ++ (tiles ++ end_lines)) (plain-clues (p.mating.version == 3) p.clues fits.clues.1 fits.clues.2) six in
    let four = lines-append mates (clues ++ ((counted ∷ []) ++ (tiles ++ end_lines))) (plain-mates (p.mating.version == 1) p.mating.mates fits.mating.2) five in
    let three : are_plain_lines ((border_words p.border ∷ []) ++ (mates ++ (clues ++ ((counted ∷ []) ++ (tiles ++ end_lines))))) ≡ true = rw (plain-border p.mating.version p.border fits.border, four) refl in
    let two : are_plain_lines ((turns_words p.turns ∷ []) ++ ((border_words p.border ∷ []) ++ (mates ++ (clues ++ ((counted ∷ []) ++ (tiles ++ end_lines)))))) ≡ true = rw (plain-turns p.turns, three) refl in
    let others = lines-append (board_lines p.board) ((turns_words p.turns ∷ []) ++ ((border_words p.border ∷ []) ++ (mates ++ (clues ++ ((counted ∷ []) ++ (tiles ++ end_lines)))))) (plain-board p.mating.version p.board fits.board) two in
    let first : are_plain (first_words (codes "match") p.mating.version) ≡ true = plain-counted (codes "match") p.mating.version refl (version_is p.mating fits.mating.0) in
    plain-text (puzzle_lines p) (rw (first, others) refl)

pub puzzles_are : ReadsTextCharactersAlone puzzle_of
puzzles_are text p e =
    let found = puzzle_found text p e in
    subst IsOfTextCharacters (sym found.1) (plain-puzzle p found.0)
