-- Puzzles that differ in their versions and in their boards alone, which are alike.
use Rattle.std.proofs.Common.{◌≡◌, ◌↔◌, ℕ, Bool, List, max, refl, ap, ◌∙◌, inl, inr, arith, ⊎_elim}
use Rattle.match_board.specs.Board.{AreAlike}
use Rattle.match_board.specs.declared.figures.Figure.{Figure}
use Rattle.match_board.proofs.AlikeLemmas.{alike_turned, alike_border_pair, alike_border_order, second_alike, second_is_board}
use Rattle.match_board.specs.Mates.{IsOfVersion, mating_of}
use Rattle.match_board.specs.Clues.{Clue}
use Rattle.match_puzzle.specs.Puzzle.{Task, AreClues, HasRule, IsLegal, IsPuzzle, colour_of, mate_of, second_form_of}
use Rattle.match_board.specs.Borders.{BorderRule, free, one, each, Asks, IsAsLongAsBorder}
use Rattle.match_puzzle.specs.Arrangement.{IsArrangement}
use Rattle.match_puzzle.specs.Prefix.{Prefix}
use Rattle.match_puzzle.specs.Fitting.{Fits}
use Rattle.match_puzzle.specs.declared.placements.Placement.{Placement}

pub asks_alike : {s t : Figure} → AreAlike s t → (border : BorderRule) (cell side colour : ℕ) → Asks s border cell side colour → Asks t border cell side colour
asks_alike a free cell side colour asked = asked
asks_alike a (one c) cell side colour asked = asked
asks_alike a (each rules) cell side colour asked = (asked.0, alike_border_order asked.0 a asked.1, asked.2, asked.3, asked.4)

long_alike : {s t : Figure} → AreAlike s t → (border : BorderRule) → IsAsLongAsBorder s border → IsAsLongAsBorder t border
long_alike a free long = tt
long_alike a (one c) long = tt
long_alike a (each rules) long = (long.0, alike_border_order long.0 a long.1, long.2)

-- puzzles with all but their boards and versions in common
module _ (turns : Bool) (border : BorderRule) (mates : List ℕ) (clues : List Clue) (words : List (List ℕ)) where
  abbrev pub on : Figure → (version : ℕ) → Task
  on board version = record { board = board; turns = turns; border = border; mating = mating_of version mates; clues = clues; words = words }

  module _ {s t : Figure} (a : AreAlike s t) (v w : ℕ) where
    pub rule_alike : {cell side colour : ℕ} → HasRule (on s v) cell side colour → HasRule (on t w) cell side colour
    rule_alike {cell} {side} {colour} rule = record {
      cell_in = let cells = a.cells in let lt = rule.cell_in in omega (arith, cells, lt);
      side_in = let sides = a.sides in let lt = rule.side_in in omega (arith, sides, lt);
      asked = ⊎_elim (λ w. inl (alike_border_pair a w.0, asks_alike a border cell side colour w.1)) (λ w. inr w) rule.asked;
    }

    pub legal_alike : (x : Placement) → IsLegal (on s v) x → IsLegal (on t w) x
    legal_alike x legal = record { tile = legal.tile; turn = legal.turn }

    pub same_colour : (x : Placement) (side : ℕ) → colour_of (on s v) x side ≡ colour_of (on t w) x side
    unfolding colour_of
    same_colour x side = refl

  module _ {s t : Figure} (a : AreAlike s t) (v w : ℕ) where
    back : AreAlike t s
    back = alike_turned a

    pub arrangement_alike : (xs : List Placement) → IsArrangement (on s v) xs → IsArrangement (on t w) xs
    arrangement_alike xs is = record {
      cells = is.cells ∙ a.cells;
      legal = λ cell x stands. legal_alike a v w x (is.legal cell x stands);
      once = is.once;
      border = λ cell side colour x stands rule.
          same_colour back w v x side ∙ is.border cell side colour x stands (rule_alike back w v rule);
      edges = λ cell side cell' side' x y meets here there.
          same_colour back w v x side
          ∙ is.edges cell side cell' side' x y ((a.meet cell side cell' side').1 meets) here there
          ∙ ap (mate_of (on s v)) (same_colour a v w y side');
    }

    pub fits_alike : (q : Prefix) (cell : ℕ) (x : Placement) → Fits (on s v) q cell x → Fits (on t w) q cell x
    fits_alike q cell x fits = record {
      free = fits.free;
      unused = fits.unused;
      legal = legal_alike a v w x fits.legal;
      border = λ side colour rule. same_colour back w v x side ∙ fits.border side colour (rule_alike back w v rule);
      edges = λ side cell' side' y meets has.
          same_colour back w v x side
          ∙ fits.edges side cell' side' y ((a.meet cell side cell' side').1 meets) has
          ∙ ap (mate_of (on s v)) (same_colour a v w y side');
    }

pub same_arrangements : (p : Task) (xs : List Placement) → IsArrangement p xs ↔ IsArrangement (second_form_of p) xs
same_arrangements p xs =
    let a = second_alike p.board in
    let v = p.mating.version in (
      λ is. arrangement_alike p.turns p.border p.mating.mates p.clues p.words a v (max 2 v) xs is,
      λ is. arrangement_alike p.turns p.border p.mating.mates p.clues p.words (alike_turned a) (max 2 v) v xs is,
    )

pub same_fits : (p : Task) (q : Prefix) (cell : ℕ) (x : Placement) → Fits p q cell x ↔ Fits (second_form_of p) q cell x
same_fits p q cell x =
    let a = second_alike p.board in
    let v = p.mating.version in (
      λ is. fits_alike p.turns p.border p.mating.mates p.clues p.words a v (max 2 v) q cell x is,
      λ is. fits_alike p.turns p.border p.mating.mates p.clues p.words (alike_turned a) (max 2 v) v q cell x is,
    )

clues_alike : (turns : Bool) (border : BorderRule) (mates : List ℕ) (clues : List Clue) (words : List (List ℕ)) {s t : Figure} → AreAlike s t → (v w : ℕ) → AreClues (on turns border mates clues words s v) → AreClues (on turns border mates clues words t w)
clues_alike turns border mates clues words a v w are = record {
  cells = λ n c stands. let lt = are.cells n c stands in let cells = a.cells in omega (arith, lt, cells);
  rising = are.rising;
  sides = λ n c stands. are.sides n c stands ∙ a.sides;
  colours = are.colours;
  agree = λ cell side colour other one two.
      are.agree cell side colour other (rule_alike turns border mates clues words (alike_turned a) w v one) (rule_alike turns border mates clues words (alike_turned a) w v two);
}

-- a puzzle's version, and at least 2
second_version : (v : ℕ) (mates : List ℕ) → IsOfVersion (mating_of v mates) → IsOfVersion (mating_of (max 2 v) mates)
second_version v mates is =
    inr (⊎_elim (λ one. let e = one.0 in inl (omega (arith, e))) (λ later. ⊎_elim (λ e. inl (omega (arith, e))) (λ e. inr (omega (arith, e))) later) is)

-- the second form of a puzzle is a puzzle
pub second_is_puzzle : (p : Task) → IsPuzzle p → IsPuzzle (second_form_of p)
second_is_puzzle p is =
    let a = second_alike p.board in
    record {
      board = second_is_board p.board is.board;
      triangles = λ three. is.triangles (a.sides ∙ three);
      tiles = record {
        enough = let same = a.cells in let enough = is.tiles.enough in omega (arith, same, enough);
        few = is.tiles.few;
        as_many = λ before. is.tiles.as_many (omega (arith, before)) ∙ a.cells;
      };
      sides = λ tile lt. is.sides tile lt ∙ a.sides;
      tile_colours = is.tile_colours;
      border_colours = is.border_colours;
      border = long_alike a p.border is.border;
      mating = record { version = second_version p.mating.version p.mating.mates is.mating.version; mates = is.mating.mates };
      shapes = λ shape. omega arith;
      clues = clues_alike p.turns p.border p.mating.mates p.clues p.words a p.mating.version (max 2 p.mating.version) is.clues;
      without = λ before. is.without (omega (arith, before));
    }
