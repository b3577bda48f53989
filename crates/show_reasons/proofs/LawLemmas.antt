-- A puzzle of which a reason holds has no arrangement.
use Rattle.std.proofs.Common.{◌≡◌, ◌*◌, ℕ, List, [], ◌∷◌, refl, arith, ap, length}
use Rattle.match_board.specs.Board.{cell_count}
use Rattle.match_board.proofs.MateLemmas.{mate_back}
use Rattle.match_puzzle.specs.Arrangement.{Stands, IsArrangement}
use Rattle.match_puzzle.specs.Fitting.{Fits}
use Rattle.match_puzzle.specs.Prefix.{empty_prefix}
use Rattle.match_puzzle.specs.Puzzle.{Task, IsPuzzle, mate_of}
use Rattle.match_puzzle.specs.declared.placements.Placement.{Placement}
use Rattle.match_puzzle.proofs.PairLemmas.{free_in_empty}
use Rattle.match_puzzle.proofs.Pigeonhole.{all_placed}
use Rattle.match_puzzle.proofs.UsedTiles.{has_none}
use Rattle.std.proofs.lemmas.Option.{slice_get_within}
use Rattle.show_text.specs.Facts.{border_count, tile_count}
use Rattle.show_reasons.specs.Laws.{ReasonLaw, ToldLaw}
use Rattle.show_reasons.specs.Sentences.{reasons_text}
use Rattle.show_reasons.specs.Reasons.{AreReasons, HoldsOf, IsShort, IsOdd, AreUnequal}
use Rattle.show_reasons.specs.declared.reasons.Reason.{Reason}
use Rattle.show_reasons.specs.declared.reasons.Reason.TheVariants.{ColourShort, Odd, Unequal, DeadCell, DeadTile}
use Rattle.show_reasons.proofs.MeetLemmas.{some_partner}
use Rattle.show_reasons.proofs.CountLemmas.{at, stands_at, shown_few}
use Rattle.show_reasons.proofs.BorderCounts.{asked_often, asked_few}
use Rattle.show_reasons.proofs.InnerCounts.{left_inside, inner_mates, inner_even}

module _ (p : Task) (a : List Placement) (puzzle : IsPuzzle p) (is : IsArrangement p a) where
  none_short : (colour asked shown : ℕ) → IsShort p colour asked shown → ⊥
  none_short colour asked shown h =
      let outer = h.counted.outer in
      let le = asked_few p outer colour h.counted.border a puzzle is in
      omega (arith, h.short, h.on_tiles, h.counted.counted, le, asked_often p outer colour puzzle h.counted.border, shown_few p a puzzle is colour)

  none_odd : (colour left : ℕ) → IsOdd p colour left → ⊥
  none_odd colour left h = some_partner p.board (4 * cell_count p.board) (λ partner tells.
      let asked = h.counted.1 in
      let inside = left_inside p a puzzle is partner tells asked.outer asked.border colour h.inside in
      omega (arith, inside, inner_even p a puzzle is partner tells colour h.own, h.odd, h.counted.2, asked.counted))

  none_unequal : (colour left mate mate_left : ℕ) → AreUnequal p colour left mate mate_left → ⊥
  none_unequal colour left mate mate_left h = some_partner p.board (4 * cell_count p.board) (λ partner tells.
      let asked = h.counted.1 in
      let mate_asked = h.mate_counted.1 in
      let inside = left_inside p a puzzle is partner tells asked.outer asked.border colour h.inside in
      let mate_inside = left_inside p a puzzle is partner tells mate_asked.outer mate_asked.border (mate_of p colour) h.inside in
      let same = inner_mates p a puzzle is partner tells colour (mate_back p.mating.mates puzzle.mating.mates colour) in
      let tiles = ap (tile_count p.words) h.mates in
      let asks = ap (border_count p.border (length mate_asked.outer)) h.mates in
      h.unequal (omega (arith, inside, mate_inside, same, tiles, asks, h.counted.2, h.mate_counted.2, asked.counted, mate_asked.counted)))

  -- what stands somewhere fits there on the empty board
  fits_there : (cell : ℕ) (x : Placement) → Stands a cell x → Fits p (empty_prefix p) cell x
  fits_there cell x s = record {
    free = free_in_empty p cell (let lt = slice_get_within a cell x s in omega (arith, lt, is.cells));
    unused = λ c y has e. has_none (cell_count p.board) c y has;
    legal = is.legal cell x s;
    border = λ side colour rule. is.border cell side colour x s rule;
    edges = λ side c k y meets has. absurd (has_none (cell_count p.board) c y has);
  }

  pub none_with : (reason : Reason) → HoldsOf p reason → ⊥
  none_with (ColourShort colour asked shown) h = none_short colour asked shown h
  none_with (Odd colour left) h = none_odd colour left h
  none_with (Unequal colour left mate mate_left) h = none_unequal colour left mate mate_left h
  none_with (DeadCell cell) h = h.1 (at p a cell) (fits_there cell (at p a cell) (stands_at p a puzzle is cell h.0))
  none_with (DeadTile tile) h = let w = all_placed p a h.0 is tile h.1 in h.2 w.0 w.1 w.3 (fits_there w.0 w.1 w.2)

pub reason_law : ReasonLaw
reason_law = λ p reason a puzzle h is. none_with p a puzzle is reason h

pub told_law : ToldLaw
told_law = λ p text a puzzle tells some is. by_list p text a puzzle is some tells.reasons tells.all tells.told
  where
    by_list : (p : Task) (text : List ℕ) (a : List Placement) → IsPuzzle p → IsArrangement p a → (text ≡ [] → ⊥) → (reasons : List Reason) → AreReasons p reasons → text ≡ reasons_text reasons → ⊥
    by_list p text a puzzle is some [] all told = some told
    by_list p text a puzzle is some (reason ∷ reasons) all told = none_with p a puzzle is reason (all.only reason (0, omega arith, refl))
