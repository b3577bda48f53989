-- What is printed of a complete list can be printed, and is what it is to be.
use Rattle.std.proofs.Common.{◌≡◌, ◌≤◌, ℕ, suc, List, [], ◌∷◌, Some, Contains, length, map, slice_get, arith, refl, ap, sym, ◌∙◌, subst, ⊎_elim}
use Rattle.match_limits.specs.declared.TheConstants.{MOST_ARRANGEMENTS}
use Rattle.match_limits.specs.declared.ranges.TheConstants.{SECOND}
use Rattle.match_limits.proofs.ListLemmas.{contains_at, contains_none, mapped_at, place_of}
use Rattle.std.specs.List.{AllByRecursion}
use Rattle.match_puzzle.specs.Puzzle.{Task, IsPuzzle}
use Rattle.match_puzzle.specs.Arrangement.{IsArrangement}
use Rattle.match_puzzle.specs.declared.placements.Placement.{Placement}
use Rattle.match_puzzle.proofs.FittingLemmas.{small_turn}
use Rattle.match_board.specs.declared.symmetry_lines.SymmetryLine.{SymmetryLine}
use Rattle.match_text.specs.ListSpelling.{IsRowWithin, IsListWithin}
use Rattle.text_words.specs.Within.{IsPlacementWithin}
use Rattle.puzzle_symmetry.specs.Complete.{AreSymmetries, IsCompleteList}
use Rattle.puzzle_symmetry.specs.Motion.{Motion, line_of, motion_of}
use Rattle.puzzle_symmetry.specs.Symmetry.{IsSymmetry}
use Rattle.puzzle_symmetry.proofs.MotionLemmas.{are_of_puzzle, lines_of}
use Rattle.puzzle_symmetry.proofs.Reaching.{reached_is}
use Rattle.cert_tree.specs.Certificate.{Piece}
use Rattle.cert_check.specs.Setting.{Question, motions_of}
use Rattle.symmetry_orbits.specs.Closure.{AddsEach}
use Rattle.symmetry_orbits.specs.Expansion.{AreMoreReached, AreOf, IsExpansion, HasWhatIsReached}
use Rattle.symmetry_orbits.specs.Orbits.{AreOneOfEachOrbit}
use Rattle.symmetry_orbits.proofs.ClosureLemmas.{each_only}
use Rattle.symmetry_orbits.proofs.ExpansionLemmas.{has_what_is_reached}
use Rattle.symmetry_orbits.proofs.RepetitionLemmas.{more_are_reached}
use Rattle.match_report.specs.CompleteLists.{AreAllInOrder}

-- ---- lists of all arrangements

all_by_place : {X : Type 0} (P : X → Type 0) (xs : List X) → ((i : ℕ) (x : X) → slice_get xs i ≡ Some x → P x) → AllByRecursion P xs
all_by_place P [] each = tt
all_by_place P (x ∷ xs) each = (each 0 x refl, all_by_place P xs (λ i y at. each (suc i) y at))

-- an arrangement has a spelling
row_within : (p : Task) (a : List Placement) → IsPuzzle p → IsArrangement p a → IsRowWithin SECOND a
row_within p a puzzle is = (
  omega (arith, is.cells, puzzle.board.some),
  omega (arith, is.cells, puzzle.board.most),
  all_by_place (IsPlacementWithin SECOND) a (λ cell x at.
      let legal = is.legal cell x at in
      (let few = puzzle.tiles.few in omega (arith, legal.tile, few), omega (arith, small_turn p x puzzle legal))),
)

-- arrangements that are few enough have a spelling
pub arrangements_within : (p : Task) (listed : List (List Placement)) → IsPuzzle p → ((a : List Placement) → Contains listed a → IsArrangement p a) → length listed ≤ MOST_ARRANGEMENTS → IsListWithin SECOND listed
arrangements_within p listed puzzle are few = (few, all_by_place (IsRowWithin SECOND) listed (λ i a at. row_within p a puzzle (are a (contains_at listed i a at))))

module _ (p : Task) (listed : List (List Placement)) (lines : List SymmetryLine) (puzzle : IsPuzzle p) (complete : IsCompleteList p lines listed) where
  -- each symmetry that is kept has one of the lines
  kept_line : (kept : List Motion) → AddsEach [] (map (motion_of p) lines) kept → (m : Motion) → Contains kept m → (number : ℕ) × (g : SymmetryLine) × (slice_get lines number ≡ Some g) × (m ≡ motion_of p g)
  kept_line kept adds m among =
      let from = ⊎_elim (λ none. absurd (contains_none m none)) (λ old. old) (each_only [] (map (motion_of p) lines) kept adds m among) in
      let at = place_of (map (motion_of p) lines) m from in
      let g = mapped_at (motion_of p) lines at.0 m at.1 in
      (at.0, g.0, g.1, g.2)

  pub kept_are : (kept : List Motion) → AddsEach [] (map (motion_of p) lines) kept → AreOf p listed kept
  kept_are kept adds = record {
    puzzle = puzzle;
    arrangements = complete.arrangements;
    made = λ number m at. let from = kept_line kept adds m (contains_at kept number m at) in ap (λ (n : Motion). n.puzzle) from.3;
    symmetries = λ number g at.
        let m = mapped_at line_of kept number g at in
        let from = kept_line kept adds m.0 (contains_at kept number m.0 m.1) in
        subst (IsSymmetry p) (sym (m.2 ∙ ap line_of from.3)) (complete.symmetries from.0 from.1 from.2);
  }

  pub kept_reach : (most : ℕ) (kept : List Motion) → AddsEach [] (map (motion_of p) lines) kept → AreMoreReached most p (map line_of kept) listed → AreMoreReached most p lines listed
  kept_reach most kept adds more =
      more_are_reached most p (map line_of kept) lines listed (λ g among.
      let at = place_of (map line_of kept) g among in
      let m = mapped_at line_of kept at.0 g at.1 in
      let from = kept_line kept adds m.0 (contains_at kept at.0 m.0 m.1) in
      subst (Contains lines) (sym (m.2 ∙ ap line_of from.3)) (contains_at lines from.0 from.1 from.2)) more

  pub all_are : AreOf p listed (map (motion_of p) lines)
  all_are = record {
    puzzle = puzzle;
    arrangements = complete.arrangements;
    made = are_of_puzzle p lines;
    symmetries = subst (AreSymmetries p) (sym (lines_of p lines)) complete.symmetries;
  }

  listed_are : (a : List Placement) → Contains listed a → IsArrangement p a
  listed_are a among = let at = place_of listed a among in complete.arrangements at.0 a at.1

  module _ (all : List (List Placement)) (is : IsExpansion (map (motion_of p) lines) listed all) where
    all_reached : HasWhatIsReached p lines listed all
    all_reached = subst (λ gs. HasWhatIsReached p gs listed all) (lines_of p lines) (has_what_is_reached p listed (map (motion_of p) lines) all_are all is)

    are_arrangements : (a : List Placement) → Contains all a → IsArrangement p a
    are_arrangements a among = reached_is p lines listed puzzle complete.symmetries listed_are a ((all_reached.just a).0 among)

    pub all_within : length all ≤ MOST_ARRANGEMENTS → IsListWithin SECOND all
    all_within few = arrangements_within p all puzzle are_arrangements few

    pub all_in_order : length all ≤ MOST_ARRANGEMENTS → (lemmas : List Piece) → AreAllInOrder (record { puzzle = p; listed = listed; symmetries = lines; lemmas = lemmas }) all
    all_in_order few lemmas = record {
      expansion = is;
      just = λ a. (are_arrangements a, λ arranged. (all_reached.just a).1 (complete.reached a arranged));
      once = all_reached.once;
      few = few;
    }

-- ---- what was read of a question whose list is complete

module _ (question : Question) (puzzle : IsPuzzle question.puzzle) (complete : IsCompleteList question.puzzle question.symmetries question.listed) (p : Task) (listed : List (List Placement)) (motions : List Motion)
    (same_puzzle : p ≡ question.puzzle) (same_listed : listed ≡ question.listed) (same_motions : motions ≡ motions_of question) where
  same_lines : map line_of motions ≡ question.symmetries
  same_lines = ap (map line_of) same_motions ∙ lines_of question.puzzle question.symmetries

  pub read_are : AreOf p listed motions
  read_are =
      subst (λ (q : Task). AreOf q listed motions) (sym same_puzzle)
      (subst (λ (l : List (List Placement)). AreOf question.puzzle l motions) (sym same_listed)
      (subst (AreOf question.puzzle question.listed) (sym same_motions) (all_are question.puzzle question.listed question.symmetries puzzle complete)))

  pub read_complete : IsCompleteList p (map line_of motions) listed
  read_complete =
      subst (λ (q : Task). IsCompleteList q (map line_of motions) listed) (sym same_puzzle)
      (subst (IsCompleteList question.puzzle (map line_of motions)) (sym same_listed)
      (subst (λ (lines : List SymmetryLine). IsCompleteList question.puzzle lines question.listed) (sym same_lines) complete))

  -- What is said of what was read is said of the question.
  pub said_of_question : (P : Task → List SymmetryLine → List (List Placement) → Type 0) → P p (map line_of motions) listed → P question.puzzle question.symmetries question.listed
  said_of_question P said = subst (P question.puzzle question.symmetries) same_listed (subst (λ (lines : List SymmetryLine). P question.puzzle lines listed) same_lines (subst (λ (q : Task). P q (map line_of motions) listed) same_puzzle said))

  -- The first of each orbit can be listed.
  pub firsts_within : (firsts : List (List Placement)) → AreOneOfEachOrbit p (map line_of motions) listed firsts → length firsts ≤ MOST_ARRANGEMENTS → IsListWithin SECOND firsts
  firsts_within firsts one few =
      arrangements_within p firsts (read_are.puzzle) (λ a c.
      reached_is p (map line_of motions) listed read_are.puzzle read_are.symmetries (λ b among. let at = place_of listed b among in read_are.arrangements at.0 b at.1) a (one.reached a c)) few
