-- There is one answer.
use Rattle.std.proofs.Common.{◌≡◌, ℕ, List, Some, slice_get, ap, sym, ◌∙◌, refl, arith, subst, ⊎_elim}
use Rattle.match_puzzle.specs.Puzzle.{Task}
use Rattle.match_puzzle.specs.Arrangement.{IsArrangement, AreArrangements, AreDistinct}
use Rattle.match_puzzle.specs.ArrangementFaults.{ArrangementFails, arrangement_rank, IsArrangementFault}
use Rattle.match_puzzle.specs.PrefixFaults.{IsPairList, PrefixFails, prefix_rank, IsPrefixFault}
use Rattle.match_puzzle.specs.declared.placements.Placement.{Placement}
use Rattle.match_puzzle.specs.declared.placements.Pair.{Pair}
use Rattle.match_puzzle.specs.declared.faults.PrefixFault.{PrefixFault}
use Rattle.match_puzzle.specs.declared.faults.PrefixFault.TheVariants as prefixes
use Rattle.puzzle_symmetry.specs.SymmetryFaults.{SymmetryFails, symmetry_rank, IsSymmetryFault}
use Rattle.puzzle_symmetry.specs.declared.faults.SymmetryFault.{SymmetryFault}
use Rattle.puzzle_symmetry.specs.declared.faults.SymmetryFault.TheVariants as symmetries
use Rattle.match_board.specs.declared.symmetry_lines.SymmetryLine.{SymmetryLine}
use Rattle.puzzle_symmetry.proofs.FaultLemmas.{no_fault}
use Rattle.match_puzzle.specs.declared.faults.ArrangementFault.{ArrangementFault}
use Rattle.match_puzzle.specs.declared.faults.ArrangementFault.TheVariants.{Length, TileRange, Turn, TileTwice, BorderBroken, EdgeBroken}
use Rattle.cert_check.specs.declared.faults.NodeFault.{NodeFault}
use Rattle.cert_check.specs.declared.faults.TreeFault.{TreeFault}
use Rattle.cert_check.specs.declared.faults.Fault.{Fault}
use Rattle.cert_check.specs.declared.faults.Fault.TheVariants as faults
use Rattle.cert_check.specs.declared.faults.Answer.TheVariants.{Complete, Refused}
use Rattle.cert_tree.specs.Certificate.{Piece}
use Rattle.cert_check.specs.Setting.{Question, BeginWithPrefixes, prefix_of, setting_at}
use Rattle.cert_check.specs.TreeFaults.{FailsAt}
use Rattle.cert_check.specs.Derivation.{start_of}
use Rattle.puzzle_symmetry.specs.Complete.{AreSymmetries}
use Rattle.cert_check.specs.Answer.{IsShown, Occurs, fault_rank, OneAnswer}
use Rattle.match_puzzle.proofs.Prefixes.{inside}
use Rattle.cert_check.proofs.PrefixLemmas.{start_long}
use Rattle.cert_check.proofs.FaultLemmas.{SameRank, same_rank, holds_not_fails, one_failing}

-- ---- arrangements

pub arrangement_no_fault : (p : Task) (a : List Placement) (fault : ArrangementFault) → IsArrangement p a → ArrangementFails p a fault → ⊥
arrangement_no_fault p a Length is fails = fails is.cells
arrangement_no_fault p a (TileRange cell) is fails = omega (arith, (is.legal cell fails.0 fails.1).tile, fails.2)
arrangement_no_fault p a (Turn cell) is fails = fails.2 (is.legal cell fails.0 fails.1).turn
arrangement_no_fault p a (TileTwice cell) is fails = omega (arith, is.once cell fails.1 fails.0 fails.2 fails.3 fails.5 fails.6, fails.4)
arrangement_no_fault p a (BorderBroken cell side) is fails = fails.4 (is.border cell side fails.1 fails.0 fails.2 fails.3)
arrangement_no_fault p a (EdgeBroken cell side) is fails = fails.7 (is.edges cell side fails.1 fails.2 fails.0 fails.3 fails.5 fails.4 fails.6)

of_rank : (f g : ArrangementFault) → SameRank (arrangement_rank f) (arrangement_rank g) → f ≡ g
of_rank Length Length e = refl
of_rank (TileRange c) (TileRange d) e = ap TileRange e.second
of_rank (Turn c) (Turn d) e = ap Turn e.second
of_rank (TileTwice c) (TileTwice d) e = ap TileTwice e.second
of_rank (BorderBroken c k) (BorderBroken d l) e = ap (λ n. BorderBroken n k) e.second ∙ ap (BorderBroken d) e.third
of_rank (EdgeBroken c k) (EdgeBroken d l) e = ap (λ n. EdgeBroken n k) e.second ∙ ap (EdgeBroken d) e.third
of_rank _ _ e = absurd (omega (arith, e.first))

one_arrangement_fault : (p : Task) (a b : List Placement) (f g : ArrangementFault) → a ≡ b → IsArrangementFault p a f → IsArrangementFault p b g → f ≡ g
one_arrangement_fault p a b f g same h k = of_rank f g (same_rank arrangement_rank (ArrangementFails p a) f g h (subst (λ z. IsArrangementFault p z g) (sym same) k))

-- ---- prefixes

pub prefix_no_fault : (p : Task) (pairs : List Pair) (fault : PrefixFault) → IsPairList p pairs → PrefixFails p pairs fault → ⊥
prefix_no_fault p pairs (prefixes.Cell place) is fails =
    ⊎_elim (λ out. omega (arith, is.cells place fails.0 fails.1, out)) (λ w. omega (arith, is.rising w.0 place w.1 fails.0 w.3 fails.1 (let e = w.2 in omega (arith, e)), w.4)) fails.2
prefix_no_fault p pairs (prefixes.Tile place) is fails =
    ⊎_elim (λ out. omega (arith, (is.legal place fails.0 fails.1).tile, out)) (λ w. omega (arith, is.once place w.0 fails.0 w.1 fails.1 w.3 w.4, w.2)) fails.2
prefix_no_fault p pairs (prefixes.Turn place) is fails = fails.2 (is.legal place fails.0 fails.1).turn

of_prefix_rank : (f g : PrefixFault) → SameRank (prefix_rank f) (prefix_rank g) → f ≡ g
of_prefix_rank (prefixes.Cell c) (prefixes.Cell d) e = ap prefixes.Cell e.first
of_prefix_rank (prefixes.Tile c) (prefixes.Tile d) e = ap prefixes.Tile e.first
of_prefix_rank (prefixes.Turn c) (prefixes.Turn d) e = ap prefixes.Turn e.first
of_prefix_rank _ _ e = absurd (omega (arith, e.second))

one_prefix_fault : (p : Task) (a b : List Pair) (f g : PrefixFault) → a ≡ b → IsPrefixFault p a f → IsPrefixFault p b g → f ≡ g
one_prefix_fault p a b f g same h k = of_prefix_rank f g (same_rank prefix_rank (PrefixFails p a) f g h (subst (λ z. IsPrefixFault p z g) (sym same) k))

-- ---- symmetries

of_symmetry_rank : (f g : SymmetryFault) → SameRank (symmetry_rank f) (symmetry_rank g) → f ≡ g
of_symmetry_rank symmetries.Cells symmetries.Cells e = refl
of_symmetry_rank symmetries.Colours symmetries.Colours e = refl
of_symmetry_rank symmetries.Tiles symmetries.Tiles e = refl
of_symmetry_rank (symmetries.EdgeBroken c k) (symmetries.EdgeBroken d l) e = ap (λ n. symmetries.EdgeBroken n k) e.second ∙ ap (symmetries.EdgeBroken d) e.third
of_symmetry_rank (symmetries.BorderBroken c k) (symmetries.BorderBroken d l) e = ap (λ n. symmetries.BorderBroken n k) e.second ∙ ap (symmetries.BorderBroken d) e.third
of_symmetry_rank (symmetries.TileBroken t) (symmetries.TileBroken u) e = ap symmetries.TileBroken e.second
of_symmetry_rank (symmetries.MatesBroken c) (symmetries.MatesBroken d) e = ap symmetries.MatesBroken e.second
of_symmetry_rank symmetries.Memory symmetries.Memory e = refl
of_symmetry_rank _ _ e = absurd (omega (arith, e.first))

one_symmetry_fault : (p : Task) (a b : SymmetryLine) (f g : SymmetryFault) → a ≡ b → IsSymmetryFault p a f → IsSymmetryFault p b g → f ≡ g
one_symmetry_fault p a b f g same h k = of_symmetry_rank f g (same_rank symmetry_rank (SymmetryFails p a) f g h (subst (λ z. IsSymmetryFault p z g) (sym same) k))

-- ---- what is shown has no fault

module _ (question : Question) where
  pub no_list : AreArrangements question.puzzle question.listed → (number : ℕ) (fault : ArrangementFault) → Occurs question (faults.List number fault) → ⊥
  no_list arranged number fault occurs = arrangement_no_fault question.puzzle occurs.0 fault (arranged number occurs.0 occurs.1) occurs.2.occurs

  pub no_repeated : AreDistinct question.listed → (number : ℕ) → Occurs question (faults.Repeated number) → ⊥
  no_repeated distinct number occurs = omega (arith, distinct occurs.0 number occurs.1 occurs.3 occurs.4, occurs.2)

  pub no_symmetry : AreSymmetries question.puzzle question.symmetries → (number : ℕ) (fault : SymmetryFault) → Occurs question (faults.Symmetry number fault) → ⊥
  no_symmetry symmetric number fault occurs = no_fault question.puzzle occurs.0 (symmetric number occurs.0 occurs.1) fault occurs.2.occurs

  pub no_prefix : BeginWithPrefixes question.puzzle question.lemmas → (number : ℕ) (fault : PrefixFault) → Occurs question (faults.Prefix number fault) → ⊥
  no_prefix prefixes number fault occurs = prefix_no_fault question.puzzle occurs.0.prefix fault (prefixes number occurs.0 occurs.1) occurs.2.occurs

  shown_no_fault : (fault : Fault) → IsShown question → Occurs question fault → ⊥
  shown_no_fault (faults.List number fault) shown occurs = no_list shown.prepared.arrangements number fault occurs
  shown_no_fault (faults.Repeated number) shown occurs = no_repeated shown.prepared.distinct number occurs
  shown_no_fault (faults.Symmetry number fault) shown occurs = no_symmetry shown.prepared.symmetries number fault occurs
  shown_no_fault (faults.Prefix number fault) shown occurs = no_prefix shown.prepared.prefixes number fault occurs
  shown_no_fault faults.Root shown occurs = occurs shown.prepared.root
  shown_no_fault (faults.Tree number fault) shown occurs =
      holds_not_fails (setting_at question number) occurs.0.tree (start_of question.puzzle occurs.0) fault.path fault.fault (start_long question.puzzle occurs.0) (shown.trees number occurs.0 occurs.1) occurs.2

-- ---- one first fault

same_place : {X : Type 0} (xs : List X) (n m : ℕ) (x y : X) → n ≡ m → slice_get xs n ≡ Some x → slice_get xs m ≡ Some y → x ≡ y
same_place xs n m x y e at at' = inside (sym at ∙ ap (slice_get xs) e ∙ at')

module _ (question : Question) where
  one_listed : (n m : ℕ) (f g : ArrangementFault) → n ≡ m → Occurs question (faults.List n f) → Occurs question (faults.List m g) → faults.List n f ≡ faults.List m g
  one_listed n m f g e a b =
      ap (λ k. faults.List k f) e ∙ ap (faults.List m) (one_arrangement_fault question.puzzle a.0 b.0 f g (same_place question.listed n m a.0 b.0 e a.1 b.1) a.2 b.2)

  one_named : (n m : ℕ) (f g : SymmetryFault) → n ≡ m → Occurs question (faults.Symmetry n f) → Occurs question (faults.Symmetry m g) → faults.Symmetry n f ≡ faults.Symmetry m g
  one_named n m f g e a b =
      ap (λ k. faults.Symmetry k f) e ∙ ap (faults.Symmetry m) (one_symmetry_fault question.puzzle a.0 b.0 f g (same_place question.symmetries n m a.0 b.0 e a.1 b.1) a.2 b.2)

  one_prefix : (n m : ℕ) (f g : PrefixFault) → n ≡ m → Occurs question (faults.Prefix n f) → Occurs question (faults.Prefix m g) → faults.Prefix n f ≡ faults.Prefix m g
  one_prefix n m f g e a b =
      let same = ap prefix_of (same_place question.lemmas n m a.0 b.0 e a.1 b.1) in
      ap (λ k. faults.Prefix k f) e ∙ ap (faults.Prefix m) (one_prefix_fault question.puzzle a.0.prefix b.0.prefix f g same a.2 b.2)

  one_tree : (n m : ℕ) (f g : TreeFault) → n ≡ m → Occurs question (faults.Tree n f) → Occurs question (faults.Tree m g) → faults.Tree n f ≡ faults.Tree m g
  one_tree n m f g e a b =
      let lemma = same_place question.lemmas n m a.0 b.0 e a.1 b.1 in
      let moved = subst (λ k. FailsAt (setting_at question k) b.0.tree (start_of question.puzzle b.0) f.path f.fault) e
      (subst (λ (c : Piece). FailsAt (setting_at question n) c.tree (start_of question.puzzle c) f.path f.fault) lemma a.2) in
      let w = one_failing (setting_at question m) b.0.tree (start_of question.puzzle b.0) f.path g.path f.fault g.fault (start_long question.puzzle b.0) moved b.2 in
      ap (λ k. faults.Tree k f) e
      ∙ ap (λ (path : List ℕ). let r : TreeFault = record { path = path; fault = f.fault } in faults.Tree m r) w.0
      ∙ ap (λ (fault : NodeFault). let r : TreeFault = record { path = g.path; fault = fault } in faults.Tree m r) w.1

  one_fault : (f g : Fault) → Occurs question f → Occurs question g → SameRank (fault_rank f) (fault_rank g) → f ≡ g
  one_fault (faults.List n f) (faults.List m g) a b e = one_listed n m f g e.second a b
  one_fault (faults.Repeated n) (faults.Repeated m) a b e = ap faults.Repeated e.second
  one_fault (faults.Symmetry n f) (faults.Symmetry m g) a b e = one_named n m f g e.second a b
  one_fault (faults.Prefix n f) (faults.Prefix m g) a b e = one_prefix n m f g e.second a b
  one_fault faults.Root faults.Root a b e = refl
  one_fault (faults.Tree n f) (faults.Tree m g) a b e = one_tree n m f g e.second a b
  one_fault _ _ a b e = absurd (omega (arith, e.first))

-- A question has one answer.
pub one_answer : OneAnswer
one_answer question Complete Complete a b = refl
one_answer question Complete (Refused g) a b = absurd (shown_no_fault question g a b.occurs)
one_answer question (Refused f) Complete a b = absurd (shown_no_fault question f b a.occurs)
one_answer question (Refused f) (Refused g) a b = ap Refused (one_fault question f g a.occurs b.occurs (same_rank fault_rank (Occurs question) f g a b))
