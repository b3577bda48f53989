-- A tree that holds covers its prefix.
use Rattle.std.proofs.Common.{◌≡◌, ◌<◌, ◌+◌, ℕ, zero, suc, List, [], ◌∷◌, Some, None, Contains, length, length-set, slice_get, ap, sym, ◌∙◌, refl, arith, subst, ⊎_elim}
use Rattle.std.proofs.lemmas.Option.{slice_get_within}
use Rattle.std.proofs.lemmas.List.{length-map}
use Rattle.match_board.specs.Board.{cell_count}
use Rattle.match_puzzle.specs.Puzzle.{Task, IsPuzzle}
use Rattle.match_puzzle.specs.Arrangement.{Stands, IsArrangement}
use Rattle.match_puzzle.specs.Prefix.{Prefix, Has, IsFree, Extends, with_pair, with_pairs, empty_prefix}
use Rattle.match_puzzle.specs.PrefixFaults.{IsPairList}
use Rattle.match_puzzle.specs.Fitting.{Fits, FitsItem, IsOpen}
use Rattle.match_puzzle.specs.declared.items.Item.{Item}
use Rattle.match_puzzle.specs.declared.items.Item.TheVariants.{Cell, Tile}
use Rattle.match_puzzle.specs.declared.placements.Placement.{Placement}
use Rattle.match_puzzle.specs.declared.placements.Pair.{Pair}
use Rattle.puzzle_symmetry.specs.Images.{HasPairs, HasImages}
use Rattle.puzzle_symmetry.specs.Reached.{IsReached}
use Rattle.puzzle_symmetry.proofs.Carrying.{source_has}
use Rattle.puzzle_symmetry.proofs.Reaching.{reached_at_once, reached_image}
use Rattle.cert_tree.specs.Certificate.{Piece}
use Rattle.cert_check.specs.Setting.{Question, Setting, prefix_of, setting_at}
use Rattle.cert_tree.specs.Tree.{Tree, Forest, branch, dead, found, same, image, none, more}
use Rattle.cert_check.specs.NodeRules.{IsListedAt, IsCited, IsCitedByImage, Holds, EachHolds}
use Rattle.cert_check.specs.Covered.{IsCovered}
use Rattle.cert_check.specs.Derivation.{start_of}
use Rattle.puzzle_symmetry.specs.Complete.{AreSymmetries, IsCompleteList}
use Rattle.cert_check.specs.Answer.{IsShown, AreCovered}
use Rattle.match_puzzle.proofs.Pigeonhole.{all_placed}
use Rattle.match_puzzle.proofs.Prefixes.{inside, has_placed}
use Rattle.match_puzzle.proofs.UsedTiles.{has_none}
use Rattle.cert_check.proofs.PrefixLemmas.{start_long, free_or_filled, stands_in, has_of_stands, extends_pairs}
use Rattle.match_limits.proofs.ListLemmas.{none≢some, contains_none, contains_cons, contains_at, same_by_place, earlier_at}

-- what an arrangement has at a free cell fits there
fits_free : (p : Task) (q : Prefix) (a : List Placement) (cell : ℕ) (x : Placement) → IsArrangement p a → Extends a q → IsFree q cell → Stands a cell x → Fits p q cell x
fits_free p q a cell x is extends free stands = record {
  free = free;
  unused = λ c y has same. none≢some (inside (sym free ∙ subst (λ k. Has q k y) (is.once c cell y x (extends c y has) stands same) has));
  legal = is.legal cell x stands;
  border = λ side colour rule. is.border cell side colour x stands rule;
  edges = λ side c k y meets has. is.edges cell side c k x y meets stands (extends c y has);
}

-- an arrangement extends a prefix with what it has at a free cell
extends_more : (q : Prefix) (a : List Placement) (cell : ℕ) (x : Placement) → Extends a q → IsFree q cell → Stands a cell x → Extends a (with_pair q cell x)
extends_more q a cell x extends free stands c y has =
    ⊎_elim (λ w. subst (λ k. Stands a k y) (sym w.0) (subst (λ z. Stands a cell z) (sym w.1) stands)) (λ w. extends c y w.1) (has_placed q cell x c y free has)

-- how an arrangement settles an item that its prefix leaves open
record Settled (p : Task) (q : Prefix) (a : List Placement) (item : Item) : Type 0 where
  pair : Pair
  free : IsFree q pair.cell
  stands : Stands a pair.cell pair.placement
  fits : FitsItem p q item pair

settled : (p : Task) (q : Prefix) (a : List Placement) (item : Item) → length q ≡ cell_count p.board → IsArrangement p a → Extends a q → IsOpen p q item → Settled p q a item
settled p q a (Cell cell) long is extends free =
    let at = stands_in a cell (omega (arith, slice_get_within q cell None free, long, is.cells)) in record {
      pair = record { cell = cell; placement = at.0 };
      free = free;
      stands = at.1;
      fits = (refl, fits_free p q a cell at.0 is extends free at.1);
    }
settled p q a (Tile tile) long is extends unsettled =
    let at = all_placed p a unsettled.2 is tile unsettled.0 in
    let free = ⊎_elim (λ f. f) (λ w. absurd (unsettled.1 at.0 w.0 w.1 (ap (λ (x : Placement). x.tile) (inside (sym (extends at.0 w.0 w.1) ∙ at.2)) ∙ at.3))) (free_or_filled q at.0 (omega (arith, slice_get_within a at.0 at.1 at.2, long, is.cells))) in record {
      pair = record { cell = at.0; placement = at.1 };
      free = free;
      stands = at.2;
      fits = (at.3, fits_free p q a at.0 at.1 is extends free at.2);
    }

-- what is reached in a setting
abbrev ReachedIn : Setting → List Placement → Type 0
ReachedIn s = IsReached s.puzzle s.symmetries s.listed

abbrev CoveredIn : Setting → Prefix → Type 0
CoveredIn s = IsCovered s.puzzle (ReachedIn s)

-- Each earlier lemma begins with a prefix, and what extends it is reached.
abbrev pub AreEarlierCovered : Setting → Type 0
AreEarlierCovered s =
    (number : ℕ) (pairs : List Pair) → slice_get s.earlier number ≡ Some pairs → IsPairList s.puzzle pairs × CoveredIn s (with_pairs pairs (empty_prefix s.puzzle))

module _ (s : Setting) (puzzle : IsPuzzle s.puzzle) (symmetries : AreSymmetries s.puzzle s.symmetries) (earlier : AreEarlierCovered s) where
  -- the arrangement that a prefix is, is the only one that extends it
  covered_listed : (q : Prefix) (number : ℕ) → length q ≡ cell_count s.puzzle.board → IsListedAt s q number → CoveredIn s q
  covered_listed q number long at a is extends =
      let one = same_by_place a at.0 (omega (arith, is.cells, long, ap length at.2, length-map at.0 (λ (z : Placement). Some z))) (λ cell x stands. extends cell x (subst (λ z. Has z cell x) (sym at.2) (has_of_stands at.0 cell x stands))) in
      reached_at_once s.puzzle s.symmetries s.listed a (contains_at s.listed number a (at.1 ∙ ap Some (sym one)))

  -- an arrangement with the pairs of an earlier lemma is reached
  reached_earlier : (lemma : ℕ) (pairs : List Pair) (a : List Placement) → slice_get s.earlier lemma ≡ Some pairs → IsArrangement s.puzzle a → HasPairs pairs a → ReachedIn s a
  reached_earlier lemma pairs a at is has = (earlier lemma pairs at).1 a is (extends_pairs s.puzzle pairs a has)

  covered_same : (q : Prefix) (lemma : ℕ) → IsCited s q lemma → CoveredIn s q
  covered_same q lemma cited a is extends = reached_earlier lemma cited.0 a cited.1 is (λ x among. extends x.cell x.placement (cited.2 x among))

  -- what extends the image of a prefix is the image of what extends the prefix
  covered_image : (q : Prefix) (lemma symmetry : ℕ) → IsCitedByImage s q lemma symmetry → CoveredIn s q
  covered_image q lemma symmetry cited a is extends =
      let pairs = cited.0 in
      let g = cited.1 in
      let moves = symmetries symmetry g cited.3 in
      let has : HasImages s.puzzle g pairs a = λ x among. let w = cited.4 x among in (w.0, w.1, extends w.0.cell w.0.placement w.2) in
      let from = source_has s.puzzle puzzle g moves pairs a (earlier lemma pairs cited.2).0 is has in
      reached_image s.puzzle s.symmetries s.listed symmetry g from.0 a cited.3 from.2 (reached_earlier lemma pairs from.0 cited.2 from.1 from.3)

  mutual
    pub covered : (tree : Tree) (q : Prefix) → length q ≡ cell_count s.puzzle.board → Holds s tree q → CoveredIn s q
    covered (branch item children) q long holds a is extends =
        let w = settled s.puzzle q a item long is extends holds.1.unsettled in
        covered_each children q holds.0 long holds.2 w.pair (holds.1.fitting.all w.pair w.fits) a is (extends_more q a w.pair.cell w.pair.placement extends w.free w.stands)
    covered (dead item) q long holds a is extends =
        let w = settled s.puzzle q a item long is extends holds.unsettled in
        absurd (holds.nothing w.pair w.fits)
    covered (found number) q long holds a is extends = covered_listed q number long holds a is extends
    covered (same lemma) q long holds a is extends = covered_same q lemma holds a is extends
    covered (image lemma symmetry) q long holds a is extends = covered_image q lemma symmetry holds a is extends

    covered_each : (trees : Forest) (q : Prefix) (xs : List Pair) → length q ≡ cell_count s.puzzle.board → EachHolds s trees q xs → (x : Pair) → Contains xs x → CoveredIn s (with_pair q x.cell x.placement)
    covered_each none q [] long holds x among = absurd (contains_none x among)
    covered_each none q (y ∷ xs) long holds x among = absurd holds
    covered_each (more tree trees) q [] long holds x among = absurd holds
    covered_each (more tree trees) q (y ∷ xs) long holds x among =
        ⊎_elim
        (λ e. subst (λ (z : Pair). CoveredIn s (with_pair q z.cell z.placement)) e (covered tree (with_pair q y.cell y.placement) (length-set q y.cell (Some y.placement) ∙ long) holds.0))
        (λ rest. covered_each trees q xs long holds.1 x rest)
        (contains_cons y xs x among)

module _ (question : Question) (puzzle : IsPuzzle question.puzzle) (shown : IsShown question) where
  abbrev CoveredHere : Piece → Type 0
  CoveredHere lemma = IsCovered question.puzzle (IsReached question.puzzle question.symmetries question.listed) (start_of question.puzzle lemma)

  -- by induction on the lemma's number, then on the tree
  all_below : (bound number : ℕ) (lemma : Piece) → number < bound → slice_get question.lemmas number ≡ Some lemma → CoveredHere lemma
  all_below zero number lemma lt at = absurd (omega (arith, lt))
  all_below (suc bound) number lemma lt at =
      let below : (n : ℕ) (other : Piece) → n < bound → slice_get question.lemmas n ≡ Some other → CoveredHere other = λ n other less there. all_below bound n other less there in
      covered (setting_at question number) puzzle shown.prepared.symmetries (before below) lemma.tree (start_of question.puzzle lemma) (start_long question.puzzle lemma) (shown.trees number lemma at)
    where
      before : ((n : ℕ) (other : Piece) → n < bound → slice_get question.lemmas n ≡ Some other → CoveredHere other) → AreEarlierCovered (setting_at question number)
      before below n pairs e =
          let w = earlier_at prefix_of question.lemmas number n pairs e in (
            subst (IsPairList question.puzzle) (sym w.2) (shown.prepared.prefixes n w.1 w.3),
            subst (λ (ps : List Pair). IsCovered question.puzzle (IsReached question.puzzle question.symmetries question.listed) (with_pairs ps (empty_prefix question.puzzle))) (sym w.2) (below n w.1 (let less = w.0 in omega (arith, lt, less)) w.3),
          )

  -- What is shown covers each lemma's prefix.
  pub all_covered : AreCovered question
  all_covered number lemma at = all_below (number + 1) number lemma (omega arith) at

  -- Lemmas that derive their lemmas leave no arrangement out.
  derived : (a : List Placement) → IsArrangement question.puzzle a → IsReached question.puzzle question.symmetries question.listed a
  derived a is =
      let root = shown.prepared.root in
      let p = question.puzzle in
      all_covered root.0 root.1 root.3 a is
      (subst (λ pairs. Extends a (with_pairs pairs (empty_prefix p))) (sym root.4) (λ cell x has. absurd (has_none (cell_count p.board) cell x has)))

  -- What is shown complete is complete.
  pub complete : IsCompleteList question.puzzle question.symmetries question.listed
  complete = record {
    distinct = shown.prepared.distinct;
    arrangements = shown.prepared.arrangements;
    symmetries = shown.prepared.symmetries;
    reached = derived;
  }
