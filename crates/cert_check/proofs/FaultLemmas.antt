-- A tree holds or has one first fault.
use Rattle.std.proofs.Common.{◌≡◌, ◌≢◌, ℕ, zero, suc, List, [], ◌∷◌, Option, Some, None, map, length, length-set, slice_get, ap, sym, ◌∙◌, refl, arith, subst, ⊎_elim}
use Rattle.std.proofs.lemmas.Option.{slice_get_within}
use Rattle.match_board.specs.Board.{cell_count}
use Rattle.match_limits.specs.First.{Rank, AtMost, IsFirst}
use Rattle.match_limits.specs.Listing.{ByKey}
use Rattle.match_limits.proofs.Listings.{by_key_asymmetric, same_listing}
use Rattle.match_puzzle.specs.Puzzle.{Task}
use Rattle.match_puzzle.specs.Prefix.{Prefix, IsWithin, with_pair}
use Rattle.match_puzzle.specs.Fitting.{FitsItem, AreFitting, IsOpen, item_key}
use Rattle.match_puzzle.specs.declared.items.Item.{Item}
use Rattle.match_puzzle.specs.declared.items.Item.TheVariants.{Cell, Tile}
use Rattle.match_puzzle.specs.declared.placements.Pair.{Pair}
use Rattle.puzzle_symmetry.specs.Images.{IsImageWithin}
use Rattle.match_board.specs.declared.symmetry_lines.SymmetryLine.{SymmetryLine}
use Rattle.cert_check.specs.declared.faults.NodeFault.{NodeFault}
use Rattle.cert_check.specs.declared.faults.NodeFault.TheVariants.{CellRange, CellTaken, TileSpare, TileRange, TileTaken, WrongCount, NotDead, NotWhole, ListRange, NotListed, NotEarlier, SymmetryRange, NotWithin}
use Rattle.cert_check.specs.Setting.{Setting}
use Rattle.cert_tree.specs.Tree.{Tree, Forest, branch, dead, found, same, image, none, more, count}
use Rattle.cert_check.specs.NodeRules.{IsBranch, IsDead, IsListedAt, IsCited, IsCitedByImage, Holds, EachHolds}
use Rattle.cert_check.specs.TreeFaults.{ItemFails, ImageFails, NodeFails, node_rank, IsNodeFault, FailsAt, EachFails}
use Rattle.match_puzzle.proofs.Prefixes.{inside}
use Rattle.match_limits.proofs.ListLemmas.{none≢some}
use Rattle.cert_check.proofs.PrefixLemmas.{none_free}

-- ---- what comes first

-- Two first ones have one rank.
pub record SameRank (a b : Rank) : Type 0 where
  pub first : a.first ≡ b.first
  pub second : a.second ≡ b.second
  pub third : a.third ≡ b.third

pub same_rank : {F : Type 0} (rank : F → Rank) (Occurs : F → Type 0) (f g : F) → IsFirst rank Occurs f → IsFirst rank Occurs g → SameRank (rank f) (rank g)
same_rank rank Occurs f g a b =
    let there = a.first g b.occurs in
    let back = b.first f a.occurs in
    let first : (rank f).first ≡ (rank g).first = omega (arith, there.first, back.first) in
    let second : (rank f).second ≡ (rank g).second = omega (arith, there.second first, back.second (sym first)) in
    record {
      first = first;
      second = second;
      third = omega (arith, there.third first second, back.third (sym first) (sym second));
    }

-- ---- one list of what fits

pub one_fitting : (p : Task) (q : Prefix) (item : Item) (xs ys : List Pair) → AreFitting p q item xs → AreFitting p q item ys → xs ≡ ys
one_fitting p q item xs ys = same_listing (ByKey (item_key item)) (by_key_asymmetric (item_key item)) (FitsItem p q item) xs ys

-- ---- a node holds or fails

taken_free : {X : Type 0} {o : Option (Option X)} {x : X} → o ≡ Some None → o ≡ Some (Some x) → ⊥
taken_free free has = none≢some (inside (sym free ∙ has))

open_no_fault : (p : Task) (q : Prefix) (item : Item) (fault : NodeFault) → length q ≡ cell_count p.board → IsOpen p q item → ItemFails p q item fault → ⊥
open_no_fault p q (Cell cell) CellRange long unsettled fails = omega (arith, slice_get_within q cell None unsettled)
open_no_fault p q (Cell cell) CellTaken long unsettled fails = taken_free unsettled fails.1
open_no_fault p q (Tile tile) TileSpare long unsettled fails = fails unsettled.2
open_no_fault p q (Tile tile) TileRange long unsettled fails = omega (arith, unsettled.0)
open_no_fault p q (Tile tile) TileTaken long unsettled fails = unsettled.1 fails.0 fails.1 fails.2 fails.3
open_no_fault p q (Cell cell) _ long unsettled fails = fails
open_no_fault p q (Tile tile) _ long unsettled fails = fails

branch_no_fault : (s : Setting) (item : Item) (children : Forest) (q : Prefix) (xs : List Pair) (fault : NodeFault) → length q ≡ cell_count s.puzzle.board → IsBranch s.puzzle q item (count children) xs → NodeFails s (branch item children) q fault → ⊥
branch_no_fault s item children q xs (WrongCount fits number) long is fails =
    let same = ap length (one_fitting s.puzzle q item xs fails.0 is.fitting fails.1) in
    ⊎_elim (λ other. other (omega (arith, same, is.many, fails.2, fails.3))) (λ zero_is. is.some (sym fails.3 ∙ zero_is)) fails.4
branch_no_fault s item children q xs fault long is fails = open_no_fault s.puzzle q item fault long is.unsettled fails

dead_no_fault : (s : Setting) (item : Item) (q : Prefix) (fault : NodeFault) → length q ≡ cell_count s.puzzle.board → IsDead s.puzzle q item → NodeFails s (dead item) q fault → ⊥
dead_no_fault s item q (NotDead fits) long is fails = nothing_fits fails.0 fails.1 (λ e. fails.3 (fails.2 ∙ e))
  where
    nothing_fits : (xs : List Pair) → AreFitting s.puzzle q item xs → length xs ≢ 0 → ⊥
    nothing_fits [] fitting some = some refl
    nothing_fits (x ∷ xs) fitting some = is.nothing x (fitting.only x (0, omega arith, refl))
dead_no_fault s item q fault long is fails = open_no_fault s.puzzle q item fault long is.unsettled fails

found_no_fault : (s : Setting) (number : ℕ) (q : Prefix) (fault : NodeFault) → IsListedAt s q number → NodeFails s (found number) q fault → ⊥
found_no_fault s number q NotWhole at fails = none_free at.0 fails.0 (subst (λ z. slice_get z fails.0 ≡ Some None) at.2 fails.1)
found_no_fault s number q ListRange at fails = omega (arith, slice_get_within s.listed number at.0 at.1)
found_no_fault s number q NotListed at fails = fails.2 (at.2 ∙ ap (map Some) (inside (sym at.1 ∙ fails.1)))
found_no_fault s number q fault at fails = fails

same_no_fault : (s : Setting) (lemma : ℕ) (q : Prefix) (fault : NodeFault) → IsCited s q lemma → NodeFails s (same lemma) q fault → ⊥
same_no_fault s lemma q NotEarlier cited fails = omega (arith, slice_get_within s.earlier lemma cited.0 cited.1, fails)
same_no_fault s lemma q NotWithin cited fails = fails.2 (subst (λ pairs. IsWithin pairs q) (inside (sym cited.1 ∙ fails.1)) cited.2)
same_no_fault s lemma q fault cited fails = fails

image_no_fault : (s : Setting) (lemma symmetry : ℕ) (q : Prefix) (fault : NodeFault) → IsCitedByImage s q lemma symmetry → NodeFails s (image lemma symmetry) q fault → ⊥
image_no_fault s lemma symmetry q NotEarlier cited fails = omega (arith, slice_get_within s.earlier lemma cited.0 cited.2, fails)
image_no_fault s lemma symmetry q SymmetryRange cited fails = omega (arith, slice_get_within s.symmetries symmetry cited.1 cited.3, fails)
image_no_fault s lemma symmetry q NotWithin cited fails =
    fails.4 (subst (λ pairs. IsImageWithin s.puzzle fails.1 pairs q) (inside (sym cited.2 ∙ fails.2)) (subst (λ g. IsImageWithin s.puzzle g cited.0 q) (inside (sym cited.3 ∙ fails.3)) cited.4))
image_no_fault s lemma symmetry q fault cited fails = fails

-- The image of a prefix that isn't within what is placed is the last thing that may be wrong.
pub first_not_within : (s : Setting) (q : Prefix) (lemma symmetry : ℕ) (pairs : List Pair) (g : SymmetryLine) → slice_get s.earlier lemma ≡ Some pairs → slice_get s.symmetries symmetry ≡ Some g → (IsImageWithin s.puzzle g pairs q → ⊥) →
    IsFirst node_rank (ImageFails s q lemma symmetry) NotWithin
first_not_within s q lemma symmetry pairs g at at' outside = record { occurs = (pairs, g, at, at', outside); first = least }
  where
    least : (fault : NodeFault) → ImageFails s q lemma symmetry fault → AtMost (node_rank NotWithin) (node_rank fault)
    least NotEarlier fails = absurd (omega (arith, slice_get_within s.earlier lemma pairs at, fails))
    least SymmetryRange fails = absurd (omega (arith, slice_get_within s.symmetries symmetry g at', fails))
    least NotWithin fails = record { first = omega arith; second = λ _. omega arith; third = λ _ _. omega arith }
    least fault fails = absurd fails

-- A tree that holds has no fault of its first node.
pub holds_no_fault : (s : Setting) (tree : Tree) (q : Prefix) (fault : NodeFault) → length q ≡ cell_count s.puzzle.board → Holds s tree q → NodeFails s tree q fault → ⊥
holds_no_fault s (branch item children) q fault long holds fails = branch_no_fault s item children q holds.0 fault long holds.1 fails
holds_no_fault s (dead item) q fault long holds fails = dead_no_fault s item q fault long holds fails
holds_no_fault s (found number) q fault long holds fails = found_no_fault s number q fault holds fails
holds_no_fault s (same lemma) q fault long holds fails = same_no_fault s lemma q fault holds fails
holds_no_fault s (image lemma symmetry) q fault long holds fails = image_no_fault s lemma symmetry q fault holds fails

mutual
  -- A tree that holds has no fault.
  pub holds_not_fails : (s : Setting) (tree : Tree) (q : Prefix) (path : List ℕ) (fault : NodeFault) → length q ≡ cell_count s.puzzle.board → Holds s tree q → FailsAt s tree q path fault → ⊥
  holds_not_fails s tree q [] fault long holds fails = holds_no_fault s tree q fault long holds fails.occurs
  holds_not_fails s (branch item children) q (number ∷ path) fault long holds fails =
      let same = one_fitting s.puzzle q item holds.0 fails.0 holds.1.fitting fails.1.fitting in
      each_holds_not_fails s children q fails.0 number path fault long (subst (EachHolds s children q) same holds.2) fails.2
  holds_not_fails s (dead item) q (number ∷ path) fault long holds fails = fails
  holds_not_fails s (found listed) q (number ∷ path) fault long holds fails = fails
  holds_not_fails s (same lemma) q (number ∷ path) fault long holds fails = fails
  holds_not_fails s (image lemma symmetry) q (number ∷ path) fault long holds fails = fails

  each_holds_not_fails : (s : Setting) (trees : Forest) (q : Prefix) (xs : List Pair) (number : ℕ) (path : List ℕ) (fault : NodeFault) → length q ≡ cell_count s.puzzle.board → EachHolds s trees q xs → EachFails s trees q xs number path fault → ⊥
  each_holds_not_fails s none q xs number path fault long holds fails = fails
  each_holds_not_fails s (more tree trees) q [] number path fault long holds fails = fails
  each_holds_not_fails s (more tree trees) q (x ∷ xs) zero path fault long holds fails = holds_not_fails s tree (with_pair q x.cell x.placement) path fault (length-set q x.cell (Some x.placement) ∙ long) holds.0 fails
  each_holds_not_fails s (more tree trees) q (x ∷ xs) (suc number) path fault long holds fails = each_holds_not_fails s trees q xs number path fault long holds.1 fails.1

-- ---- one first fault

-- two faults of one kind, but for their numbers
abbrev AreAlike : NodeFault → NodeFault → Type 0
AreAlike (WrongCount fits children) g = (n : ℕ) × (m : ℕ) × (g ≡ WrongCount n m)
AreAlike (NotDead fits) g = (n : ℕ) × (g ≡ NotDead n)
AreAlike f g = f ≡ g

alike : (f g : NodeFault) → (node_rank f).first ≡ (node_rank g).first → AreAlike f g
alike CellRange CellRange e = refl
alike CellTaken CellTaken e = refl
alike TileSpare TileSpare e = refl
alike TileRange TileRange e = refl
alike TileTaken TileTaken e = refl
alike (WrongCount n m) (WrongCount n' m') e = (n', m', refl)
alike (NotDead n) (NotDead n') e = (n', refl)
alike NotWhole NotWhole e = refl
alike ListRange ListRange e = refl
alike NotListed NotListed e = refl
alike NotEarlier NotEarlier e = refl
alike SymmetryRange SymmetryRange e = refl
alike NotWithin NotWithin e = refl
alike _ _ e = absurd (omega (arith, e))

-- what a fault says of the numbers in it
one_wrong_count : (s : Setting) (tree : Tree) (q : Prefix) (n m n' m' : ℕ) → NodeFails s tree q (WrongCount n m) → NodeFails s tree q (WrongCount n' m') → WrongCount n m ≡ WrongCount n' m'
one_wrong_count s (branch item children) q n m n' m' a b =
    let same = ap length (one_fitting s.puzzle q item a.0 b.0 a.1 b.1) in
    let n_is : n ≡ n' = a.2 ∙ same ∙ sym b.2 in
    let m_is : m ≡ m' = a.3 ∙ sym b.3 in
    ap (λ k. WrongCount k m) n_is ∙ ap (WrongCount n') m_is
one_wrong_count s (dead (Cell cell)) q n m n' m' a b = absurd a
one_wrong_count s (dead (Tile tile)) q n m n' m' a b = absurd a
one_wrong_count s (found number) q n m n' m' a b = absurd a
one_wrong_count s (same lemma) q n m n' m' a b = absurd a
one_wrong_count s (image lemma symmetry) q n m n' m' a b = absurd a

one_not_dead : (s : Setting) (tree : Tree) (q : Prefix) (n n' : ℕ) → NodeFails s tree q (NotDead n) → NodeFails s tree q (NotDead n') → NotDead n ≡ NotDead n'
one_not_dead s (branch (Cell cell) children) q n n' a b = absurd a
one_not_dead s (branch (Tile tile) children) q n n' a b = absurd a
one_not_dead s (dead item) q n n' a b = ap NotDead (a.2 ∙ ap length (one_fitting s.puzzle q item a.0 b.0 a.1 b.1) ∙ sym b.2)
one_not_dead s (found number) q n n' a b = absurd a
one_not_dead s (same lemma) q n n' a b = absurd a
one_not_dead s (image lemma symmetry) q n n' a b = absurd a

one_of_kind : (s : Setting) (tree : Tree) (q : Prefix) (f g : NodeFault) → NodeFails s tree q f → NodeFails s tree q g → AreAlike f g → f ≡ g
one_of_kind s tree q (WrongCount n m) g a b e = one_wrong_count s tree q n m e.0 e.1 a (subst (NodeFails s tree q) e.2 b) ∙ sym e.2
one_of_kind s tree q (NotDead n) g a b e = one_not_dead s tree q n e.0 a (subst (NodeFails s tree q) e.1 b) ∙ sym e.1
one_of_kind s tree q f g a b e = e

one_node_fault : (s : Setting) (tree : Tree) (q : Prefix) (f g : NodeFault) → IsNodeFault s tree q f → IsNodeFault s tree q g → f ≡ g
one_node_fault s tree q f g a b = one_of_kind s tree q f g a.occurs b.occurs (alike f g (same_rank node_rank (NodeFails s tree q) f g a b).first)

-- one path and one fault
abbrev AreSame : (path other : List ℕ) (f g : NodeFault) → Type 0
AreSame path other f g = (path ≡ other) × (f ≡ g)

mutual
  -- A tree has one first fault.
  pub one_failing : (s : Setting) (tree : Tree) (q : Prefix) (path other : List ℕ) (f g : NodeFault) → length q ≡ cell_count s.puzzle.board → FailsAt s tree q path f → FailsAt s tree q other g → AreSame path other f g
  one_failing s tree q [] [] f g long a b = (refl, one_node_fault s tree q f g a b)
  one_failing s (branch item children) q [] (n ∷ other) f g long a b = absurd (branch_no_fault s item children q b.0 f long b.1 a.occurs)
  one_failing s (branch item children) q (n ∷ path) [] f g long a b = absurd (branch_no_fault s item children q a.0 g long a.1 b.occurs)
  one_failing s (branch item children) q (n ∷ path) (m ∷ other) f g long a b =
      let same = one_fitting s.puzzle q item a.0 b.0 a.1.fitting b.1.fitting in
      let w = each_one_failing s children q b.0 n m path other f g long (subst (λ xs. EachFails s children q xs n path f) same a.2) b.2 in
      (ap (λ k. k ∷ path) w.0 ∙ ap (λ rest. m ∷ rest) w.1, w.2)
  one_failing s (dead item) q [] (n ∷ other) f g long a b = absurd b
  one_failing s (dead item) q (n ∷ path) other f g long a b = absurd a
  one_failing s (found number) q [] (n ∷ other) f g long a b = absurd b
  one_failing s (found number) q (n ∷ path) other f g long a b = absurd a
  one_failing s (same lemma) q [] (n ∷ other) f g long a b = absurd b
  one_failing s (same lemma) q (n ∷ path) other f g long a b = absurd a
  one_failing s (image lemma symmetry) q [] (n ∷ other) f g long a b = absurd b
  one_failing s (image lemma symmetry) q (n ∷ path) other f g long a b = absurd a

  each_one_failing : (s : Setting) (trees : Forest) (q : Prefix) (xs : List Pair) (n m : ℕ) (path other : List ℕ) (f g : NodeFault) → length q ≡ cell_count s.puzzle.board → EachFails s trees q xs n path f → EachFails s trees q xs m other g → (n ≡ m) × (path ≡ other) × (f ≡ g)
  each_one_failing s none q xs n m path other f g long a b = absurd a
  each_one_failing s (more tree trees) q [] n m path other f g long a b = absurd a
  each_one_failing s (more tree trees) q (x ∷ xs) zero zero path other f g long a b =
      let w = one_failing s tree (with_pair q x.cell x.placement) path other f g (length-set q x.cell (Some x.placement) ∙ long) a b in
      (refl, w.0, w.1)
  each_one_failing s (more tree trees) q (x ∷ xs) zero (suc m) path other f g long a b =
      absurd (holds_not_fails s tree (with_pair q x.cell x.placement) path f (length-set q x.cell (Some x.placement) ∙ long) b.0 a)
  each_one_failing s (more tree trees) q (x ∷ xs) (suc n) zero path other f g long a b =
      absurd (holds_not_fails s tree (with_pair q x.cell x.placement) other g (length-set q x.cell (Some x.placement) ∙ long) a.0 b)
  each_one_failing s (more tree trees) q (x ∷ xs) (suc n) (suc m) path other f g long a b =
      let w = each_one_failing s trees q xs n m path other f g long a.1 b.1 in
      (ap suc w.0, w.1, w.2)
