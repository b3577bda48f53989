-- Children of branches, and where paths lead.
use Rattle.std.proofs.lemmas.List.{drop_more}
use Rattle.std.proofs.lemmas.Option.{slice_get_within}
use Rattle.std.proofs.Common.{◌≡◌, ◌≢◌, ◌<◌, ◌≤◌, ℕ, zero, suc, List, [], ◌∷◌, Option, Some, None, MatchOption, drop, get_or, ◌+◌, slice_get, length, ap, sym, ◌∙◌, refl, arith, subst}
use Rattle.match_board.specs.Board.{cell_count}
use Rattle.match_puzzle.specs.Puzzle.{Task}
use Rattle.match_puzzle.specs.Prefix.{Prefix, with_pair}
use Rattle.match_puzzle.specs.Fitting.{AreFitting, FitsItem, IsItem, IsOpen}
use Rattle.match_puzzle.specs.declared.items.Item.{Item}
use Rattle.match_puzzle.specs.declared.items.Item.TheVariants as items
use Rattle.match_puzzle.specs.declared.placements.Pair.{Pair}
use Rattle.match_puzzle.proofs.Prefixes.{inside}
use Rattle.cert_tree.specs.Tree.{Tree, Forest, branch, dead, found, same, image, none, more, count}
use Rattle.cert_tree.specs.Heads.{arity, branch_head, first, front, past, put}
use Rattle.cert_tree.specs.declared.heads.Head.{Head}
use Rattle.cert_tree.specs.declared.heads.Head.TheVariants as heads
use Rattle.cert_tree.proofs.HeadLemmas.{count-front}
use Rattle.cert_check.specs.Setting.{Setting}
use Rattle.cert_check.specs.NodeRules.{IsBranch}
use Rattle.cert_check.specs.TreeFaults.{IsNodeFault, FailsAt, EachFails}
use Rattle.cert_check.specs.declared.faults.NodeFault.{NodeFault}
use Rattle.cert_check.proofs.FaultLemmas.{one_fitting}
use Rattle.match_limits.proofs.ListLemmas.{contains_at}
use Rattle.cert_check.specs.Scene.{IsChild, LeadsTo}

-- a child of the first so many trees is one of all
pub first_past_front : (n k : ℕ) (trees : Forest) → k < n → first (past k (front n trees)) ≡ first (past k trees)
first_past_front zero k trees below = absurd (omega arith)
first_past_front (suc n) zero none below = refl
first_past_front (suc n) (suc k) none below = refl
first_past_front (suc n) zero (more tree trees) below = refl
first_past_front (suc n) (suc k) (more tree trees) below = first_past_front n k trees (omega arith)

-- A branch has one child with each number.
pub same_child : (p : Task) (tree : Tree) (q : Prefix) (number : ℕ) (a b : Tree) (u v : Prefix) → IsChild p tree q number a u → IsChild p tree q number b v → (a ≡ b) × (u ≡ v)
same_child p (branch item children) q number a b u v (xs, is, x, at, node, placed) (ys, is', y, at', node', placed') =
    let same = one_fitting p q item xs ys is.fitting is'.fitting in
    let pair : x ≡ y = inside (sym at ∙ ap (λ (zs : List Pair). slice_get zs number) same ∙ at') in
    (node ∙ sym node', placed ∙ ap (λ (z : Pair). with_pair q z.cell z.placement) pair ∙ sym placed')
same_child p (dead item) q number a b u v c d = absurd c
same_child p (found listed) q number a b u v c d = absurd c
same_child p (same lemma) q number a b u v c d = absurd c
same_child p (image lemma symmetry) q number a b u v c d = absurd c

-- The pair with this number fits.
pub fits_at : (p : Task) (q : Prefix) (item : Item) (xs : List Pair) (number : ℕ) (x : Pair) → AreFitting p q item xs → slice_get xs number ≡ Some x → FitsItem p q item x
fits_at p q item xs number x are at = are.only x (contains_at xs number x at)

-- Where a child fails, its pair and its tree are those with its number.
pub fails_child : (s : Setting) (trees : Forest) (q : Prefix) (xs : List Pair) (number : ℕ) (path : List ℕ) (fault : NodeFault) → EachFails s trees q xs number path fault → (x : Pair) × (slice_get xs number ≡ Some x) × FailsAt s (first (past number trees)) (with_pair q x.cell x.placement) path fault
fails_child s none q xs number path fault fails = absurd fails
fails_child s (more tree trees) q [] number path fault fails = absurd fails
fails_child s (more tree trees) q (x ∷ xs) zero path fault fails = (x, refl, fails)
fails_child s (more tree trees) q (x ∷ xs) (suc number) path fault fails = fails_child s trees q xs number path fault fails.1

-- The path of a fault leads to the node that has it.
pub fault_path : (s : Setting) (tree : Tree) (q : Prefix) (path : List ℕ) (fault : NodeFault) → FailsAt s tree q path fault → (node : Tree) × (placed : Prefix) × LeadsTo s.puzzle tree q path node placed × IsNodeFault s node placed fault
fault_path s tree q [] fault fails = (tree, q, (refl, refl), fails)
fault_path s (branch item children) q (number ∷ path) fault (xs, is, each) =
    let (x, at, fails) = fails_child s children q xs number path fault each in
    let (node, placed, leads, has) = fault_path s (first (past number children)) (with_pair q x.cell x.placement) path fault fails in
    (node, placed, (first (past number children), with_pair q x.cell x.placement, (xs, is, x, at, refl, refl), leads), has)
fault_path s (dead item) q (number ∷ path) fault fails = absurd fails
fault_path s (found listed) q (number ∷ path) fault fails = absurd fails
fault_path s (same lemma) q (number ∷ path) fault fails = absurd fails
fault_path s (image lemma symmetry) q (number ∷ path) fault fails = absurd fails

-- The next number of a path is that of a child.
pub leads_next : (p : Task) (tree : Tree) (q : Prefix) (path : List ℕ) (i : ℕ) (node : Tree) (placed : Prefix) → i < length path → LeadsTo p tree q (drop i path) node placed → (child : Tree) × (there : Prefix) × IsChild p tree q (get_or path i 0) child there
leads_next p tree q [] i node placed within leads = absurd (omega (arith, within))
leads_next p tree q (number ∷ path) zero node placed within leads = (leads.0, leads.1, leads.2)
leads_next p tree q (number ∷ path) (suc i) node placed within leads = leads_next p tree q path i node placed (omega (arith, within)) leads

-- What is taken after so many is the one with that number.
pub taken_is : {X : Type 0} (n : ℕ) (xs now next : List X) (o : Option X) → now ≡ drop n xs → MatchOption o ((now ≡ []) × (next ≡ [])) (λ x. now ≡ x ∷ next) → o ≡ slice_get xs n
taken_is zero xs now next None is took = ap (λ ys. slice_get ys 0) (sym took.0 ∙ is)
taken_is zero xs now next (Some x) is took = ap (λ ys. slice_get ys 0) (sym took ∙ is)
taken_is (suc n) [] now next None is took = refl
taken_is (suc n) [] now next (Some x) is took = absurd cc
taken_is (suc n) (y ∷ ys) now next o is took = taken_is n ys now next o is took

-- The first of the trees that a branch's head begins is the branch.
pub branch_first : (head : Head) (item : Item) (new old : Forest) → put head new ≡ old → head ≡ branch_head item (arity head) → first old ≡ branch item (front (arity head) new)
branch_first head (items.Cell cell) new old is e = ap first (sym is ∙ ap (λ h. put h new) e)
branch_first head (items.Tile tile) new old is e = ap first (sym is ∙ ap (λ h. put h new) e)

-- A child of a branch whose head was just gone past: its pair and its place among the trees that are left.
module _ (p : Task) (q : Prefix) (number : ℕ) (head : Head) (item : Item) (old new : Forest) (node : Tree) (placed : Prefix)
    (is : put head new ≡ old) (few : arity head ≤ count new) (e : head ≡ branch_head item (arity head))
    (child : IsChild p (first old) q number node placed) where
  here : IsChild p (branch item (front (arity head) new)) q number node placed
  here = subst (λ (tree : Tree). IsChild p tree q number node placed) (branch_first head item new old is e) child

  pub child_within : number < count new
  child_within = omega (arith, slice_get_within here.0 number here.2 here.3, here.1.many, count-front (arity head) new few)

  pub child_open : IsOpen p q item
  child_open = here.1.unsettled

  -- the pair with this number among those that fit
  pub child_pair : (ys : List Pair) → AreFitting p q item ys → (x : Pair) × (slice_get ys number ≡ Some x) × FitsItem p q item x
  child_pair ys fitting =
      let same = one_fitting p q item here.0 ys here.1.fitting fitting in
      let there = subst (λ (zs : List Pair). slice_get zs number ≡ Some here.2) same here.3 in
      (here.2, there, fits_at p q item ys number here.2 fitting there)

  pub child_reached : (ys : List Pair) → AreFitting p q item ys → (x : Pair) → slice_get ys number ≡ Some x → IsChild p (first old) q number (first (past number new)) (with_pair q x.cell x.placement)
  child_reached ys fitting x at =
      let same = one_fitting p q item here.0 ys here.1.fitting fitting in
      let many = subst (λ (zs : List Pair). IsBranch p q item (count (front (arity head) new)) zs) same here.1 in
      let within : number < arity head = omega (arith, slice_get_within ys number x at, many.many, count-front (arity head) new few) in
      subst (λ (tree : Tree). IsChild p tree q number (first (past number new)) (with_pair q x.cell x.placement)) (sym (branch_first head item new old is e))
      (ys, many, x, at, sym (first_past_front (arity head) number new within), refl)

-- A child is of a branch.
pub of_branch : (p : Task) (q : Prefix) (number : ℕ) (head : Head) (old new : Forest) (node : Tree) (placed : Prefix) → put head new ≡ old → ((item : Item) (children : ℕ) → head ≢ branch_head item children) → IsChild p (first old) q number node placed → ⊥
of_branch p q number (heads.Cell cell children) old new node placed is leaf child = leaf (items.Cell cell) children refl
of_branch p q number (heads.Tile tile children) old new node placed is leaf child = leaf (items.Tile tile) children refl
of_branch p q number (heads.DeadCell cell) old new node placed is leaf child = subst (λ (trees : Forest). IsChild p (first trees) q number node placed) (sym is) child
of_branch p q number (heads.DeadTile tile) old new node placed is leaf child = subst (λ (trees : Forest). IsChild p (first trees) q number node placed) (sym is) child
of_branch p q number (heads.Found listed) old new node placed is leaf child = subst (λ (trees : Forest). IsChild p (first trees) q number node placed) (sym is) child
of_branch p q number (heads.Same lemma) old new node placed is leaf child = subst (λ (trees : Forest). IsChild p (first trees) q number node placed) (sym is) child
of_branch p q number (heads.Image symmetry lemma) old new node placed is leaf child = subst (λ (trees : Forest). IsChild p (first trees) q number node placed) (sym is) child

-- Trees are left past fewer than there are.
none_past : (number : ℕ) (trees : Forest) → past number trees ≡ none → count trees ≤ number
none_past zero none e = omega arith
none_past zero (more tree trees) e = absurd cc
none_past (suc number) none e = omega arith
none_past (suc number) (more tree trees) e = omega (arith, none_past number trees e)

pub some_past : (number : ℕ) (trees : Forest) → number < count trees → past number trees ≢ none
some_past number trees within e = omega (arith, none_past number trees e, within)

-- An item that is open is one of the puzzle.
pub open_item : (p : Task) (q : Prefix) (item : Item) → length q ≡ cell_count p.board → IsOpen p q item → IsItem p item
open_item p q (items.Cell cell) long unsettled = omega (arith, slice_get_within q cell None unsettled, long)
open_item p q (items.Tile tile) long unsettled = unsettled.0

-- The path's next number leads to the child with that number, and the rest of it on from there.
pub leads_on : (p : Task) (tree : Tree) (q : Prefix) (path : List ℕ) (i : ℕ) (node : Tree) (placed : Prefix) (child : Tree) (there : Prefix) → i < length path → LeadsTo p tree q (drop i path) node placed → IsChild p tree q (get_or path i 0) child there → LeadsTo p child there (drop (i + 1) path) node placed
leads_on p tree q path i node placed child there within leads is =
    let (next, next_placed, next_is, rest) = subst (λ (steps : List ℕ). LeadsTo p tree q steps node placed) (drop_more path i 0 within) leads in
    let same = same_child p tree q (get_or path i 0) next child next_placed there next_is is in
    subst (λ (t : Tree). LeadsTo p t there (drop (i + 1) path) node placed) same.0 (subst (λ (u : Prefix). LeadsTo p next u (drop (i + 1) path) node placed) same.1 rest)
