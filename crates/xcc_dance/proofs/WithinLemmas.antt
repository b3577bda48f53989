-- How many levels nodes have, and that they are within the limits of a lemma.
use Rattle.std.proofs.Common.{◌<◌, ◌≤◌, ◌+◌, ◌*◌, ℕ, zero, suc, arith, add-one, sym, subst}
use Rattle.match_limits.specs.declared.TheConstants.{MOST_ARRANGEMENTS, MOST_CELLS, MOST_CHILDREN}
use Rattle.match_puzzle.specs.declared.items.Item.{Item}
use Rattle.match_puzzle.specs.declared.items.Item.TheVariants.{Cell, Tile}
use Rattle.cert_tree.specs.Tree.{Tree, Forest, branch, dead, found, same, image, none, more, count}
use Rattle.cert_tree.specs.Limits.{HasLevels, HaveLevels, IsItemWithin, IsTreeWithin, AreTreesWithin}
use Rattle.match_puzzle.specs.Fitting.{IsNumberOf}
use Rattle.xcc_dance.specs.Found.{IsCitation}
use Rattle.xcc_dance.specs.Outcome.{IsCiteWithin}
use Rattle.xcc_dance.specs.declared.cites.Cite.{Cite}
use Rattle.xcc_dance.specs.declared.cites.Cite.TheVariants as cites
use Rattle.xcc_dance.proofs.GrowingLemmas.{with_last}

one_level : (levels : ℕ) (tree : Tree) → IsTreeWithin MOST_CELLS (suc levels) tree → IsTreeWithin MOST_CELLS (levels + 1) tree
one_level levels tree h = subst (λ n. IsTreeWithin MOST_CELLS n tree) (sym (add-one levels)) h

some_levels : (levels : ℕ) (tree : Tree) → HasLevels (suc levels) tree → HasLevels (levels + 1) tree
some_levels levels tree h = subst (λ n. HasLevels n tree) (sym (add-one levels)) h

-- ---- how many levels a node has

pub leaf_levels : (levels number : ℕ) → HasLevels (levels + 1) (found number)
leaf_levels levels number = some_levels levels (found number) tt

pub dead_levels : (levels : ℕ) (item : Item) → HasLevels (levels + 1) (dead item)
dead_levels levels item = some_levels levels (dead item) tt

pub branch_levels : (levels : ℕ) (item : Item) (children : Forest) → HaveLevels levels children → HasLevels (levels + 1) (branch item children)
branch_levels levels item children below = some_levels levels (branch item children) below

pub cited_levels : (levels : ℕ) (cite : Cite) (tree : Tree) → IsCitation cite tree → HasLevels (levels + 1) tree
cited_levels levels (cites.Same lemma) tree is = subst (HasLevels (levels + 1)) (sym is) (some_levels levels (same lemma) tt)
cited_levels levels (cites.Image lemma symmetry) tree is = subst (HasLevels (levels + 1)) (sym is) (some_levels levels (image lemma symmetry) tt)

pub levels_more : (levels : ℕ) (trees : Forest) (tree : Tree) → HaveLevels levels trees → HasLevels levels tree → HaveLevels levels (with_last trees tree)
levels_more levels none tree all one = (one, tt)
levels_more levels (more t trees) tree all one = (all.0, levels_more levels trees tree all.1 one)

mutual
  -- a tree with so many levels has no more than more
  pub levels_up : (m n : ℕ) → m ≤ n → (t : Tree) → HasLevels m t → HasLevels n t
  levels_up zero n le t h = absurd h
  levels_up (suc m) zero le t h = absurd (omega (arith, le))
  levels_up (suc m) (suc n) le (branch item children) h = all_levels_up m n (omega (arith, le)) children h
  levels_up (suc m) (suc n) le (dead item) h = h
  levels_up (suc m) (suc n) le (found number) h = h
  levels_up (suc m) (suc n) le (same lemma) h = h
  levels_up (suc m) (suc n) le (image lemma symmetry) h = h

  all_levels_up : (m n : ℕ) → m ≤ n → (ts : Forest) → HaveLevels m ts → HaveLevels n ts
  all_levels_up m n le none h = tt
  all_levels_up m n le (more t ts) h = (levels_up m n le t h.0, all_levels_up m n le ts h.1)

-- ---- the limits of a text

pub found_within : (levels number n : ℕ) → number < n → n ≤ MOST_ARRANGEMENTS → IsTreeWithin MOST_CELLS (levels + 1) (found number)
found_within levels number n lt few = one_level levels (found number) (omega (arith, lt, few))

item_within : (cells number : ℕ) (item : Item) → cells ≤ MOST_CELLS → number < 2 * cells → IsNumberOf cells number item → IsItemWithin MOST_CELLS item
item_within cells number (Cell cell) few lt of = let a = of.1 in omega (arith, few, a)
item_within cells number (Tile tile) few lt of = omega (arith, few, lt, of)

pub dead_within : (levels cells number : ℕ) (item : Item) → cells ≤ MOST_CELLS → number < 2 * cells → IsNumberOf cells number item → IsTreeWithin MOST_CELLS (levels + 1) (dead item)
dead_within levels cells number item few lt is = one_level levels (dead item) (item_within cells number item few lt is)

pub branch_within : (levels cells number : ℕ) (item : Item) (children : Forest) → cells ≤ MOST_CELLS → number < 2 * cells → 1 ≤ count children → count children ≤ MOST_CHILDREN → AreTreesWithin MOST_CELLS levels children → IsNumberOf cells number item → IsTreeWithin MOST_CELLS (levels + 1) (branch item children)
branch_within levels cells number item children few lt some most all is = one_level levels (branch item children) (item_within cells number item few lt is, some, most, all)

pub cited_within : (levels : ℕ) (cite : Cite) (tree : Tree) → IsCitation cite tree → IsCiteWithin cite → IsTreeWithin MOST_CELLS (levels + 1) tree
cited_within levels (cites.Same lemma) tree is within = subst (IsTreeWithin MOST_CELLS (levels + 1)) (sym is) (one_level levels (same lemma) (omega (arith, within)))
cited_within levels (cites.Image lemma symmetry) tree is within =
    let l = within.0 in
    let s = within.1 in
    subst (IsTreeWithin MOST_CELLS (levels + 1)) (sym is) (one_level levels (image lemma symmetry) (omega (arith, l), omega (arith, s)))

pub within_more_trees : (levels : ℕ) (trees : Forest) (tree : Tree) → AreTreesWithin MOST_CELLS levels trees → IsTreeWithin MOST_CELLS levels tree → AreTreesWithin MOST_CELLS levels (with_last trees tree)
within_more_trees levels none tree all one = (one, tt)
within_more_trees levels (more t trees) tree all one = (all.0, within_more_trees levels trees tree all.1 one)

mutual
  -- what is within so many levels is within more
  pub deeper : (m n : ℕ) → m ≤ n → (t : Tree) → IsTreeWithin MOST_CELLS m t → IsTreeWithin MOST_CELLS n t
  deeper zero n le t h = absurd h
  deeper (suc m) zero le t h = absurd (omega (arith, le))
  deeper (suc m) (suc n) le (branch item children) h = (h.0, h.1, h.2, all_deeper m n (omega (arith, le)) children h.3)
  deeper (suc m) (suc n) le (dead item) h = h
  deeper (suc m) (suc n) le (found number) h = h
  deeper (suc m) (suc n) le (same lemma) h = h
  deeper (suc m) (suc n) le (image lemma symmetry) h = h

  all_deeper : (m n : ℕ) → m ≤ n → (ts : Forest) → AreTreesWithin MOST_CELLS m ts → AreTreesWithin MOST_CELLS n ts
  all_deeper m n le none h = tt
  all_deeper m n le (more t ts) h = (deeper m n le t h.0, all_deeper m n le ts h.1)
