-- Steps of a walk.
use Rattle.std.proofs.Common.{◌≡◌, ◌≢◌, ◌<◌, ◌≤◌, ◌+◌, ◌-◌, ℕ, zero, suc, List, [], ◌∷◌, Option, Some, None, Contains, length, ap, sym, ◌∙◌, refl, arith, subst}
use Rattle.match_limits.specs.First.{IsFirst}
use Rattle.match_puzzle.specs.Puzzle.{Task}
use Rattle.match_puzzle.specs.Prefix.{Prefix, Layout, Has, IsFree, with_pair, without_cell}
use Rattle.match_puzzle.specs.Fitting.{Fits, FitsItem}
use Rattle.match_puzzle.specs.declared.items.Item.{Item}
use Rattle.match_puzzle.specs.declared.placements.Placement.{Placement}
use Rattle.match_puzzle.specs.declared.placements.Pair.{Pair}
use Rattle.match_puzzle.proofs.Prefixes.{has_new, lifted_is}
use Rattle.cert_check.specs.declared.faults.NodeFault.{NodeFault}
use Rattle.cert_check.specs.declared.faults.TreeFault.{TreeFault}
use Rattle.std.specs.Option.{option_map}
use Rattle.cert_check.specs.Setting.{Setting}
use Rattle.cert_tree.specs.Tree.{Tree, Forest, branch, none, more, count}
use Rattle.cert_tree.specs.Heads.{first, front, past}
use Rattle.cert_tree.proofs.HeadLemmas.{count-front, front_first}
use Rattle.cert_check.specs.NodeRules.{IsBranch, Holds, EachHolds}
use Rattle.cert_check.specs.TreeFaults.{BranchFails, FailsAt, EachFails, node_rank}
use Rattle.cert_check.specs.Walk.{Tells, IsAtTop, below}

module _ (s : Setting) (item : Item) (q : Prefix) (trees : Forest) where
  -- How far the walk of a branch's children has come: those before the number hold, and these children and pairs are left.
  pub record Going (number : ℕ) (left : Forest) (pairs : List Pair) : Type 0 where
    pub all : List Pair
    pub is : IsBranch s.puzzle q item (count trees) all
    pub many : length pairs ≡ count left
    pub fit : (x : Pair) → Contains pairs x → FitsItem s.puzzle q item x
    pub holds : EachHolds s left q pairs → EachHolds s trees q all
    pub fails : (n m : ℕ) (path : List ℕ) (fault : NodeFault) → m ≡ number + n → EachFails s left q pairs n path fault → EachFails s trees q all m path fault

  pub going_start : (pairs : List Pair) → IsBranch s.puzzle q item (count trees) pairs → Going 0 trees pairs
  going_start pairs is = record {
    all = pairs;
    is = is;
    many = is.many;
    fit = is.fitting.only;
    holds = λ each. each;
    fails = λ n m path fault e each. subst (λ k. EachFails s trees q pairs k path fault) (let same : n ≡ m = omega arith in same) each;
  }

  -- while children are left, pairs are
  pub going_on : (number : ℕ) (tree : Tree) (left : Forest) (pairs : List Pair) → Going number (more tree left) pairs → pairs ≡ [] → ⊥
  going_on number tree left pairs g ended = let many = g.many in let no_more = ap length ended in omega (arith, many, no_more)

  module _ (number : ℕ) (tree : Tree) (left : Forest) (x : Pair) (pairs : List Pair) (g : Going number (more tree left) (x ∷ pairs)) where
    pub going_fits : FitsItem s.puzzle q item x
    going_fits = g.fit x (0, omega arith, refl)

    -- a child holds
    pub going_more : Holds s tree (with_pair q x.cell x.placement) → Going (number + 1) left pairs
    going_more holds = record {
      all = g.all;
      is = g.is;
      many = let many = g.many in omega (arith, many);
      fit = λ y c. g.fit y (suc c.0, omega (arith, c.1), c.2);
      holds = λ each. g.holds (holds, each);
      fails = λ n m path fault e each. g.fails (suc n) m path fault (omega arith) (holds, each);
    }

    -- a child fails
    pub going_fault : (path : List ℕ) (fault : NodeFault) → FailsAt s tree (with_pair q x.cell x.placement) path fault → FailsAt s (branch item trees) q (number ∷ path) fault
    going_fault path fault fails = (g.all, g.is, g.fails 0 number path fault (omega arith) fails)

  -- all children hold
  pub going_done : (number : ℕ) (pairs : List Pair) → Going number none pairs → Holds s (branch item trees) q
  going_done number [] g = (g.all, g.is, g.holds tt)
  going_done number (x ∷ pairs) g = let many = g.many in absurd (omega (arith, many))

-- how many cells are free
abbrev pub free_count : Prefix → ℕ
free_count [] = 0
free_count (None ∷ q) = free_count q + 1
free_count (Some x ∷ q) = free_count q

-- Each placement takes one of the free cells.
pub free_count-placed : (q : Prefix) (cell : ℕ) (x : Placement) → IsFree q cell → free_count (with_pair q cell x) + 1 ≡ free_count q
free_count-placed [] cell x free = absurd (nothing free)
  where
    nothing : {X : Type 0} {y : X} → None ≡ Some y → ⊥
    nothing e = cc
free_count-placed (None ∷ q) zero x free = refl
free_count-placed (Some y ∷ q) zero x free = absurd (taken free)
  where
    taken : {y : Placement} → ◌≡◌ {A = Option (Option Placement)} (Some (Some y)) (Some None) → ⊥
    taken e = cc
free_count-placed (None ∷ q) (suc cell) x free = omega (arith, free_count-placed q cell x free)
free_count-placed (Some y ∷ q) (suc cell) x free = free_count-placed q cell x free

-- a layout with one more pair
abbrev pub grown : Layout → Pair → Layout
grown w x = record { puzzle = w.puzzle; placed = with_pair w.placed x.cell x.placement }

abbrev pub shrunk : Layout → ℕ → Layout
shrunk w cell = record { puzzle = w.puzzle; placed = without_cell w.placed cell }

pub after_place : (v w n : Layout) (x : Pair) → v ≡ w → n ≡ grown v x → n ≡ grown w x
after_place v w n x e is = is ∙ ap (λ u. grown u x) e

pub after_lift : (w n m : Layout) (x : Pair) → IsFree w.placed x.cell → n ≡ grown w x → m ≡ shrunk n x.cell → m ≡ w
after_lift w n m x free is last = last ∙ ap (λ u. shrunk u x.cell) is ∙ ap (λ (z : Prefix). let v : Layout = record { puzzle = w.puzzle; placed = z } in v) (lifted_is w.placed x.cell x.placement free)

-- ---- the trees that are left

pub some_left : (n : ℕ) (trees : Forest) → 0 < n → n ≤ count trees → trees ≢ none
some_left n none some le e = omega arith
some_left n (more tree trees) some le e = cc

-- a fault that is put below a parent stays one
pub still_some : (number : ℕ) (said said' : Option TreeFault) → said ≢ None → said' ≡ option_map (below number) said → said' ≢ None
still_some number None said' some is = absurd (some refl)
still_some number (Some fault) said' some is = λ none. let gone = sym is ∙ none in cc

-- ---- a branch

-- a fault of the branch itself is the first of its tree
pub branch_told : (s : Setting) (w : Layout) (item : Item) (children : ℕ) (trees : Forest) (fault : NodeFault) (said : Option TreeFault) → w.puzzle ≡ s.puzzle → children ≤ count trees → IsFirst node_rank (BranchFails w.puzzle w.placed item children) fault →
    IsAtTop (Some fault) said → Tells s (branch item (front children trees)) w.placed said
branch_told s w item children trees fault said made counted fails is =
    subst (Tells s (branch item (front children trees)) w.placed) (sym is)
    (subst (λ n. IsFirst node_rank (BranchFails s.puzzle w.placed item n) fault) (sym (count-front children trees counted))
    (subst (λ (p : Task). IsFirst node_rank (BranchFails p w.placed item children) fault) made fails))

-- ---- a turn of the loop over the children of a branch

-- what is placed now is what was placed before, and this child and the others are left, with this pair and the others
pub record Turn (s : Setting) (item : Item) (trees : Forest) (before now : Layout) (number : ℕ) (child : Tree) (rest : Forest) (x : Pair) (pairs : List Pair) : Type 0 where
  pub same : now ≡ before
  pub going : Going s item before.placed trees number (more child rest) (x ∷ pairs)

-- the pair fits
pub turn_fits : {s : Setting} {item : Item} {trees : Forest} {w v : Layout} {number : ℕ} {child : Tree} {rest : Forest} {x : Pair} {pairs : List Pair} → Turn s item trees w v number child rest x pairs → w.puzzle ≡ s.puzzle → Fits v.puzzle v.placed x.cell x.placement
turn_fits {s} {item} {trees} {w} {v} {number} {child} {rest} {x} {pairs} t made =
    let fits = (going_fits s item w.placed trees number child rest x pairs t.going).1 in
    subst (λ (u : Layout). Fits u.puzzle u.placed x.cell x.placement) (sym t.same) (subst (λ (p : Task). Fits p w.placed x.cell x.placement) (sym made) fits)

-- while there are children, the first of those that are left is the turn's
module _ {s : Setting} {item : Item} {w v : Layout} {all : Forest} {n number : ℕ} {now : List Pair} (trees : Forest) (same : v ≡ w) (going : Going s item w.placed all number (front (n - number) trees) now) (counted : n - number ≤ count trees) (below_n : number < n) where
  on : Going s item w.placed all number (more (first trees) (front (n - (number + 1)) (past 1 trees))) now
  on =
      let fewer : n - number ≡ suc (n - (number + 1)) = omega (arith, below_n) in
      subst (λ (left : Forest). Going s item w.placed all number left now) (front_first (n - number) (n - (number + 1)) trees fewer counted) going

  pub turn_some : now ≢ []
  turn_some = going_on s item w.placed all number (first trees) (front (n - (number + 1)) (past 1 trees)) now on

  pub turn_of : (x : Pair) (pairs : List Pair) → now ≡ x ∷ pairs → Turn s item all w v number (first trees) (front (n - (number + 1)) (past 1 trees)) x pairs
  turn_of x pairs took = record {
    same = same;
    going = subst (λ (xs : List Pair). Going s item w.placed all number (more (first trees) (front (n - (number + 1)) (past 1 trees))) xs) took on;
  }

module _ {s : Setting} {item : Item} {trees : Forest} {w v : Layout} {number : ℕ} {child : Tree} {rest : Forest} {x : Pair} {pairs : List Pair} (t : Turn s item trees w v number child rest x pairs) (n : Layout) (placed : n ≡ grown v x) where
  free : IsFree w.placed x.cell
  free = (going_fits s item w.placed trees number child rest x pairs t.going).1.free

  pub turn_placed : n ≡ grown w x
  turn_placed = after_place v w n x t.same placed

  pub turn_fewer : free_count n.placed + 1 ≡ free_count w.placed
  turn_fewer = let e = ap (λ (u : Layout). free_count u.placed) turn_placed in omega (arith, e, free_count-placed w.placed x.cell x.placement free)

  pub turn_fault : (path : List ℕ) (fault : NodeFault) → FailsAt s child n.placed path fault → FailsAt s (branch item trees) w.placed (number ∷ path) fault
  turn_fault path fault fails =
      going_fault s item w.placed trees number child rest x pairs t.going path fault (subst (λ (u : Layout). FailsAt s child u.placed path fault) turn_placed fails)

  pub turn_said : (said said' : Option TreeFault) → said ≢ None → Tells s child n.placed said → said' ≡ option_map (below number) said → Tells s (branch item trees) w.placed said'
  turn_said None said' some tells is = absurd (some refl)
  turn_said (Some fault) said' some tells is = subst (Tells s (branch item trees) w.placed) (sym is) (turn_fault fault.path fault.fault tells)

  -- the child holds, and nothing else was changed
  module _ (after : Layout) (restored : after ≡ n) where
    pub turn_has : Has after.placed x.cell x.placement
    turn_has = subst (λ (u : Layout). Has u.placed x.cell x.placement) (sym (restored ∙ turn_placed)) (has_new w.placed x.cell x.placement free)

    pub turn_lifted : (lifted : Layout) → lifted ≡ shrunk after x.cell → lifted ≡ w
    turn_lifted lifted is = after_lift w after lifted x free (restored ∙ turn_placed) is

    pub turn_more : Holds s child n.placed → Going s item w.placed trees (number + 1) rest pairs
    turn_more holds = going_more s item w.placed trees number child rest x pairs t.going (subst (λ (u : Layout). Holds s child u.placed) turn_placed holds)
