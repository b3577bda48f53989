-- Steps of a walk in halves.
use Rattle.std.proofs.Common.{◌≡◌, ◌≢◌, ◌<◌, ◌≤◌, ◌+◌, ◌^◌, ℕ, zero, suc, List, [], ◌∷◌, Option, Some, None, MatchOption, length, drop, slice_get, ap, sym, ◌∙◌, refl, arith, subst, ⊎_elim}
use Rattle.std.specs.Option.{option_or}
use Rattle.match_limits.proofs.Listings.{lt_or_le}
use Rattle.match_puzzle.specs.Puzzle.{Task}
use Rattle.match_puzzle.specs.Prefix.{Prefix, Layout, Has, with_pair}
use Rattle.match_puzzle.specs.Fitting.{Fits, FitsItem, AreFitting, IsItem}
use Rattle.match_puzzle.specs.declared.items.Item.{Item}
use Rattle.match_puzzle.specs.declared.placements.Pair.{Pair}
use Rattle.match_puzzle.proofs.Prefixes.{inside, has_new}
use Rattle.cert_tree.specs.Tree.{Forest, branch, none, more, count}
use Rattle.cert_tree.specs.Heads.{first, front, past}
use Rattle.cert_tree.proofs.HeadLemmas.{count-front}
use Rattle.cert_check.specs.declared.faults.NodeFault.{NodeFault}
use Rattle.cert_check.specs.declared.faults.TreeFault.{TreeFault}
use Rattle.cert_check.specs.Setting.{Setting}
use Rattle.cert_check.specs.NodeRules.{IsBranch, Holds, EachHolds}
use Rattle.cert_check.specs.TreeFaults.{FailsAt, EachFails}
use Rattle.cert_check.specs.Walk.{Tells, HasChildren, ChildHolds, ChildFails, ChildrenHold, TellsOfChildren}
use Rattle.match_limits.proofs.ListLemmas.{none≢some, contains_at}
use Rattle.cert_check.proofs.FaultLemmas.{one_fitting}
use Rattle.cert_check.proofs.WalkLemmas.{grown, shrunk, after_place, after_lift}

-- ---- what is left of lists and trees

pub dropped_first : {X : Type 0} (n : ℕ) (xs : List X) (x : X) (rest : List X) → drop n xs ≡ x ∷ rest → (slice_get xs n ≡ Some x) × (drop (suc n) xs ≡ rest)
dropped_first zero [] x rest e = absurd (none≢some (ap (λ ys. slice_get ys 0) e))
dropped_first zero (y ∷ xs) x rest e = (ap (λ ys. slice_get ys 0) e, ap (drop 1) e)
dropped_first (suc n) [] x rest e = absurd (none≢some (ap (λ ys. slice_get ys 0) e))
dropped_first (suc n) (y ∷ xs) x rest e = dropped_first n xs x rest e

pub dropped_none : {X : Type 0} (n : ℕ) (xs : List X) → drop n xs ≡ [] → length xs ≤ n
dropped_none zero [] e = omega arith
dropped_none zero (y ∷ xs) e = let n = ap length e in omega (arith, n)
dropped_none (suc n) [] e = omega arith
dropped_none (suc n) (y ∷ xs) e = omega (arith, dropped_none n xs e)

pub drop_past : {X : Type 0} (n : ℕ) (xs : List X) → length xs ≤ n → drop n xs ≡ []
drop_past zero [] le = refl
drop_past zero (y ∷ xs) le = absurd (omega (arith, le))
drop_past (suc n) [] le = refl
drop_past (suc n) (y ∷ xs) le = drop_past n xs (omega (arith, le))

-- one more is taken, where one is left
pub taken_after : {X : Type 0} (n : ℕ) (xs now next : List X) (o : Option X) → now ≡ drop n xs → MatchOption o ((now ≡ []) × (next ≡ [])) (λ x. now ≡ x ∷ next) → next ≡ drop (n + 1) xs
taken_after n xs now next None is took = took.1 ∙ sym (drop_past (n + 1) xs (omega (arith, dropped_none n xs (sym is ∙ took.0))))
taken_after n xs now next (Some x) is took =
    let one : suc n ≡ n + 1 = omega arith in
    sym (dropped_first n xs x next (sym is ∙ took)).1 ∙ ap (λ k. drop k xs) one

pub past_next : (n : ℕ) (trees : Forest) → past 1 (past n trees) ≡ past (suc n) trees
past_next zero trees = refl
past_next (suc n) none = refl
past_next (suc n) (more tree trees) = past_next n trees

-- one tree more is gone past
pub past_after : (n : ℕ) (trees now next : Forest) → now ≡ past n trees → next ≡ past 1 now → next ≡ past (n + 1) trees
past_after n trees now next is e =
    let one : suc n ≡ n + 1 = omega arith in e ∙ ap (past 1) is ∙ past_next n trees ∙ ap (λ k. past k trees) one

pub past_some : (n : ℕ) (trees : Forest) → n < count trees → past n trees ≢ none
past_some n none lt e = omega (arith, lt)
past_some zero (more tree trees) lt e = cc
past_some (suc n) (more tree trees) lt e = past_some n trees (omega (arith, lt)) e

-- ---- some children after the other

-- How far a walk of some children has come: those before the number hold, and these trees and pairs are left.
pub record Along (s : Setting) (item : Item) (q : Prefix) (children : Forest) (start end number : ℕ) (rest : Forest) (left : List Pair) : Type 0 where
  pub pairs : List Pair
  pub fitting : AreFitting s.puzzle q item pairs
  pub left_is : left ≡ drop number pairs
  pub rest_is : rest ≡ past number children
  pub after : start ≤ number
  pub until : number ≤ end
  pub enough : (end ≤ length pairs) × (end ≤ count children)
  pub before : ChildrenHold s children q pairs start number

-- what a walk of some children begins with
pub along_begin : (s : Setting) (item : Item) (w : Layout) (trees : Forest) (start end : ℕ) (rest : Forest) (left pairs : List Pair) → HasChildren s w item trees end → start ≤ end → AreFitting w.puzzle w.placed item pairs → left ≡ drop start pairs → rest ≡ past start trees → Along s item w.placed trees start end start rest left
along_begin s item w trees start end rest left pairs has le fitting left_is rest_is = record {
  pairs = pairs;
  fitting = subst (λ (p : Task). AreFitting p w.placed item pairs) has.made fitting;
  left_is = left_is;
  rest_is = rest_is;
  after = omega arith;
  until = le;
  enough = (has.fitting pairs fitting, has.counted);
  before = λ number ge lt. absurd (omega (arith, ge, lt));
}

module _ {s : Setting} {item : Item} {q : Prefix} {children : Forest} {start end number : ℕ} {rest : Forest} where
  pub along_some : {left : List Pair} → Along s item q children start end number rest left → number < end → left ≡ [] → ⊥
  along_some g lt e = omega (arith, dropped_none number g.pairs (sym g.left_is ∙ e), g.enough.0, lt)

  pub along_trees : {left : List Pair} → Along s item q children start end number rest left → number < end → rest ≢ none
  along_trees g lt e = past_some number children (omega (arith, lt, g.enough.1)) (sym g.rest_is ∙ e)

  -- a turn of the loop, at which this pair was taken
  module _ {x : Pair} {left : List Pair} (g : Along s item q children start end number rest (x ∷ left)) (lt : number < end) where
    along_at : (slice_get g.pairs number ≡ Some x) × (drop (suc number) g.pairs ≡ left)
    along_at = dropped_first number g.pairs x left (sym g.left_is)

    pub along_fits : FitsItem s.puzzle q item x
    along_fits = g.fitting.only x (contains_at g.pairs number x along_at.0)

    -- the child holds
    pub along_more : Holds s (first rest) (with_pair q x.cell x.placement) → (rest' : Forest) → rest' ≡ past 1 rest → Along s item q children start end (number + 1) rest' left
    along_more holds rest' is =
        let one : suc number ≡ number + 1 = omega arith in
        record {
          pairs = g.pairs;
          fitting = g.fitting;
          left_is = sym along_at.1 ∙ ap (λ n. drop n g.pairs) one;
          rest_is = is ∙ ap (past 1) g.rest_is ∙ past_next number children ∙ ap (λ n. past n children) one;
          after = let ge = g.after in omega (arith, ge);
          until = omega (arith, lt);
          enough = g.enough;
          before = λ n ge below. ⊎_elim (λ earlier. g.before n ge earlier) (λ later. let same : number ≡ n = omega (arith, later, below) in subst (ChildHolds s children q g.pairs) same here) (lt_or_le n number);
        }
      where
        here : ChildHolds s children q g.pairs number
        here = (x, along_at.0, subst (λ trees. Holds s (first trees) (with_pair q x.cell x.placement)) g.rest_is holds)

    -- the child fails
    pub along_fault : (of_child fault : TreeFault) → FailsAt s (first rest) (with_pair q x.cell x.placement) of_child.path of_child.fault → fault.path ≡ number ∷ of_child.path → fault.fault ≡ of_child.fault → TellsOfChildren s item children q start end (Some fault)
    along_fault of_child fault fails path_is fault_is = (
      g.pairs,
      g.fitting,
      record {
        number = number;
        path = of_child.path;
        is = path_is;
        within = (g.after, lt);
        before = g.before;
        fails = (
          x,
          along_at.0,
          subst (FailsAt s (first (past number children)) (with_pair q x.cell x.placement) of_child.path) (sym fault_is)
              (subst (λ trees. FailsAt s (first trees) (with_pair q x.cell x.placement) of_child.path of_child.fault) g.rest_is fails),
        );
      },
    )

-- ---- a turn of the loop over some children

module _ {s : Setting} {item : Item} {w : Layout} {trees : Forest} {start end number : ℕ} {own : Layout} {rest : Forest} {now left : List Pair} {x : Pair} (along : Along s item w.placed trees start end number rest now) (same : own ≡ w) (took : now ≡ x ∷ left) (made : w.puzzle ≡ s.puzzle) (lt : number < end) where
  here : Along s item w.placed trees start end number rest (x ∷ left)
  here = subst (λ (pairs : List Pair). Along s item w.placed trees start end number rest pairs) took along

  fits : FitsItem s.puzzle w.placed item x
  fits = along_fits here lt

  pub turn_fits : Fits own.puzzle own.placed x.cell x.placement
  turn_fits = subst (λ (u : Layout). Fits u.puzzle u.placed x.cell x.placement) (sym same) (subst (λ (p : Task). Fits p w.placed x.cell x.placement) (sym made) fits.1)

  module _ (n : Layout) (placed : n ≡ grown own x) where
    on_w : n ≡ grown w x
    on_w = after_place own w n x same placed

    pub turn_fault : (of_child fault : TreeFault) → FailsAt s (first rest) n.placed of_child.path of_child.fault → fault.path ≡ number ∷ of_child.path → fault.fault ≡ of_child.fault → TellsOfChildren s item trees w.placed start end (Some fault)
    turn_fault of_child fault fails =
        along_fault here lt of_child fault (subst (λ (u : Layout). FailsAt s (first rest) u.placed of_child.path of_child.fault) on_w fails)

    -- the child holds, and nothing else was changed
    module _ (after : Layout) (restored : after ≡ n) where
      pub turn_has : Has after.placed x.cell x.placement
      turn_has = subst (λ (u : Layout). Has u.placed x.cell x.placement) (sym (restored ∙ on_w)) (has_new w.placed x.cell x.placement fits.1.free)

      pub turn_lifted : (lifted : Layout) → lifted ≡ shrunk after x.cell → lifted ≡ w
      turn_lifted lifted is = after_lift w after lifted x fits.1.free (restored ∙ on_w) is

    pub turn_more : Holds s (first rest) n.placed → (rest' : Forest) → rest' ≡ past 1 rest → Along s item w.placed trees start end (number + 1) rest' left
    turn_more holds = along_more here lt (subst (λ (u : Layout). Holds s (first rest) u.placed) on_w holds)

-- ---- both halves

module _ (s : Setting) (item : Item) (q : Prefix) (children : Forest) (start middle end : ℕ) (first_le : start ≤ middle) (le : middle ≤ end) where
  both_before : (pairs : List Pair) (number : ℕ) → ChildrenHold s children q pairs start middle → ChildrenHold s children q pairs middle number → ChildrenHold s children q pairs start number
  both_before pairs number left right n ge lt = ⊎_elim (λ early. left n ge early) (λ late. right n late lt) (lt_or_le n middle)

  -- What the left half says comes first.
  pub both_said : (said said' : Option TreeFault) → TellsOfChildren s item children q start middle said → TellsOfChildren s item children q middle end said' → TellsOfChildren s item children q start end (option_or said said')
  both_said None None left right =
      let same = one_fitting s.puzzle q item right.0 left.0 right.1 left.1 in
      (left.0, left.1, both_before left.0 end left.2 (subst (λ pairs. ChildrenHold s children q pairs middle end) same right.2))
  both_said None (Some fault) left right =
      let same = one_fitting s.puzzle q item left.0 right.0 left.1 right.1 in
      let w = right.2 in (
        right.0,
        right.1,
        record {
          number = w.number;
          path = w.path;
          is = w.is;
          within = (let after = w.within.0 in omega (arith, first_le, after), w.within.1);
          before = both_before right.0 w.number (subst (λ pairs. ChildrenHold s children q pairs start middle) same left.2) w.before;
          fails = w.fails;
        },
      )
  both_said (Some fault) said' left right =
      let w = left.2 in (
        left.0,
        left.1,
        record {
          number = w.number;
          path = w.path;
          is = w.is;
          within = (w.within.0, omega (arith, w.within.1, le));
          before = w.before;
          fails = w.fails;
        },
      )

-- ---- all children of a branch

module _ (s : Setting) (q : Prefix) where
  each_holds : (n : ℕ) (children : Forest) (pairs : List Pair) → n ≤ count children → length pairs ≡ n → ChildrenHold s children q pairs 0 n → EachHolds s (front n children) q pairs
  each_holds zero children [] le long each = tt
  each_holds zero children (x ∷ pairs) le long each = absurd (omega (arith, long))
  each_holds (suc n) none pairs le long each = absurd (omega (arith, le))
  each_holds (suc n) (more tree trees) [] le long each = absurd (omega (arith, long))
  each_holds (suc n) (more tree trees) (x ∷ pairs) le long each =
      let w = each 0 (omega arith) (omega arith) in (
        subst (λ (y : Pair). Holds s tree (with_pair q y.cell y.placement)) (sym (inside w.1)) w.2,
        each_holds n trees pairs (omega (arith, le)) (omega (arith, long)) (λ number ge lt. each (suc number) (omega arith) (omega (arith, lt))),
      )

  each_fails : (n number : ℕ) (children : Forest) (pairs : List Pair) (path : List ℕ) (fault : NodeFault) → n ≤ count children → length pairs ≡ n → number < n → ChildrenHold s children q pairs 0 number → ChildFails s children q pairs number path fault →
      EachFails s (front n children) q pairs number path fault
  each_fails zero number children pairs path fault le long lt before fails = absurd (omega (arith, lt))
  each_fails (suc n) number none pairs path fault le long lt before fails = absurd (omega (arith, le))
  each_fails (suc n) number (more tree trees) [] path fault le long lt before fails = absurd (omega (arith, long))
  each_fails (suc n) zero (more tree trees) (x ∷ pairs) path fault le long lt before fails =
      subst (λ (y : Pair). FailsAt s tree (with_pair q y.cell y.placement) path fault) (sym (inside fails.1)) fails.2
  each_fails (suc n) (suc number) (more tree trees) (x ∷ pairs) path fault le long lt before fails =
      let w = before 0 (omega arith) (omega arith) in (
        subst (λ (y : Pair). Holds s tree (with_pair q y.cell y.placement)) (sym (inside w.1)) w.2,
        each_fails n number trees pairs path fault (omega (arith, le)) (omega (arith, long)) (omega (arith, lt)) (λ m ge below. before (suc m) (omega arith) (omega (arith, below))) fails,
      )

-- What is said of all children is said of the branch, which is right itself.
pub branch_said : (s : Setting) (item : Item) (q : Prefix) (n : ℕ) (children : Forest) (pairs : List Pair) (said : Option TreeFault) → n ≤ count children → IsBranch s.puzzle q item n pairs → TellsOfChildren s item children q 0 n said → Tells s (branch item (front n children)) q said
branch_said s item q n children pairs None le is tells =
    let right = subst (λ m. IsBranch s.puzzle q item m pairs) (sym (count-front n children le)) is in
    let same = one_fitting s.puzzle q item tells.0 pairs tells.1 is.fitting in
    (pairs, right, each_holds s q n children pairs le is.many (subst (λ xs. ChildrenHold s children q xs 0 n) same tells.2))
branch_said s item q n children pairs (Some fault) le is tells =
    let right = subst (λ m. IsBranch s.puzzle q item m pairs) (sym (count-front n children le)) is in
    let same = one_fitting s.puzzle q item tells.0 pairs tells.1 is.fitting in
    let w = tells.2 in
    let before = subst (λ xs. ChildrenHold s children q xs 0 w.number) same w.before in
    let fails = subst (λ xs. ChildFails s children q xs w.number w.path fault.fault) same w.fails in
    subst (λ path. FailsAt s (branch item (front n children)) q path fault.fault) (sym w.is) (pairs, right, each_fails s q n w.number children pairs w.path fault.fault le is.many w.within.1 before fails)

-- a branch that is right itself has children
pub branch_has : (s : Setting) (w : Layout) (item : Item) (trees : Forest) (n : ℕ) (pairs : List Pair) → w.puzzle ≡ s.puzzle → IsBranch w.puzzle w.placed item n pairs → IsItem w.puzzle item → n ≤ count trees → n < 2 ^ 16 → HasChildren s w item trees n
branch_has s w item trees n pairs made is right counted few = record {
  made = made;
  is = right;
  fitting = λ xs fitting. let same = ap length (one_fitting w.puzzle w.placed item pairs xs is.fitting fitting) in let many = is.many in omega (arith, same, many);
  counted = counted;
  few = few;
}
