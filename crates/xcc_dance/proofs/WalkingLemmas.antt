-- A walk goes on and ends, step by step.
use Rattle.std.proofs.Common.{◌≡◌, ◌≢◌, ◌<◌, ◌≤◌, ◌+◌, ◌*◌, ◌^◌, ◌++◌, ◌∷◌, [], ℕ, Bool, true, false, List, Option, None, Some, Result, Ok, Err, IfOk, MatchBool, MatchOption, length, arith, append-nil, refl, ap, sym, ◌∙◌, subst}
use Rattle.std.specs.declared.alloc.AllocError.{AllocError}
use Rattle.match_limits.specs.declared.TheConstants.{MOST_CHILDREN}
use Rattle.match_board.specs.Board.{cell_count}
use Rattle.match_puzzle.specs.declared.placements.Placement.{Placement}
use Rattle.cert_tree.specs.Heads.{branch_head, heads_of}
use Rattle.cert_tree.specs.Tree.{branch, dead, found, none, count}
use Rattle.xcc_form.specs.Options.{cover_of}
use Rattle.xcc_form.specs.Clashes.{IsOpenAt}
use Rattle.xcc_form.specs.Correspondence.{IsSolutionOf}
use Rattle.xcc_form.specs.Chosen.{Selection, Picks, IsSelection, HasSize, IsNext, IsLast, with_option}
use Rattle.xcc_dance.specs.Progress.{GoesOn, IsTreeOf, AreTreesOf, PutsTree, PutsTrees}
use Rattle.xcc_dance.specs.SearchTree.{Answers, IsSearchTree, IsChild, AreBranchesOf}
use Rattle.xcc_dance.specs.Unfinished.{IsNotCited, IsUnfinished, AreUnfinished}
use Rattle.xcc_dance.specs.Walking.{IsBranchAt, WalksOn, EndsAsTree, EndsAsBranches}
use Rattle.xcc_dance.specs.declared.paths.Branch.{Branch}
use Rattle.xcc_dance.specs.declared.progress.Progress.{Progress}
use Rattle.xcc_dance.proofs.SizeLemmas.{open_all, open_first, open_next, size_same}
use Rattle.xcc_dance.proofs.GrowingLemmas.{with_last}
use Rattle.xcc_dance.proofs.SearchTreeLemmas.{AreBranchesBefore, StayAnswered, children_count, children_stay, child_more, branches_count, found_searched, dead_searched, branch_searched, begun_there, next_begun}
use Rattle.xcc_dance.proofs.WalkLemmas.{branch_heads, more_heads, goes_spent, goes_after, goes_further, found_further, leaf_tree, dead_tree, branch_tree, no_trees, one_more_tree, room_for_one}

-- ---- what a walk leaves

module _ {E C : Type 0} {selection : E → Selection} {moves : C → C → Type 0} where
  -- no more than fuel was spent
  pub walks_spent : {old new : E} {asked told : C} {before after : Progress} → moves asked told → new ≡ old → after.found.items ≡ before.found.items → after.fuel ≤ before.fuel → WalksOn selection moves old new asked told before after
  walks_spent {old} {new} {asked} {told} {before} {after} moved same items fuel =
      record { compiled = ap (λ e. (selection e).compiled) same; moved = moved; goes_on = goes_spent (selection old) before after items fuel }

  -- one arrangement was found, the one that stands there
  pub walks_found : {old new : E} {asked told : C} {before after : Progress} (a : List Placement) → moves asked told → new ≡ old → after.found.items ≡ before.found.items ++ a ∷ [] → after.fuel ≡ before.fuel
      → IsSolutionOf (selection new).compiled a (selection new).chosen → WalksOn selection moves old new asked told before after
  walks_found {old} {new} {asked} {told} {before} {after} a moved same items fuel solution = record {
    compiled = ap (λ e. (selection e).compiled) same;
    moved = moved;
    goes_on = found_further (selection old) before after a items fuel (subst (λ e. IsSolutionOf (selection e).compiled a (selection e).chosen) same solution);
  }

  -- fuel was spent, and then it went on
  pub walks_after : {old mid new : E} {asked told : C} {first before after : Progress} → mid ≡ old → before.found.items ≡ first.found.items → before.fuel + 1 ≡ first.fuel → WalksOn selection moves mid new asked told before after → WalksOn selection moves old new asked told first after
  walks_after {old} {mid} {new} {asked} {told} {first} {before} {after} same items fuel w =
      subst (λ e. WalksOn selection moves e new asked told first after) same
      (record { compiled = w.compiled; moved = w.moved; goes_on = goes_after (selection mid) first before after items (omega (arith, fuel)) w.goes_on })

  -- it went on with one more option
  pub walks_further : {old mid chosen new : E} {asked told last : C} {first before after : Progress} (option : ℕ) → (moves asked told → moves told last → moves asked last) → mid ≡ old → selection chosen ≡ with_option (selection mid) option
      → WalksOn selection moves old mid asked told first before → WalksOn selection moves chosen new told last before after → WalksOn selection moves old new asked last first after
  walks_further {old} {mid} {chosen} {new} {asked} {told} {last} {first} {before} {after} option both same with w w' =
      let with' = with ∙ ap (λ e. with_option (selection e) option) same in
      record {
        compiled = w'.compiled ∙ ap (λ (s : Selection). s.compiled) with';
        moved = both w.moved w'.moved;
        goes_on = goes_further (selection old) (selection chosen) option first before after with' w.goes_on w'.goes_on;
      }

  -- it took that option back
  pub walks_back : {old new back : E} {asked told : C} {before after : Progress} → back ≡ old → WalksOn selection moves old new asked told before after → WalksOn selection moves old back asked told before after
  walks_back {old} {new} {back} {asked} {told} {before} {after} same w = record { compiled = ap (λ e. (selection e).compiled) same; moved = w.moved; goes_on = w.goes_on }

-- ---- what an option holds

-- what is said of something, at what is there
pub is_some : {X : Type 0} (P : Type 0) (Q : X → Type 0) {o : Option X} {x : X} → o ≡ Some x → MatchOption o P Q → Q x
is_some P Q is w = subst (λ o. MatchOption o P Q) is w

-- what is said of nothing
pub is_none : {X : Type 0} (P : Type 0) (Q : X → Type 0) {o : Option X} → o ≡ None → MatchOption o P Q → P
is_none P Q is w = subst (λ o. MatchOption o P Q) is w

-- ---- how a walk ends

-- with more that is said of either way
pub ends_with : {P P' Q Q' : Type 0} (r : Result Bool AllocError) → IfOk r (λ done. MatchBool done P Q) → (P → P') → (Q → Q') → IfOk r (λ done. MatchBool done P' Q')
ends_with (Ok true) w f g = f w
ends_with (Ok false) w f g = g w
ends_with (Err e) w f g = tt

module _ (picks : Picks) (answers : Answers) (s : Selection) (before after : Progress) where
  -- the leaf of an arrangement
  pub found_made : (a : List Placement) → after.heads.items ≡ before.heads.items ++ heads_of (found (length before.found.items)) → after.found.items ≡ before.found.items ++ a ∷ [] → after.fuel ≡ before.fuel → IsSolutionOf s.compiled a s.chosen
      → PutsTree before after (λ t. IsTreeOf s before after t × IsSearchTree picks answers after.found.items s t)
  found_made a heads items fuel solution =
      let number = length before.found.items in
      (found number, heads, (leaf_tree s before after number a refl items fuel, found_searched picks answers after.found.items s before.found.items number a refl items solution))

  -- a dead end
  pub dead_made : (node : Branch) → IsBranchAt picks s node → node.size ≡ 0 → after.heads.items ≡ before.heads.items ++ heads_of (dead node.about) → after.found.items ≡ before.found.items → after.fuel ≡ before.fuel
      → PutsTree before after (λ t. IsTreeOf s before after t × IsSearchTree picks answers after.found.items s t)
  dead_made node is none_left heads items fuel =
      let cells = cell_count s.compiled.puzzle.board in (
        dead node.about,
        heads,
        (
          dead_tree s before after cells node.number node.about items fuel is.most is.few is.number,
          dead_searched picks answers after.found.items s cells node.number node.about refl is.picked (subst (HasSize (cover_of s.compiled) s.chosen node.number) none_left is.sized) is.number,
        ),
      )

-- a branch, by how the walk of its options ends
pub branch_ends : {E : Type 0} (selection : E → Selection) (picks : Picks) (answers : Answers) (old mid new : E) (first before after : Progress) (r : Result Bool AllocError) (node : Branch) → IsBranchAt picks (selection old) node → node.size ≢ 0
    → mid ≡ old → before.heads.items ≡ first.heads.items ++ branch_head node.about node.size ∷ [] → before.found.items ≡ first.found.items → before.fuel + 1 ≡ first.fuel
    → EndsAsBranches selection picks answers node.number mid new before after r → EndsAsTree selection picks answers old new first after r
branch_ends selection picks answers old mid new first before after r node is some same heads items fuel w =
    let s = selection old in
    let cells = cell_count s.compiled.puzzle.board in
    let number = node.number in
    let all = after.found.items in
    ends_with r (subst (λ e. EndsAsBranches selection picks answers number e new before after r) same w)
    (λ made.
    let trees = made.1.0 in
    let each = branches_count picks answers all s number trees made.1.2.1 in (
      made.0,
      (
        branch node.about trees,
        branch_heads first.heads.items before.heads.items after.heads.items (branch_head node.about node.size) node.about node.size trees heads refl (size_same (cover_of s.compiled) s.chosen number node.size (count trees) is.sized each) made.1.1,
        (
          branch_tree s first before after cells number node.size node.about trees is.right fuel items is.most is.few is.sized some each made.1.2.0 is.number,
          branch_searched picks answers all s cells number node.about trees refl is.picked made.1.2.1 is.number,
        ),
      ),
    ))
    (λ left. (left.0, begun_there picks answers all s number before.fuel first.fuel is.picked fuel left.1))

-- ---- the children of a branch

-- the trees of those before the next one
abbrev pub MadeBefore : Picks → Answers → Selection → (item : ℕ) → (next : Option ℕ) → (first before : Progress) → Type 0
MadeBefore picks answers s item next first before = PutsTrees first before (λ ts. AreTreesOf s first before ts × AreBranchesBefore picks answers before.found.items s item next ts)

module _ (picks : Picks) (answers : Answers) (s : Selection) (right : IsSelection s.compiled s.chosen) (item : ℕ) {next : Option ℕ} {option : ℕ} (next_is : next ≡ Some option) (is : IsOpenAt (cover_of s.compiled) s.chosen item option)
    (first before : Progress) (made_before : MadeBefore picks answers s item next first before) where
  made : MadeBefore picks answers s item (Some option) first before
  made = subst (λ o. MadeBefore picks answers s item o first before) next_is made_before

  -- what the next one may find can be numbered
  pub room_for_child : length first.found.items + MOST_CHILDREN * first.fuel + MOST_CHILDREN < 2 ^ 32 → length before.found.items + MOST_CHILDREN * before.fuel + 1 < 2 ^ 32
  room_for_child room =
      let old = made.2.1 in
      let long = children_count picks answers before.found.items s old.0 made.0 old.2 in
      let most = room_for_one s right option item old.0 is old.1 in
      let few = made.2.0.few in
      omega (arith, most, long, few, room)

  module _ (answers' : Answers) (still : StayAnswered answers answers') (v : Selection) (with : v ≡ with_option s option) (after : Progress) (goes : GoesOn v before after) where
    -- one more is made
    pub child_made : (then : Option ℕ) → MatchOption then (IsLast (cover_of s.compiled) s.chosen item (Some option)) (IsNext (cover_of s.compiled) s.chosen item (Some option))
        → PutsTree before after (λ t. IsTreeOf v before after t × IsChild picks answers' after.found.items v t) → MadeBefore picks answers' s item then first after
    child_made then coming child =
        let trees = made.0 in
        let tree = child.0 in
        let old = made.2.1 in
        let all = before.found.items in
        let all' = after.found.items in (
          with_last trees tree,
          more_heads first.heads.items before.heads.items after.heads.items trees tree made.1 child.1,
          (
            one_more_tree s right option v first before after trees tree is.open_option with made.2.0 goes child.2.0,
            (
              old.0 ++ option ∷ [],
              open_next (cover_of s.compiled) s.chosen item option old.0 then is coming old.1,
              child_more picks answers' all' s old.0 trees option tree (children_stay picks answers answers' all all' still goes.kept s old.0 trees old.2) (subst (λ u. IsChild picks answers' all' u tree) with child.2.1),
            ),
          ),
        )

    -- the next one is left unfinished
    pub child_begun : IsNotCited answers' v × IsUnfinished picks answers' after.found.items v before.fuel → AreUnfinished picks answers' after.found.items s item first.fuel
    child_begun left = next_begun picks answers answers' before.found.items after.found.items still goes.kept s v item option made.0 before.fuel first.fuel with is made.2.1 left.0 left.1 made.2.0.spent

-- all are made
pub all_made : (picks : Picks) (answers : Answers) (s : Selection) (item : ℕ) {next : Option ℕ} → next ≡ None → (first after : Progress) → MadeBefore picks answers s item next first after
    → PutsTrees first after (λ ts. AreTreesOf s first after ts × AreBranchesOf picks answers after.found.items s item ts)
all_made picks answers s item next_is first after made_before =
    let made = subst (λ o. MadeBefore picks answers s item o first after) next_is made_before in
    let all = made.2.1 in
    (made.0, made.1, (made.2.0, (all.0, open_all (cover_of s.compiled) s.chosen item all.0 all.1, all.2)))

-- none is made yet
pub none_made : (picks : Picks) (answers : Answers) (s : Selection) (item : ℕ) (next : Option ℕ) (first : Progress) → MatchOption next (IsLast (cover_of s.compiled) s.chosen item None) (IsNext (cover_of s.compiled) s.chosen item None) → MadeBefore picks answers s item next first first
none_made picks answers s item next first coming = (none, sym (append-nil first.heads.items), (no_trees s first, ([], open_first (cover_of s.compiled) s.chosen item next coming, tt)))
