-- How what is found grows from node to node.
use Rattle.std.proofs.Common.{◌≡◌, ◌⊎◌, ◌≢◌, ◌<◌, ◌≤◌, ◌+◌, ◌*◌, ◌++◌, ◌∷◌, [], ℕ, List, Option, Some, MatchOption, length, length-append, Contains, slice_get, append_assoc, Bool, true, MatchBool, arith, ap, sym, ◌∙◌, subst, inl, inr, ⊎_elim}
use Rattle.std.proofs.lemmas.List.Elements.{Contains-push_cases}
use Rattle.match_limits.specs.declared.TheConstants.{MOST_CELLS, MOST_CHILDREN}
use Rattle.match_puzzle.specs.declared.placements.Placement.{Placement}
use Rattle.xcc_form.specs.Options.{cover_of}
use Rattle.xcc_form.specs.Correspondence.{IsSolutionOf}
use Rattle.match_puzzle.specs.Fitting.{IsNumberOf}
use Rattle.match_puzzle.specs.declared.items.Item.{Item}
use Rattle.cert_tree.specs.Tree.{Tree, Forest, branch, dead, found, none, more, count}
use Rattle.cert_tree.specs.Limits.{HasLevels, IsTreeWithin}
use Rattle.cert_tree.specs.Heads.{branch_head, heads_in, heads_of}
use Rattle.cert_tree.specs.declared.heads.Head.{Head}
use Rattle.cert_tree.proofs.HeadLemmas.{count-join}
use Rattle.xcc_form.specs.Clashes.{IsOpen, IsOpenAt}
use Rattle.xcc_form.specs.Chosen.{Selection, IsSelection, HasSize, with_option, IsFoundFrom}
use Rattle.xcc_dance.specs.Found.{IsCitation, IsFoundBelow, branch_count}
use Rattle.xcc_dance.specs.Outcome.{IsCiteWithin}
use Rattle.xcc_dance.specs.declared.cites.Cite.{Cite}
use Rattle.xcc_dance.specs.declared.cites.Cite.TheVariants as cites
use Rattle.xcc_dance.specs.Progress.{GoesOn, IsTreeOf, AreTreesOf, levels_below}
use Rattle.xcc_dance.specs.declared.progress.Progress.{Progress}
use Rattle.xcc_dance.proofs.PartialLemmas.{one_more}
use Rattle.xcc_dance.proofs.RoomLemmas.{few_chosen}
use Rattle.xcc_dance.proofs.SizeLemmas.{AreOpenBefore, below_one, size_same, few_below, few_sized}
use Rattle.xcc_dance.proofs.GrowingLemmas.{with_last, heads_more, kept_push, total_more, all_up, all_more, found_before}
use Rattle.xcc_dance.proofs.WithinLemmas.{cited_within, found_within, dead_within, branch_within, within_more_trees, leaf_levels, dead_levels, branch_levels, cited_levels, levels_more}

-- ---- heads behind heads

-- those of a branch
pub branch_heads : (old before after : List Head) (head : Head) (item : Item) (size : ℕ) (children : Forest) → before ≡ old ++ head ∷ [] → head ≡ branch_head item size → size ≡ count children → after ≡ before ++ heads_in children → after ≡ old ++ heads_of (branch item children)
branch_heads old before after head item size children pushed is sized put =
    put ∙ ap (λ xs. xs ++ heads_in children) pushed ∙ append_assoc old (head ∷ []) (heads_in children)
    ∙ ap (λ h. old ++ h ∷ heads_in children) (is ∙ ap (branch_head item) sized)

-- those of one tree more
pub more_heads : (old before after : List Head) (trees : Forest) (tree : Tree) → before ≡ old ++ heads_in trees → after ≡ before ++ heads_of tree → after ≡ old ++ heads_in (with_last trees tree)
more_heads old before after trees tree put put' =
    put' ∙ ap (λ xs. xs ++ heads_of tree) put ∙ append_assoc old (heads_in trees) (heads_of tree) ∙ ap (λ xs. old ++ xs) (sym (heads_more trees tree))

-- ---- citations

cited_count : (cite : Cite) (tree : Tree) → IsCitation cite tree → branch_count tree ≡ 0
cited_count (cites.Same lemma) tree is = ap branch_count is
cited_count (cites.Image lemma symmetry) tree is = ap branch_count is

cited_found : (n : ℕ) (cite : Cite) (tree : Tree) → IsCitation cite tree → IsFoundBelow n tree
cited_found n (cites.Same lemma) tree is = subst (IsFoundBelow n) (sym is) tt
cited_found n (cites.Image lemma symmetry) tree is = subst (IsFoundBelow n) (sym is) tt

-- The option that comes next is open, also where the choices are seen again.
pub taken_option : (here there : Selection) (item : ℕ) (next : Option ℕ) (option : ℕ) → there ≡ here → next ≡ Some option → MatchOption next (Unit {0}) (IsOpenAt (cover_of here.compiled) here.chosen item) → IsOpenAt (cover_of there.compiled) there.chosen item option
taken_option here there item next option same is open_at =
    subst (λ (v : Selection). IsOpenAt (cover_of v.compiled) v.chosen item option) (sym same)
    (subst (λ o. MatchOption o (Unit {0}) (IsOpenAt (cover_of here.compiled) here.chosen item)) is open_at)

-- one option is chosen at least where one more is
pub some_chosen : (here there : Selection) (option : ℕ) → there ≡ with_option here option → 0 < length there.chosen
some_chosen here there option e =
    let long = ap (λ (v : Selection). length v.chosen) e ∙ length-append here.chosen (option ∷ []) in
    omega (arith, long)

-- the fuel did
pub then_done : (P Q : Type 0) (done : Bool) → done ≡ true → MatchBool done P Q → P
then_done P Q done is w = subst (λ b. MatchBool b P Q) is w

module _ (start : Selection) where
  -- what goes on with one more option goes on without it
  pub goes_further : (chosen : Selection) (option : ℕ) (first before after : Progress) → chosen ≡ with_option start option → GoesOn start first before → GoesOn chosen before after → GoesOn start first after
  goes_further chosen option first before after e old new = record {
    fuel = let a = old.fuel in let b = new.fuel in omega (arith, a, b);
    more = let a = old.more in let b = new.more in omega (arith, a, b);
    kept = λ n a at. new.kept n a (old.kept n a at);
    found = λ a c. ⊎_elim (λ h. old.found a h) (λ f. inr (found_before start option a (subst (λ s. IsFoundFrom s a) e f))) (new.found a c);
  }

  -- fuel may be spent, and nothing is found
  pub goes_spent : (before after : Progress) → after.found.items ≡ before.found.items → after.fuel ≤ before.fuel → GoesOn start before after
  goes_spent before after items fuel =
      let long = ap length items in
      record {
        fuel = fuel;
        more = omega (arith, long);
        kept = λ n a at. subst (λ xs. slice_get xs n ≡ Some a) (sym items) at;
        found = λ a c. inl (subst (λ xs. Contains xs a) items c);
      }

  -- what goes on then goes on from before
  pub goes_after : (first before after : Progress) → before.found.items ≡ first.found.items → before.fuel ≤ first.fuel → GoesOn start before after → GoesOn start first after
  goes_after first before after items fuel goes =
      let long = ap length items in
      record {
        fuel = let le = goes.fuel in omega (arith, le, fuel);
        more = let le = goes.more in omega (arith, le, long);
        kept = λ n a at. goes.kept n a (subst (λ xs. slice_get xs n ≡ Some a) (sym items) at);
        found = λ a c. subst (λ xs. Contains xs a ⊎ IsFoundFrom start a) items (goes.found a c);
      }

  -- one arrangement more, the one that stands there
  pub found_further : (before after : Progress) (a : List Placement) → after.found.items ≡ before.found.items ++ a ∷ [] → after.fuel ≡ before.fuel → IsSolutionOf start.compiled a start.chosen → GoesOn start before after
  found_further before after a items fuel solution =
      let long = ap length items ∙ length-append before.found.items (a ∷ []) in
      record {
        fuel = omega (arith, fuel);
        more = omega (arith, long);
        kept = λ n b at. subst (λ xs. slice_get xs n ≡ Some b) (sym items) (kept_push before.found.items a n b at);
        found = λ b c. ⊎_elim (λ old. inl old)
            (λ e. inr (subst (IsFoundFrom start) e (record { solution = start.chosen; is_solution = solution; has_chosen = λ o h. h })))
            (Contains-push_cases before.found.items a b (subst (λ xs. Contains xs b) items c));
      }

  -- the node of a found arrangement
  pub leaf_tree : (before after : Progress) (number : ℕ) (a : List Placement) → number ≡ length before.found.items → after.found.items ≡ before.found.items ++ a ∷ [] → after.fuel ≡ before.fuel → IsTreeOf start before after (found number)
  leaf_tree before after number a is items fuel =
      let long = ap length items ∙ length-append before.found.items (a ∷ []) in
      record {
        spent = omega (arith, fuel);
        numbers = omega (arith, is, long);
        levels = leaf_levels (levels_below start) number;
        within = λ few. found_within (levels_below start) number (length after.found.items) (omega (arith, is, long)) few;
        few = omega (arith, long, fuel);
      }

  -- the node of a dead end
  pub dead_tree : (before after : Progress) (cells number : ℕ) (item : Item) → after.found.items ≡ before.found.items → after.fuel ≡ before.fuel → cells ≤ MOST_CELLS → number < 2 * cells → IsNumberOf cells number item → IsTreeOf start before after (dead item)
  dead_tree before after cells number item items fuel few lt is =
      let long = ap length items in
      record { spent = omega (arith, fuel); numbers = tt; levels = dead_levels (levels_below start) item; within = λ few'. dead_within (levels_below start) cells number item few lt is; few = omega (arith, long, fuel) }

  -- the node of a citation, which finds nothing
  pub cited_tree : (before after : Progress) (cite : Cite) (tree : Tree) → IsCitation cite tree → IsCiteWithin cite → after.found.items ≡ before.found.items → after.fuel ≡ before.fuel → IsTreeOf start before after tree
  cited_tree before after cite tree is within items fuel =
      let long = ap length items in
      let no_branch = cited_count cite tree is in
      record {
        spent = omega (arith, no_branch, fuel);
        numbers = cited_found (length after.found.items) cite tree is;
        levels = cited_levels (levels_below start) cite tree is;
        within = λ few. cited_within (levels_below start) cite tree is within;
        few = omega (arith, long, fuel);
      }

  -- the node of a branch
  pub branch_tree : (first before after : Progress) (cells number size : ℕ) (item : Item) (children : Forest) → IsSelection start.compiled start.chosen
      → before.fuel + 1 ≡ first.fuel → before.found.items ≡ first.found.items → cells ≤ MOST_CELLS → number < 2 * cells → HasSize (cover_of start.compiled) start.chosen number size → size ≢ 0
      → HasSize (cover_of start.compiled) start.chosen number (count children) → AreTreesOf start before after children → IsNumberOf cells number item → IsTreeOf start first after (branch item children)
  branch_tree first before after cells number size item children right fuel items few lt sized some each trees is =
      let same = size_same (cover_of start.compiled) start.chosen number size (count children) sized each in
      let most = few_sized start.compiled right.compiled start.chosen number (count children) each in
      let spent = trees.spent in
      let many = trees.few in
      let long = ap length items in
      record {
        spent = omega (arith, spent, fuel);
        numbers = trees.numbers;
        levels = branch_levels (levels_below start) item children trees.levels;
        within = λ few'. branch_within (levels_below start) cells number item children few lt (omega (arith, same, some)) most (trees.within few') is;
        few = omega (arith, many, most, fuel, long);
      }

  -- ---- the children of a branch

  -- none yet
  pub no_trees : (progress : Progress) → AreTreesOf start progress progress none
  no_trees progress = record { spent = omega arith; numbers = tt; levels = tt; within = λ few. tt; few = omega arith }

  module _ (right : IsSelection start.compiled start.chosen) (option : ℕ) where
    -- one level fewer is left below a child
    child_levels : IsOpen (cover_of start.compiled) start.chosen option → levels_below (with_option start option) + 1 ≡ levels_below start
    child_levels is_open =
        let more = start.chosen ++ option ∷ [] in
        let few = few_chosen start.compiled more (record { compiled = right.compiled; partial = one_more (cover_of start.compiled) start.chosen right.partial option is_open }) in
        let cells = right.compiled.puzzle.board.most in
        let long = length-append start.chosen (option ∷ []) in
        omega (arith, few, cells, long)

    -- one more
    pub one_more_tree : (chosen : Selection) (first before after : Progress) (trees : Forest) (tree : Tree) → IsOpen (cover_of start.compiled) start.chosen option → chosen ≡ with_option start option
        → AreTreesOf start first before trees → GoesOn chosen before after → IsTreeOf chosen before after tree → AreTreesOf start first after (with_last trees tree)
    one_more_tree chosen first before after trees tree is_open e old goes new =
        let total = total_more trees tree in
        let spent = old.spent in
        let spent' = new.spent in
        let many = old.few in
        let many' = new.few in
        let more' = goes.more in
        let levels = ap (λ (s : Selection). levels_below s + 1) e ∙ child_levels is_open in
        let counted = count-join trees (more tree none) in
        record {
          spent = omega (arith, total, spent, spent');
          numbers = all_more (length after.found.items) trees tree (all_up (length before.found.items) (length after.found.items) more' trees old.numbers) new.numbers;
          levels = levels_more (levels_below start) trees tree old.levels (subst (λ n. HasLevels n tree) levels new.levels);
          within = λ few. within_more_trees (levels_below start) trees tree (old.within (omega (arith, few, more'))) (subst (λ n. IsTreeWithin MOST_CELLS n tree) levels (new.within few));
          few = omega (arith, many, many', counted);
        }

    -- with the next one there are no more than a branch may have
    pub room_for_one : (item : ℕ) (options : List ℕ) → IsOpenAt (cover_of start.compiled) start.chosen item option → AreOpenBefore (cover_of start.compiled) start.chosen item (Some option) options → length options + 1 ≤ MOST_CHILDREN
    room_for_one item options is w =
        let few = few_below start.compiled right.compiled start.chosen item (option + 1) (options ++ option ∷ []) (below_one (IsOpenAt (cover_of start.compiled) start.chosen item) option options is w) in
        let long = length-append options (option ∷ []) in
        omega (arith, few, long)
