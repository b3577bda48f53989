-- The tree of a search grows node by node.
use Rattle.std.proofs.Common.{◌≡◌, ◌≢◌, ◌+◌, ◌++◌, ◌∷◌, [], ℕ, List, Option, None, Some, slice_get, length, arith, refl, sym, subst, inl, inr, ⊎_elim}
use Rattle.match_board.specs.Board.{cell_count}
use Rattle.match_puzzle.specs.declared.placements.Placement.{Placement}
use Rattle.match_puzzle.specs.declared.placements.Pair.{Pair}
use Rattle.match_puzzle.specs.declared.items.Item.{Item}
use Rattle.xcc_form.specs.Options.{cover_of}
use Rattle.xcc_form.specs.Correspondence.{IsSolutionOf}
use Rattle.cert_tree.specs.Tree.{Tree, Forest, branch, dead, found, same, image, none, more, count}
use Rattle.xcc_form.specs.Clashes.{IsOpenAt}
use Rattle.xcc_form.specs.Chosen.{Selection, AreOpenAt, HasSize, with_option, Picks}
use Rattle.match_puzzle.specs.Fitting.{IsNumberOf}
use Rattle.xcc_dance.specs.Found.{branch_total}
use Rattle.xcc_dance.specs.Progress.{AreKept}
use Rattle.xcc_dance.specs.SearchTree.{Answers, IsAbout, IsSearchTree, AreChildren, IsChild, AreBranchesOf}
use Rattle.xcc_dance.specs.Unfinished.{wanted, begun, IsNotCited, IsPartOfSearch, IsUnfinished, AreUnfinished}
use Rattle.xcc_dance.specs.declared.cites.Cite.{Cite}
use Rattle.xcc_dance.proofs.SizeLemmas.{AreOpenBefore}
use Rattle.xcc_dance.proofs.GrowingLemmas.{last_at, with_last}

-- What was answered stays answered.
abbrev pub StayAnswered : Answers → Answers → Type 0
StayAnswered answers answers' = (pairs : List Pair) (o : Option Cite) → answers pairs o → answers' pairs o

-- The trees are children for the open options of the item before the next one.
abbrev pub AreBranchesBefore : Picks → Answers → List (List Placement) → Selection → (item : ℕ) → (next : Option ℕ) → Forest → Type 0
AreBranchesBefore picks answers all s item next trees = (options : List ℕ)
    × AreOpenBefore (cover_of s.compiled) s.chosen item next options × AreChildren picks answers all s options trees

module _ (picks : Picks) where
  -- ---- more is found, and more is answered

  module _ (answers answers' : Answers) (all all' : List (List Placement)) (still : StayAnswered answers answers') (kept : AreKept all all') where
    mutual
      pub tree_stays : (s : Selection) (tree : Tree) → IsSearchTree picks answers all s tree → IsSearchTree picks answers' all' s tree
      tree_stays s (branch item children) w = (w.0, w.1, (w.2.0, w.2.1, children_stay s w.2.0 children w.2.2))
      tree_stays s (dead item) w = w
      tree_stays s (found number) w = (w.0, kept number w.0 w.1, w.2)
      tree_stays s (same lemma) w = w
      tree_stays s (image lemma symmetry) w = w

      pub children_stay : (s : Selection) (options : List ℕ) (trees : Forest) → AreChildren picks answers all s options trees → AreChildren picks answers' all' s options trees
      children_stay s [] none w = tt
      children_stay s [] (more tree trees) w = w
      children_stay s (option ∷ options) none w = w
      children_stay s (option ∷ options) (more tree trees) w = (
        (w.0.0, w.0.1, ⊎_elim (λ c. inl (c.0, still w.0.0 (Some c.0) c.1, c.2)) (λ n. inr (still w.0.0 None n.0, tree_stays (with_option s option) tree n.1)) w.0.2),
        children_stay s options trees w.1,
      )

  module _ (answers : Answers) (all : List (List Placement)) (s : Selection) where
    -- ---- the children of a branch

    -- there are as many children as options
    pub children_count : (options : List ℕ) (trees : Forest) → AreChildren picks answers all s options trees → length options ≡ count trees
    children_count [] none w = refl
    children_count [] (more tree trees) w = absurd w
    children_count (option ∷ options) none w = absurd w
    children_count (option ∷ options) (more tree trees) w = let h = children_count options trees w.1 in omega (arith, h)

    -- one child more, the last
    pub child_more : (options : List ℕ) (trees : Forest) (option : ℕ) (tree : Tree) → AreChildren picks answers all s options trees → IsChild picks answers all (with_option s option) tree → AreChildren picks answers all s (options ++ option ∷ []) (with_last trees tree)
    child_more [] none option tree w c = (c, tt)
    child_more [] (more t trees) option tree w c = absurd w
    child_more (o ∷ options) none option tree w c = absurd w
    child_more (o ∷ options) (more t trees) option tree w c = (w.0, child_more options trees option tree w.1 c)

    pub branches_count : (item : ℕ) (children : Forest) → AreBranchesOf picks answers all s item children → HasSize (cover_of s.compiled) s.chosen item (count children)
    branches_count item children w = (w.0, w.1, children_count w.0 children w.2)

    -- ---- the node of these choices

    pub found_searched : (before : List (List Placement)) (number : ℕ) (a : List Placement) → number ≡ length before → all ≡ before ++ a ∷ [] → IsSolutionOf s.compiled a s.chosen → IsSearchTree picks answers all s (found number)
    found_searched before number a is e solution =
        (a, subst (λ xs. slice_get xs number ≡ Some a) (sym e) (subst (λ n. slice_get (before ++ a ∷ []) n ≡ Some a) (sym is) (last_at before a)), solution)

    about : (cells number : ℕ) (item : Item) → cells ≡ cell_count s.compiled.puzzle.board → picks s number → IsNumberOf cells number item → IsAbout picks s number item
    about cells number item e picked is = (subst (λ n. IsNumberOf n number item) e is, picked)

    none_open : (number : ℕ) (options : List ℕ) → AreOpenAt (cover_of s.compiled) s.chosen number options → length options ≡ 0 → AreOpenAt (cover_of s.compiled) s.chosen number []
    none_open number [] open_at e = open_at
    none_open number (option ∷ options) open_at e = absurd (omega (arith, e))

    pub dead_searched : (cells number : ℕ) (item : Item) → cells ≡ cell_count s.compiled.puzzle.board → picks s number → HasSize (cover_of s.compiled) s.chosen number 0 → IsNumberOf cells number item → IsSearchTree picks answers all s (dead item)
    dead_searched cells number item e picked none_left is = (number, about cells number item e picked is, none_open number none_left.0 none_left.1 none_left.2)

    pub branch_searched : (cells number : ℕ) (item : Item) (children : Forest) → cells ≡ cell_count s.compiled.puzzle.board → picks s number → AreBranchesOf picks answers all s number children → IsNumberOf cells number item → IsSearchTree picks answers all s (branch item children)
    branch_searched cells number item children e picked branches is = (number, about cells number item e picked is, branches)

  -- ---- a search that isn't done

  -- a branch is wanted
  pub wanted_here : (answers : Answers) (all : List (List Placement)) (s : Selection) (number size fuel : ℕ) → picks s number → HasSize (cover_of s.compiled) s.chosen number size → size ≢ 0 → fuel ≡ 0 → IsUnfinished picks answers all s fuel
  wanted_here answers all s number size fuel picked ([], open_at, long) some e = absurd (some (sym long))
  wanted_here answers all s number size fuel picked (option ∷ options, open_at, long) some e =
      (wanted number, (picked, (option, open_at.only option (0, omega arith, refl))), sym e)

  -- a branch is begun, whose children aren't done
  pub begun_there : (answers : Answers) (all : List (List Placement)) (s : Selection) (number nodes total : ℕ) → picks s number → nodes + 1 ≡ total → AreUnfinished picks answers all s number nodes → IsUnfinished picks answers all s total
  begun_there answers all s number nodes total picked e w = let h = w.3 in (begun number w.0 w.1, (picked, w.2), omega (arith, h, e))

  -- the first children are done, and the next one isn't
  pub next_begun : (answers answers' : Answers) (all all' : List (List Placement)) → StayAnswered answers answers' → AreKept all all' → (s chosen : Selection) (number option : ℕ) (trees : Forest) (nodes total : ℕ)
      → chosen ≡ with_option s option → IsOpenAt (cover_of s.compiled) s.chosen number option → AreBranchesBefore picks answers all s number (Some option) trees → IsNotCited answers' chosen
      → IsUnfinished picks answers' all' chosen nodes → nodes + branch_total trees ≡ total → AreUnfinished picks answers' all' s number total
  next_begun answers answers' all all' still kept s chosen number option trees nodes total e is old not_cited w sums =
      let h = w.2 in (
        trees,
        w.0,
        record {
          options = old.0;
          next = option;
          below = old.1;
          children = children_stay answers answers' all all' still kept s old.0 trees old.2;
          next_open = is;
          not_cited = subst (IsNotCited answers') e not_cited;
          searched = subst (λ t. IsPartOfSearch picks answers' all' t w.0) e w.1;
        },
        omega (arith, h, sums),
      )
