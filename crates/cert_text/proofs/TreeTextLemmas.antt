-- The tree that is read is the one that was written, and what was written is read again.
use Rattle.std.proofs.Common.{◌≡◌, ℕ, zero, suc, ◌<◌, ◌≤◌, ◌^◌, Bool, true, false, cond, List, [], ◌∷◌, ◌++◌, length, Ok, Err, refl, sym, ap, subst, ◌∙◌, append_assoc, arith, codes}
use Rattle.match_limits.specs.declared.TheConstants.{LAST_ARRANGEMENT, LAST_SYMMETRY, LAST_LEMMA}
use Rattle.std.specs.Fmt.{decimal}
use Rattle.std.specs.List.{AllByRecursion, flat_map}
use Rattle.std.specs.Str.{bytes_eq}
use Rattle.std.proofs.lemmas.Slice.Eq.{bytes_eq-Decides}
use Rattle.match_puzzle.specs.declared.items.Item.TheVariants as items
use Rattle.match_limits.specs.declared.ranges.Ranges.{Ranges}
use Rattle.match_limits.specs.Ranges.{AreRanges}
use Rattle.text_words.specs.declared.faults.TextKind.TheVariants.{Word, TooDeep}
use Rattle.text_words.specs.PlainWords.{number_in}
use Rattle.text_words.specs.Place.{Place, Read, ◌>>=◌, give, fail, word_by, times}
use Rattle.text_words.proofs.CutLemmas.{CutsShort, LineOnly, place, bind_ok, ok_is, cuts_bind, cuts_give, cuts_word, cuts_times, cuts_line_only}
use Rattle.text_words.proofs.WordLemmas.{Spells, judged_ok, judged_ok_is, spells_number}
use Rattle.text_words.proofs.PlacementLemmas.{last_fits}
use Rattle.text_words.proofs.LineLemmas.{TakesWords, takes_word}
use Rattle.cert_tree.specs.Tree.{Tree, Forest, branch, dead, found, same, image, none, more, count}
use Rattle.cert_tree.specs.Limits.{IsTreeWithin, AreTreesWithin}
use Rattle.cert_text.specs.declared.tree_readers.NodeKind.{NodeKind}
use Rattle.cert_text.specs.declared.tree_readers.NodeKind.TheVariants.{Cell, Tile, DeadCell, DeadTile, Found, Same, Image}
use Rattle.cert_text.specs.TreeText.{node_kind_in, forest, children_by, node_by, too_deep_from, tree_by}
use Rattle.cert_text.specs.TreeSpelling.{tree_words, forest_words}
use Rattle.cert_text.proofs.FieldLemmas.{takes_field, takes_as, times_words_is}

-- ---- the kinds of node

kind_of : Tree → NodeKind
kind_of (branch (items.Cell cell) children) = Cell
kind_of (branch (items.Tile tile) children) = Tile
kind_of (dead (items.Cell cell)) = DeadCell
kind_of (dead (items.Tile tile)) = DeadTile
kind_of (found number) = Found
kind_of (same lemma) = Same
kind_of (image lemma symmetry) = Image

abbrev kind_word : NodeKind → List ℕ
kind_word Cell = codes "c"
kind_word Tile = codes "t"
kind_word DeadCell = codes "d"
kind_word DeadTile = codes "e"
kind_word Found = codes "f"
kind_word Same = codes "s"
kind_word Image = codes "i"

kind_first : (word : List ℕ) (kind : NodeKind) (c t d e f s i : Bool) → bytes_eq word (codes "c") ≡ c → bytes_eq word (codes "t") ≡ t → bytes_eq word (codes "d") ≡ d → bytes_eq word (codes "e") ≡ e → bytes_eq word (codes "f") ≡ f
    → bytes_eq word (codes "s") ≡ s → bytes_eq word (codes "i") ≡ i
    → cond c (judged_ok Cell) (cond t (judged_ok Tile) (cond d (judged_ok DeadCell) (cond e (judged_ok DeadTile) (cond f (judged_ok Found) (cond s (judged_ok Same) (cond i (judged_ok Image) (Err Word))))))) ≡ judged_ok kind
    → word ≡ kind_word kind
kind_first word kind true t d e f s i is is' is'' js js' js'' ks h = (bytes_eq-Decides word (codes "c")).0 is ∙ ap kind_word (judged_ok_is Cell kind h)
kind_first word kind false true d e f s i is is' is'' js js' js'' ks h = (bytes_eq-Decides word (codes "t")).0 is' ∙ ap kind_word (judged_ok_is Tile kind h)
kind_first word kind false false true e f s i is is' is'' js js' js'' ks h = (bytes_eq-Decides word (codes "d")).0 is'' ∙ ap kind_word (judged_ok_is DeadCell kind h)
kind_first word kind false false false true f s i is is' is'' js js' js'' ks h = (bytes_eq-Decides word (codes "e")).0 js ∙ ap kind_word (judged_ok_is DeadTile kind h)
kind_first word kind false false false false true s i is is' is'' js js' js'' ks h = (bytes_eq-Decides word (codes "f")).0 js' ∙ ap kind_word (judged_ok_is Found kind h)
kind_first word kind false false false false false true i is is' is'' js js' js'' ks h = (bytes_eq-Decides word (codes "s")).0 js'' ∙ ap kind_word (judged_ok_is Same kind h)
kind_first word kind false false false false false false true is is' is'' js js' js'' ks h = (bytes_eq-Decides word (codes "i")).0 ks ∙ ap kind_word (judged_ok_is Image kind h)
kind_first word kind false false false false false false false is is' is'' js js' js'' ks h = absurd cc

kind_again : (kind : NodeKind) → node_kind_in (kind_word kind) ≡ Ok kind
kind_again Cell = refl
kind_again Tile = refl
kind_again DeadCell = refl
kind_again DeadTile = refl
kind_again Found = refl
kind_again Same = refl
kind_again Image = refl

spells_kind : Spells node_kind_in kind_word (λ _. Unit {0})
spells_kind = record {
  is = λ word kind e.
      (kind_first word kind (bytes_eq word (codes "c")) (bytes_eq word (codes "t")) (bytes_eq word (codes "d")) (bytes_eq word (codes "e")) (bytes_eq word (codes "f")) (bytes_eq word (codes "s")) (bytes_eq word (codes "i")) refl refl refl refl refl refl refl e, tt);
  passes = λ kind fits. kind_again kind;
}

-- ---- what follows the letter

abbrev rest_words : Tree → List (List ℕ)
rest_words (branch (items.Cell cell) children) = decimal cell ∷ decimal (count children) ∷ forest_words children
rest_words (branch (items.Tile tile) children) = decimal tile ∷ decimal (count children) ∷ forest_words children
rest_words (dead (items.Cell cell)) = decimal cell ∷ []
rest_words (dead (items.Tile tile)) = decimal tile ∷ []
rest_words (found number) = decimal number ∷ []
rest_words (same lemma) = decimal lemma ∷ []
rest_words (image lemma symmetry) = decimal lemma ∷ decimal symmetry ∷ []

words_are : (tree : Tree) → kind_word (kind_of tree) ∷ rest_words tree ≡ tree_words tree
unfolding kind_of
words_are (branch (items.Cell cell) children) = refl
words_are (branch (items.Tile tile) children) = refl
words_are (dead (items.Cell cell)) = refl
words_are (dead (items.Tile tile)) = refl
words_are (found number) = refl
words_are (same lemma) = refl
words_are (image lemma symmetry) = refl

takes_number : (most : ℕ) → most < 2 ^ 64 → TakesWords (word_by (number_in 0 most)) (λ n. decimal n ∷ []) (λ n. (0 ≤ n) × (n ≤ most))
takes_number most small = takes_word (number_in 0 most) decimal (λ n. (0 ≤ n) × (n ≤ most)) (spells_number 0 most small)

-- ---- the children

count-forest : (trees : List Tree) → count (forest trees) ≡ length trees
count-forest [] = refl
count-forest (tree ∷ trees) = omega (arith, count-forest trees)

words-forest : (trees : List Tree) → forest_words (forest trees) ≡ flat_map tree_words trees
words-forest [] = refl
words-forest (tree ∷ trees) = ap (λ ws. tree_words tree ++ ws) (words-forest trees)

abbrev trees_in : Forest → List Tree
trees_in none = []
trees_in (more tree trees) = tree ∷ trees_in trees

forest-trees_in : (trees : Forest) → forest (trees_in trees) ≡ trees
forest-trees_in none = refl
forest-trees_in (more tree trees) = ap (more tree) (forest-trees_in trees)

-- ---- what is read in these ranges

module _ (ranges : Ranges) (are : AreRanges ranges) where
  children_fit : ranges.most_children < 2 ^ 64
  children_fit = omega (arith, are.few, are.children)

  takes_count : TakesWords (word_by (number_in 1 ranges.most_children)) (λ n. decimal n ∷ []) (λ n. (1 ≤ n) × (n ≤ ranges.most_children))
  takes_count = takes_word (number_in 1 ranges.most_children) decimal (λ n. (1 ≤ n) × (n ≤ ranges.most_children)) (spells_number 1 ranges.most_children children_fit)

  -- a number up to that of the last cell is below the most cells
  below : (n : ℕ) → n ≤ ranges.last_cell → n < ranges.most_cells
  below n le = omega (arith, le, are.last)

  up_to_last : (n : ℕ) → n < ranges.most_cells → n ≤ ranges.last_cell
  up_to_last n lt = omega (arith, lt, are.last)

  within-forest : (room : ℕ) (trees : List Tree) → AllByRecursion (IsTreeWithin ranges.most_cells room) trees → AreTreesWithin ranges.most_cells room (forest trees)
  within-forest room [] all = tt
  within-forest room (tree ∷ trees) all = (all.0, within-forest room trees all.1)

  -- ---- a node, by what its children are read by

  abbrev AreChildren : ℕ → Forest → Type 0
  AreChildren room children = (1 ≤ count children) × (count children ≤ ranges.most_children) × AreTreesWithin ranges.most_cells room children

  module _ (room : ℕ) (child : Read Tree) (takes_child : TakesWords child tree_words (IsTreeWithin ranges.most_cells room)) where
    trees_again : (trees : Forest) (n : ℕ) → count trees ≡ n → AreTreesWithin ranges.most_cells room trees → (line : ℕ) (others : List (List ℕ)) (ahead : List ℕ)
        → times n child (place line (forest_words trees ++ others) ahead) ≡ Ok (trees_in trees, place line others ahead)
    unfolding times
    trees_again none zero e fits line others ahead = refl
    trees_again none (suc n) e fits line others ahead = absurd (omega (arith, e))
    trees_again (more tree trees) zero e fits line others ahead = absurd (omega (arith, e))
    trees_again (more tree trees) (suc n) e fits line others ahead =
        let same_count : count trees ≡ n = omega (arith, e) in
        rw (append_assoc (tree_words tree) (forest_words trees) others, takes_child.passes tree fits.0 line (forest_words trees ++ others) ahead, trees_again trees n same_count fits.1 line others ahead) refl

    children_is : (p : Place) (children : Forest) (q : Place) → children_by ranges child p ≡ Ok (children, q) → (p.words ≡ decimal (count children) ∷ (forest_words children ++ q.words)) × (p.ahead ≡ q.ahead) × AreChildren room children
    unfolding children_by
    children_is p children q e =
        let a = bind_ok (word_by (number_in 1 ranges.most_children) p) (λ n. times n child >>= λ trees. give (forest trees)) (children, q) e in
        let b = bind_ok (times a.0.0 child a.0.1) (λ trees. give (forest trees)) (children, q) a.2 in
        let trees = b.0.0 in
        let n = takes_count.is p a.0.0 a.0.1 a.1 in
        let all = times_words_is child tree_words (IsTreeWithin ranges.most_cells room) takes_child a.0.0 a.0.1 trees b.0.1 b.1 in
        let many : a.0.0 ≡ count (forest trees) = sym all.2 ∙ sym (count-forest trees) in
        let words : p.words ≡ decimal (count (forest trees)) ∷ (forest_words (forest trees) ++ b.0.1.words) =
        n.0 ∙ ap (λ ws. decimal a.0.0 ∷ ws) (all.0 ∙ ap (λ ws. ws ++ b.0.1.words) (sym (words-forest trees))) ∙ ap (λ m. decimal m ∷ (forest_words (forest trees) ++ b.0.1.words)) many in
        subst (λ (z : Forest × Place). (p.words ≡ decimal (count z.0) ∷ (forest_words z.0 ++ z.1.words)) × (p.ahead ≡ z.1.ahead) × AreChildren room z.0) (ok_is (forest trees, b.0.1) (children, q) b.2)
        (words, n.1 ∙ all.1, (omega (arith, n.2.0, many), omega (arith, n.2.1, many), within-forest room trees all.3))

    children_again : (children : Forest) → AreChildren room children → (line : ℕ) (others : List (List ℕ)) (ahead : List ℕ)
        → children_by ranges child (place line (decimal (count children) ∷ (forest_words children ++ others)) ahead) ≡ Ok (children, place line others ahead)
    unfolding children_by
    children_again children fits line others ahead =
        rw (takes_count.passes (count children) (fits.0, fits.1) line (forest_words children ++ others) ahead, trees_again children (count children) refl fits.2 line others ahead) (ap (λ trees. Ok (trees, place line others ahead)) (forest-trees_in children))

    -- what a node of a kind was read from
    abbrev IsOfKind : NodeKind → Tree → Type 0
    IsOfKind kind tree = (kind_of tree ≡ kind) × IsTreeWithin ranges.most_cells (suc room) tree

    abbrev IsNodeRead : NodeKind → Place → Tree × Place → Type 0
    IsNodeRead kind p z = (p.words ≡ rest_words z.0 ++ z.1.words) × (p.ahead ≡ z.1.ahead) × IsOfKind kind z.0

    node_is : (kind : NodeKind) (p : Place) (tree : Tree) (q : Place) → node_by ranges child kind p ≡ Ok (tree, q) → IsNodeRead kind p (tree, q)
    unfolding node_by kind_of
    node_is Cell p tree q e =
        let a = bind_ok (word_by (number_in 0 ranges.last_cell) p) (λ cell. children_by ranges child >>= λ children. give (branch (items.Cell cell) children)) (tree, q) e in
        let b = bind_ok (children_by ranges child a.0.1) (λ children. give (branch (items.Cell a.0.0) children)) (tree, q) a.2 in
        let n = (takes_number ranges.last_cell (last_fits ranges are)).is p a.0.0 a.0.1 a.1 in
        let all = children_is a.0.1 b.0.0 b.0.1 b.1 in
        subst (IsNodeRead Cell p) (ok_is (branch (items.Cell a.0.0) b.0.0, b.0.1) (tree, q) b.2) (n.0 ∙ ap (λ ws. decimal a.0.0 ∷ ws) all.0, n.1 ∙ all.1, (refl, (below a.0.0 n.2.1, all.2.0, omega (arith, all.2.1, are.children), all.2.2)))
    node_is Tile p tree q e =
        let a = bind_ok (word_by (number_in 0 ranges.last_cell) p) (λ tile. children_by ranges child >>= λ children. give (branch (items.Tile tile) children)) (tree, q) e in
        let b = bind_ok (children_by ranges child a.0.1) (λ children. give (branch (items.Tile a.0.0) children)) (tree, q) a.2 in
        let n = (takes_number ranges.last_cell (last_fits ranges are)).is p a.0.0 a.0.1 a.1 in
        let all = children_is a.0.1 b.0.0 b.0.1 b.1 in
        subst (IsNodeRead Tile p) (ok_is (branch (items.Tile a.0.0) b.0.0, b.0.1) (tree, q) b.2) (n.0 ∙ ap (λ ws. decimal a.0.0 ∷ ws) all.0, n.1 ∙ all.1, (refl, (below a.0.0 n.2.1, all.2.0, omega (arith, all.2.1, are.children), all.2.2)))
    node_is DeadCell p tree q e =
        let a = bind_ok (word_by (number_in 0 ranges.last_cell) p) (λ cell. give (dead (items.Cell cell))) (tree, q) e in
        let n = (takes_number ranges.last_cell (last_fits ranges are)).is p a.0.0 a.0.1 a.1 in
        subst (IsNodeRead DeadCell p) (ok_is (dead (items.Cell a.0.0), a.0.1) (tree, q) a.2) (n.0, n.1, (refl, below a.0.0 n.2.1))
    node_is DeadTile p tree q e =
        let a = bind_ok (word_by (number_in 0 ranges.last_cell) p) (λ tile. give (dead (items.Tile tile))) (tree, q) e in
        let n = (takes_number ranges.last_cell (last_fits ranges are)).is p a.0.0 a.0.1 a.1 in
        subst (IsNodeRead DeadTile p) (ok_is (dead (items.Tile a.0.0), a.0.1) (tree, q) a.2) (n.0, n.1, (refl, below a.0.0 n.2.1))
    node_is Found p tree q e =
        let a = bind_ok (word_by (number_in 0 LAST_ARRANGEMENT) p) (λ number. give (found number)) (tree, q) e in
        let n = (takes_number LAST_LEMMA (omega arith)).is p a.0.0 a.0.1 a.1 in
        subst (IsNodeRead Found p) (ok_is (found a.0.0, a.0.1) (tree, q) a.2) (n.0, n.1, (refl, n.2.1))
    node_is Same p tree q e =
        let a = bind_ok (word_by (number_in 0 LAST_LEMMA) p) (λ lemma. give (same lemma)) (tree, q) e in
        let n = (takes_number LAST_LEMMA (omega arith)).is p a.0.0 a.0.1 a.1 in
        subst (IsNodeRead Same p) (ok_is (same a.0.0, a.0.1) (tree, q) a.2) (n.0, n.1, (refl, n.2.1))
    node_is Image p tree q e =
        let a = bind_ok (word_by (number_in 0 LAST_LEMMA) p) (λ lemma. word_by (number_in 0 LAST_SYMMETRY) >>= λ symmetry. give (image lemma symmetry)) (tree, q) e in
        let b = bind_ok (word_by (number_in 0 LAST_SYMMETRY) a.0.1) (λ symmetry. give (image a.0.0 symmetry)) (tree, q) a.2 in
        let n = (takes_number LAST_LEMMA (omega arith)).is p a.0.0 a.0.1 a.1 in
        let m = (takes_number LAST_SYMMETRY (omega arith)).is a.0.1 b.0.0 b.0.1 b.1 in
        subst (IsNodeRead Image p) (ok_is (image a.0.0 b.0.0, b.0.1) (tree, q) b.2) (n.0 ∙ ap (λ ws. decimal a.0.0 ∷ ws) m.0, n.1 ∙ m.1, (refl, (n.2.1, m.2.1)))

    node_again : (tree : Tree) → IsTreeWithin ranges.most_cells (suc room) tree → (line : ℕ) (others : List (List ℕ)) (ahead : List ℕ) → node_by ranges child (kind_of tree) (place line (rest_words tree ++ others) ahead) ≡ Ok (tree, place line others ahead)
    unfolding node_by kind_of
    node_again (branch (items.Cell cell) children) fits line others ahead =
        rw ((takes_number ranges.last_cell (last_fits ranges are)).passes cell (omega arith, up_to_last cell fits.0) line (decimal (count children) ∷ (forest_words children ++ others)) ahead, children_again children (fits.1, omega (arith, fits.2, are.children), fits.3) line others ahead) refl
    node_again (branch (items.Tile tile) children) fits line others ahead =
        rw ((takes_number ranges.last_cell (last_fits ranges are)).passes tile (omega arith, up_to_last tile fits.0) line (decimal (count children) ∷ (forest_words children ++ others)) ahead, children_again children (fits.1, omega (arith, fits.2, are.children), fits.3) line others ahead) refl
    node_again (dead (items.Cell cell)) fits line others ahead = rw ((takes_number ranges.last_cell (last_fits ranges are)).passes cell (omega arith, up_to_last cell fits) line others ahead) refl
    node_again (dead (items.Tile tile)) fits line others ahead = rw ((takes_number ranges.last_cell (last_fits ranges are)).passes tile (omega arith, up_to_last tile fits) line others ahead) refl
    node_again (found number) fits line others ahead = rw ((takes_number LAST_ARRANGEMENT (omega arith)).passes number (omega arith, fits) line others ahead) refl
    node_again (same lemma) fits line others ahead = rw ((takes_number LAST_LEMMA (omega arith)).passes lemma (omega arith, fits) line others ahead) refl
    node_again (image lemma symmetry) fits line others ahead =
        rw ((takes_number LAST_LEMMA (omega arith)).passes lemma (omega arith, fits.0) line (decimal symmetry ∷ others) ahead, (takes_number LAST_SYMMETRY (omega arith)).passes symmetry (omega arith, fits.1) line others ahead) refl

    takes_node : (kind : NodeKind) → TakesWords (node_by ranges child kind) rest_words (IsOfKind kind)
    takes_node kind = record {
      is = node_is kind;
      passes = λ tree fits line others ahead. subst (λ k. node_by ranges child k (place line (rest_words tree ++ others) ahead) ≡ Ok (tree, place line others ahead)) fits.0 (node_again tree fits.1 line others ahead);
    }

    takes_level : TakesWords (word_by node_kind_in >>= node_by ranges child) tree_words (IsTreeWithin ranges.most_cells (suc room))
    takes_level =
        takes_as (word_by node_kind_in >>= node_by ranges child) (λ tree. (kind_word (kind_of tree) ∷ []) ++ rest_words tree) tree_words (λ tree. Unit {0} × IsOfKind (kind_of tree) tree) (IsTreeWithin ranges.most_cells (suc room)) words_are (λ tree fits. fits.1.1) (λ tree fits. (tt, (refl, fits)))
        (takes_field (word_by node_kind_in) (λ kind. kind_word kind ∷ []) (λ _. Unit {0}) (node_by ranges child) kind_of rest_words IsOfKind
        (takes_word node_kind_in kind_word (λ _. Unit {0}) spells_kind) takes_node (λ kind tree fits. fits.0))

  -- ---- a tree

  pub takes_tree : (room : ℕ) → TakesWords (tree_by ranges room) tree_words (IsTreeWithin ranges.most_cells room)
  unfolding tree_by
  takes_tree zero = record {
    is = λ p tree q e. absurd (nothing p.line p.words tree q e);
    passes = λ tree fits line others ahead. absurd fits;
  }
    where
      nothing : (line : ℕ) (words : List (List ℕ)) (tree : Tree) (q : Place) → too_deep_from line words ≡ Ok (tree, q) → ⊥
      nothing line [] tree q e = absurd cc
      nothing line (word ∷ words) tree q e = absurd cc
  takes_tree (suc room) = takes_level room (tree_by ranges room) (takes_tree room)

  -- ---- texts that are cut short

  cuts_children : (child : Read Tree) → CutsShort child → CutsShort (children_by ranges child)
  unfolding children_by
  cuts_children child cuts = cuts_bind (word_by (number_in 1 ranges.most_children)) (λ n. times n child >>= λ trees. give (forest trees)) (cuts_word (number_in 1 ranges.most_children))
      (λ n. cuts_bind (times n child) (λ trees. give (forest trees)) (cuts_times n child cuts) (λ trees. cuts_give (forest trees)))

  cuts_node : (child : Read Tree) → CutsShort child → (kind : NodeKind) → CutsShort (node_by ranges child kind)
  unfolding node_by
  cuts_node child cuts Cell = cuts_bind (word_by (number_in 0 ranges.last_cell)) (λ cell. children_by ranges child >>= λ children. give (branch (items.Cell cell) children)) (cuts_word (number_in 0 ranges.last_cell))
      (λ cell. cuts_bind (children_by ranges child) (λ children. give (branch (items.Cell cell) children)) (cuts_children child cuts) (λ children. cuts_give (branch (items.Cell cell) children)))
  cuts_node child cuts Tile = cuts_bind (word_by (number_in 0 ranges.last_cell)) (λ tile. children_by ranges child >>= λ children. give (branch (items.Tile tile) children)) (cuts_word (number_in 0 ranges.last_cell))
      (λ tile. cuts_bind (children_by ranges child) (λ children. give (branch (items.Tile tile) children)) (cuts_children child cuts) (λ children. cuts_give (branch (items.Tile tile) children)))
  cuts_node child cuts DeadCell = cuts_bind (word_by (number_in 0 ranges.last_cell)) (λ cell. give (dead (items.Cell cell))) (cuts_word (number_in 0 ranges.last_cell)) (λ cell. cuts_give (dead (items.Cell cell)))
  cuts_node child cuts DeadTile = cuts_bind (word_by (number_in 0 ranges.last_cell)) (λ tile. give (dead (items.Tile tile))) (cuts_word (number_in 0 ranges.last_cell)) (λ tile. cuts_give (dead (items.Tile tile)))
  cuts_node child cuts Found = cuts_bind (word_by (number_in 0 LAST_ARRANGEMENT)) (λ number. give (found number)) (cuts_word (number_in 0 LAST_ARRANGEMENT)) (λ number. cuts_give (found number))
  cuts_node child cuts Same = cuts_bind (word_by (number_in 0 LAST_LEMMA)) (λ lemma. give (same lemma)) (cuts_word (number_in 0 LAST_LEMMA)) (λ lemma. cuts_give (same lemma))
  cuts_node child cuts Image = cuts_bind (word_by (number_in 0 LAST_LEMMA)) (λ lemma. word_by (number_in 0 LAST_SYMMETRY) >>= λ symmetry. give (image lemma symmetry)) (cuts_word (number_in 0 LAST_LEMMA))
      (λ lemma. cuts_bind (word_by (number_in 0 LAST_SYMMETRY)) (λ symmetry. give (image lemma symmetry)) (cuts_word (number_in 0 LAST_SYMMETRY)) (λ symmetry. cuts_give (image lemma symmetry)))

  too_deep_only : LineOnly (tree_by ranges 0)
  unfolding tree_by
  too_deep_only line [] = (fail line Word, λ ahead. refl)
  too_deep_only line (word ∷ words) = (fail line TooDeep, λ ahead. refl)

  pub cuts_tree : (room : ℕ) → CutsShort (tree_by ranges room)
  unfolding tree_by
  cuts_tree zero = cuts_line_only (tree_by ranges 0) too_deep_only
  cuts_tree (suc room) = cuts_bind (word_by node_kind_in) (node_by ranges (tree_by ranges room)) (cuts_word node_kind_in) (λ kind. cuts_node (tree_by ranges room) (cuts_tree room) kind)
