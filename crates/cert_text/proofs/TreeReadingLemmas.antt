-- Trees that are read head by head.
use Rattle.std.proofs.Common.{◌≡◌, ◌≢◌, ℕ, zero, suc, ◌-◌, List, [], ◌∷◌, ◌++◌, length, drop, Result, Ok, Err, refl, ap, sym, ◌∙◌, arith, append_assoc}
use Rattle.match_limits.specs.declared.TheConstants.{LAST_ARRANGEMENT, LAST_SYMMETRY, LAST_LEMMA}
use Rattle.std.specs.Prelude.{OnOk}
use Rattle.std.proofs.lemmas.List.{append-nil}
use Rattle.match_puzzle.specs.declared.items.Item.{Item}
use Rattle.match_puzzle.specs.declared.items.Item.TheVariants as items
use Rattle.match_limits.specs.declared.ranges.Ranges.{Ranges}
use Rattle.text_words.specs.declared.faults.TextFault.{TextFault}
use Rattle.text_words.specs.declared.faults.ReadFault.{ReadFault}
use Rattle.text_words.specs.declared.faults.ReadFault.TheVariants as faults
use Rattle.text_words.specs.PlainWords.{number_in}
use Rattle.text_words.specs.Place.{Place, Read, Reads, go_on, ◌>>=◌, give, word_by, times}
use Rattle.cert_tree.specs.declared.heads.Head.{Head}
use Rattle.cert_tree.specs.declared.heads.Head.TheVariants as heads
use Rattle.cert_tree.specs.Tree.{Tree, Forest, branch, dead, found, same, image, none, more, count}
use Rattle.cert_tree.specs.Heads.{heads_of, heads_in, trees_in, arity, first, AreOfTree}
use Rattle.cert_text.specs.declared.tree_readers.NodeKind.{NodeKind}
use Rattle.cert_text.specs.declared.tree_readers.NodeKind.TheVariants.{Cell, Tile, DeadCell, DeadTile, Found, Same, Image}
use Rattle.cert_text.specs.HeadReading.{most_of, rest_by, head_by, ReadsOnto, ReadAllOnto}
use Rattle.cert_text.specs.TreeText.{node_kind_in, forest, children_by, node_by, tree_by}
use Rattle.cert_tree.proofs.HeadLemmas.{of_tree}
use Rattle.cert_tree.proofs.SpanLemmas.{IsBehind, behind_is, is_behind}

-- ---- a head, and then its children

-- a node by its head and its children
abbrev tree_from : Head → Forest → Tree
tree_from (heads.Cell cell n) children = branch (items.Cell cell) children
tree_from (heads.Tile tile n) children = branch (items.Tile tile) children
tree_from (heads.DeadCell cell) children = dead (items.Cell cell)
tree_from (heads.DeadTile tile) children = dead (items.Tile tile)
tree_from (heads.Found number) children = found number
tree_from (heads.Same lemma) children = same lemma
tree_from (heads.Image symmetry lemma) children = image lemma symmetry

-- what stands behind a head
abbrev pub below : Read Tree → Head → Read Tree
below child head = times (arity head) child >>= λ trees. give (tree_from head (forest trees))

module _ (child : Read Tree) where
  children_apart : (item : Item) (r : Result (List Tree × Place) TextFault) → go_on (go_on r (λ trees. give (forest trees))) (λ children. give (branch item children)) ≡ go_on r (λ trees. give (branch item (forest trees)))
  children_apart item (Ok x) = refl
  children_apart item (Err e) = refl

  -- the rest of a node, from what its second number is
  cell_apart : (cell : ℕ) (r : Result (ℕ × Place) TextFault) → go_on (go_on r (λ count. times count child >>= λ trees. give (forest trees))) (λ children. give (branch (items.Cell cell) children)) ≡ go_on (go_on r (λ k. give (heads.Cell cell k))) (below child)
  cell_apart cell (Ok x) = children_apart (items.Cell cell) (times x.0 child x.1)
  cell_apart cell (Err e) = refl

  tile_apart : (tile : ℕ) (r : Result (ℕ × Place) TextFault) → go_on (go_on r (λ count. times count child >>= λ trees. give (forest trees))) (λ children. give (branch (items.Tile tile) children)) ≡ go_on (go_on r (λ k. give (heads.Tile tile k))) (below child)
  tile_apart tile (Ok x) = children_apart (items.Tile tile) (times x.0 child x.1)
  tile_apart tile (Err e) = refl

  image_apart : (lemma : ℕ) (r : Result (ℕ × Place) TextFault) → go_on r (λ symmetry. give (image lemma symmetry)) ≡ go_on (go_on r (λ symmetry. give (heads.Image symmetry lemma))) (below child)
  unfolding times
  image_apart lemma (Ok x) = refl
  image_apart lemma (Err e) = refl

-- the same in these ranges
module _ (ranges : Ranges) (child : Read Tree) where
  abbrev IsApart : NodeKind → Place → Type 0
  IsApart kind p = node_by ranges child kind p ≡ go_on (go_on (word_by (number_in 0 (most_of ranges kind)) p) (rest_by ranges kind)) (below child)

  -- the same, from what its first number is
  node_apart : (kind : NodeKind) (p : Place) → IsApart kind p
  unfolding node_by children_by rest_by times
  node_apart Cell p = elim (word_by (number_in 0 ranges.last_cell) p) as (λ r. go_on r (λ cell. children_by ranges child >>= λ children. give (branch (items.Cell cell) children)) ≡ go_on (go_on r (rest_by ranges Cell)) (below child)) [
    | Ok x ↦ cell_apart child x.0 (word_by (number_in 1 ranges.most_children) x.1)
    | Err e ↦ refl
  ]
  node_apart Tile p = elim (word_by (number_in 0 ranges.last_cell) p) as (λ r. go_on r (λ tile. children_by ranges child >>= λ children. give (branch (items.Tile tile) children)) ≡ go_on (go_on r (rest_by ranges Tile)) (below child)) [
    | Ok x ↦ tile_apart child x.0 (word_by (number_in 1 ranges.most_children) x.1)
    | Err e ↦ refl
  ]
  node_apart DeadCell p = elim (word_by (number_in 0 ranges.last_cell) p) as (λ r. go_on r (λ cell. give (dead (items.Cell cell))) ≡ go_on (go_on r (rest_by ranges DeadCell)) (below child)) [ Ok x ↦ refl | Err e ↦ refl ]
  node_apart DeadTile p = elim (word_by (number_in 0 ranges.last_cell) p) as (λ r. go_on r (λ tile. give (dead (items.Tile tile))) ≡ go_on (go_on r (rest_by ranges DeadTile)) (below child)) [ Ok x ↦ refl | Err e ↦ refl ]
  node_apart Found p = elim (word_by (number_in 0 LAST_ARRANGEMENT) p) as (λ r. go_on r (λ number. give (found number)) ≡ go_on (go_on r (rest_by ranges Found)) (below child)) [ Ok x ↦ refl | Err e ↦ refl ]
  node_apart Same p = elim (word_by (number_in 0 LAST_LEMMA) p) as (λ r. go_on r (λ lemma. give (same lemma)) ≡ go_on (go_on r (rest_by ranges Same)) (below child)) [ Ok x ↦ refl | Err e ↦ refl ]
  node_apart Image p = elim (word_by (number_in 0 LAST_LEMMA) p) as (λ r. go_on r (λ lemma. word_by (number_in 0 LAST_SYMMETRY) >>= λ symmetry. give (image lemma symmetry)) ≡ go_on (go_on r (rest_by ranges Image)) (below child)) [
    | Ok x ↦ image_apart child x.0 (word_by (number_in 0 LAST_SYMMETRY) x.1)
    | Err e ↦ refl
  ]

  kind_apart : (r : Result (NodeKind × Place) TextFault) → go_on r (node_by ranges child) ≡ go_on (go_on r (λ kind. word_by (number_in 0 (most_of ranges kind)) >>= λ number. rest_by ranges kind number)) (below child)
  kind_apart (Ok x) = node_apart x.0 x.1
  kind_apart (Err e) = refl

-- a tree is a head, and then as many trees as it says
level : (ranges : Ranges) (room : ℕ) (p : Place) → room ≢ 0 → tree_by ranges room p ≡ go_on (head_by ranges p) (below (tree_by ranges (room - 1)))
unfolding tree_by head_by
level ranges zero p some = absurd (some refl)
level ranges (suc room) p some = let less : suc room - 1 ≡ room = omega arith in kind_apart ranges (tree_by ranges room) (word_by node_kind_in p) ∙ ap (λ k. go_on (head_by ranges p) (below (tree_by ranges k))) (sym less)

pub tree_by-head : (ranges : Ranges) (room : ℕ) (p a : Place) (head : Head) → room ≢ 0 → head_by ranges p ≡ Ok (head, a) → tree_by ranges room p ≡ below (tree_by ranges (room - 1)) head a
tree_by-head ranges room p a head some e = level ranges room p some ∙ ap (λ read. go_on read (below (tree_by ranges (room - 1)))) e

pub tree_by-fault : (ranges : Ranges) (room : ℕ) (p : Place) (fault : TextFault) → room ≢ 0 → head_by ranges p ≡ Err fault → tree_by ranges room p ≡ Err fault
tree_by-fault ranges room p fault some e = level ranges room p some ∙ ap (λ read. go_on read (below (tree_by ranges (room - 1)))) e

-- ---- several trees

count-forest : (trees : List Tree) → count (forest trees) ≡ length trees
count-forest [] = refl
count-forest (tree ∷ trees) = omega (arith, count-forest trees)

-- as many are read as are asked for
module _ {X : Type 0} (r : Read X) where
  many_after : (n : ℕ) (x : X) (read : Result (List X × Place) TextFault) (xs : List X) (q : Place) → ((ys : List X) (b : Place) → read ≡ Ok (ys, b) → length ys ≡ n) →
      go_on read (λ ys. give (x ∷ ys)) ≡ Ok (xs, q) → length xs ≡ suc n
  many_after n x (Ok (ys, b)) xs q so_far e =
      let is : x ∷ ys ≡ xs = first_is (x ∷ ys, b) (xs, q) e in
      let many = so_far ys b refl in
      let all = ap length is in
      omega arith
    where
      first_is : (y z : List X × Place) → ◌≡◌ {A = Result (List X × Place) TextFault} (Ok y) (Ok z) → y.0 ≡ z.0
      first_is y z e = let one : y ≡ z = cc in ap (λ (u : List X × Place). u.0) one
  many_after n x (Err f) xs q so_far e = absurd cc

  many_from : (n : ℕ) (read : Result (X × Place) TextFault) (xs : List X) (q : Place) → ((a : Place) (ys : List X) (b : Place) → times n r a ≡ Ok (ys, b) → length ys ≡ n) →
      go_on read (λ x. times n r >>= λ ys. give (x ∷ ys)) ≡ Ok (xs, q) → length xs ≡ suc n
  many_from n (Ok (x, a)) xs q so_far e = many_after n x (times n r a) xs q (so_far a) e
  many_from n (Err f) xs q so_far e = absurd cc

  pub many_times : (n : ℕ) (p : Place) (xs : List X) (q : Place) → times n r p ≡ Ok (xs, q) → length xs ≡ n
  unfolding times
  many_times zero p xs q e = let is : [] ≡ xs = nil_is ([], p) (xs, q) e in sym (ap length is)
    where
      nil_is : (y z : List X × Place) → ◌≡◌ {A = Result (List X × Place) TextFault} (Ok y) (Ok z) → y.0 ≡ z.0
      nil_is y z e = let one : y ≡ z = cc in ap (λ (u : List X × Place). u.0) one
  many_times (suc n) p xs q e = many_from n (r p) xs q (many_times n) e

heads_in-push : (trees : List Tree) (tree : Tree) → heads_in (forest (trees ++ tree ∷ [])) ≡ heads_in (forest trees) ++ heads_of tree
heads_in-push [] tree = append-nil (heads_of tree)
heads_in-push (other ∷ trees) tree = ap (λ xs. heads_of other ++ xs) (heads_in-push trees tree) ∙ sym (append_assoc (heads_of other) (heads_in (forest trees)) (heads_of tree))

-- one more tree behind those that were read
pub pushed : (trees : List Tree) (tree : Tree) (old now new : List Head) → now ≡ old ++ heads_in (forest trees) → new ≡ now ++ heads_of tree → new ≡ old ++ heads_in (forest (trees ++ tree ∷ []))
pushed trees tree old now new e h =
    h ∙ ap (λ xs. xs ++ heads_of tree) e ∙ append_assoc old (heads_in (forest trees)) (heads_of tree) ∙ ap (λ xs. old ++ xs) (sym (heads_in-push trees tree))

-- ---- a node

no_trees : (trees : Forest) → count trees ≡ 0 → heads_in trees ≡ []
no_trees none e = refl
no_trees (more tree trees) e = absurd (omega arith)

heads_of-from : (head : Head) (trees : Forest) → count trees ≡ arity head → heads_of (tree_from head trees) ≡ head ∷ heads_in trees
heads_of-from (heads.Cell cell n) trees e = ap (λ k. heads.Cell cell k ∷ heads_in trees) e
heads_of-from (heads.Tile tile n) trees e = ap (λ k. heads.Tile tile k ∷ heads_in trees) e
heads_of-from (heads.DeadCell cell) trees e = ap (λ hs. heads.DeadCell cell ∷ hs) (sym (no_trees trees e))
heads_of-from (heads.DeadTile tile) trees e = ap (λ hs. heads.DeadTile tile ∷ hs) (sym (no_trees trees e))
heads_of-from (heads.Found number) trees e = ap (λ hs. heads.Found number ∷ hs) (sym (no_trees trees e))
heads_of-from (heads.Same lemma) trees e = ap (λ hs. heads.Same lemma ∷ hs) (sym (no_trees trees e))
heads_of-from (heads.Image symmetry lemma) trees e = ap (λ hs. heads.Image symmetry lemma ∷ hs) (sym (no_trees trees e))

-- the children behind a head
pub node_onto : (child : Read Tree) (head : Head) (a : Place) (said : Result (Unit {0}) ReadFault) (after : Place) (old now new : List Head) → now ≡ old ++ head ∷ [] → ReadAllOnto said after now new (times (arity head) child a) →
    ReadsOnto said after old new (below child head a)
node_onto child head a (Ok _) after old now new is h =
    let many = many_times child (arity head) a h.0 after h.1 in (
      tree_from head (forest h.0),
      ap (λ read. go_on read (λ trees. give (tree_from head (forest trees)))) h.1,
      h.2 ∙ ap (λ xs. xs ++ heads_in (forest h.0)) is ∙ append_assoc old (head ∷ []) (heads_in (forest h.0)) ∙ ap (λ xs. old ++ xs) (sym (heads_of-from head (forest h.0) (count-forest h.0 ∙ many))),
    )
node_onto child head a (Err faults.Memory) after old now new is h = tt
node_onto child head a (Err (faults.Text f)) after old now new is h = ap (λ read. go_on read (λ trees. give (tree_from head (forest trees)))) h

-- ---- the tree alone

-- ---- a tree behind other heads

-- what was put behind the old heads
abbrev Added : List Head → List Head → List Head
Added old new = drop (length old) new

alone : (old new : List Head) (tree : Tree) → new ≡ old ++ heads_of tree → AreOfTree (Added old new) × (first (trees_in (Added old new)) ≡ tree)
alone old new tree is = of_tree tree (Added old new) (behind_is old new (heads_of tree) is)

pub tree_reads : (result : Result (Unit {0}) ReadFault) (after : Place) (old new : List Head) (read : Result (Tree × Place) TextFault) → ReadsOnto result after old new read → Reads (λ _. first (trees_in (Added old new))) result after read
tree_reads (Ok _) after old new read h = h.1 ∙ ap (λ tree. Ok (tree, after)) (sym (alone old new h.0 h.2).1)
tree_reads (Err e) after old new read h = h

pub tree_whole : (result : Result (Unit {0}) ReadFault) (after : Place) (old new : List Head) (read : Result (Tree × Place) TextFault) → ReadsOnto result after old new read → OnOk result (AreOfTree (Added old new))
tree_whole (Ok _) after old new read h = (alone old new h.0 h.2).0
tree_whole (Err e) after old new read h = tt

pub tree_behind : (result : Result (Unit {0}) ReadFault) (after : Place) (old new : List Head) (read : Result (Tree × Place) TextFault) → ReadsOnto result after old new read → OnOk result (IsBehind old new)
tree_behind (Ok _) after old new read h = is_behind old new (heads_of h.0) h.2
tree_behind (Err e) after old new read h = tt
