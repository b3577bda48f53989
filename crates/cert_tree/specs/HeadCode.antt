-- Trees are read back from their heads, and so are told apart by them.
use Rattle.std.specs.Prelude.{◌≡◌, List, [], ◌++◌, refl}
use Rattle.std.specs.Coded.{Coded, code_by, coded_list}
use Rattle.std.proofs.Common.{ap, sym, ◌∙◌, append_assoc, add-one}
use Rattle.std.proofs.lemmas.List.{append-nil}
use Rattle.match_puzzle.specs.declared.items.Item.{Item}
use Rattle.match_puzzle.specs.declared.items.Item.TheVariants as items
use Rattle.cert_tree.specs.declared.heads.Head.{Head}
use Rattle.cert_tree.specs.Tree.{Tree, Forest, branch, dead, found, same, image, none, more, count}
use Rattle.cert_tree.specs.Heads.{branch_head, dead_head, heads_of, heads_in, join, front, past, put, trees_in, first}

-- ---- trees one after the other

pub front-join : (trees others : Forest) → front (count trees) (join trees others) ≡ trees
front-join none others = refl
front-join (more tree trees) others =
    ap (λ n. front n (more tree (join trees others))) (add-one (count trees)) ∙ ap (more tree) (front-join trees others)

pub past-join : (trees others : Forest) → past (count trees) (join trees others) ≡ others
past-join none others = refl
past-join (more tree trees) others =
    ap (λ n. past n (more tree (join trees others))) (add-one (count trees)) ∙ past-join trees others

pub join-none : (trees : Forest) → join trees none ≡ trees
join-none none = refl
join-none (more tree trees) = ap (more tree) (join-none trees)

-- ---- heads that are read back

-- a branch, from what its children and the trees after them are known to be
put-branch : (item : Item) (children others : Forest)
    → put (branch_head item (count children)) (join children others) ≡ more (branch item children) others
put-branch (items.Cell cell) children others =
    ap (λ trees. more (branch (items.Cell cell) trees) (past (count children) (join children others)))
    (front-join children others)
    ∙ ap (more (branch (items.Cell cell) children)) (past-join children others)
put-branch (items.Tile tile) children others =
    ap (λ trees. more (branch (items.Tile tile) trees) (past (count children) (join children others)))
    (front-join children others)
    ∙ ap (more (branch (items.Tile tile) children)) (past-join children others)

put-dead : (item : Item) (others : Forest) → put (dead_head item) others ≡ more (dead item) others
put-dead (items.Cell cell) others = refl
put-dead (items.Tile tile) others = refl

mutual
  unfolding trees_in

  -- What stands after the heads of a tree is read apart from it.
  pub trees_in-heads_of : (tree : Tree) (rest : List Head)
      → trees_in (heads_of tree ++ rest) ≡ more tree (trees_in rest)
  trees_in-heads_of (branch item children) rest =
      ap (put (branch_head item (count children))) (trees_in-heads_in children rest)
      ∙ put-branch item children (trees_in rest)
  trees_in-heads_of (dead item) rest = put-dead item (trees_in rest)
  trees_in-heads_of (found number) rest = refl
  trees_in-heads_of (same lemma) rest = refl
  trees_in-heads_of (image lemma symmetry) rest = refl

  pub trees_in-heads_in : (trees : Forest) (rest : List Head)
      → trees_in (heads_in trees ++ rest) ≡ join trees (trees_in rest)
  trees_in-heads_in none rest = refl
  trees_in-heads_in (more tree trees) rest =
      ap trees_in (append_assoc (heads_of tree) (heads_in trees) rest) ∙ trees_in-heads_of tree (heads_in trees ++ rest)
      ∙ ap (more tree) (trees_in-heads_in trees rest)

-- the trees that have the heads of these trees
pub trees_in-heads : (trees : Forest) → trees_in (heads_in trees) ≡ trees
unfolding trees_in
trees_in-heads trees = ap trees_in (sym (append-nil (heads_in trees))) ∙ trees_in-heads_in trees [] ∙ join-none trees

-- ---- codes

abbrev pub forest_code : Coded Head → Coded Forest
forest_code head = code_by (List Head) (coded_list head) heads_in trees_in trees_in-heads

abbrev pub tree_code : Coded Head → Coded Tree
tree_code head = code_by Forest (forest_code head) (λ tree. more tree none) first (λ _. refl)
