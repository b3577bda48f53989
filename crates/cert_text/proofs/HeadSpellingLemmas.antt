-- A tree's words are those of its heads.
use Rattle.std.proofs.Common.{◌≡◌, ◌∷◌, ◌++◌, refl, ap, sym, ◌∙◌, codes}
use Rattle.std.specs.Fmt.{decimal}
use Rattle.std.specs.List.{flat_map}
use Rattle.std.proofs.lemmas.List.Concat.{flat_map-append}
use Rattle.match_puzzle.specs.declared.items.Item.TheVariants as items
use Rattle.cert_tree.specs.Tree.{Tree, Forest, branch, dead, found, same, image, none, more, count}
use Rattle.cert_tree.specs.Heads.{heads_of, heads_in}
use Rattle.cert_text.specs.HeadSpelling.{head_words}
use Rattle.cert_text.specs.TreeSpelling.{tree_words, forest_words}

mutual
  pub tree_words-heads : (tree : Tree) → tree_words tree ≡ flat_map head_words (heads_of tree)
  tree_words-heads (branch (items.Cell cell) children) = ap (λ ws. codes "c" ∷ decimal cell ∷ decimal (count children) ∷ ws) (forest_words-heads children)
  tree_words-heads (branch (items.Tile tile) children) = ap (λ ws. codes "t" ∷ decimal tile ∷ decimal (count children) ∷ ws) (forest_words-heads children)
  tree_words-heads (dead (items.Cell cell)) = refl
  tree_words-heads (dead (items.Tile tile)) = refl
  tree_words-heads (found number) = refl
  tree_words-heads (same lemma) = refl
  tree_words-heads (image lemma symmetry) = refl

  pub forest_words-heads : (trees : Forest) → forest_words trees ≡ flat_map head_words (heads_in trees)
  forest_words-heads none = refl
  forest_words-heads (more tree trees) =
      ap (λ ws. ws ++ forest_words trees) (tree_words-heads tree) ∙ ap (λ ws. flat_map head_words (heads_of tree) ++ ws) (forest_words-heads trees)
      ∙ sym (flat_map-append head_words (heads_of tree) (heads_in trees))
