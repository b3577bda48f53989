-- What a search finds, and its tree.
use Rattle.std.specs.Prelude.{◌≡◌, ℕ, ◌+◌, ◌<◌}
use Rattle.cert_tree.specs.Tree.{Tree, Forest, branch, dead, found, same, image, none, more}
use Rattle.xcc_dance.specs.declared.cites.Cite.{Cite}
use Rattle.xcc_dance.specs.declared.cites.Cite.TheVariants as cites

abbrev mutual
  -- how many branch nodes a tree has
  pub branch_count : Tree → ℕ
  branch_count (branch item children) = branch_total children + 1
  branch_count (dead item) = 0
  branch_count (found number) = 0
  branch_count (same lemma) = 0
  branch_count (image lemma symmetry) = 0

  pub branch_total : Forest → ℕ
  branch_total none = 0
  branch_total (more tree trees) = branch_count tree + branch_total trees

abbrev mutual
  -- Each found number is below this one.
  pub IsFoundBelow : ℕ → Tree → Type 0
  IsFoundBelow n (branch item children) = AreFoundBelow n children
  IsFoundBelow n (dead item) = Unit {0}
  IsFoundBelow n (found number) = number < n
  IsFoundBelow n (same lemma) = Unit {0}
  IsFoundBelow n (image lemma symmetry) = Unit {0}

  pub AreFoundBelow : ℕ → Forest → Type 0
  AreFoundBelow n none = Unit {0}
  AreFoundBelow n (more tree trees) = IsFoundBelow n tree × AreFoundBelow n trees

-- The tree is the citation.
abbrev pub IsCitation : Cite → Tree → Type 0
IsCitation (cites.Same lemma) tree = tree ≡ same lemma
IsCitation (cites.Image lemma symmetry) tree = tree ≡ image lemma symmetry
