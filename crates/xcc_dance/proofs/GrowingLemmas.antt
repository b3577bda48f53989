-- A tree that grows child by child, and what is found with it.
use Rattle.std.proofs.Common.{◌≡◌, ◌≤◌, ◌+◌, ◌++◌, ◌∷◌, [], ℕ, zero, suc, List, Some, slice_get, refl, length, arith, ap, ◌∙◌}
use Rattle.std.proofs.lemmas.List.Elements.{Contains-append_left}
use Rattle.std.proofs.lemmas.Option.{none-some}
use Rattle.match_puzzle.specs.declared.placements.Placement.{Placement}
use Rattle.std.proofs.lemmas.List.{append-nil}
use Rattle.cert_tree.specs.Heads.{heads_in, heads_of, join}
use Rattle.cert_tree.specs.Tree.{Tree, Forest, branch, dead, found, same, image, none, more}
use Rattle.cert_tree.proofs.HeadLemmas.{heads_in-join}
use Rattle.xcc_form.specs.Chosen.{Selection, with_option, IsFoundFrom}
use Rattle.xcc_dance.specs.Progress.{AreKept}
use Rattle.xcc_dance.specs.Found.{branch_count, branch_total, IsFoundBelow, AreFoundBelow}

-- these trees, and then this one
abbrev pub with_last : Forest → Tree → Forest
with_last trees tree = join trees (more tree none)

pub total_more : (trees : Forest) (tree : Tree) → branch_total (with_last trees tree) ≡ branch_total trees + branch_count tree
total_more none tree = omega arith
total_more (more t trees) tree = let h = total_more trees tree in omega (arith, h)

pub heads_more : (trees : Forest) (tree : Tree) → heads_in (with_last trees tree) ≡ heads_in trees ++ heads_of tree
heads_more trees tree = heads_in-join trees (more tree none) ∙ ap (λ xs. heads_in trees ++ xs) (append-nil (heads_of tree))

mutual
  pub below_up : (m n : ℕ) → m ≤ n → (t : Tree) → IsFoundBelow m t → IsFoundBelow n t
  below_up m n le (branch item children) h = all_up m n le children h
  below_up m n le (dead item) h = tt
  below_up m n le (found number) h = omega (arith, h, le)
  below_up m n le (same lemma) h = tt
  below_up m n le (image lemma symmetry) h = tt

  pub all_up : (m n : ℕ) → m ≤ n → (ts : Forest) → AreFoundBelow m ts → AreFoundBelow n ts
  all_up m n le none h = tt
  all_up m n le (more t ts) h = (below_up m n le t h.0, all_up m n le ts h.1)

pub all_more : (n : ℕ) (trees : Forest) (tree : Tree) → AreFoundBelow n trees → IsFoundBelow n tree → AreFoundBelow n (with_last trees tree)
all_more n none tree h b = (b, tt)
all_more n (more t trees) tree h b = (h.0, all_more n trees tree h.1 b)

-- what is found after one more choice is found before it
pub found_before : (s : Selection) (option : ℕ) (a : List Placement) → IsFoundFrom (with_option s option) a → IsFoundFrom s a
found_before s option a f = record { solution = f.solution; is_solution = f.is_solution; has_chosen = λ o c. f.has_chosen o (Contains-append_left s.chosen (option ∷ []) o c) }

pub kept_push : (xs : List (List Placement)) (x : List Placement) → AreKept xs (xs ++ x ∷ [])
kept_push [] x n a at = absurd (none-some a at)
kept_push (y ∷ xs) x zero a at = at
kept_push (y ∷ xs) x (suc n) a at = kept_push xs x n a at

pub last_at : (xs : List (List Placement)) (x : List Placement) → slice_get (xs ++ x ∷ []) (length xs) ≡ Some x
last_at [] x = refl
last_at (y ∷ xs) x = last_at xs x
