-- Items of which a node says wrongly how many pairs fit.
use Rattle.std.proofs.Common.{◌≡◌, ◌<◌, ◌≤◌, ◌∙◌, ◌++◌, ℕ, List, [], ◌∷◌, Some, append_assoc, refl, length, slice_get, ⊎_elim, arith, subst, sym}
use Rattle.match_board.specs.Board.{cell_count}
use Rattle.match_limits.proofs.Listings.{lt_or_le}
use Rattle.match_puzzle.specs.Prefix.{Prefix}
use Rattle.match_puzzle.specs.Fitting.{IsItem}
use Rattle.match_puzzle.specs.declared.items.Item.{Item}
use Rattle.match_puzzle.specs.declared.items.Item.TheVariants as items
use Rattle.match_puzzle.proofs.Prefixes.{inside}
use Rattle.match_puzzle.specs.Puzzle.{Task}
use Rattle.cert_tree.specs.Certificate.{Piece}
use Rattle.cert_tree.specs.Tree.{Tree, branch, dead}
use Rattle.cert_check.specs.Answer.{Occurs}
use Rattle.cert_check.specs.Derivation.{start_of}
use Rattle.cert_check.specs.Setting.{Question, Setting, setting_at}
use Rattle.cert_check.specs.TreeFaults.{FailsAt, IsNodeFault}
use Rattle.cert_check.specs.declared.faults.NodeFault.{NodeFault}
use Rattle.cert_check.specs.declared.faults.NodeFault.TheVariants as faults
use Rattle.cert_check.specs.declared.faults.Fault.TheVariants as answers
use Rattle.cert_check.specs.declared.faults.TreeFault.{TreeFault}
use Rattle.show_refusals.specs.Explanation.{miscounted_item}
use Rattle.cert_check.specs.Scene.{LeadsTo}
use Rattle.cert_check.proofs.SceneLemmas.{fault_path, same_child}

-- A number is below the other, if it isn't that the other is at most it.
below : (m n : ℕ) → (n ≤ m → ⊥) → m < n
below m n not = ⊎_elim (λ less. less) (λ le. absurd (not le)) (lt_or_le m n)

-- The item is one of the puzzle, since else that would be the fault.
pub miscounted_is : (s : Setting) (node : Tree) (q : Prefix) (fault : NodeFault) (item : Item) → IsNodeFault s node q fault → miscounted_item node fault ≡ Some item → IsItem s.puzzle item
miscounted_is s (branch (items.Cell cell) children) q (faults.WrongCount fits said) item has is =
    subst (IsItem s.puzzle) (inside is) (below cell (cell_count s.puzzle.board) (λ le. omega (arith, (has.first faults.CellRange le).first)))
miscounted_is s (branch (items.Tile tile) children) q (faults.WrongCount fits said) item has is =
    subst (IsItem s.puzzle) (inside is) (below tile (length s.puzzle.words) (λ le. omega (arith, (has.first faults.TileRange le).first)))
miscounted_is s (dead (items.Cell cell)) q (faults.NotDead fits) item has is =
    subst (IsItem s.puzzle) (inside is) (below cell (cell_count s.puzzle.board) (λ le. omega (arith, (has.first faults.CellRange le).first)))
miscounted_is s (dead (items.Tile tile)) q (faults.NotDead fits) item has is =
    subst (IsItem s.puzzle) (inside is) (below tile (length s.puzzle.words) (λ le. omega (arith, (has.first faults.TileRange le).first)))
miscounted_is s node q fault item has is = absurd cc

-- A path leads to one node.
pub one_node : (p : Task) (tree : Tree) (q : Prefix) (path : List ℕ) (a b : Tree) (u v : Prefix) → LeadsTo p tree q path a u → LeadsTo p tree q path b v → (a ≡ b) × (u ≡ v)
one_node p tree q [] a b u v c d = (c.0 ∙ sym d.0, c.1 ∙ sym d.1)
one_node p tree q (number ∷ path) a b u v (x, y, is, rest) (x', y', is', rest') =
    let same = same_child p tree q number x x' y y' is is' in
    one_node p x' y' path a b u v (subst (λ (t : Tree). LeadsTo p t y' path a u) same.0 (subst (λ (w : Prefix). LeadsTo p x w path a u) same.1 rest)) rest'

-- The path of a tree's fault leads to the node that has it.
pub leads_to_fault : (question : Question) (number : ℕ) (fault : TreeFault) (lemma : Piece) → slice_get question.lemmas number ≡ Some lemma → Occurs question (answers.Tree number fault)
    → (node : Tree) × (placed : Prefix) × LeadsTo question.puzzle lemma.tree (start_of question.puzzle lemma) fault.path node placed × IsNodeFault (setting_at question number) node placed fault.fault
leads_to_fault question number fault lemma at (lemma', at', fails) =
    let same : lemma' ≡ lemma = inside (sym at' ∙ at) in
    fault_path (setting_at question number) lemma.tree (start_of question.puzzle lemma) fault.path fault.fault
    (subst (λ (l : Piece). FailsAt (setting_at question number) l.tree (start_of question.puzzle l) fault.path fault.fault) same fails)

-- The node that the path leads to has the fault.
pub has_fault : (question : Question) (number : ℕ) (fault : TreeFault) (lemma : Piece) (node : Tree) (placed : Prefix) → slice_get question.lemmas number ≡ Some lemma → Occurs question (answers.Tree number fault)
    → LeadsTo question.puzzle lemma.tree (start_of question.puzzle lemma) fault.path node placed → IsNodeFault (setting_at question number) node placed fault.fault
has_fault question number fault lemma node placed at occurs leads =
    let (node', placed', leads', has) = leads_to_fault question number fault lemma at occurs in
    let same = one_node question.puzzle lemma.tree (start_of question.puzzle lemma) fault.path node' node placed' placed leads' leads in
    subst (λ (n : Tree). IsNodeFault (setting_at question number) n placed fault.fault) same.0 (subst (λ (u : Prefix). IsNodeFault (setting_at question number) node' u fault.fault) same.1 has)

-- four parts, one after the other
pub four_parts : (a b c d : List ℕ) → ((a ++ b) ++ c) ++ d ≡ a ++ (b ++ (c ++ d))
four_parts a b c d = simp append_assoc refl
