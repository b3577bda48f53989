-- What a walk of a tree says.
use Rattle.std.specs.Prelude.{◌≡◌, ◌<◌, ◌≤◌, ◌^◌, ℕ, List, [], ◌∷◌, Option, Some, None, MatchOption, length, slice_get}
use Rattle.match_limits.specs.First.{IsLeast}
use Rattle.match_puzzle.specs.Puzzle.{Task}
use Rattle.match_puzzle.specs.Arrangement.{IsArrangement, AreArrangements, AreDistinct}
use Rattle.match_puzzle.specs.ArrangementFaults.{IsArrangementFault}
use Rattle.match_puzzle.specs.Prefix.{Prefix, Layout, with_pair}
use Rattle.match_puzzle.specs.Fitting.{AreFitting, IsItem}
use Rattle.match_puzzle.specs.declared.faults.ArrangementFault.{ArrangementFault}
use Rattle.match_puzzle.specs.declared.items.Item.{Item}
use Rattle.match_puzzle.specs.declared.placements.Placement.{Placement}
use Rattle.match_puzzle.specs.declared.placements.Pair.{Pair}
use Rattle.cert_tree.specs.Tree.{Tree, Forest, count}
use Rattle.cert_tree.specs.Heads.{first, past}
use Rattle.cert_tree.specs.Certificate.{Piece}
use Rattle.cert_check.specs.declared.faults.NodeFault.{NodeFault}
use Rattle.cert_check.specs.declared.faults.TreeFault.{TreeFault}
use Rattle.cert_check.specs.declared.forks.Part.{Part}
use Rattle.cert_check.specs.Setting.{Question, Setting, setting_at}
use Rattle.cert_check.specs.NodeRules.{Holds}
use Rattle.cert_check.specs.TreeFaults.{FailsAt}
use Rattle.cert_check.specs.Derivation.{start_of}
use Rattle.cert_check.specs.Answer.{RepeatsEarlier}
use Rattle.cert_check.specs.Lists.{IsFirstBad, TellsOfAll}

-- What is said of a tree: that it holds, or its first fault.
abbrev pub Tells : Setting → Tree → Prefix → Option TreeFault → Type 0
Tells s tree q said = MatchOption said (Holds s tree q) (λ fault. FailsAt s tree q fault.path fault.fault)

-- What is said of a node's own faults is said of a tree that it is the first node of.
abbrev pub IsAtTop : Option NodeFault → Option TreeFault → Type 0
IsAtTop None said = said ≡ None
IsAtTop (Some fault) said = said ≡ Some (record { path = []; fault = fault })

-- A fault of a tree whose child with this number has this one.
abbrev pub below : ℕ → TreeFault → TreeFault
below number fault = record { path = number ∷ fault.path; fault = fault.fault }

-- The item is one of the puzzle, at least `number` pairs fit and settle it, and there are at least `number` trees.
pub record HasChildren (s : Setting) (w : Layout) (item : Item) (trees : Forest) (number : ℕ) : Type 0 where
  pub made : w.puzzle ≡ s.puzzle
  pub is : IsItem w.puzzle item
  pub fitting : (pairs : List Pair) → AreFitting w.puzzle w.placed item pairs → number ≤ length pairs
  pub counted : number ≤ count trees
  pub few : number < 2 ^ 16

-- The child with this number holds where the pair with this number is placed.
abbrev pub ChildHolds : Setting → Forest → Prefix → List Pair → ℕ → Type 0
ChildHolds s children q pairs number =
    (x : Pair) × (slice_get pairs number ≡ Some x)
    × Holds s (first (past number children)) (with_pair q x.cell x.placement)

-- It has this fault there, at the end of the path.
abbrev pub ChildFails : Setting → Forest → Prefix → List Pair → ℕ → List ℕ → NodeFault → Type 0
ChildFails s children q pairs number path fault =
    (x : Pair) × (slice_get pairs number ≡ Some x)
    × FailsAt s (first (past number children)) (with_pair q x.cell x.placement) path fault

-- The children from the first number up to the other hold.
abbrev pub ChildrenHold : Setting → Forest → Prefix → List Pair → (start end : ℕ) → Type 0
ChildrenHold s children q pairs start end =
    (number : ℕ) → start ≤ number → number < end → ChildHolds s children q pairs number

-- The fault is in one of these children, and those before it hold.
pub record IsFaultOfChildren (s : Setting) (children : Forest) (q : Prefix) (pairs : List Pair) (start end : ℕ)
    (fault : TreeFault) : Type 0 where
  pub number : ℕ
  pub path : List ℕ
  pub is : fault.path ≡ number ∷ path
  pub within : (start ≤ number) × (number < end)
  pub before : ChildrenHold s children q pairs start number
  pub fails : ChildFails s children q pairs number path fault.fault

-- What is said of some children of a branch on the item, from the first number up to the other: that each holds, or the
-- first fault.
abbrev pub TellsOfChildren : Setting → Item → Forest → Prefix → (start end : ℕ) → Option TreeFault → Type 0
TellsOfChildren s item children q start end said =
    (pairs : List Pair) × AreFitting s.puzzle q item pairs
    × MatchOption said (ChildrenHold s children q pairs start end) (IsFaultOfChildren s children q pairs start end)

-- The part is of the children of a branch.
pub record IsPart (part : Part) : Type 0 where
  pub children : HasChildren part.setting.now part.partial.now part.item part.trees.now part.end
  pub range : part.start ≤ part.end

-- What is said of the children that a part is of: that each holds, or the first fault.
abbrev pub TellsOfPart : Part → Option TreeFault → Type 0
TellsOfPart part =
    TellsOfChildren part.setting.now part.item part.trees.now part.partial.now.placed part.start part.end

-- What is said of the tree of the lemma with this number, at its prefix.
abbrev pub TellsOfLemma : Question → ℕ → Option TreeFault → Type 0
TellsOfLemma question number said =
    (lemma : Piece) × (slice_get question.lemmas number ≡ Some lemma)
    × Tells (setting_at question number) lemma.tree (start_of question.puzzle lemma) said

-- What is said of all trees: that each holds, or the first that doesn't, with its first fault.
abbrev pub TellsOfTrees : Question → Option (ℕ × TreeFault) → Type 0
TellsOfTrees question =
    TellsOfAll (λ n lemma. Holds (setting_at question n) lemma.tree (start_of question.puzzle lemma))
    (λ n lemma fault.
    FailsAt (setting_at question n) lemma.tree (start_of question.puzzle lemma) fault.path fault.fault)
    question.lemmas

-- What is said of the members of the list: that each is an arrangement, or the first that isn't, with its first fault.
abbrev pub TellsOfArrangements : Task → List (List Placement) → Option (ℕ × ArrangementFault) → Type 0
TellsOfArrangements p listed said =
    MatchOption said (AreArrangements p listed)
    (λ r. IsFirstBad (λ n a. IsArrangement p a) (λ n a fault. IsArrangementFault p a fault) listed r.0 r.1)

-- What is said of repetitions in a list: that there are none, or the first that equals an earlier one.
abbrev pub TellsOfRepeats : List (List Placement) → Option ℕ → Type 0
TellsOfRepeats listed said = MatchOption said (AreDistinct listed) (IsLeast (RepeatsEarlier listed))
