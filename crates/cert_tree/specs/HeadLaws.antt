-- What holds of trees and their heads.
use Rattle.std.specs.Prelude.{◌≡◌, List, ◌++◌}
use Rattle.cert_tree.specs.declared.heads.Head.{Head}
use Rattle.cert_tree.specs.Tree.{Tree, Forest}
use Rattle.cert_tree.specs.Heads.{heads_of, heads_in, trees_in, AreWhole}

-- No tree's heads begin another's, whatever follows.
abbrev pub HaveOneReading : Type 0
HaveOneReading =
    (tree other : Tree) (rest others : List Head) → heads_of tree ++ rest ≡ heads_of other ++ others
    → (tree ≡ other) × (rest ≡ others)

-- Trees are read back from their heads.
abbrev pub AreReadBack : Type 0
AreReadBack = (trees : Forest) → trees_in (heads_in trees) ≡ trees

-- Heads that each have their children after them are those of the trees that are read.
abbrev pub AreOfTheirTrees : Type 0
AreOfTheirTrees = (list : List Head) → AreWhole list → heads_in (trees_in list) ≡ list
