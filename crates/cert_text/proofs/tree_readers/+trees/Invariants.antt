use Rattle.std.proofs.Common.{◌≡◌, ◌+◌, ◌-◌, ◌*◌, ◌++◌, List}
use Rattle.cert_tree.specs.Tree.{Tree}
use Rattle.cert_tree.specs.Heads.{heads_in}
use Rattle.cert_text.specs.TreeText.{forest, tree_by}
use Rattle.text_words.specs.Place.{times}
use Rattle.text_words.proofs.LoopLemmas.{with_front}
use Rattle.cert_text.proofs.tree_readers.+trees.Given as goal

-- the children of a node have one level less
abbrev pub decreases-node : goal.decreases-node
decreases-node l = 2 * l.room

abbrev pub decreases-nodes : goal.decreases-nodes
decreases-nodes l = 2 * l.room + 1

-- These trees were read, and their heads are behind the old ones.
abbrev pub invariant-nodes-loop : goal.invariant-nodes-loop
invariant-nodes-loop l =
    (trees : List Tree)
    × (with_front trees (times (l.count - l.counter) (tree_by l.ranges l.room) l.scan) ≡ times l.count (tree_by l.ranges l.room) l.fn.scan)
    × (l.heads.items ≡ l.fn.heads.items ++ heads_in (forest trees))
