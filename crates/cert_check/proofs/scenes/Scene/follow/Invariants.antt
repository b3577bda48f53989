use Rattle.std.proofs.Common.{◌≡◌, ◌≢◌, drop, length}
use Rattle.match_board.specs.Board.{cell_count}
use Rattle.match_puzzle.specs.Prefix.{Prefix}
use Rattle.cert_tree.specs.Heads.{first}
use Rattle.cert_tree.specs.Tree.{Tree, none}
use Rattle.cert_check.specs.Scene.{LeadsTo}
use Rattle.cert_check.proofs.scenes.Scene.follow.Given as goal

-- The rest of the path leads from here to where the whole of it leads to.
abbrev pub invariant-loop-number : goal.invariant-loop-number
invariant-loop-number l = record {
  some : l.self.trees ≢ none;
  long : length l.self.partial.placed ≡ cell_count l.self.partial.puzzle.board;
  puzzle : l.self.partial.puzzle ≡ l.initial.self.partial.puzzle;
  leads : (node : Tree) × (placed : Prefix)
      × LeadsTo l.initial.self.partial.puzzle (first l.self.trees) l.self.partial.placed (drop l.number-index l.path) node placed
      × LeadsTo l.initial.self.partial.puzzle (first l.initial.self.trees) l.initial.self.partial.placed l.path node placed;
}
