use Rattle.std.proofs.Common.{◌≡◌, ◌≤◌, ◌+◌, ◌*◌, ◌++◌, Contains, length}
use Rattle.match_limits.specs.declared.TheConstants.{MOST_CELLS, MOST_CHILDREN}
use Rattle.match_puzzle.specs.Puzzle.{IsLegal}
use Rattle.match_puzzle.specs.declared.placements.Pair.{Pair}
use Rattle.xcc_form.specs.Layout.{AreLaidOut}
use Rattle.xcc_form.proofs.lists.OptionLists.add_all.Given as goal

abbrev pub decreases-loop-pair : goal.decreases-loop-pair
decreases-loop-pair l = length l.fitting

abbrev pub invariant-loop-pair : goal.invariant-loop-pair
invariant-loop-pair l = record {
  laid_out : AreLaidOut l.puzzle l.shared l.self.pairs.items l.self.starts.items l.self.edges.items;
  legal : (x : Pair) → Contains l.fitting x → IsLegal l.puzzle x.placement;
  short : length l.self.pairs.items + length l.fitting ≤ MOST_CELLS * MOST_CHILDREN;
  rest : l.self.pairs.items ++ l.fitting ≡ l.initial.self.pairs.items ++ l.initial.fitting;
}
