use Rattle.std.proofs.Common.{◌≡◌, List, drop}
use Rattle.match_puzzle.specs.Fitting.{AreFitting}
use Rattle.match_puzzle.specs.declared.placements.Pair.{Pair}
use Rattle.cert_check.proofs.scenes.pairs_from.Given as goal

-- So many pairs were taken.
abbrev pub invariant-loop : goal.invariant-loop
invariant-loop l = (xs : List Pair) × AreFitting l.partial.puzzle l.partial.placed l.fn.item xs × (l.pairs ≡ drop l.counter xs)
