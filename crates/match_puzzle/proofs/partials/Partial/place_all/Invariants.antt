use Rattle.std.proofs.Common.{◌≡◌, take}
use Rattle.match_puzzle.specs.Prefix.{empty_prefix, with_pairs}
use Rattle.match_puzzle.proofs.partials.Partial.place_all.Given as goal

abbrev pub invariant-loop-pair : goal.invariant-loop-pair
invariant-loop-pair l = l.self ≡ record { puzzle = l.initial.self.puzzle; placed = with_pairs (take l.pair-index l.pairs) (empty_prefix l.initial.self.puzzle) }
