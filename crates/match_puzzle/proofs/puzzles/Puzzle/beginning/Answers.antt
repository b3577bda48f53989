use Rattle.std.proofs.Common.{ℕ, List, sym, subst}
use Rattle.match_puzzle.specs.Puzzle.{Task}
use Rattle.match_puzzle.specs.Prefix.{empty_prefix}
use Rattle.match_puzzle.specs.Partials.{AreAsking}
use Rattle.match_puzzle.proofs.puzzles.Puzzle.beginning.Goals as goal

pub returns-clause-asks : goal.returns-clause-asks
returns-clause-asks c =
    subst (λ (xs : List ℕ). AreAsking c.args.self.now (empty_prefix c.args.self.now) xs) (sym c.as_slice.ensures.value)
    (subst (λ (q : Task). AreAsking q (empty_prefix q) c.self.inside.tables.asks.items) c.self.view_is c.self.invariant.asks)
