use Rattle.std.proofs.Common.{◌≡◌, ◌+◌, ◌≤◌, All, length, vec_len}
use Rattle.match_limits.specs.declared.TheConstants.{MOST_ARRANGEMENTS}
use Rattle.piece_desk.specs.FlatDesks.{IsOfFlat}
use Rattle.match_puzzle.specs.Arrangement.{AreArrangements}
use Rattle.solver.specs.Solving.{IsOutcomeOf}
use Rattle.solver.proofs.solves.collect.Given as goal

abbrev pub invariant-loop-searched : goal.invariant-loop-searched
invariant-loop-searched l = record {
  rest : All (IsOutcomeOf l._puzzle l._desk) l.searched-iterator.rest.items;
  receipts : All (λ receipt. IsOfFlat l._desk receipt) l.collected.receipts.items;
  many : vec_len l.collected.first + length l.searched-iterator.rest.items ≡ length l.fn.results.items;
  first : All (λ n. n ≤ MOST_ARRANGEMENTS) l.collected.first.items;
  listed : AreArrangements l._puzzle l.collected.listed.items;
  few : vec_len l.collected.listed ≤ MOST_ARRANGEMENTS;
}
