use Rattle.std.proofs.Common.{◌≡◌}
use Rattle.giving_crew.specs.LiveHands.{Gave}
use Rattle.solver.proofs.strategy.choices.Choices.give_planned.Given as goal

abbrev pub invariant-loop-prefix : goal.invariant-loop-prefix
invariant-loop-prefix g l = record {
  same : l.self.hand.ghost_name ≡ l.initial.self.hand.ghost_name;
  gave : Gave l.initial.self.hand.now l.self.hand.now;
}
