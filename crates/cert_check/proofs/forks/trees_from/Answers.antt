use Rattle.std.proofs.Common.{arith, sym, ◌∙◌}
use Rattle.cert_check.proofs.ForkLemmas.{past_some, past_after}
use Rattle.cert_check.proofs.forks.trees_from.Goals as goal

pub skip-requires : goal.skip-requires
skip-requires c e = past_some c.loop.counter c.args.trees.now (let lt = c.loop-test.true in let le = c.requires in omega arith) (sym c.loop.invariant ∙ e)

pub loop-preserved : goal.loop-preserved
loop-preserved c = past_after c.loop.counter c.args.trees.now c.loop.rest c.skip.new.self c.loop.invariant c.skip.ensures
