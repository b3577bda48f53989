use Rattle.std.proofs.Common.{◌∙◌, ◌||◌, ap₂}
use Rattle.command_words.proofs.BuildingLemmas.{one_more}
use Rattle.command_words.proofs.commands.command_of.Goals as goal

pub loop-argument-preserved : goal.loop-argument-preserved
loop-argument-preserved c =
    let before = c.loop-argument.invariant in
    let made = c.arg_of.ensures in
    let adds = c.in_ok-command.ensures in
    record {
      app = one_more c.args.table.now.arguments.now c.loop-argument.argument-index _ _ _ _ _ c.loop-argument-test.true (adds.shape made.local) made.rule before.app;
      local = adds.globals ∙ ap₂ (λ a b. a || b) before.local made.local;
    }
