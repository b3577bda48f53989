use Rattle.std.proofs.Common.{refl}
use Rattle.puzzle_maker.proofs.plain_plans.PlainDraft.new.Goals as goal

pub returns-in-Err-clause-misfit : goal.returns-in-Err-clause-misfit
returns-in-Err-clause-misfit c = c.in-Err.ensures.misfit c.args.rules.now c.args.draft.now refl
