use Rattle.show_refusals.proofs.laws.missing_laws.Goals as goal

pub returns : goal.returns
returns c = λ question placed missing complete. let (a, unlisted, not) = missing in not (complete.reached a unlisted.arrangement)
