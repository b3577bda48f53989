use Rattle.show_reasons.proofs.ReasonLemmas.{none_of_even}
use Rattle.show_reasons.proofs.colours.odd_reason.Goals as goal

pub returns : goal.returns
returns c = λ p inside counted own. none_of_even p c.args.colour c.args.left counted c.if-left-eq1.false own
