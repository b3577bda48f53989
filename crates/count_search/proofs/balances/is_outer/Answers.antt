use Rattle.std.proofs.Common.{◌∙◌, sym}
use Rattle.std.proofs.lemmas.Option.{none-some}
use Rattle.count_search.proofs.balances.is_outer.Goals as goal

pub returns-in-None : goal.returns-in-None
returns-in-None c = λ other met m. none-some (other, met) (sym c.in-None.is ∙ c.meets.ensures.only other met m)
