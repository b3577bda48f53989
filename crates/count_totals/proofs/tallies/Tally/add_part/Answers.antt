use Rattle.std.proofs.Common.{arith, sym, refl, subst}
use Rattle.count_totals.specs.Tallies.{TellCounts}
use Rattle.count_totals.proofs.CountLemmas.{none_there}
use Rattle.count_totals.proofs.TallyLemmas.{counts_first, more_counts}
use Rattle.count_totals.proofs.tallies.Tally.add_part.Goals as goal

pub returns-then-is_empty : goal.returns-then-is_empty
returns-then-is_empty c = λ before tells. more_counts c.args.self.now _ before c.args.part refl refl (subst (TellCounts _) (sym c.in_ok-self.ensures) (counts_first before c.args.part c.args.self.now.counts.items (let none = none_there _ c.if-is_empty.ensures in omega (arith, none, c.args.self.now.counts.ok.0)) c.requires.0 c.requires.1 tells.counts)) tells
