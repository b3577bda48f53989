use Rattle.std.proofs.Common.{IfOk, IfSome, MatchOption, ap, subst}
use Rattle.xcc_form.specs.Options.{cover_of}
use Rattle.xcc_form.specs.Chosen.{Selection, IsUncovered, AreAllCovered}
use Rattle.xcc_dance.proofs.paths.SearchPath.choose_item.Goals as goal

pub returns-clause-uncovered : goal.returns-clause-uncovered
returns-clause-uncovered g c = subst (λ (v : Selection). IfOk c.choose_item.result (λ o. MatchOption o (AreAllCovered (cover_of v.compiled) v.chosen) (IsUncovered (cover_of v.compiled) v.chosen))) (ap g.E.OpenOptions.selection c.self.view_is) c.choose_item.ensures.uncovered

pub returns-clause-picked : goal.returns-clause-picked
returns-clause-picked g c = subst (λ (v : Selection). IfOk c.choose_item.result (λ o. IfSome o (g.R.Chooses.picks c.args.rule.now v))) (ap g.E.OpenOptions.selection c.self.view_is) c.choose_item.ensures.picked
