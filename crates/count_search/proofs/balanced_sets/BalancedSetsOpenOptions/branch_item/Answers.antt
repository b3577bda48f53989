use Rattle.std.proofs.Common.{MatchOption, subst}
use Rattle.xcc_form.specs.Options.{cover_of}
use Rattle.xcc_form.specs.Chosen.{Selection, AreAllCovered, IsToBranchOn}
use Rattle.count_search.proofs.balanced_sets.BalancedSetsOpenOptions.branch_item.Goals as goal

pub returns : goal.returns
returns c = subst (λ (s : Selection). MatchOption c.branch_item.result (AreAllCovered (cover_of s.compiled) s.chosen) (IsToBranchOn (cover_of s.compiled) s.chosen)) c.self.view_is c.branch_item.ensures
