use Rattle.std.proofs.Common.{subst}
use Rattle.xcc_form.specs.Chosen.{IsSelection}
use Rattle.xcc_links.specs.LinkStates.{LinkState}
use Rattle.xcc_links.proofs.LinkLemmas.{selection_is}
use Rattle.xcc_links.proofs.links.Links.chosen.Goals as goal

pub returns-clause-right : goal.returns-clause-right
returns-clause-right c =
    let i = c.self.inside in
    subst (λ (s : LinkState). IsSelection s.compiled s.chosen) c.self.view_is (selection_is i.xcc.now i.table i.arrays i.marks.items i.chosen.items c.self.invariant)
