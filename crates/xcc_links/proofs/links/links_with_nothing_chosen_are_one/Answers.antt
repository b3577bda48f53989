use Rattle.std.proofs.Common.{◌∙◌, ap, sym}
use Rattle.xcc_links.specs.LinkStates.{LinkState}
use Rattle.xcc_links.proofs.NothingChosenLemmas.{states_are_one}
use Rattle.xcc_links.proofs.links.links_with_nothing_chosen_are_one.Goals as goal

pub returns : goal.returns
returns c =
    let i = c.second.inside in
    let j = c.first.inside in
    let same = ap (λ (s : LinkState). s.compiled) c.second.view_is ∙ c.requires.compiled ∙ sym (ap (λ (s : LinkState). s.compiled) c.first.view_is) in
    let none = ap (λ (s : LinkState). s.chosen) c.second.view_is ∙ c.requires.second in
    let none' = ap (λ (s : LinkState). s.chosen) c.first.view_is ∙ c.requires.first in
    sym c.second.view_is
    ∙ states_are_one i.xcc.now j.xcc.now i.table j.table i.arrays j.arrays i.marks.items j.marks.items i.chosen.items j.chosen.items c.second.invariant c.first.invariant same none none'
    ∙ c.first.view_is
