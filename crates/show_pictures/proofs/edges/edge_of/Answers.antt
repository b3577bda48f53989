use Rattle.std.proofs.Common.{◌<◌, ◌∙◌, Less, Equal, Greater, subst, sym}
use Rattle.std.proofs.lemmas.Cmp.{ranked}
use Rattle.show_pictures.proofs.edges.edge_of.Goals as goal

pub returns-in-Equal : goal.returns-in-Equal
returns-in-Equal c = sym c.mate-mate.ensures.mate ∙ sym (ranked c.args.colour c.mate-mate.result Equal (sym c.in-Equal.is ∙ c.cmp.ensures))

pub returns-in-Less : goal.returns-in-Less
returns-in-Less c = subst (λ mate. c.args.colour < mate) c.mate-mate.ensures.mate (ranked c.args.colour c.mate-mate.result Less (sym c.in-Less.is ∙ c.cmp.ensures))

pub returns-in-Greater : goal.returns-in-Greater
returns-in-Greater c = subst (λ mate. mate < c.args.colour) c.mate-mate.ensures.mate (ranked c.args.colour c.mate-mate.result Greater (sym c.in-Greater.is ∙ c.cmp.ensures))
