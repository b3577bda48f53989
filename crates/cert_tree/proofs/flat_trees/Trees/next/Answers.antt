use Rattle.std.proofs.Common.{sym, ◌∙◌, arith}
use Rattle.cert_tree.proofs.HeadLemmas.{head_first, whole_rest, some_head, count-trees_in}
use Rattle.cert_tree.proofs.flat_trees.Trees.next.Goals as goal

pub unreachable-requires : goal.unreachable-requires
unreachable-requires c =
    let some = some_head c.self.inside.heads.now (λ e. c.requires (sym c.self.view_is ∙ e)) in
    let empty = c.in_default.ensures.cases in
    omega arith

pub invariant_of-self : goal.invariant_of-self
invariant_of-self c = (whole_rest c.self.inside.heads.now c.in-Some.head.now c.in-Some.rest.now c.in-Some.ensures.cases.0 c.self.invariant).1

pub returns-clause-first : goal.returns-clause-first
returns-clause-first c = head_first c.self.inside.heads.now c.in-Some.head.now c.in-Some.rest.now c.in-Some.ensures.cases.0 ∙ c.self.view_is

pub returns-clause-children : goal.returns-clause-children
returns-clause-children c = (whole_rest c.self.inside.heads.now c.in-Some.head.now c.in-Some.rest.now c.in-Some.ensures.cases.0 c.self.invariant).0

pub returns-clause-few : goal.returns-clause-few
returns-clause-few c =
    let told = c.self.told in
    let fewer = c.in-Some.ensures.cases.1 in
    omega (arith, count-trees_in c.in-Some.rest.now)
