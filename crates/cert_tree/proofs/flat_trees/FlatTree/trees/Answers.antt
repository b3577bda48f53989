use Rattle.std.proofs.Common.{ap, ◌∙◌}
use Rattle.cert_tree.specs.Tree.{more, none}
use Rattle.cert_tree.proofs.HeadLemmas.{one_tree}
use Rattle.cert_tree.proofs.flat_trees.FlatTree.trees.Goals as goal

pub of-requires : goal.of-requires
of-requires c = (one_tree c.self.inside.heads.now c.self.invariant).1

pub returns : goal.returns
returns c = c.of.ensures ∙ (one_tree c.self.inside.heads.now c.self.invariant).0 ∙ ap (λ tree. more tree none) c.self.view_is
