use Rattle.std.proofs.Common.{◌∙◌, ap, subst, sym}
use Rattle.match_puzzle.specs.Fitting.{IsItem}
use Rattle.match_puzzle.specs.Puzzle.{Task}
use Rattle.cert_tree.specs.Heads.{first}
use Rattle.cert_tree.specs.Tree.{Forest}
use Rattle.show_refusals.specs.Explanation.{miscounted_item}
use Rattle.show_refusals.proofs.NodeLemmas.{miscounted_is}
use Rattle.show_refusals.proofs.node_explanations.put_what_fits.Goals as goal

pub put_fitting-requires : goal.put_fitting-requires
put_fitting-requires c =
    let scene = c.args.scene.now in
    let (s, made, has) = c.requires.fault in
    let (rest, is) = c.head.ensures in
    let item = sym (c.miscounted.ensures rest ∙ ap (λ (trees : Forest). miscounted_item (first trees) c.args.fault) is) ∙ c.in-Some.is in
    subst (λ (p : Task). IsItem p c.in-Some.item) made (miscounted_is s (first scene.trees) scene.partial.placed c.args.fault c.in-Some.item has item)
