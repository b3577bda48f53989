use Rattle.cert_text.specs.TreeText.{tree_by}
use Rattle.cert_text.proofs.TreeReadingLemmas.{tree_reads, tree_whole, tree_behind}
use Rattle.cert_text.proofs.tree_readers.tree.Goals as goal

pub returns-clause-reads : goal.returns-clause-reads
returns-clause-reads c = tree_reads c.node.result c.node.new.scan c.args.heads.now.items c.node.new.heads.items (tree_by c.args.ranges.now c.args.ranges.now.most_levels c.args.scan.now) c.node.ensures

pub returns-clause-tree : goal.returns-clause-tree
returns-clause-tree c = tree_whole c.node.result c.node.new.scan c.args.heads.now.items c.node.new.heads.items (tree_by c.args.ranges.now c.args.ranges.now.most_levels c.args.scan.now) c.node.ensures

pub returns-clause-behind : goal.returns-clause-behind
returns-clause-behind c = tree_behind c.node.result c.node.new.scan c.args.heads.now.items c.node.new.heads.items (tree_by c.args.ranges.now c.args.ranges.now.most_levels c.args.scan.now) c.node.ensures
