use Rattle.cert_tree.specs.HeadCode.{trees_in-heads}
use Rattle.cert_tree.proofs.HeadLemmas.{heads_of-one, heads_of-rest, heads_in-trees_in}
use Rattle.cert_tree.proofs.laws.head_laws.Goals as goal

pub returns : goal.returns
returns c = record {
  one_reading = λ tree other rest others e. (heads_of-one tree other rest others e, heads_of-rest tree other rest others e);
  back = trees_in-heads;
  whole = heads_in-trees_in;
}
