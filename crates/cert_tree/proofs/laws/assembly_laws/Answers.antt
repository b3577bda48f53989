use Rattle.cert_tree.proofs.OrderLemmas.{one_in_any_order}
use Rattle.cert_tree.specs.Certificate.{piece_number}
use Rattle.cert_tree.proofs.laws.assembly_laws.Goals as goal

pub returns : goal.returns
returns c = record { pieces = one_in_any_order piece_number }
