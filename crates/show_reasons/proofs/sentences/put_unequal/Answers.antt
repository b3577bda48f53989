use Rattle.show_reasons.proofs.TextLemmas.{five_pieces}
use Rattle.show_reasons.proofs.sentences.put_unequal.Goals as goal

pub returns : goal.returns
returns c = five_pieces _ _ _ _ _ _ c.in_ok-put_named.ensures c.in_ok-put_sides.ensures c.in_ok-put_named-2.ensures c.in_ok-put_counted.ensures c.in_ok-extend_from_slice.ensures.items
