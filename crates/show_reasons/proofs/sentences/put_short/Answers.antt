use Rattle.show_reasons.proofs.TextLemmas.{four_pieces}
use Rattle.show_reasons.proofs.sentences.put_short.Goals as goal

pub returns : goal.returns
returns c = four_pieces _ _ _ _ _ c.in_ok-put_named.ensures c.in_ok-put_sides.ensures c.in_ok-put_counted.ensures c.in_ok-extend_from_slice.ensures.items
