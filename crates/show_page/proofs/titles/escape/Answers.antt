use Rattle.std.proofs.Common.{◌∙◌, ap, arith}
use Rattle.std.specs.List.{flat_map}
use Rattle.show_page.specs.Titles.{entity, escaped}
use Rattle.show_page.proofs.JoiningLemmas.{all_ones}
use Rattle.show_page.proofs.titles.escape.Goals as goal

pub returns : goal.returns
unfolding escaped
returns c =
    let bytes = c.as_bytes-byte-items.result.now in
    c.loop-byte.invariant ∙ all_ones entity bytes c.loop-byte.byte-index (omega arith) ∙ ap (flat_map entity) c.as_bytes-byte-items.ensures.value
