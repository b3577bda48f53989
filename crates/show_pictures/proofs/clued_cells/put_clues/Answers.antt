use Rattle.std.proofs.Common.{subst}
use Rattle.show_pictures.specs.Grown.{IsWrapped}
use Rattle.show_pictures.proofs.GrownLemmas.{wrapped_grows, wrapped_more}
use Rattle.show_pictures.proofs.clued_cells.put_clues.Goals as goal

pub returns : goal.returns
returns c =
    let parts = subst (λ t. IsWrapped t c.args.text.now.items c.put_group.new.text.items) c.deref.ensures.value c.in_ok-put_group.ensures in
    let signed = wrapped_more parts (wrapped_grows c.in_ok-put_group-2.ensures) in
    (c.in_ok-parts.parts.items, c.in_ok-parts.ensures, wrapped_more signed (wrapped_grows c.in_ok-put_group-3.ensures))
