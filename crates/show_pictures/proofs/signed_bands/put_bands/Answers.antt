use Rattle.std.proofs.Common.{subst}
use Rattle.show_pictures.specs.Grown.{IsWrapped}
use Rattle.show_pictures.proofs.GrownLemmas.{wrapped_more}
use Rattle.show_pictures.proofs.signed_bands.put_bands.Goals as goal

pub returns : goal.returns
returns c =
    let lines = subst (λ t. IsWrapped t c.args.text.now.items c.put_group.new.text.items) c.deref.ensures.value c.in_ok-put_group.ensures in
    (c.in_ok-bands.bands.items, c.in_ok-bands.ensures, wrapped_more lines c.in_ok-put_signs.ensures)
