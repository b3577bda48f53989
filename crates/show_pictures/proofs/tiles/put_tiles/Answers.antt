use Rattle.std.proofs.Common.{refl, subst, ◌∙◌}
use Rattle.show_pictures.specs.Grown.{IsWrapped}
use Rattle.show_pictures.proofs.GrownLemmas.{wrapped_both}
use Rattle.show_pictures.proofs.tiles.put_tiles.Goals as goal

pub returns : goal.returns
returns c =
    let canvas = c.args.canvas.now in
    let lines = subst (λ t. IsWrapped t c.args.text.now.items c.put_group.new.text.items) c.deref.ensures.value c.in_ok-put_group.ensures in
    let arrows =
    subst (λ t. IsWrapped t c.put_lines_above.new.text.items c.put_group-2.new.text.items) (c.deref-2.ensures.value ∙ c.in_ok-arrows.ensures) c.in_ok-put_group-2.ensures in
    let both = wrapped_both lines c.in_ok-put_lines_above.ensures arrows in (
      _,
      record {
        parts = c.in_ok-parts.parts.items;
        are_parts = c.in_ok-parts.ensures;
        between = _;
        written = refl;
      },
      both,
    )
