use Rattle.std.proofs.Common.{arith, ap, ◌∙◌}
use Rattle.show_pictures.proofs.SiteLemmas.{site_more, no_site_more}
use Rattle.show_pictures.proofs.sites.add_row.Goals as goal
use Rattle.show_pictures.proofs.sites.add_row.Goals.{then-is_filled+in_ok-push, else-is_filled}

pub loop-place-preserved : goal.loop-place-preserved
loop-place-preserved c =
    let s = c.args.figure.now in
    let row = c.args.row in
    let place = c.loop-place.place in
    elim c.if-is_filled.branch [
      | then-is_filled+in_ok-push w ↦ site_more s row place _ _ _ c.requires.row (omega (arith, c.loop-place-test.true, c.row_length-place-end.ensures)) w.if-is_filled.ensures w.site_of.ensures (ap (λ v. v.items) w.sites-is ∙ w.in_ok-push.ensures.items) c.loop-place.invariant
      | else-is_filled w ↦ no_site_more s row place _ _ w.if-is_filled.ensures (ap (λ v. v.items) w.sites-is) c.loop-place.invariant
    ]
