use Rattle.std.proofs.Common.{◌∙◌, length, length-append, arith, ap}
use Rattle.xcc_links.specs.ArrayWords.{arrays_of, with_back}
use Rattle.xcc_links.proofs.ChoosingLemmas.{ok_holds}
use Rattle.xcc_links.proofs.LinkLemmas.{put_all_back, trail_put_back}
use Rattle.xcc_links.proofs.links.arrays.LinkArrays.hide_excluded.Goals as goal

pub show_back-requires-clause-mark : goal.show_back-requires-clause-mark
show_back-requires-clause-mark c =
    let old = c.args.self.now in
    let goes = c.commit_all.ensures.goes in
    omega (arith, c.len-mark.ensures, old.trail.ok.0, ap length goes.longer, length-append old.trail.items goes.more)

pub show_back-requires-clause-fits : goal.show_back-requires-clause-fits
show_back-requires-clause-fits c = c.commit_all.ensures.right.fits

pub show_back-requires-clause-options : goal.show_back-requires-clause-options
show_back-requires-clause-options c = c.commit_all.ensures.right.options

pub returns-then-is_err-clause-arrays : goal.returns-then-is_err-clause-arrays
returns-then-is_err-clause-arrays c =
    let old = c.args.self.now in
    let new = c.commit_all.new.self in
    c.show_back.ensures.back ∙ put_all_back (with_back c.args.table.now) (arrays_of old) old.trail.items (arrays_of new) new.trail.items c.len-mark.result (c.len-mark.ensures ∙ old.trail.ok.0) c.commit_all.ensures.goes

pub returns-then-is_err-clause-trail : goal.returns-then-is_err-clause-trail
returns-then-is_err-clause-trail c =
    let old = c.args.self.now in
    let new = c.commit_all.new.self in
    c.show_back.ensures.trail ∙ trail_put_back (with_back c.args.table.now) (arrays_of old) old.trail.items (arrays_of new) new.trail.items c.len-mark.result (c.len-mark.ensures ∙ old.trail.ok.0) c.commit_all.ensures.goes

pub returns-clause-all : goal.returns-clause-all
returns-clause-all c = ok_holds c.commit_all.result _ c.if-is_err.ensures.value c.commit_all.ensures.all

pub returns-clause-only : goal.returns-clause-only
returns-clause-only c = ok_holds c.commit_all.result _ c.if-is_err.ensures.value c.commit_all.ensures.only
