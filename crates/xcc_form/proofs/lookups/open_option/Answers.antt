use Rattle.std.proofs.Common.{◌<◌, None, Some, IfSome, length, refl, sym, subst}
use Rattle.xcc_form.specs.Options.{cover_of}
use Rattle.xcc_form.specs.Clashes.{IsOpenAt}
use Rattle.xcc_form.proofs.NextLemmas.{left_after, left_smaller, comes_after, some_open}
use Rattle.xcc_form.proofs.lookups.open_option.Goals as goal

pub loop-next-init : goal.loop-next-init
loop-next-init g c =
    let s = g.E.OpenOptions.selection c.args.engine.now in
    some_open s s c.args.item None c.next_option-next.result refl c.next_option-next.ensures

pub loop-next-preserved : goal.loop-next-preserved
loop-next-preserved g c =
    let s = g.E.OpenOptions.selection c.args.engine.now in
    some_open s s c.args.item (Some c.in-Some.option) c.next_option-next-in-Some.result refl c.next_option-next-in-Some.ensures

pub loop-next-smaller : goal.loop-next-smaller
loop-next-smaller g c =
    let s = g.E.OpenOptions.selection c.args.engine.now in
    let options = length (cover_of s.compiled).options in
    let is_open = subst (λ o. IfSome o (IsOpenAt (cover_of s.compiled) s.chosen c.args.item)) c.in-Some.is c.loop-next.invariant in
    subst (λ o. left_after options c.next_option-next-in-Some.result < left_after options o) (sym c.in-Some.is)
    (left_smaller options c.in-Some.option c.next_option-next-in-Some.result is_open.open_option.real (comes_after s c.args.item c.in-Some.option c.next_option-next-in-Some.result c.next_option-next-in-Some.ensures))
