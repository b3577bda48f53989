use Rattle.std.proofs.Common.{◌<◌, None, Some, IfSome, length, refl, ap, sym, ◌∙◌, subst}
use Rattle.xcc_form.specs.Options.{cover_of}
use Rattle.xcc_form.specs.Clashes.{IsOpen, IsOpenAt}
use Rattle.xcc_form.specs.Chosen.{Selection, IsUncovered}
use Rattle.xcc_form.proofs.NextLemmas.{left_after, left_smaller, comes_after, some_open}
use Rattle.xcc_form.proofs.chooses.left_by_all.Goals as goal

pub loop-next-init : goal.loop-next-init
loop-next-init g c =
    let s = g.E.OpenOptions.selection c.args.engine.now in
    record { same = refl; next = some_open s s c.args.item None c.next_option-next.result refl c.next_option-next.ensures }

pub left_by-requires : goal.left_by-requires
left_by-requires g c =
    let s = g.E.OpenOptions.selection c.args.engine.now in
    let is_open = subst (λ o. IfSome o (IsOpenAt (cover_of s.compiled) s.chosen c.args.item)) c.in-Some.is c.loop-next.invariant.next in
    subst (λ (v : Selection). IsOpen (cover_of v.compiled) v.chosen c.in-Some.option) (sym (ap g.E.OpenOptions.selection c.loop-next.invariant.same)) is_open.open_option

pub next_option-next-requires-in-Some-clause-item : goal.next_option-next-requires-in-Some-clause-item
next_option-next-requires-in-Some-clause-item g c =
    subst (λ (v : Selection). IsUncovered (cover_of v.compiled) v.chosen c.args.item) (sym (ap g.E.OpenOptions.selection (c.left_by.ensures ∙ c.loop-next.invariant.same))) c.requires

pub next_option-next-requires-in-Some-clause-after : goal.next_option-next-requires-in-Some-clause-after
next_option-next-requires-in-Some-clause-after g c =
    let s = g.E.OpenOptions.selection c.args.engine.now in
    let is_open = subst (λ o. IfSome o (IsOpenAt (cover_of s.compiled) s.chosen c.args.item)) c.in-Some.is c.loop-next.invariant.next in
    subst (λ (v : Selection). IsOpenAt (cover_of v.compiled) v.chosen c.args.item c.in-Some.option) (sym (ap g.E.OpenOptions.selection (c.left_by.ensures ∙ c.loop-next.invariant.same))) is_open

pub loop-next-preserved : goal.loop-next-preserved
loop-next-preserved g c =
    let s = g.E.OpenOptions.selection c.args.engine.now in
    let same = c.left_by.ensures ∙ c.loop-next.invariant.same in
    record {
      same = same;
      next = some_open (g.E.OpenOptions.selection c.left_by.new.engine) s c.args.item (Some c.in-Some.option) c.next_option-next-in-Some.result (ap g.E.OpenOptions.selection same) c.next_option-next-in-Some.ensures;
    }

pub loop-next-smaller : goal.loop-next-smaller
loop-next-smaller g c =
    let s = g.E.OpenOptions.selection c.args.engine.now in
    let options = length (cover_of s.compiled).options in
    let is_open = subst (λ o. IfSome o (IsOpenAt (cover_of s.compiled) s.chosen c.args.item)) c.in-Some.is c.loop-next.invariant.next in
    subst (λ o. left_after options c.next_option-next-in-Some.result < left_after options o) (sym c.in-Some.is)
    (left_smaller options c.in-Some.option c.next_option-next-in-Some.result is_open.open_option.real (comes_after (g.E.OpenOptions.selection c.left_by.new.engine) c.args.item c.in-Some.option c.next_option-next-in-Some.result c.next_option-next-in-Some.ensures))

pub returns-in_err-left_by : goal.returns-in_err-left_by
returns-in_err-left_by g c = c.left_by.ensures ∙ c.loop-next.invariant.same

pub returns : goal.returns
returns g c = c.loop-next.invariant.same
