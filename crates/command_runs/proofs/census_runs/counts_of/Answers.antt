use Rattle.std.proofs.Common.{◌≡◌, ◌∙◌, ◌≤◌, ◌+◌, ◌∷◌, [], length, length-append, arith, ap, ap₂, subst, sym}
use Rattle.std.proofs.lemmas.Result.{err_from_is_err_and}
use Rattle.command_words.specs.Parts.{parts_with}
use Rattle.command_words.specs.declared.orders.Extent.TheVariants as extents
use Rattle.xcc_form.specs.Chosen.{IsSelection}
use Rattle.count_search.specs.Branches.{AllChoose, HaveTogether, every}
use Rattle.count_search.proofs.PartLemmas.{every_fewer, part_chooses}
use Rattle.command_runs.specs.Census.{AreNotCounted, part_of}
use Rattle.command_runs.proofs.CensusLemmas.{have_more, have_none, part_fails}
use Rattle.command_runs.proofs.census_runs.counts_of.Goals.{In_ok-dealt}
use Rattle.command_runs.proofs.census_runs.counts_of.Goals as goal

-- what is dealt to the part
dealt : (g : _) (c : In_ok-dealt g) → c.in_ok-dealt.dealt.items ≡ part_of c.args.parts.now c.loop-later.later c.args.branches.now
dealt g c = c.in_ok-dealt.ensures ∙ ap₂ (λ all part. every all (part + c.loop-later.later) c.args.branches.now) c.count.ensures.parts c.earlier.ensures.before

pub counted_together-requires-clause-selections : goal.counted_together-requires-clause-selections
counted_together-requires-clause-selections g c κs within =
    let at = (goal.at.counted_together-requires-clause-selections g c).In_ok-dealt in
    let x = c.args.xcc.now in
    let parts = c.args.parts.now in
    subst (AllChoose (IsSelection x)) (sym (dealt g at)) (part_chooses (IsSelection x) (parts_with parts) (parts.before + c.loop-later.later) c.args.branches.now c.requires.selections)

pub counted_together-requires-clause-few : goal.counted_together-requires-clause-few
counted_together-requires-clause-few g c κs within =
    let at = (goal.at.counted_together-requires-clause-few g c).In_ok-dealt in
    let parts = c.args.parts.now in
    let long = ap length (dealt g at) in
    let fewer = every_fewer (parts_with parts) (parts.before + c.loop-later.later) c.args.branches.now in
    let few = c.requires.few in
    let len = c.in_ok-dealt.dealt.ok.0 in
    omega (arith, long, fewer, few, len)

pub returns-in_err-count-clause-fails : goal.returns-in_err-count-clause-fails
returns-in_err-count-clause-fails g c =
    let at = (goal.at.returns-in_err-count-clause-fails g c).In_ok-dealt in
    let w = err_from_is_err_and c.from_residual-in_err-count.result c.from_residual-in_err-count.ensures.1 in
    let x = c.args.xcc.now in
    let fault = c.in_err-count.field-0.0 in
    let lt = c.loop-later-test.true in
    let chosen = c.chosen-later-end.ensures.chosen in
    let within : c.loop-later.later ≤ c.args.parts.now.more = omega (arith, lt, chosen) in
    rw (w.1, w.2) (part_fails x c.args.branches.now c.args.parts.now c.loop-later.later within fault (subst (λ branches. AreNotCounted extents.All x branches fault) (dealt g at) c.in_err-count.ensures.fails))

pub loop-later-init : goal.loop-later-init
loop-later-init g c = record {
  long = ap length c.new-counts.ensures.items;
  each = have_none c.args.xcc.now c.args.branches.now c.args.parts.now c.new-counts.result.items c.new-counts.ensures.items;
}

pub loop-later-preserved : goal.loop-later-preserved
loop-later-preserved g c =
    let at = (goal.at.loop-later-preserved g c).In_ok-dealt in
    let x = c.args.xcc.now in
    let branches = c.args.branches.now in
    let parts = c.args.parts.now in
    let counts = c.loop-later.counts.items in
    let count = c.in_ok-count.count in
    let long = c.loop-later.invariant.long in
    let pushed = c.in-Ok.ensures.items in
    let have = subst (λ bs. HaveTogether x bs count) (dealt g at) c.in_ok-count.ensures.counted in
    record {
      long = (let more = ap length pushed in let one = length-append counts (count ∷ []) in omega (arith, more, one, long));
      each = have_more x branches parts counts c.push.new.self.items count pushed c.loop-later.invariant.each (subst (λ later. HaveTogether x (part_of parts later branches) count) (sym long) have);
    }

pub returns-clause-counted : goal.returns-clause-counted
returns-clause-counted g c = record {
  all = (let long = c.loop-later.invariant.long in let past = c.loop-later-test.false in let within = c.loop-later.auto.later-end in let chosen = c.chosen-later-end.ensures.chosen in omega (arith, long, past, within, chosen));
  each = c.loop-later.invariant.each;
}
