use Rattle.std.proofs.Common.{◌≡◌, ◌++◌, ◌∷◌, [], ℕ, List, length, ap, sym, subst, ◌∙◌, arith}
use Rattle.crew_machine.specs.Counts.{times}
use Rattle.steal_crew.specs.Results.{AreDone, done_numbers}
use Rattle.steal_crew.proofs.QueueRuleLemmas.{all_more}
use Rattle.steal_crew.proofs.ResultLemmas.{done_more}
use Rattle.steal_crew.proofs.taking.work_at.Goals.{else-loop-test, then-loop-test+in_ok-reserve+in_default}
use Rattle.steal_crew.proofs.taking.work_at.Goals as goal

pub loop-preserved : goal.loop-preserved
loop-preserved g c =
    let entry : ℕ × g.row.W-R.Denot = (c.in-Some.number, c.in_ok-one.field-0) in
    let items = c.push_reserved.ensures.items ∙ ap (λ z. z ++ entry ∷ []) c.reserve.ensures.items in
    record {
      places = c.take_any.ensures.places;
      done = all_more (λ e. g.W.Work.gives c.args.work.now e.0 e.1) c.loop.done.items _ _ c.loop.invariant.done c.in_ok-one.ensures items;
      all = λ x. (let more = done_more c.loop.done.items _ entry items x in let before = c.loop.invariant.all x in let taken = c.in-Some.ensures.taken x in omega arith);
    }

pub loop-init : goal.loop-init
loop-init g c = record {
  places = c.requires.station.places;
  done = λ k d below. let none : length c.new-done.result.items ≡ 0 = ap length c.new-done.ensures.items in absurd (omega arith);
  all = λ x. ap (λ done. times x (done_numbers done)) c.new-done.ensures.items ∙ sym (c.requires.station.fresh x);
}

pub returns : goal.returns
returns g c = elim c.loop-test.branch [
  | else-loop-test w ↦ rw (w.places-is, w.done-is) (record {
    places = c.loop.invariant.places;
    done = c.loop.invariant.done;
    all = c.loop.invariant.all;
  })
  | then-loop-test+in_ok-reserve+in_default w ↦ rw (w.places-is, w.done-is) (record {
    places = w.take_any.ensures.places;
    done = subst (λ (done : List (ℕ × g.row.W-R.Denot)). AreDone (g.W.Work.gives c.args.work.now) done) (sym w.reserve.ensures.items) c.loop.invariant.done;
    all = λ x. (let same = ap (λ (done : List (ℕ × g.row.W-R.Denot)). times x (done_numbers done)) w.reserve.ensures.items in
        let before = c.loop.invariant.all x in let taken = w.in_default.ensures.taken x in omega arith);
  })
]
