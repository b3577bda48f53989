use Rattle.std.proofs.Common.{◌≡◌, ◌+◌, ◌∙◌, All, Vec, Global, ℕ, suc, ap, arith, length, vec_len, subst}
use Rattle.std.proofs.lemmas.List.Elements.{All-head, All-rest}
use Rattle.crew_machine.specs.Counts.{times}
use Rattle.steal_crew.specs.Results.{AreDone}
use Rattle.crew_machine.proofs.CountLemmas.{tallies_more}
use Rattle.steal_crew.proofs.results.enter_all.Goals as goal

pub loop-done-preserved : goal.loop-done-preserved
loop-done-preserved g c = let inv = c.loop-done.invariant in let steps = c.in-Some.ensures.steps.0 in
    let one : length c.loop-done.done-iterator.rest.items ≡ suc (length c.next.new.self.rest.items) = ap length steps in record {
      belong = λ work are_done entered.
          let old = inv.belong work are_done entered in
          let P = λ (done : Vec (ℕ × _) Global). AreDone (g.W.Work.gives work) done.items in (
            All-rest P c.in-Some.done c.next.new.self.rest.items _ steps old.0,
            c.in_ok-tally.ensures.slots work (All-head P c.in-Some.done c.next.new.self.rest.items (subst (All P) steps old.0)) old.1,
          );
      slots_len = c.in_ok-tally.ensures.len ∙ inv.slots_len;
      tallies = λ x. tallies_more (λ (t : Vec ℕ Global). times x t.items) c.loop-done.tallies.items _ c.in_ok-tally.tally _ _ _ c.in_ok-push.ensures.items (inv.tallies x) (c.in_ok-tally.ensures.tally x);
      len = (let k : vec_len c.loop-done.tallies + length c.loop-done.done-iterator.rest.items ≡ length c.args.brought.items = inv.len in let a : vec_len c.push.new.self ≡ vec_len c.loop-done.tallies + 1 = c.in_ok-push.ensures.len in omega arith);
    }

pub returns-clause-slots : goal.returns-clause-slots
returns-clause-slots g c = λ work are_done entered. (c.loop-done.invariant.belong work are_done entered).1
