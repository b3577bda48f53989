-- What a worker got more is what it put more.
use Rattle.std.proofs.Common.{◌≡◌, ℕ, ◌+◌, ◌-◌, List, [], ◌∷◌, ◌++◌, length, length-append, All, Vec, sym, refl, ap}
use Rattle.std.proofs.Common.{◌∙◌, ◌<◌, subst, arith, get_or, Result, Ok, IfOk, vec_len}
use Rattle.std.proofs.lemmas.Result.{IfOk-weaker}
use Rattle.std.proofs.lemmas.List.{get_or_append_left, get_or-append_right}
use Rattle.std.specs.declared.alloc.AllocError.{AllocError}
use Rattle.std.proofs.lemmas.List.Elements.{All-append, All-cons, All-nil, All-weaker}
use Rattle.std.specs.declared.alloc.Global.{Global}
use Rattle.crossbeam_deque.specs.Injected.{injector_view, IsInjectorPassOf}
use Rattle.crossbeam_deque.specs.declared.injector.Injector.{Injector}
use Rattle.steal_crew.specs.Tickets.{Source, source_of, seat_source, drawn}
use Rattle.steal_crew.specs.declared.jobs.JobView.{JobView}
use Rattle.steal_crew.specs.declared.jobs.NumberedJob.{NumberedJob}
use Rattle.steal_crew.specs.declared.jobs.NoneLost.{NoneLost}
use Rattle.giving_crew.specs.declared.hands.Hand.{Hand}
use Rattle.giving_crew.specs.declared.hands.LiveWorker.{LiveWorker}
use Rattle.steal_crew.specs.Jobs.{job_view_with, job_numbers}
use Rattle.crew_machine.specs.Counts.{total, times}
use Rattle.giving_crew.specs.LiveHands.{Gave}
use Rattle.steal_crew.specs.Results.{done_numbers}
use Rattle.giving_crew.specs.LiveWorkers.{BelongsToSome, AreDoneBy, SharedQueue, JobPass, IsReady, IsIdle, Moved}
use Rattle.giving_crew.specs.LiveWorkers.{Worked, IsDrained, IsMade, IsAtStart, IsAtEnd, IsFirst, AllWorked}
use Rattle.giving_crew.specs.LiveWorkers.{AreForked, Brings, AreRun}
use Rattle.giving_crew.specs.declared.gathering.Brought.{Brought}
use Rattle.giving_crew.specs.declared.gathering.LiveRun.{LiveRun}
use Rattle.steal_crew.specs.declared.tickets.seats.TicketSeat.{TicketSeat}
use Rattle.steal_crew.specs.QueueRule.{part_count}
use Rattle.crew_machine.proofs.CountLemmas.{total-append, times-snoc}
use Rattle.steal_crew.proofs.ResultLemmas.{times-append, done_snoc}
use Rattle.steal_crew.proofs.QueueRuleLemmas.{all_more}

module _ {J X : Type 0} where
  module _ (queue : Injector (NumberedJob J) Global JobView NoneLost) (gives : Source → ℕ → J → X → Type 0) where
    pub ready_more : (old : LiveWorker J X) (hand : Hand J) (done : Vec (ℕ × X) Global) (n : ℕ) (job : J) (r : X)
        → IsReady queue gives old → source_of hand.source.now ≡ source_of old.hand.source.now
        → gives (source_of old.hand.source.now) n job r → done.items ≡ old.done.items ++ (n, r) ∷ []
        → IsReady queue gives (record { pass = old.pass; hand = hand; done = done })
    ready_more old hand done n job r ready same belongs is =
        let P : ℕ × X → Type 0 = λ e. BelongsToSome (gives (source_of old.hand.source.now)) e.0 e.1 in record {
          pass = ready.pass;
          some_part = ready.some_part;
          done = subst (λ (z : Source). All (λ e. BelongsToSome (gives z) e.0 e.1) done.items) (sym same)
              (subst (All P) (sym is) (All-append P old.done.items ((n, r) ∷ []) ready.done
              (All-cons P (n, r) [] (job, belongs) (All-nil P))));
        }

    pub ready_at : (old new : LiveWorker J X) → IsReady queue gives old
        → source_of new.hand.source.now ≡ source_of old.hand.source.now → IsInjectorPassOf queue new.pass
        → (injector_view new.pass).parts ≡ (injector_view old.pass).parts → new.done ≡ old.done
        → IsReady queue gives new
    ready_at old new ready same pass parts done = let p = ready.some_part in record {
      pass = pass;
      some_part = omega arith;
      done = subst (λ (z : Source). All (λ e. BelongsToSome (gives z) e.0 e.1) new.done.items) (sym same)
          (subst (λ (d : Vec (ℕ × X) Global). All (λ e. BelongsToSome (gives (source_of old.hand.source.now)) e.0 e.1)
          d.items) (sym done) ready.done);
    }

  pub moved_one : (old : LiveWorker J X) (hand : Hand J) (done : Vec (ℕ × X) Global) (n : ℕ) (r : X)
      → Gave old.hand hand → done.items ≡ old.done.items ++ (n, r) ∷ []
      → Moved (n ∷ []) old (record { pass = old.pass; hand = hand; done = done })
  moved_one old hand done n r gave is = record {
    source = gave.same;
    parts = refl;
    even = λ x. (let a = ap (times x) gave.drew in let b = times-append x (drawn old.hand.seat) gave.more in
        let c = ap (times x) gave.listed in let d = times-append x (job_numbers old.hand.jobs.items) gave.more in
        let e = ap (λ (l : List (ℕ × X)). times x (done_numbers l)) is in
        let f = ap (times x) (done_snoc old.done.items n r) in
        let h = times-append x (done_numbers old.done.items) (n ∷ []) in
        let g : times x (done_numbers done.items) ≡ times x (done_numbers old.done.items) + times x (n ∷ []) =
        e ∙ f ∙ h in omega arith);
  }

  -- the first job is done, and its result is kept apart
  pub moved_first : (old : LiveWorker J X) (hand : Hand J) → Gave old.hand hand
      → Moved [] old (record { pass = old.pass; hand = hand; done = old.done })
  moved_first old hand gave = record {
    source = gave.same;
    parts = refl;
    even = λ x. (let a = ap (times x) gave.drew in let b = times-append x (drawn old.hand.seat) gave.more in
        let c = ap (times x) gave.listed in let d = times-append x (job_numbers old.hand.jobs.items) gave.more in
        omega arith);
  }

  pub moved_none : (old : LiveWorker J X) → Moved [] old old
  moved_none old = record { source = refl; parts = refl; even = λ x. omega arith }

  pub moved_then : (held : List ℕ) (a b c : LiveWorker J X) → Moved held a b → Moved [] b c → Moved held a c
  moved_then held a b c m n = record {
    source = n.source ∙ m.source;
    parts = n.parts ∙ m.parts;
    even = λ x. (let p = m.even x in let q = n.even x in omega arith);
  }

  -- the first job of the list goes to the queue
  pub moved_put : (i a b : LiveWorker J X) (n : ℕ) → Moved [] i a
      → source_of b.hand.source.now ≡ source_of a.hand.source.now → drawn b.hand.seat ≡ drawn a.hand.seat
      → job_numbers a.hand.jobs.items ≡ n ∷ job_numbers b.hand.jobs.items → b.done ≡ a.done
      → injector_view b.pass ≡ job_view_with (injector_view a.pass).parts ((injector_view a.pass).dealt ++ n ∷ [])
      (injector_view a.pass).taken → Moved [] i b
  moved_put i a b n m source seat list done view = record {
    source = source ∙ m.source;
    parts = ap (λ (v : JobView). v.parts) view ∙ m.parts;
    even = λ x. (let p = m.even x in let s = ap (times x) seat in
        let l : times x (job_numbers a.hand.jobs.items) ≡ times x (n ∷ job_numbers b.hand.jobs.items) =
        ap (times x) list in
        let d = ap (λ (l : Vec (ℕ × X) Global). times x (done_numbers l.items)) done in
        let t = ap (λ (v : JobView). times x v.taken) view in let u = ap (λ (v : JobView). times x v.dealt) view in
        let w = times-snoc x (injector_view a.pass).dealt n in omega arith);
  }

  -- the queue can't take the first job of the list, and it is done
  pub moved_refused : (i a b c : LiveWorker J X) (n k : ℕ) → Moved [] i a
      → source_of b.hand.source.now ≡ source_of a.hand.source.now → drawn b.hand.seat ≡ drawn a.hand.seat
      → job_numbers a.hand.jobs.items ≡ n ∷ job_numbers b.hand.jobs.items → b.done ≡ a.done
      → injector_view b.pass ≡ injector_view a.pass → k ≡ n → Moved (k ∷ []) b c → Moved [] i c
  moved_refused i a b c n k m source seat list done view is more = record {
    source = more.source ∙ source ∙ m.source;
    parts = more.parts ∙ ap (λ (v : JobView). v.parts) view ∙ m.parts;
    even = λ x. (let p = m.even x in let q = more.even x in let s = ap (times x) seat in
        let l : times x (job_numbers a.hand.jobs.items) ≡ times x (n ∷ job_numbers b.hand.jobs.items) =
        ap (times x) list in
        let d = ap (λ (l : Vec (ℕ × X) Global). times x (done_numbers l.items)) done in
        let t = ap (λ (v : JobView). times x v.taken) view in let u = ap (λ (v : JobView). times x v.dealt) view in
        let e : times x (k ∷ []) ≡ times x (n ∷ []) = ap (λ (j : ℕ). times x (j ∷ [])) is in omega arith);
  }

  -- a job from the queue is done
  pub moved_took : (i a b c : LiveWorker J X) (n : ℕ) → Moved [] i a → b.hand ≡ a.hand → b.done ≡ a.done
      → injector_view b.pass ≡ job_view_with (injector_view a.pass).parts (injector_view a.pass).dealt
      ((injector_view a.pass).taken ++ n ∷ []) → Moved (n ∷ []) b c → Moved [] i c
  moved_took i a b c n m hand done view more = record {
    source = more.source ∙ ap (λ (v : Hand J). source_of v.source.now) hand ∙ m.source;
    parts = more.parts ∙ ap (λ (v : JobView). v.parts) view ∙ m.parts;
    even = λ x. (let p = m.even x in let q = more.even x in let s = ap (λ (v : Hand J). times x (drawn v.seat)) hand in
        let l = ap (λ (v : Hand J). times x (job_numbers v.jobs.items)) hand in
        let d = ap (λ (l : Vec (ℕ × X) Global). times x (done_numbers l.items)) done in
        let t = ap (λ (v : JobView). times x v.taken) view in let u = ap (λ (v : JobView). times x v.dealt) view in
        let w = times-snoc x (injector_view a.pass).taken n in omega arith);
  }

  -- the list is empty
  pub moved_still : (i a b : LiveWorker J X) → Moved [] i a → source_of b.hand.source.now ≡ source_of a.hand.source.now
      → drawn b.hand.seat ≡ drawn a.hand.seat → job_numbers a.hand.jobs.items ≡ [] → job_numbers b.hand.jobs.items ≡ []
      → b.pass ≡ a.pass → b.done ≡ a.done → Moved [] i b
  moved_still i a b m source seat before after pass done = record {
    source = source ∙ m.source;
    parts = ap (λ (p : JobPass J). (injector_view p).parts) pass ∙ m.parts;
    even = λ x. (let p = m.even x in let s = ap (times x) seat in
        let k : times x (job_numbers a.hand.jobs.items) ≡ 0 = ap (times x) before in
        let l : times x (job_numbers b.hand.jobs.items) ≡ 0 = ap (times x) after in
        let d = ap (λ (l : Vec (ℕ × X) Global). times x (done_numbers l.items)) done in
        let t = ap (λ (p : JobPass J). times x (injector_view p).taken) pass in
        let u = ap (λ (p : JobPass J). times x (injector_view p).dealt) pass in omega arith);
  }

  -- the queue told nothing
  pub moved_same : (i a b : LiveWorker J X) → Moved [] i a → b.hand ≡ a.hand → b.done ≡ a.done
      → injector_view b.pass ≡ injector_view a.pass → Moved [] i b
  moved_same i a b m hand done view = record {
    source = ap (λ (v : Hand J). source_of v.source.now) hand ∙ m.source;
    parts = ap (λ (v : JobView). v.parts) view ∙ m.parts;
    even = λ x. (let p = m.even x in let s = ap (λ (v : Hand J). times x (drawn v.seat)) hand in
        let l = ap (λ (v : Hand J). times x (job_numbers v.jobs.items)) hand in
        let d = ap (λ (l : Vec (ℕ × X) Global). times x (done_numbers l.items)) done in
        let t = ap (λ (v : JobView). times x v.taken) view in let u = ap (λ (v : JobView). times x v.dealt) view in
        omega arith);
  }

-- the queue told nothing, or that it is empty
pub worked_same : {J X : Type 0} (queue : SharedQueue J) (gives : Source → ℕ → J → X → Type 0) (i a b : LiveWorker J X)
    → Worked queue gives [] i a → IsInjectorPassOf queue b.pass → b.hand ≡ a.hand → b.done ≡ a.done
    → injector_view b.pass ≡ injector_view a.pass → Worked queue gives [] i b
worked_same {J} {X} queue gives i a b worked pass hand done view = record {
  idle = record {
    ready = ready_at queue gives a b worked.idle.ready (ap (λ (h : Hand J). source_of h.source.now) hand) pass
        (ap (λ (v : JobView). v.parts) view) done;
    empty = ap (λ (h : Hand J). job_numbers h.jobs.items) hand ∙ worked.idle.empty;
  };
  moved = moved_same i a b worked.moved hand done view;
}

-- one part more is cut off
pub forked : (u v w : JobView) (n m : ℕ) → v ≡ job_view_with (u.parts - n) u.dealt u.taken
    → w ≡ job_view_with (v.parts - 1) v.dealt v.taken → m ≡ n + 1 → w ≡ job_view_with (u.parts - m) u.dealt u.taken
forked u v w n m is became more = became ∙ ap (λ (z : JobView). job_view_with (z.parts - 1) z.dealt z.taken) is
    ∙ ap (λ (k : ℕ). job_view_with k u.dealt u.taken)
    (let e : (u.parts - n) - 1 ≡ u.parts - m = omega arith in e)

-- nobody brought anything
pub brings_none : {X : Type 0} (source : Source) (belongs : ℕ → X → Type 0) (v : JobView) (n : ℕ)
    (seats : List TicketSeat) (others : List (Vec (ℕ × X) Global)) → n ≡ 0 → seats ≡ [] → others ≡ []
    → Brings source belongs v v n seats others
brings_none {X} source belongs v n seats others none no_seats no_others = record {
  parts = omega arith;
  ours = subst (All (λ s. seat_source s ≡ source)) (sym no_seats) (All-nil (λ s. seat_source s ≡ source));
  seats_len = ap length no_seats ∙ sym none;
  done = subst (All (λ (d : Vec (ℕ × X) Global). All (λ e. belongs e.0 e.1) d.items)) (sym no_others)
      (All-nil (λ d. All (λ e. belongs e.0 e.1) d.items));
  others_len = ap length no_others ∙ sym none;
  even = λ x. (let p = ap (total (λ (s : TicketSeat). times x (drawn s))) no_seats in
      let q = ap (total (λ (d : Vec (ℕ × X) Global). times x (done_numbers d.items))) no_others in omega arith);
}

-- what one worker more brings is taken in
pub brings_more : {J X : Type 0} (queue : SharedQueue J) (source : Source) (gives : Source → ℕ → J → X → Type 0)
    (old v v' : JobView) (n n' : ℕ) (seats seats' : List TicketSeat) (others others' : List (Vec (ℕ × X) Global))
    (t : LiveWorker J X) (parts : JobPass J × TicketSeat × Vec (ℕ × X) Global)
    → Brings source (BelongsToSome (gives source)) old v n seats others → IsAtEnd queue source gives t
    → parts ≡ (t.pass, t.hand.seat, t.done) → v' ≡ job_view_with (v.parts + (injector_view parts.0).parts)
    (v.dealt ++ (injector_view parts.0).dealt) (v.taken ++ (injector_view parts.0).taken) → n' ≡ n + 1
    → seats' ≡ seats ++ parts.1 ∷ [] → others' ≡ others ++ parts.2 ∷ []
    → Brings source (BelongsToSome (gives source)) old v' n' seats' others'
brings_more {J} {X} queue source gives old v v' n n' seats seats' others others' t parts g end are absorbed next
    seats_push others_push = let Parts : Type 0 = JobPass J × TicketSeat × Vec (ℕ × X) Global in
    let became : v' ≡ job_view_with (v.parts + (injector_view t.pass).parts) (v.dealt ++ (injector_view t.pass).dealt)
    (v.taken ++ (injector_view t.pass).taken) = absorbed ∙ ap (λ (r : Parts). job_view_with
    (v.parts + (injector_view r.0).parts) (v.dealt ++ (injector_view r.0).dealt)
    (v.taken ++ (injector_view r.0).taken)) are in
    let more_seats : seats' ≡ seats ++ t.hand.seat ∷ [] = seats_push ∙ ap (λ (r : Parts). seats ++ r.1 ∷ []) are in
    let more_others : others' ≡ others ++ t.done ∷ [] = others_push ∙ ap (λ (r : Parts). others ++ r.2 ∷ []) are in
    record {
      parts = (let p = ap (λ (u : JobView). u.parts) became in let q = end.parts in let r = g.parts in omega arith);
      ours = all_more (λ (s : TicketSeat). seat_source s ≡ source) seats seats' t.hand.seat g.ours end.seat more_seats;
      seats_len = (let p = ap length more_seats in let q = length-append seats (t.hand.seat ∷ []) in
          let r = g.seats_len in
          omega arith);
      done = all_more (λ (s : Vec (ℕ × X) Global). All (λ e. BelongsToSome (gives source) e.0 e.1) s.items)
          others others' t.done
          g.done end.done more_others;
      others_len = (let p = ap length more_others in let q = length-append others (t.done ∷ []) in
          let r = g.others_len in
          omega arith);
      even = λ x. (let p = ap (total (λ (s : TicketSeat). times x (drawn s))) more_seats in
          let q = total-append (λ (s : TicketSeat). times x (drawn s)) seats (t.hand.seat ∷ []) in
          let r = ap (total (λ (s : Vec (ℕ × X) Global). times x (done_numbers s.items))) more_others in
          let u = total-append (λ (s : Vec (ℕ × X) Global). times x (done_numbers s.items)) others (t.done ∷ []) in
          let a = ap (λ (u : JobView). times x u.taken) became in
          let b = times-append x v.taken (injector_view t.pass).taken in
          let c = ap (λ (u : JobView). times x u.dealt) became in
          let d = times-append x v.dealt (injector_view t.pass).dealt in
          let e = end.even x in let f = g.even x in omega arith);
    }

module _ {J X : Type 0} (queue : SharedQueue J) (source : Source) where
  -- one part makes a worker at the start
  pub start_made : (pass : JobPass J) (seat : TicketSeat) (w : LiveWorker J X) → IsMade source pass seat w
      → IsInjectorPassOf queue pass → injector_view pass ≡ job_view_with 1 [] [] → drawn seat ≡ []
      → IsAtStart queue source w
  start_made pass seat w made valid view undrawn = record {
    pass = subst (λ (p : JobPass J). IsInjectorPassOf queue p) (sym made.pass_is) valid;
    view_is = ap (λ (p : JobPass J). injector_view p) made.pass_is ∙ view;
    same = made.same;
    undrawn = ap drawn made.seat_is ∙ undrawn;
    empty = made.empty;
    undone = made.undone;
  }

module _ {J X : Type 0} (queue : SharedQueue J) (source : Source) (gives : Source → ℕ → J → X → Type 0) where
  -- a worker that did nothing yet is ready
  pub ready_made : (pass : JobPass J) (seat : TicketSeat) (w : LiveWorker J X) → IsMade source pass seat w
      → IsInjectorPassOf queue pass → 0 < (injector_view pass).parts → IsReady queue gives w
  ready_made pass seat w made valid some = record {
    pass = subst (λ (p : JobPass J). IsInjectorPassOf queue p) (sym made.pass_is) valid;
    some_part = subst (λ (p : JobPass J). 0 < (injector_view p).parts) (sym made.pass_is) some;
    done = subst (AreDoneBy (gives (source_of w.hand.source.now))) (sym made.undone)
        (All-nil (λ e. BelongsToSome (gives (source_of w.hand.source.now)) e.0 e.1));
  }

  -- the first job is done, and its result is kept apart
  pub first_done : (parts : ℕ) (pass : JobPass J) (seat : TicketSeat) (old new : LiveWorker J X)
      → IsMade source pass seat old → injector_view pass ≡ job_view_with parts [] [] → drawn seat ≡ 0 ∷ []
      → Worked queue gives [] old new → IsFirst queue source gives parts new
  first_done parts pass seat old new made view zero worked = record {
    idle = worked.idle;
    parts = worked.moved.parts ∙ ap (λ (p : JobPass J). (injector_view p).parts) made.pass_is
        ∙ ap (λ (v : JobView). v.parts) view;
    same = worked.moved.source ∙ made.same;
    even = λ x. (let m = worked.moved.even x in
        let v : injector_view old.pass ≡ job_view_with parts [] [] =
        ap (λ (p : JobPass J). injector_view p) made.pass_is ∙ view in
        let s : times x (drawn old.hand.seat) ≡ times x (0 ∷ []) =
        ap (λ (z : TicketSeat). times x (drawn z)) made.seat_is ∙ ap (times x) zero in
        let l : times x (job_numbers old.hand.jobs.items) ≡ 0 = ap (λ l. times x (job_numbers l)) made.empty in
        let t : times x (injector_view old.pass).taken ≡ 0 = ap (λ (v : JobView). times x v.taken) v in
        let u : times x (injector_view old.pass).dealt ≡ 0 = ap (λ (v : JobView). times x v.dealt) v in
        let d : times x (done_numbers old.done.items) ≡ 0 = ap (λ l. times x (done_numbers l)) made.undone in
        omega arith);
  }

  -- parts are cut off from the pass of the caller's worker
  pub first_forked : (parts n : ℕ) (old : LiveWorker J X) (pass : JobPass J) → IsFirst queue source gives parts old
      → IsInjectorPassOf queue pass → n < parts → injector_view pass
      ≡ job_view_with ((injector_view old.pass).parts - n) (injector_view old.pass).dealt (injector_view old.pass).taken
      → IsFirst queue source gives (parts - n) (record { pass = pass; hand = old.hand; done = old.done })
  first_forked parts n old pass first valid some view = let p = ap (λ (v : JobView). v.parts) view in
      let q = first.parts in record {
        idle = record {
          ready = record { pass = valid; some_part = omega arith; done = first.idle.ready.done };
          empty = first.idle.empty;
        };
        parts = omega arith;
        same = first.same;
        even = λ x. (let t = ap (λ (v : JobView). times x v.taken) view in
            let u = ap (λ (v : JobView). times x v.dealt) view in let e = first.even x in omega arith);
      }

  -- the caller's worker did more
  pub first_worked : (parts : ℕ) (old new : LiveWorker J X) → IsFirst queue source gives parts old
      → Worked queue gives [] old new → IsFirst queue source gives parts new
  first_worked parts old new first worked = record {
    idle = worked.idle;
    parts = worked.moved.parts ∙ first.parts;
    same = worked.moved.source ∙ first.same;
    even = λ x. (let e = first.even x in let m = worked.moved.even x in omega arith);
  }

  -- a worker at the start has an empty list
  pub idle_at_start : (w : LiveWorker J X) → IsAtStart queue source w → IsIdle queue gives w
  idle_at_start w start = record {
    ready = record {
      pass = start.pass;
      some_part = (let p = ap (λ (v : JobView). v.parts) start.view_is in omega arith);
      done = subst (AreDoneBy (gives (source_of w.hand.source.now))) (sym start.undone)
          (All-nil (λ e. BelongsToSome (gives (source_of w.hand.source.now)) e.0 e.1));
    };
    empty = ap job_numbers start.empty;
  }

  pub at_end : (old new : LiveWorker J X) → IsAtStart queue source old → Worked queue gives [] old new
      → IsAtEnd queue source gives new
  at_end old new start worked = let same = worked.moved.source ∙ start.same in record {
    pass = worked.idle.ready.pass;
    parts = worked.moved.parts ∙ ap (λ (v : JobView). v.parts) start.view_is;
    seat = new.hand.ours ∙ same;
    even = λ x. (let m = worked.moved.even x in
        let a : times x (drawn old.hand.seat) ≡ 0 = ap (times x) start.undrawn in
        let b : times x (injector_view old.pass).taken ≡ 0 = ap (λ (v : JobView). times x v.taken) start.view_is in
        let d : times x (injector_view old.pass).dealt ≡ 0 = ap (λ (v : JobView). times x v.dealt) start.view_is in
        let e : times x (done_numbers old.done.items) ≡ 0 = ap (λ l. times x (done_numbers l)) start.undone in
        let f : times x (job_numbers old.hand.jobs.items) ≡ 0 = ap (λ l. times x (job_numbers l)) start.empty in
        let h : times x (job_numbers new.hand.jobs.items) ≡ 0 = ap (times x) worked.idle.empty in omega arith);
    done = subst (λ (z : Source). AreDoneBy (gives z) new.done.items) same worked.idle.ready.done;
  }

  -- the caller's worker is the last of them
  pub all_ended : (olds : List (LiveWorker J X)) (own : LiveWorker J X)
      (news rest : List (Result (LiveWorker J X) AllocError)) (last : Result (LiveWorker J X) AllocError)
      → AllWorked queue gives (olds ++ own ∷ []) news → length rest ≡ length olds → news ≡ rest ++ last ∷ []
      → All (IsAtStart queue source) olds
      → All (λ t. IfOk t (IsAtEnd queue source gives)) rest × IfOk last (Worked queue gives [] own)
  all_ended olds own news rest last worked len is start =
      let n : length (olds ++ own ∷ []) ≡ length olds + 1 = length-append olds (own ∷ []) in
      let Ends : Result (LiveWorker J X) AllocError → LiveWorker J X
      → Type 0 = λ t w. IfOk t (Worked queue gives [] w) in (
        λ k d lt. IfOk-weaker (get_or rest k d) _ _
            (λ new h. at_end (get_or olds k own) new (start k own (omega arith)) h)
            (subst (λ t. Ends t (get_or olds k own))
            (ap (λ l. get_or l k d) is ∙ get_or_append_left rest (last ∷ []) d k lt)
            (subst (Ends (get_or news k d)) (get_or_append_left olds (own ∷ []) own k (omega arith))
            (worked k own d (omega arith)))),
        let k = length olds in let z : k - k ≡ 0 = omega arith in
            subst (λ t. Ends t own)
            (ap (λ l. get_or l k last) is ∙ get_or-append_right rest (last ∷ []) k k last len (omega arith)
            ∙ ap (λ (j : ℕ). get_or (last ∷ []) j last) z)
            (subst (Ends (get_or news k last))
            (get_or-append_right olds (own ∷ []) k k own refl (omega arith)
            ∙ ap (λ (j : ℕ). get_or (own ∷ []) j own) z)
            (worked k own last (omega arith))),
      )

  -- before the threads start
  pub all_idle : (n : ℕ) (own : LiveWorker J X) (pass : JobPass J) (workers : Vec (LiveWorker J X) Global)
      (all : List (LiveWorker J X)) → IsFirst queue source gives part_count own
      → AreForked queue source n own.pass pass workers → n < part_count
      → all ≡ workers.items ++ record { pass = pass; hand = own.hand; done = own.done } ∷ []
      → All (IsIdle queue gives) all
  all_idle n own pass workers all first forked few is = all_more (IsIdle queue gives) workers.items all _
      (All-weaker (IsAtStart queue source) (IsIdle queue gives) idle_at_start workers.items forked.each)
      (first_forked part_count n own pass first forked.pass few forked.view_is).idle is

  -- after the threads are joined, where the caller's worker had memory
  pub all_back : (n m : ℕ) (own new : LiveWorker J X) (pass : JobPass J) (workers : Vec (LiveWorker J X) Global)
      (all : List (LiveWorker J X)) (ended rest : List (Result (LiveWorker J X) AllocError))
      (last : Result (LiveWorker J X) AllocError) → IsFirst queue source gives part_count own
      → AreForked queue source n own.pass pass workers → n < part_count
      → all ≡ workers.items ++ record { pass = pass; hand = own.hand; done = own.done } ∷ []
      → AllWorked queue gives all ended → length ended ≡ length all → ended ≡ rest ++ last ∷ [] → last ≡ Ok new
      → m ≡ length rest
      → All (λ t. IfOk t (IsAtEnd queue source gives)) rest × IsFirst queue source gives (part_count - m) new × (m ≡ n)
  all_back n m own new pass workers all ended rest last first forked few is worked same ends ok len =
      let own' : LiveWorker J X = record { pass = pass; hand = own.hand; done = own.done } in
      let a : length all ≡ length workers.items + 1 = ap length is ∙ length-append workers.items (own' ∷ []) in
      let b : length ended ≡ length rest + 1 = ap length ends ∙ length-append rest (last ∷ []) in
      let v : vec_len workers ≡ length workers.items = workers.ok.0 in let w : vec_len workers ≡ n = forked.len in
      let back = all_ended workers.items own' ended rest last
      (subst (λ l. AllWorked queue gives l ended) is worked) (omega arith) ends forked.each in (
        back.0,
        subst (λ k. IsFirst queue source gives (part_count - k) new) (let e : n ≡ m = omega arith in e)
            (first_worked (part_count - n) own' new
            (first_forked part_count n own pass first forked.pass few forked.view_is)
            (subst (λ t. IfOk t (Worked queue gives [] own')) ok back.1)),
        omega arith,
      )

  -- what all drew is 0 and what was done, once the queue was found empty
  pub all_run : (n : ℕ) (first last : LiveWorker J X) (pass : JobPass J) (brought : Brought X) (run : LiveRun X)
      → IsFirst queue source gives (part_count - n) first
      → Brings source (BelongsToSome (gives source)) (injector_view first.pass) (injector_view pass) n
      brought.seats.items brought.others.items
      → Worked queue gives [] (record { pass = pass; hand = first.hand; done = first.done }) last → IsDrained last
      → run.own ≡ last.done → run.others ≡ brought.others → run.seats.items ≡ brought.seats.items ++ last.hand.seat ∷ []
      → AreRun source gives n run
  all_run n first last pass brought run begun brings worked drained own others seats =
      let some = begun.idle.ready.some_part in
      let same = worked.moved.source ∙ begun.same in
      let whole : (injector_view last.pass).parts ≡ part_count = (let a = worked.moved.parts in let b = brings.parts in
      let c = begun.parts in omega arith) in
      let m : vec_len run.others ≡ length run.others.items = run.others.ok.0 in
      let k : vec_len run.seats ≡ length run.seats.items = run.seats.ok.0 in record {
        own = subst (λ (d : Vec (ℕ × X) Global). AreDoneBy (gives source) d.items) (sym own)
            (subst (λ (z : Source). AreDoneBy (gives z) last.done.items) same worked.idle.ready.done);
        others = subst (λ (v : Vec (Vec (ℕ × X) Global) Global). All (λ d. AreDoneBy (gives source) d.items) v.items)
            (sym others) brings.done;
        others_len = (let a = brings.others_len in
            let b = ap (λ (v : Vec (Vec (ℕ × X) Global) Global). length v.items) others in omega arith);
        ours = all_more (λ (s : TicketSeat). seat_source s ≡ source) brought.seats.items run.seats.items last.hand.seat
            brings.ours (last.hand.ours ∙ same) seats;
        seats_len = (let a = ap length seats in let b = length-append brought.seats.items (last.hand.seat ∷ []) in
            let c = brings.seats_len in omega arith);
        even = λ x. (let a = begun.even x in let b = brings.even x in let c = worked.moved.even x in
            let e : times x (job_numbers last.hand.jobs.items) ≡ 0 = ap (times x) worked.idle.empty in
            let f = drained whole x in
            let h = ap (λ (d : Vec (ℕ × X) Global). times x (done_numbers d.items)) own in
            let i = ap (λ (v : Vec (Vec (ℕ × X) Global) Global). total (λ (d : Vec (ℕ × X) Global).
            times x (done_numbers d.items)) v.items) others in
            let p = ap (total (λ (s : TicketSeat). times x (drawn s))) seats in
            let q = total-append (λ (s : TicketSeat). times x (drawn s)) brought.seats.items (last.hand.seat ∷ []) in
            omega arith);
      }
