-- The crew machine: its states and events, when an event is refused and what else it does, and what holds in every run.
use Rattle.std.specs.Prelude.{◌≡◌, ℕ, zero, suc, ◌+◌, ◌<◌, ◌≤◌, Bool, true, false, ◌==◌, nat_lt, cond, List, [], ◌∷◌}
use Rattle.std.specs.Prelude.{◌++◌, length, Option, Some, None, Result, Ok, Err, IsTrue, slice_index_or, slice_set}
use Rattle.crew_machine.specs.Counts.{total, times, once_below}
use Rattle.crew_machine.specs.declared.steps.StepFault.{StepFault}
use Rattle.crew_machine.specs.declared.steps.StepFault.TheVariants as faults
use Rattle.crew_machine.specs.declared.events.Event.{Event as CodeEvent}
use Rattle.crew_machine.specs.declared.events.Event.TheVariants as events

-- ---- states

-- the numbers that a worker took, in order; the one that it is busy with; what it drew, in order; whether it has
-- stopped
pub record Worker : Type 0 where
  pub taken : List ℕ
  pub busy : Option ℕ
  pub drawn : List ℕ
  pub stopped : Bool

-- the most that may be drawn; the numbers that were dealt, in order; those that wait in each queue, from the front; the
-- workers; how many were drawn; the numbers that were posted, and that are done, in order
pub record State : Type 0 where
  pub limit : ℕ
  pub dealt : List ℕ
  pub queues : List (List ℕ)
  pub workers : List Worker
  pub next : ℕ
  pub posted : List ℕ
  pub done : List ℕ

abbrev pub copies : {A : Type 0} → ℕ → A → List A
copies zero x = []
copies (suc n) x = x ∷ copies n x

-- a worker that did nothing
abbrev pub nobody : Worker
nobody = record { taken = []; busy = None; drawn = []; stopped = false }

-- the state in which every list is empty, and nobody is busy or has stopped
abbrev pub opening : (workers queues limit : ℕ) → State
opening workers queues limit = record {
  limit = limit;
  dealt = [];
  queues = copies queues [];
  workers = copies workers nobody;
  next = 0;
  posted = [];
  done = [];
}

abbrev pub worker_at : State → ℕ → Worker
worker_at s w = slice_index_or s.workers w nobody

abbrev pub queue_at : State → ℕ → List ℕ
queue_at s q = slice_index_or s.queues q []

abbrev pub with_worker : State → ℕ → Worker → State
with_worker s w v = record s { workers = slice_set s.workers w v }

-- ---- events

-- what may happen
pub data Event : Type 0 where
  deal : (queue number : ℕ) → Event
  take : (worker queue : ℕ) → Event
  draw : (worker : ℕ) → Event
  post : (worker : ℕ) → Event
  finish : (worker : ℕ) → Event
  stop : (worker : ℕ) → Event

-- why it may be refused
pub data Fault : Type 0 where
  worker_fault : Fault
  queue_fault : Fault
  stopped_fault : Fault
  busy_fault : Fault
  idle_fault : Fault
  empty_fault : Fault
  dealt_fault : Fault
  full_fault : Fault
  posted_fault : Fault

-- whether the number stands in the list
abbrev pub stands : ℕ → List ℕ → Bool
stands x [] = false
stands x (y ∷ ys) = cond (y == x) true (stands x ys)

-- the first where there is no number, else the second
abbrev pub if_idle : {A : Type 0} → Option ℕ → A → A → A
if_idle None a b = a
if_idle (Some x) a b = b

-- a number goes to the end of what was dealt and to the back of a queue
abbrev pub dealt_to_queue : State → (queue number : ℕ) → State
dealt_to_queue s q x =
    record s { dealt = s.dealt ++ x ∷ []; queues = slice_set s.queues q (queue_at s q ++ x ∷ []) }

-- the front of a queue leaves it, goes to the end of what the worker took, and the worker is busy with it
abbrev pub take_front : State → (worker queue : ℕ) → (waiting : List ℕ) → Result State Fault
take_front s w q [] = Err empty_fault
take_front s w q (x ∷ xs) =
    let v = worker_at s w in
    let taken = with_worker s w (record v { taken = v.taken ++ x ∷ []; busy = Some x }) in
    Ok (record taken { queues = slice_set s.queues q xs })

-- the next number goes to the end of what the worker drew
abbrev pub draw_next : State → (worker : ℕ) → State
draw_next s w =
    let v = worker_at s w in
    record (with_worker s w (record v { drawn = v.drawn ++ s.next ∷ [] })) { next = s.next + 1 }

-- the worker's number goes to the end of what was posted
abbrev pub post_number : State → (busy : Option ℕ) → Result State Fault
post_number s None = Err idle_fault
post_number s (Some x) = cond (stands x s.posted) (Err posted_fault) (Ok (record s { posted = s.posted ++ x ∷ [] }))

-- the worker's number goes to the end of what is done, and the worker is no longer busy
abbrev pub finish_number : State → (worker : ℕ) → (busy : Option ℕ) → Result State Fault
finish_number s w None = Err idle_fault
finish_number s w (Some x) =
    let v = worker_at s w in Ok (record (with_worker s w (record v { busy = None })) { done = s.done ++ x ∷ [] })

abbrev pub stop_worker : State → (worker : ℕ) → State
stop_worker s w = let v = worker_at s w in with_worker s w (record v { stopped = true })

-- What an event does, or why it is refused: the first reason that applies.
abbrev pub stepped : State → Event → Result State Fault
stepped s (deal q x) =
    cond (nat_lt q (length s.queues))
    (cond (stands x s.dealt) (Err dealt_fault) (Ok (dealt_to_queue s q x)))
    (Err queue_fault)
stepped s (take w q) =
    cond (nat_lt w (length s.workers))
    (cond (nat_lt q (length s.queues))
    (cond (worker_at s w).stopped (Err stopped_fault)
    (if_idle (worker_at s w).busy (take_front s w q (queue_at s q)) (Err busy_fault)))
    (Err queue_fault))
    (Err worker_fault)
stepped s (draw w) =
    cond (nat_lt w (length s.workers))
    (cond (worker_at s w).stopped (Err stopped_fault)
    (cond (nat_lt s.next s.limit) (Ok (draw_next s w)) (Err full_fault)))
    (Err worker_fault)
stepped s (post w) = cond (nat_lt w (length s.workers)) (post_number s (worker_at s w).busy) (Err worker_fault)
stepped s (finish w) = cond (nat_lt w (length s.workers)) (finish_number s w (worker_at s w).busy) (Err worker_fault)
stepped s (stop w) =
    cond (nat_lt w (length s.workers))
    (cond (worker_at s w).stopped (Err stopped_fault)
    (if_idle (worker_at s w).busy (Ok (stop_worker s w)) (Err busy_fault)))
    (Err worker_fault)

-- whether the event makes a list longer
abbrev pub lengthens : Event → Bool
lengthens (deal q x) = true
lengthens (take w q) = true
lengthens (draw w) = true
lengthens (post w) = true
lengthens (finish w) = true
lengthens (stop w) = false

-- ---- runs

-- the state after an event, which changes nothing where it is refused
abbrev pub after : Result State Fault → State → State
after (Ok t) s = t
after (Err fault) s = s

-- the state after a list of events
abbrev pub run : State → List Event → State
run s [] = s
run s (e ∷ es) = run (after (stepped s e) s) es

-- 1 where the worker is busy with the number
abbrev pub is_busy_with : ℕ → Option ℕ → ℕ
is_busy_with x None = 0
is_busy_with x (Some y) = cond (y == x) 1 0

-- What holds in every run. Each number that was dealt waits once in one queue, or stands once in what one worker took,
-- and no other does; the lists of what was drawn are together the numbers below the next, each once, and that is at
-- most the limit; what is done and what workers are busy with is what was taken; and what was posted was taken, and
-- posted once.
pub record Sound (s : State) : Type 0 where
  pub once : (x : ℕ) → times x s.dealt ≤ 1
  pub placed : (x : ℕ) → times x s.dealt ≡ total (times x) s.queues + total (λ w. times x w.taken) s.workers
  pub drawn : (x : ℕ) → total (λ w. times x w.drawn) s.workers ≡ once_below x s.next
  pub bounded : s.next ≤ s.limit
  pub finished : (x : ℕ)
      → times x s.done + total (λ w. is_busy_with x w.busy) s.workers ≡ total (λ w. times x w.taken) s.workers
  pub posted_once : (x : ℕ) → times x s.posted ≤ 1
  pub posted : (x : ℕ) → 0 < times x s.posted → 0 < total (λ w. times x w.taken) s.workers

-- The law, over all lists of events from every opening state.
abbrev pub EveryRun : Type 0
EveryRun = (workers queues limit : ℕ) (events : List Event) → Sound (run (opening workers queues limit) events)

-- ---- the code's events and faults

abbrev pub event_of : CodeEvent → Event
event_of (events.Deal queue number) = deal queue number
event_of (events.Take worker queue) = take worker queue
event_of (events.Draw worker) = draw worker
event_of (events.Post worker) = post worker
event_of (events.Finish worker) = finish worker
event_of (events.Stop worker) = stop worker

-- The code answers the machine's fault, or want of memory where the machine steps and a list is to become longer.
abbrev pub IsFault : StepFault → Event → Result State Fault → Type 0
IsFault faults.Worker event outcome = outcome ≡ Err worker_fault
IsFault faults.Queue event outcome = outcome ≡ Err queue_fault
IsFault faults.Stopped event outcome = outcome ≡ Err stopped_fault
IsFault faults.Busy event outcome = outcome ≡ Err busy_fault
IsFault faults.Idle event outcome = outcome ≡ Err idle_fault
IsFault faults.Empty event outcome = outcome ≡ Err empty_fault
IsFault faults.Dealt event outcome = outcome ≡ Err dealt_fault
IsFault faults.Full event outcome = outcome ≡ Err full_fault
IsFault faults.Posted event outcome = outcome ≡ Err posted_fault
IsFault faults.Memory event (Ok after) = IsTrue (lengthens event)
IsFault faults.Memory event (Err fault) = ⊥
