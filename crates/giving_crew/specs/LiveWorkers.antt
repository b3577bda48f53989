-- What a clause says of the workers of a run.
use Rattle.std.specs.Prelude.{◌≡◌, ℕ, ◌+◌, ◌<◌, List, [], All, length, slice_index_or, vec_capacity, Vec}
use Rattle.std.specs.Prelude.{◌-◌, ◌∷◌, Option, IsSomeAnd, Some, Result, IfOk, vec_len}
use Rattle.std.specs.declared.alloc.AllocError.{AllocError}
use Rattle.std.specs.declared.alloc.Global.{Global}
use Rattle.crossbeam_deque.specs.Injected.{InjectorPass, injector_view, IsInjectorPassOf}
use Rattle.crossbeam_deque.specs.declared.injector.Injector.{Injector}
use Rattle.steal_crew.specs.declared.tickets.seats.TicketSeat.{TicketSeat}
use Rattle.steal_crew.specs.declared.tickets.seats.AllDrawn.{AllDrawn}
use Rattle.steal_crew.specs.declared.jobs.JobView.{JobView}
use Rattle.steal_crew.specs.declared.jobs.NumberedJob.{NumberedJob}
use Rattle.steal_crew.specs.declared.jobs.NoneLost.{NoneLost}
use Rattle.giving_crew.specs.declared.hands.LiveWorker.{LiveWorker}
use Rattle.giving_crew.specs.declared.gathering.LiveRun.{LiveRun}
use Rattle.steal_crew.specs.declared.crews.Crew.{Crew}
use Rattle.crew_machine.specs.Counts.{total, times, once_below}
use Rattle.steal_crew.specs.Results.{done_numbers}
use Rattle.steal_crew.specs.QueueRule.{part_count}
use Rattle.steal_crew.specs.Tickets.{Source, source_of, seat_source, source_drawn, drawn, all_drawn}
use Rattle.steal_crew.specs.Jobs.{job_view_with, job_numbers}

-- ---- results

-- the result belongs to the number and some job
abbrev pub BelongsToSome : {J X : Type 0} → (ℕ → J → X → Type 0) → ℕ → X → Type 0
BelongsToSome {J} gives n r = (job : J) × gives n job r

-- each result in the list belongs to the number beside it and some job
abbrev pub AreDoneBy : {J X : Type 0} → (ℕ → J → X → Type 0) → List (ℕ × X) → Type 0
AreDoneBy gives done = All (λ e. BelongsToSome gives e.0 e.1) done

-- The first result belongs to 0 and the first job, and each to its number and some job, where all jobs drew from the
-- one source that this was drawn from.
pub record BelongFrom {J X : Type 0} (gives : Source → ℕ → J → X → Type 0) (job : J) (drawn : Option AllDrawn)
    (results : List X) : Type 0 where
  pub source : Source
  pub drawn_from : IsSomeAnd drawn (λ d. source_drawn d ≡ source)
  pub some : 0 < length results
  pub first : (d : X) → gives source 0 job (slice_index_or results 0 d)
  pub each : (n : ℕ) (d : X) → n < length results → BelongsToSome (gives source) n (slice_index_or results n d)

-- The results are as many as the count, the first is this one, and each other belongs to its number and some job.
pub record AreByNumber {J X : Type 0} (gives : ℕ → J → X → Type 0) (first : X) (count : ℕ) (results : Vec X Global)
    : Type 0 where
  pub some : 0 < count
  pub len : vec_len results ≡ count
  pub at_first : (d : X) → slice_index_or results.items 0 d ≡ first
  pub each : (n : ℕ) (d : X) → 0 < n → n < count → BelongsToSome gives n (slice_index_or results.items n d)

-- The caller and all others have done the numbers below the count but 0, each once.
abbrev pub AreOfEach : {X : Type 0} → (count : ℕ) → (own : List (ℕ × X)) → (others : List (Vec (ℕ × X) Global)) → Type 0
AreOfEach {X} count own others = (x : ℕ) → once_below x count
    ≡ times x (0 ∷ []) + times x (done_numbers own) + total (λ d. times x (done_numbers d.items)) others

-- The caller's results and those of all others belong to their numbers: those below the count but 0, each once.
pub record AreRest {J X : Type 0} (gives : ℕ → J → X → Type 0) (count : ℕ) (own : List (ℕ × X))
    (others : List (Vec (ℕ × X) Global)) : Type 0 where
  pub own_done : AreDoneBy gives own
  pub others_done : All (λ d. AreDoneBy gives d.items) others
  pub each : AreOfEach count own others

-- A crew of n workers has these results, and its tallies are together the numbers below the count, each once.
pub record IsPublished {J X : Type 0} (gives : ℕ → J → X → Type 0) (first : X) (count n : ℕ) (drawn : AllDrawn)
    (crew : Crew X) : Type 0 where
  pub drawn_is : crew.drawn ≡ Some drawn
  pub results : AreByNumber gives first count crew.results
  pub workers : vec_len crew.tallies ≡ n
  pub once : (x : ℕ) → total (λ t. times x t.items) crew.tallies.items ≡ once_below x count

-- What was drawn from a source are the numbers below the count, each once, and this is the source's limit.
pub record AreDrawn (most count : ℕ) (drawn : AllDrawn) : Type 0 where
  pub limit : (source_drawn drawn).1 ≡ most
  pub each : (x : ℕ) → times x (all_drawn drawn) ≡ once_below x count

-- ---- one worker

-- the queue of jobs
abbrev pub SharedQueue : Type 0 → Type 0
SharedQueue J = Injector (NumberedJob J) Global JobView NoneLost

-- what a worker deals and takes jobs by
abbrev pub JobPass : Type 0 → Type 0
JobPass J = InjectorPass (NumberedJob J) JobView Global

module _ {J X : Type 0} where
  -- how often x was drawn by the seat or taken from the queue
  abbrev pub got : ℕ → LiveWorker J X → ℕ
  got x w = times x (drawn w.hand.seat) + times x (injector_view w.pass).taken

  -- how often x was dealt to the queue, was done or waits in the list
  abbrev pub put : ℕ → LiveWorker J X → ℕ
  put x w = times x (injector_view w.pass).dealt + times x (done_numbers w.done.items)
      + times x (job_numbers w.hand.jobs.items)

  -- a worker with a part of the queue, whose results belong to their numbers and the source that its hand draws from
  pub record IsReady (queue : SharedQueue J) (gives : Source → ℕ → J → X → Type 0) (w : LiveWorker J X) : Type 0 where
    pub pass : IsInjectorPassOf queue w.pass
    pub some_part : 0 < (injector_view w.pass).parts
    pub done : AreDoneBy (gives (source_of w.hand.source.now)) w.done.items

  -- The worker is ready for jobs, and its list of jobs to give away is empty.
  pub record IsIdle (queue : SharedQueue J) (gives : Source → ℕ → J → X → Type 0) (w : LiveWorker J X) : Type 0 where
    pub ready : IsReady queue gives w
    pub empty : job_numbers w.hand.jobs.items ≡ []

  -- What the worker got more is what it put more, where it held some numbers before.
  pub record Moved (held : List ℕ) (old new : LiveWorker J X) : Type 0 where
    pub source : source_of new.hand.source.now ≡ source_of old.hand.source.now
    pub parts : (injector_view new.pass).parts ≡ (injector_view old.pass).parts
    pub even : (x : ℕ) → got x new + put x old + times x held ≡ put x new + got x old

  -- The worker did jobs, of which it held some numbers before, and is ready for more.
  pub record Did (queue : SharedQueue J) (gives : Source → ℕ → J → X → Type 0) (held : List ℕ)
      (old new : LiveWorker J X) : Type 0 where
    pub ready : IsReady queue gives new
    pub moved : Moved held old new

  -- The worker did jobs, of which it held some numbers before, and is idle.
  pub record Worked (queue : SharedQueue J) (gives : Source → ℕ → J → X → Type 0) (held : List ℕ)
      (old new : LiveWorker J X) : Type 0 where
    pub idle : IsIdle queue gives new
    pub moved : Moved held old new

  -- where the worker's pass has every part of the queue, what was dealt was taken, each number as often
  abbrev pub IsDrained : LiveWorker J X → Type 0
  IsDrained w = (injector_view w.pass).parts ≡ part_count
      → (x : ℕ) → times x (injector_view w.pass).dealt ≡ times x (injector_view w.pass).taken

  -- A worker with this pass and seat, which did nothing yet.
  pub record IsMade (source : Source) (pass : JobPass J) (seat : TicketSeat) (w : LiveWorker J X) : Type 0 where
    pub same : source_of w.hand.source.now ≡ source
    pub pass_is : w.pass ≡ pass
    pub seat_is : w.hand.seat ≡ seat
    pub empty : w.hand.jobs.items ≡ []
    pub undone : w.done.items ≡ []

  -- A worker at the start: by it nothing was drawn, dealt, taken, done or put into the list.
  pub record IsAtStart (queue : SharedQueue J) (source : Source) (w : LiveWorker J X) : Type 0 where
    pub pass : IsInjectorPassOf queue w.pass
    pub view_is : injector_view w.pass ≡ job_view_with 1 [] []
    pub same : source_of w.hand.source.now ≡ source
    pub undrawn : drawn w.hand.seat ≡ []
    pub empty : w.hand.jobs.items ≡ []
    pub undone : w.done.items ≡ []

  -- A worker at the end: what it drew and took is what it dealt and did.
  pub record IsAtEnd (queue : SharedQueue J) (source : Source) (gives : Source → ℕ → J → X → Type 0)
      (w : LiveWorker J X) : Type 0 where
    pub pass : IsInjectorPassOf queue w.pass
    pub parts : (injector_view w.pass).parts ≡ 1
    pub seat : seat_source w.hand.seat ≡ source
    pub even : (x : ℕ) → times x (drawn w.hand.seat) + times x (injector_view w.pass).taken
        ≡ times x (injector_view w.pass).dealt + times x (done_numbers w.done.items)
    pub done : AreDoneBy (gives source) w.done.items

  -- The caller's worker after the first job: it has n parts of the queue. What it got is what it put, but for
  -- number 0, whose result is kept apart.
  pub record IsFirst (queue : SharedQueue J) (source : Source) (gives : Source → ℕ → J → X → Type 0) (n : ℕ)
      (w : LiveWorker J X) : Type 0 where
    pub idle : IsIdle queue gives w
    pub parts : (injector_view w.pass).parts ≡ n
    pub same : source_of w.hand.source.now ≡ source
    pub even : (x : ℕ) → got x w ≡ times x (0 ∷ []) + put x w

-- ---- all workers

-- each worker did jobs, unless it ran out of memory
abbrev pub AllWorked : {J X : Type 0} → SharedQueue J → (Source → ℕ → J → X → Type 0) → List (LiveWorker J X)
    → List (Result (LiveWorker J X) AllocError) → Type 0
AllWorked {J} {X} queue gives olds news = (k : ℕ) (old : LiveWorker J X) (new : Result (LiveWorker J X) AllocError)
    → k < length olds → IfOk (slice_index_or news k new) (Worked queue gives [] (slice_index_or olds k old))

-- The list has n workers at the start and room for one more, and each of them took a part from the pass.
pub record AreForked {J X : Type 0} (queue : SharedQueue J) (source : Source) (n : ℕ) (old new : JobPass J)
    (workers : Vec (LiveWorker J X) Global) : Type 0 where
  pub pass : IsInjectorPassOf queue new
  pub view_is : injector_view new
      ≡ job_view_with ((injector_view old).parts - n) (injector_view old).dealt (injector_view old).taken
  pub each : All (IsAtStart queue source) workers.items
  pub len : vec_len workers ≡ n
  pub room : n < vec_capacity workers

-- What n workers bring to a pass that knew `old` before: their seats, and the results of each.
pub record Brings {X : Type 0} (source : Source) (belongs : ℕ → X → Type 0) (old new : JobView) (n : ℕ)
    (seats : List TicketSeat) (others : List (Vec (ℕ × X) Global)) : Type 0 where
  pub parts : new.parts ≡ old.parts + n
  pub ours : All (λ s. seat_source s ≡ source) seats
  pub seats_len : length seats ≡ n
  pub done : All (λ d. All (λ e. belongs e.0 e.1) d.items) others
  pub others_len : length others ≡ n
  pub even : (x : ℕ) → total (λ s. times x (drawn s)) seats + times x new.taken + times x old.dealt
      ≡ total (λ d. times x (done_numbers d.items)) others + times x new.dealt + times x old.taken

-- What was done by the caller's worker and n others, and their seats: what was drawn is 0 and what was done.
pub record AreRun {J X : Type 0} (source : Source) (gives : Source → ℕ → J → X → Type 0) (n : ℕ) (run : LiveRun X)
    : Type 0 where
  pub own : AreDoneBy (gives source) run.own.items
  pub others : All (λ d. AreDoneBy (gives source) d.items) run.others.items
  pub others_len : vec_len run.others ≡ n
  pub ours : All (λ s. seat_source s ≡ source) run.seats.items
  pub seats_len : vec_len run.seats ≡ n + 1
  pub even : (x : ℕ) → total (λ s. times x (drawn s)) run.seats.items
      ≡ times x (0 ∷ []) + times x (done_numbers run.own.items)
      + total (λ d. times x (done_numbers d.items)) run.others.items
