-- A crew's queues: one for each worker, from which all workers take.
use Rattle.std.specs.Prelude.{◌≡◌, ℕ, zero, suc, ◌+◌, ◌<◌, ◌≤◌, ◌%◌, ◌==◌, cond, List, [], ◌∷◌, ◌++◌, length}
use Rattle.std.specs.Prelude.{Contains, Ok, Result, Vec, vec_len, slice_index_or}
use Rattle.std.specs.declared.alloc.AllocError.{AllocError}
use Rattle.std.specs.declared.alloc.Global.{Global}
use Rattle.crossbeam_deque.specs.Handles.{Pass, view, IsPassOf, worker_view, worker_deque, worker_flavor}
use Rattle.crossbeam_deque.specs.Handles.{stealer_deque, stealer_flavor}
use Rattle.crossbeam_deque.specs.declared.handles.Stealer.{Stealer}
use Rattle.crossbeam_deque.specs.declared.handles.Worker.{Worker}
use Rattle.steal_crew.specs.declared.queues.Queues.{Queues}
use Rattle.steal_crew.specs.declared.queues.View.{View}
use Rattle.steal_crew.specs.declared.queues.InOrder.{InOrder}
use Rattle.steal_crew.specs.declared.works.Station.{Station}
use Rattle.steal_crew.specs.declared.works.Share.{Share}
use Rattle.crew_machine.specs.Counts.{total, times, once_below}
use Rattle.steal_crew.specs.Results.{AreDone, done_numbers}
use Rattle.steal_crew.specs.QueueRule.{part_count}

-- what others take from a queue by
abbrev pub Handle : Type 0
Handle = Stealer ℕ Global View InOrder

-- what the caller deals to a queue by
abbrev pub Owner : Type 0
Owner = Worker ℕ Global View InOrder

-- what a worker knows of a queue
abbrev pub Place : Type 0
Place = Pass ℕ View Global

-- of the numbers below n, those dealt to queue q of `queues` queues, rising
abbrev pub dealt_to : (queues q n : ℕ) → List ℕ
dealt_to queues q zero = []
dealt_to queues q (suc n) = cond (n % queues == q) (dealt_to queues q n ++ n ∷ []) (dealt_to queues q n)

-- 1 where x is below n and dealt to queue q, else 0
abbrev pub once_dealt : (queues q n x : ℕ) → ℕ
once_dealt queues q n x = cond (x % queues == q) (once_below x n) 0

-- ---- what a worker has

-- a pass with one part of a queue, by which nothing was dealt
pub record IsPlace (count : ℕ) (handle : Handle) (place : Place) : Type 0 where
  pub pass : IsPassOf (stealer_deque handle) place
  pub fifo : stealer_flavor handle ≡ 0
  pub part : (view place).parts ≡ 1
  pub below : (view place).below ≤ count
  pub dealt : (view place).dealt ≡ []

-- one worker's places, at the first n queues
pub record Places (n count : ℕ) (handles : List Handle) (places : List Place) : Type 0 where
  pub len : length places ≡ n
  pub each : (q : ℕ) (h : Handle) (p : Place) → q < n
      → IsPlace count (slice_index_or handles q h) (slice_index_or places q p)

-- how often a number was taken by these places
abbrev pub taken_by : ℕ → List Place → ℕ
taken_by x places = total (λ (p : Place). times x (view p).taken) places

-- what one worker is given: places by which nothing was taken
pub record IsStation (queues count : ℕ) (handles : List Handle) (station : Station) : Type 0 where
  pub own : station.own < queues
  pub places : Places queues count handles station.places.items
  pub fresh : (x : ℕ) → taken_by x station.places.items ≡ 0

-- what one worker brings back: its places, and a result of each number that was taken by them, which belongs to it
pub record IsShare {X : Type 0} (queues count : ℕ) (handles : List Handle) (gives : ℕ → X → Type 0)
    (share : Share X) : Type 0 where
  pub places : Places queues count handles share.places.items
  pub done : AreDone gives share.done.items
  pub all : (x : ℕ) → times x (done_numbers share.done.items) ≡ taken_by x share.places.items

-- ---- what the caller has

-- queue q, to which those of the numbers below n were dealt that are its own, and of which `out` parts are out
pub record IsOwner (out queues n q : ℕ) (handle : Handle) (owner : Owner) : Type 0 where
  pub deque : worker_deque owner ≡ stealer_deque handle
  pub fifo : worker_flavor owner ≡ 0
  pub handle_fifo : stealer_flavor handle ≡ 0
  pub parts : (worker_view owner).parts + out ≡ part_count
  pub below : (worker_view owner).below ≤ n
  pub dealt : (worker_view owner).dealt ≡ dealt_to queues q n

-- the queues, beside a handle for each
pub record Owners (out : ℕ → ℕ) (queues n : ℕ) (list : List Handle) (owners : List Owner) : Type 0 where
  pub handles : length list ≡ queues
  pub len : length owners ≡ queues
  pub each : (q : ℕ) (h : Handle) (o : Owner) → q < queues
      → IsOwner (out q) queues n q (slice_index_or list q h) (slice_index_or owners q o)

-- A crew's queues are as they say: the numbers below `count` were dealt to them, and `out` parts of each are out.
abbrev pub AreQueues : Queues → Type 0
AreQueues q = Owners (λ _. q.out) (vec_len q.handles) q.count q.handles.items q.owners.items

-- The queues have these handles, the numbers below n were dealt to them, and `away` parts of each are out.
pub record AreDealt (handles : Vec Handle Global) (n away : ℕ) (q : Queues) : Type 0 where
  pub same : q.handles ≡ handles
  pub count : q.count ≡ n
  pub out : q.out ≡ away
  pub owners : Owners (λ _. away) (vec_len handles) n handles.items q.owners.items

-- what one of the shares has done
abbrev pub IsOfShares : {X : Type 0} → List (Result (Share X) AllocError) → (done : Vec (ℕ × X) Global) → Type 0
IsOfShares {X} shares done = (share : Share X) × Contains shares (Ok share) × (share.done ≡ done)

-- All is known of queue q: the numbers that were dealt to it were taken from it, each once.
pub record IsSpent (queues count q : ℕ) (known : View) : Type 0 where
  pub whole : known.parts ≡ part_count
  pub dealt : known.dealt ≡ dealt_to queues q count
  pub taken : (x : ℕ) → times x known.taken ≡ times x known.dealt
  pub once : (x : ℕ) → times x known.taken ≡ once_dealt queues q count x

-- All is known of each queue by its owner.
abbrev pub AreSpent : (queues count : ℕ) → List Owner → Type 0
AreSpent queues count owners =
    (q : ℕ) (o : Owner) → q < queues → IsSpent queues count q (worker_view (slice_index_or owners q o))

-- The queues have these handles, the numbers below n were dealt to them, and all is known of each.
pub record AreKnown (handles : Vec Handle Global) (n : ℕ) (q : Queues) : Type 0 where
  pub same : q.handles ≡ handles
  pub count : q.count ≡ n
  pub len : vec_len q.owners ≡ vec_len handles
  pub spent : AreSpent (vec_len handles) n q.owners.items

-- All is known of each queue by a pass, which knows what the owner did.
abbrev pub ShowSpent : (queues count : ℕ) → List Place → Type 0
ShowSpent queues count passes =
    (q : ℕ) (p : Place) → q < queues → IsSpent queues count q (view (slice_index_or passes q p))
