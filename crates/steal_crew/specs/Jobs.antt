-- The rule of the queue whose numbers carry jobs.
use Rattle.std.specs.Prelude.{◌≡◌, ℕ, ◌+◌, List, [], map}
use mathlib.Core.Option.{some}
use lib.ListN.{get_elem?}
use Rattle.steal_crew.specs.declared.jobs.JobView.{JobView}
use Rattle.steal_crew.specs.declared.jobs.NumberedJob.{NumberedJob}
use Rattle.crew_machine.specs.Counts.{total, times}
use Rattle.steal_crew.specs.QueueRule.{part_count}

-- what a pass knows: how many of the queue's parts it has, and what was dealt and what was taken by it, in order
abbrev pub job_view_with : (parts : ℕ) (dealt taken : List ℕ) → JobView
job_view_with parts dealt taken = record { parts = parts; dealt = dealt; taken = taken }

-- the job with its number
abbrev pub numbered_job : {J : Type 0} → ℕ → J → NumberedJob J
numbered_job n j = record { number = n; job = j }

-- the numbers of the jobs
abbrev pub job_numbers : {J : Type 0} → List (NumberedJob J) → List ℕ
job_numbers xs = map (λ t. t.number) xs

-- What was dealt is what was taken and what waits, each number as often.
pub record JobsKept {J : Type 0} (waiting : List (NumberedJob J)) (views : List JobView) : Type 0 where
  pub parts : total (λ v. v.parts) views ≡ part_count
  pub counts : (x : ℕ) → total (λ v. times x v.dealt) views
      ≡ total (λ v. times x v.taken) views + times x (job_numbers waiting)
  pub idle : (port : ℕ) (v : JobView) → get_elem? views port ≡ some v → v.parts ≡ 0 → (v.dealt ≡ []) × (v.taken ≡ [])
