-- How a hand changes.
use Rattle.std.specs.Prelude.{◌≡◌, ℕ, List, ◌++◌}
use Rattle.steal_crew.specs.Tickets.{source_of, drawn}
use Rattle.steal_crew.specs.Jobs.{job_numbers}
use Rattle.giving_crew.specs.declared.hands.Hand.{Hand}

-- The source stays; what the seat drew more is what the list has more, in order.
pub record Gave {J : Type 0} (old new : Hand J) : Type 0 where
  pub same : source_of new.source.now ≡ source_of old.source.now
  pub more : List ℕ
  pub drew : drawn new.seat ≡ drawn old.seat ++ more
  pub listed : job_numbers new.jobs.items ≡ job_numbers old.jobs.items ++ more
