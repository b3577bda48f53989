-- What a hand gave is put together.
use Rattle.std.proofs.Common.{[], ◌++◌, refl, sym, ap, ◌∙◌}
use mathlib.Core.List.{append-nil, append_assoc}
use Rattle.steal_crew.specs.Tickets.{drawn}
use Rattle.steal_crew.specs.Jobs.{job_numbers}
use Rattle.giving_crew.specs.LiveHands.{Gave}
use Rattle.giving_crew.specs.declared.hands.Hand.{Hand}

module _ {J : Type 0} where
  -- nothing was given
  pub gave_nothing : (h : Hand J) → Gave h h
  gave_nothing h = record {
    same = refl;
    more = [];
    drew = sym (append-nil (drawn h.seat));
    listed = sym (append-nil (job_numbers h.jobs.items));
  }

  -- some jobs, and then some more
  pub gave_both : (h k l : Hand J) → Gave h k → Gave k l → Gave h l
  gave_both h k l one two = record {
    same = two.same ∙ one.same;
    more = one.more ++ two.more;
    drew = two.drew ∙ ap (λ ns. ns ++ two.more) one.drew ∙ append_assoc (drawn h.seat) one.more two.more;
    listed = two.listed ∙ ap (λ ns. ns ++ two.more) one.listed ∙ append_assoc (job_numbers h.jobs.items) one.more two.more;
  }
