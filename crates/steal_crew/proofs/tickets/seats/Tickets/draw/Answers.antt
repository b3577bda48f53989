use Rattle.std.proofs.Common.{rules, ap, arith}
use Rattle.steal_crew.proofs.NumberSourceLemmas.{draws}
use Rattle.steal_crew.proofs.tickets.seats.Tickets.draw.Goals as goal

pub fetch_add-found-requires : goal.fetch_add-found-requires
fetch_add-found-requires c = let s = c.args.seat.now in let one = s.one_part in (
  ap (λ z. z.0) c.requires,
  search rules,
  draws _ _ _ _ (omega arith) (search rules),
)
