use Rattle.std.proofs.Common.{List, sym, subst}
use Rattle.match_puzzle.specs.declared.placements.Placement.{Placement}
use Rattle.match_text.specs.ListSpelling.{IsListText, IsListWithin}
use Rattle.match_limits.specs.declared.ranges.TheConstants.{SECOND}
use Rattle.match_report.proofs.complete_lists.write_all.Goals as goal

pub write_list-requires : goal.write_list-requires
write_list-requires g c = subst (IsListWithin SECOND) (sym c.as_slice.ensures.keys) c.in_ok-all.ensures.within

pub returns-clause-all : goal.returns-clause-all
returns-clause-all g c = (
  c.in_ok-all.all.keys,
  c.in_ok-all.ensures.all,
  subst (λ (l : List (List Placement)). IsListText l c.in_ok-text.text.items) c.as_slice.ensures.keys
      (record { first = c.in_ok-text.ensures.first; second = c.in_ok-text.ensures.second }),
)
