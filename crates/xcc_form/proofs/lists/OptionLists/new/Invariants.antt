use Rattle.std.proofs.Common.{◌≤◌, ◌*◌, length}
use Rattle.match_limits.specs.declared.TheConstants.{MOST_CHILDREN}
use Rattle.match_limits.specs.Listing.{IsListing}
use Rattle.xcc_form.specs.Options.{PairComesBefore}
use Rattle.xcc_form.specs.Layout.{AreLaidOut}
use Rattle.xcc_form.proofs.PairsLemmas.{IsPairBefore}
use Rattle.xcc_form.proofs.lists.OptionLists.new.Given as goal

abbrev pub invariant-loop-cell : goal.invariant-loop-cell
invariant-loop-cell l = record {
  pairs : IsListing PairComesBefore (IsPairBefore l.puzzle l.cell) l.lists.pairs.items;
  laid_out : AreLaidOut l.puzzle l.shared l.lists.pairs.items l.lists.starts.items l.lists.edges.items;
  short : length l.lists.pairs.items ≤ MOST_CHILDREN * l.cell;
}
