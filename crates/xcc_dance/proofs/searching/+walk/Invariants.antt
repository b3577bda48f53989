use Rattle.std.proofs.Common.{◌≡◌, ◌+◌, ◌-◌, ◌*◌, MatchOption, ℕ, length}
use Rattle.xcc_form.specs.Options.{cover_of}
use Rattle.xcc_form.specs.Clashes.{IsOpenAt}
use Rattle.xcc_form.specs.Chosen.{Selection}
use Rattle.xcc_dance.specs.Walking.{WalksOn}
use Rattle.xcc_dance.proofs.WalkingLemmas.{MadeBefore}
use Rattle.xcc_form.proofs.NextLemmas.{left_after}
use Rattle.xcc_dance.proofs.searching.+walk.Given as goal

-- how many options are not chosen
abbrev left_of : Selection → ℕ
left_of s = length s.compiled.options - length s.chosen

abbrev pub decreases-walk : goal.decreases-walk
decreases-walk g l = 3 * left_of (g.E.OpenOptions.selection l.path.now) + 1

abbrev pub decreases-child : goal.decreases-child
decreases-child g l = 3 * left_of (g.E.OpenOptions.selection l.path.now) + 2

abbrev pub decreases-walk_options : goal.decreases-walk_options
decreases-walk_options g l = 3 * left_of (g.E.OpenOptions.selection l.path.now)

abbrev pub invariant-walk_options-loop-next : goal.invariant-walk_options-loop-next
invariant-walk_options-loop-next g l = let s = g.E.OpenOptions.selection l.initial.path in record {
  path : l.path ≡ l.initial.path;
  next : MatchOption l.next (Unit {0}) (IsOpenAt (cover_of s.compiled) s.chosen l.item);
  made : MadeBefore (g.R.Chooses.picks l.rule) (g.C.Cites.answers l.cites) s l.item l.next l.initial.progress l.progress;
  on : WalksOn g.E.OpenOptions.selection g.C.Cites.moves l.initial.path l.path l.initial.cites l.cites l.initial.progress l.progress;
}

abbrev pub decreases-walk_options-loop-next : goal.decreases-walk_options-loop-next
decreases-walk_options-loop-next g l = left_after (length (g.E.OpenOptions.selection l.initial.path).compiled.options) l.next
