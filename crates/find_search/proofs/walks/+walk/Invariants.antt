use Rattle.std.proofs.Common.{◌≡◌, ◌≤◌, ◌-◌, ◌+◌, ◌*◌, ℕ, MatchOption, IfSome, IsSomeAnd, length}
use Rattle.xcc_form.specs.Options.{cover_of}
use Rattle.xcc_form.specs.Clashes.{IsOpenAt}
use Rattle.xcc_form.specs.Chosen.{Selection}
use Rattle.xcc_form.proofs.NextLemmas.{left_after}
use Rattle.find_search.specs.declared.ends.Ended.TheVariants.{Whole}
use Rattle.find_search.specs.Adding.{Adds}
use Rattle.find_search.specs.Turns.{IsExtensionBy}
use Rattle.find_search.proofs.TurnLemmas.{IsDone}
use Rattle.find_search.proofs.walks.+walk.Given as goal

-- how many options are not chosen
abbrev left_of : Selection → ℕ
left_of s = length s.compiled.options - length s.chosen

abbrev pub decreases-walk : goal.decreases-walk
decreases-walk g l = 3 * left_of (g.E.OpenOptions.selection l.engine.now) + 2

abbrev pub decreases-walk_item : goal.decreases-walk_item
decreases-walk_item g l = 3 * left_of (g.E.OpenOptions.selection l.engine.now) + 1

abbrev pub decreases-walk_options : goal.decreases-walk_options
decreases-walk_options g l = 3 * left_of (g.E.OpenOptions.selection l.engine.now)

abbrev pub invariant-walk_options-loop-next : goal.invariant-walk_options-loop-next
invariant-walk_options-loop-next g l = let s = g.E.OpenOptions.selection l.initial.engine in record {
  same : l.engine ≡ l.initial.engine;
  next : MatchOption l.next (Unit {0}) (IsOpenAt (cover_of s.compiled) s.chosen l.turn.item);
  from : IfSome l.next (λ n. IsSomeAnd l.turn.first (λ f. f ≤ n));
  adds : Adds s.compiled.puzzle l.search.find.symmetries.now (IsExtensionBy s l.turn.item (IsDone s l.turn l.next)) l.initial.progress.listed l.progress.listed Whole;
  few : length l.progress.listed.arrangements.items ≤ l.search.find.most;
  fuel : l.progress.fuel ≡ l.initial.progress.fuel;
}

abbrev pub decreases-walk_options-loop-next : goal.decreases-walk_options-loop-next
decreases-walk_options-loop-next g l = left_after (length (cover_of (g.E.OpenOptions.selection l.initial.engine).compiled).options) l.next
