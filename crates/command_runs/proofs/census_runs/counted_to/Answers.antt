use Rattle.std.proofs.Common.{◌≡◌, ◌⊎◌, ◌≤◌, ℕ, List, Option, None, Some, IfSome, MatchOption, Err, codes, ap, inl, inr, subst}
use Rattle.std.proofs.lemmas.Result.{err_from_is_err_and}
use Rattle.match_puzzle.specs.Puzzle.{Task}
use Rattle.match_puzzle.specs.Arrangement.{IsArrangement, HasArrangements}
use Rattle.match_puzzle.specs.Numbers.{AreMoreThan}
use Rattle.command_words.specs.declared.orders.Extent.TheVariants as extents
use Rattle.show_text.specs.Facts.{number_line}
use Rattle.command_runs.specs.Census.{CountsUpTo, CountsMore}
use Rattle.command_runs.proofs.CensusLemmas.{compile_fails}
use Rattle.command_runs.proofs.census_runs.counted_to.Goals as goal

pub returns-in_err-xcc-clause-fails : goal.returns-in_err-xcc-clause-fails
returns-in_err-xcc-clause-fails g c =
    let w = err_from_is_err_and c.from_residual.result c.from_residual.ensures.1 in
    rw (w.1, w.2) (compile_fails (extents.Most c.args.most) c.args.puzzle.now c.in_err-xcc.field-0.0 (λ e. c.in_err-xcc.ensures.too_many (ap Err e)))

pub count_arrangements-requires-clause-split : goal.count_arrangements-requires-clause-split
count_arrangements-requires-clause-split g c = c.in_ok-branches.ensures.split

pub count_arrangements-requires-clause-selections : goal.count_arrangements-requires-clause-selections
count_arrangements-requires-clause-selections g c = c.in_ok-branches.ensures.selections

-- what is counted of the compiled puzzle is counted of the puzzle
counted_of : (p q : Task) (most : ℕ) (said : Option ℕ) → q ≡ p → MatchOption said (AreMoreThan most (IsArrangement q)) (HasArrangements q) → MatchOption said (AreMoreThan most (IsArrangement p)) (HasArrangements p)
counted_of p q most said same told = subst (λ (r : Task). MatchOption said (AreMoreThan most (IsArrangement r)) (HasArrangements r)) same told

-- what is said of the number that is counted
prints_to : (p : Task) (most : ℕ) (said : Option ℕ) (text : List ℕ) → MatchOption said (AreMoreThan most (IsArrangement p)) (HasArrangements p) → IfSome said (λ count. count ≤ most)
    → MatchOption said (text ≡ number_line (codes "arrangements more than") most) (λ count. text ≡ number_line (codes "arrangements") count) → CountsUpTo most p text ⊎ CountsMore most p text
prints_to p most None text more few line = inr (more, line)
prints_to p most (Some count) text has few line = inl (count, has, few, line)

pub returns-clause-prints : goal.returns-clause-prints
returns-clause-prints g c =
    let p = c.args.puzzle.now in
    let counted = c.in_ok-counted.counted in
    prints_to p c.args.most counted c.in_ok-bounded_line.field-0.items (counted_of p c.in_ok-xcc.xcc.puzzle c.args.most counted c.in_ok-xcc.ensures.puzzle c.in_ok-counted.ensures.counted) c.in_ok-counted.ensures.most c.in_ok-bounded_line.ensures
