use Rattle.std.proofs.Common.{arith, subst}
use Rattle.std.proofs.lemmas.Result.{IfErr-weaker, IfOk-weaker}
use Rattle.count_totals.specs.Counts.{HaveSum, IsFirstWithout}
use Rattle.count_totals.specs.Tallies.{IsOnly}
use Rattle.count_totals.specs.Totals.{HaveTotal, Lack}
use Rattle.count_totals.specs.declared.lines.Line.TheVariants as lines
use Rattle.std.proofs.Common.{Contains}
use Rattle.count_totals.proofs.CountLemmas.{none_there, some_there}
use Rattle.count_totals.proofs.TallyLemmas.{has_none, has_some, has_total, lacks_at_end, names_puzzle, names_split, no_part}
use Rattle.count_totals.proofs.tallies.Tally.total.Goals as goal

pub returns-then-is_none-clause-lack : goal.returns-then-is_none-clause-lack
returns-then-is_none-clause-lack c = λ told tells. subst (IsOnly (λ d. Contains told (lines.Puzzle d))) (has_none c.args.self.now.puzzle c.if-is_none.ensures) tells.puzzle

pub returns-then-is_none-2-clause-lack : goal.returns-then-is_none-2-clause-lack
returns-then-is_none-2-clause-lack c = λ told tells.
    let puzzle = has_some c.args.self.now.puzzle c.if-is_none.ensures in
    (names_puzzle c.args.self.now told puzzle.0 puzzle.1 tells, subst (IsOnly (λ s. Contains told (lines.Split s))) (has_none c.args.self.now.split c.if-is_none-2.ensures) tells.split)

pub returns-then-is_empty-clause-lack : goal.returns-then-is_empty-clause-lack
returns-then-is_empty-clause-lack c = λ told tells.
    let puzzle = has_some c.args.self.now.puzzle c.if-is_none.ensures in
    let split = has_some c.args.self.now.split c.if-is_none-2.ensures in
    (names_puzzle c.args.self.now told puzzle.0 puzzle.1 tells, names_split c.args.self.now told split.0 split.1 tells, no_part told c.args.self.now.counts.items (let none = none_there _ c.if-is_empty.ensures in omega (arith, none, c.args.self.now.counts.ok.0)) tells.counts)

pub returns-clause-total : goal.returns-clause-total
returns-clause-total c = λ told tells.
    let puzzle = has_some c.args.self.now.puzzle c.if-is_none.ensures in
    let split = has_some c.args.self.now.split c.if-is_none-2.ensures in
    IfOk-weaker c.sum_of.result (HaveSum c.deref.result.now) (HaveTotal told) (λ total added. has_total c.args.self.now told puzzle.0 split.0 total puzzle.1 split.1 (let some = some_there _ c.if-is_empty.ensures in omega (arith, some, c.args.self.now.counts.ok.0)) (subst (λ cs. HaveSum cs total) c.deref.ensures.value added) tells) c.sum_of.ensures.sum

pub returns-clause-lack : goal.returns-clause-lack
returns-clause-lack c = λ told tells.
    let puzzle = has_some c.args.self.now.puzzle c.if-is_none.ensures in
    let split = has_some c.args.self.now.split c.if-is_none-2.ensures in
    IfErr-weaker c.sum_of.result (IsFirstWithout c.deref.result.now) (Lack told) (λ fault first. lacks_at_end c.args.self.now told fault (names_puzzle c.args.self.now told puzzle.0 puzzle.1 tells) (names_split c.args.self.now told split.0 split.1 tells) (let some = some_there _ c.if-is_empty.ensures in omega (arith, some, c.args.self.now.counts.ok.0)) tells (subst (λ cs. IsFirstWithout cs fault) c.deref.ensures.value first)) c.sum_of.ensures.missing
