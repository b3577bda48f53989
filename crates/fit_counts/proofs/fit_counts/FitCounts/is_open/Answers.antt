use Rattle.std.proofs.Common.{MatchBool, sym, subst}
use Rattle.std.proofs.lemmas.Bool.{false≢true}
use Rattle.match_puzzle.specs.Puzzle.{Task}
use Rattle.match_puzzle.specs.Fitting.{HasToBeSettled}
use Rattle.fit_counts.specs.Placing.{placed_by}
use Rattle.fit_counts.proofs.CountedLemmas.{open_parts, open_by}
use Rattle.fit_counts.proofs.fit_counts.FitCounts.is_open.Goals as goal

pub returns-then-not-has_to_be_settled : goal.returns-then-not-has_to_be_settled
returns-then-not-has_to_be_settled c =
    let v = c.args.self.now in
    let item = c.args.item in
    let told = subst (λ (p : Task). MatchBool c.has_to_be_settled.result (HasToBeSettled p item) (HasToBeSettled p item → ⊥)) c.puzzle.ensures.same c.has_to_be_settled.ensures in
    let not = subst (λ b. MatchBool b (HasToBeSettled v.puzzle item) (HasToBeSettled v.puzzle item → ⊥)) c.if-not-has_to_be_settled.true told in
    (λ h. absurd (false≢true h), λ is_open. absurd (not (open_parts v.puzzle (placed_by v) item is_open).1))

pub returns : goal.returns
returns c =
    let v = c.args.self.now in
    let item = c.args.item in
    let told = subst (λ (p : Task). MatchBool c.has_to_be_settled.result (HasToBeSettled p item) (HasToBeSettled p item → ⊥)) c.puzzle.ensures.same c.has_to_be_settled.ensures in
    let has = subst (λ b. MatchBool b (HasToBeSettled v.puzzle item) (HasToBeSettled v.puzzle item → ⊥)) c.if-not-has_to_be_settled.false told in
    (λ h. open_by v.puzzle (placed_by v) item (c.is_unsettled.ensures.0 h) has, λ is_open. c.is_unsettled.ensures.1 (open_parts v.puzzle (placed_by v) item is_open).0)
