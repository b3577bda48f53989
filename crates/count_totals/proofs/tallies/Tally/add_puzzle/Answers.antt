use Rattle.std.proofs.Common.{◌≡◌, ◌∙◌, Some, ap, sym, refl}
use Rattle.std.proofs.lemmas.Slice.Eq.{bytes_eq-Decides}
use Rattle.count_totals.proofs.TallyLemmas.{first_puzzle, more_puzzle}
use Rattle.count_totals.proofs.tallies.Tally.add_puzzle.Goals as goal

pub returns-then-eq : goal.returns-then-eq
returns-then-eq c = λ before tells.
    let same : c.in-Some.known ≡ c.args.digest = (bytes_eq-Decides c.in-Some.known c.args.digest).0 (sym c.eq.ensures ∙ c.if-eq.true) in
    more_puzzle c.args.self.now before c.args.digest (c.in-Some.is ∙ ap (λ d. Some d) same) tells

pub returns : goal.returns
returns c = λ before tells. first_puzzle c.args.self.now _ before c.args.digest c.in_default.is refl refl refl tells
