use Rattle.std.proofs.Common.{◌≡◌, ◌∙◌, Some, ap, sym, refl}
use Rattle.count_totals.proofs.TallyLemmas.{first_split, more_split, same_splits}
use Rattle.count_totals.proofs.tallies.Tally.add_split.Goals as goal

pub returns-then-eq : goal.returns-then-eq
returns-then-eq c = λ before tells.
    let same : c.in-Some.known ≡ c.args.split = same_splits c.in-Some.known c.args.split (sym c.eq.ensures ∙ c.if-eq.true) in
    more_split c.args.self.now before c.args.split (c.in-Some.is ∙ ap (λ s. Some s) same) tells

pub returns : goal.returns
returns c = λ before tells. first_split c.args.self.now _ before c.args.split c.in_default.is refl refl refl tells
