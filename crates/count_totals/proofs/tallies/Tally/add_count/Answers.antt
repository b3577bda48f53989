use Rattle.std.proofs.Common.{◌≡◌, ◌∙◌, ◌-◌, Some, None, length, slice_get, get_or, arith, ap, refl, subst}
use Rattle.std.proofs.lemmas.Option.{slice_get_read}
use Rattle.count_totals.proofs.TallyLemmas.{clashing_count, clashing_parts, counts_again, counts_new, more_counts}
use Rattle.count_totals.proofs.tallies.Tally.add_count.Goals as goal

pub returns-then-parts-earlier : goal.returns-then-parts-earlier
returns-then-parts-earlier c = λ before tells. clashing_parts c.args.self.now before c.args.part c.len-earlier.result c.requires.some (omega (arith, c.len-earlier.ensures, c.args.self.now.counts.ok.0)) c.if-parts-earlier.true tells

pub returns-then-known-count : goal.returns-then-known-count
returns-then-known-count c = λ before tells.
    let counts = c.args.self.now.counts.items in
    let place = c.args.part.number - 1 in
    let many : c.args.part.parts ≡ length counts = omega (arith, c.if-parts-earlier.false, c.len-earlier.ensures, c.args.self.now.counts.ok.0) in
    let here : slice_get counts place ≡ Some (Some c.args.part.count) = slice_get_read counts (length counts) place _ refl (omega (arith, many, c.requires.part.0, c.requires.part.1)) (subst (λ o. o ≡ get_or counts place o) (c.in-Some.is ∙ ap (λ n. Some n) c.if-known-count.true) c.index.ensures) in
    more_counts c.args.self.now c.args.self.now before c.args.part refl refl (counts_again before c.args.part counts many here tells.counts) tells

pub returns-else-known-count : goal.returns-else-known-count
returns-else-known-count c = λ before tells.
    let counts = c.args.self.now.counts.items in
    let place = c.args.part.number - 1 in
    let many : c.args.part.parts ≡ length counts = omega (arith, c.if-parts-earlier.false, c.len-earlier.ensures, c.args.self.now.counts.ok.0) in
    let here : slice_get counts place ≡ Some (Some c.in-Some.known) = slice_get_read counts (length counts) place _ refl (omega (arith, many, c.requires.part.0, c.requires.part.1)) (subst (λ o. o ≡ get_or counts place o) c.in-Some.is c.index.ensures) in
    clashing_count c.args.self.now before c.args.part c.in-Some.known c.requires.part.0 many here c.if-known-count.false tells

pub returns : goal.returns
returns c = λ before tells.
    let counts = c.args.self.now.counts.items in
    let place = c.args.part.number - 1 in
    let many : c.args.part.parts ≡ length counts = omega (arith, c.if-parts-earlier.false, c.len-earlier.ensures, c.args.self.now.counts.ok.0) in
    let here : slice_get counts place ≡ Some None = slice_get_read counts (length counts) place _ refl (omega (arith, many, c.requires.part.0, c.requires.part.1)) (subst (λ o. o ≡ get_or counts place o) c.in_default.is c.index.ensures) in
    more_counts c.args.self.now _ before c.args.part refl refl (counts_new before c.args.part counts c.requires.part.0 many here tells.counts.told) tells
