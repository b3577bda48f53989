use Rattle.std.proofs.Common.{◌≡◌, inl, inr, refl, sym, ap, subst, slice_get, ◌∙◌, arith}
use Rattle.std.proofs.lemmas.Bool.{cases_lt}
use Rattle.std.proofs.lemmas.Option.{slice_get_within, slice_get_read}
use Rattle.match_limits.proofs.OptionLemmas.{inside}
use Rattle.cert_tree.specs.Assembly.{IsAssembly}
use Rattle.cert_tree.proofs.NumberedLemmas.{numbered_assembly}
use Rattle.cert_tree.proofs.numbered.are_assembled.Goals as goal

pub loop-place-preserved : goal.loop-place-preserved
loop-place-preserved g c = λ n piece lt at.
    let pieces = c.args.pieces.now in
    let place = c.loop-place.place in
    let last = c.index-pieces-place.result in
    let here = slice_get_read pieces _ place last refl c.loop-place-test.true c.index-pieces-place.is in
    elim (cases_lt n place) [
      | inl before ↦ c.loop-place.invariant n piece before at
      | inr past ↦
          let same : place ≡ n = omega (arith, past, lt) in
          let is : last ≡ piece = inside (sym here ∙ ap (slice_get pieces) same ∙ at) in
          ap g.N.Numbered.numbered (sym is) ∙ sym c.number.ensures ∙ c.if-number-place.false ∙ same
    ]

pub returns : goal.returns
returns g c =
    let number = g.N.Numbered.numbered in
    let pieces = c.args.pieces.now in
    let is = numbered_assembly number pieces (λ n piece at. c.loop-place.invariant n piece (omega (arith, slice_get_within pieces n piece at, c.loop-place-test.false)) at) in
    (λ _. subst (λ count. IsAssembly number count pieces pieces) c.if-pieces-count.false is, λ _. refl)
