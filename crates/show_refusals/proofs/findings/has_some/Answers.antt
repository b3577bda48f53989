use Rattle.std.proofs.Common.{List, Contains, take, refl, sym, subst, ◌∙◌, ⊎_elim}
use Rattle.std.proofs.lemmas.List.{take_all}
use Rattle.std.proofs.lemmas.List.Elements.{Contains-push_cases}
use Rattle.std.proofs.lemmas.Option.{slice_get_read}
use Rattle.match_limits.proofs.ListLemmas.{taken_more}
use Rattle.match_puzzle.specs.declared.placements.Placement.{Placement}
use Rattle.symmetry_orbits.proofs.MemberLemmas.{among, not_among}
use Rattle.show_refusals.proofs.findings.has_some.Goals as goal

pub returns-then-contains : goal.returns-then-contains
returns-then-contains g c = (
  c.arrangement-item.result,
  (c.loop-arrangement.arrangement-index, c.loop-arrangement-test.true, sym c.arrangement-item.is),
  among c.args.set.now.keys c.arrangement-item.result (sym c.contains.ensures ∙ c.if-contains.true),
)

pub loop-arrangement-preserved : goal.loop-arrangement-preserved
loop-arrangement-preserved g c =
    let all = c.args.arrangements.now in
    let keys = c.args.set.now.keys in
    let i = c.loop-arrangement.arrangement-index in
    let a = c.arrangement-item.result in
    let here = slice_get_read all _ i a refl c.loop-arrangement-test.true c.arrangement-item.is in
    let out = not_among keys a (sym c.contains.ensures ∙ c.if-contains.false) in
    subst (λ (front : List (List Placement)). (b : List Placement) → Contains front b → Contains keys b → ⊥) (sym (taken_more all i a here))
    (λ b front has. ⊎_elim (λ old. c.loop-arrangement.invariant b old has) (λ same. out (subst (Contains keys) (sym same) has)) (Contains-push_cases (take i all) a b front))

pub returns : goal.returns
returns g c =
    subst (λ (front : List (List Placement)). (b : List Placement) → Contains front b → Contains c.args.set.now.keys b → ⊥) (take_all c.loop-arrangement.arrangement-index c.args.arrangements.now c.loop-arrangement-test.false) c.loop-arrangement.invariant
