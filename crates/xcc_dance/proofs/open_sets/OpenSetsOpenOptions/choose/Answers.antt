use Rattle.std.proofs.Common.{◌++◌, ◌∷◌, [], ap, sym, ◌∙◌, subst}
use Rattle.fit_counts.specs.Placing.{Placing, with_next}
use Rattle.xcc_form.specs.Options.{cover_of}
use Rattle.xcc_form.specs.Correspondence.{IsPairOf}
use Rattle.xcc_form.specs.Clashes.{IsOpen}
use Rattle.xcc_form.specs.Chosen.{Selection}
use Rattle.xcc_dance.specs.Placing.{IsPlacingOf}
use Rattle.xcc_dance.proofs.OpenSetLemmas.{open_fits_placing, placing_pushed}
use Rattle.xcc_dance.proofs.RoomLemmas.{room}
use Rattle.xcc_dance.proofs.open_sets.OpenSetsOpenOptions.choose.Goals as goal

pub returns-in_err-reserve-clause-room : goal.returns-in_err-reserve-clause-room
returns-in_err-reserve-clause-room c = let is = subst (λ (s : Selection). IsPlacingOf s.compiled s.chosen c.self.inside.counts) c.self.view_is c.self.invariant in room c.args.self.now.compiled c.args.self.now.chosen c.args.option is.selection c.requires

pub place-requires : goal.place-requires
place-requires c =
    let v = c.args.self.now in
    let is = subst (λ (s : Selection). IsPlacingOf s.compiled s.chosen c.self.inside.counts) c.self.view_is c.self.invariant in
    open_fits_placing v.compiled v.chosen c.self.inside.counts is c.args.option c.pair.result (subst (λ (s : Selection). IsPairOf s.compiled c.args.option c.pair.result) c.self.view_is c.pair.ensures) c.requires

pub returns-in_err-place-clause-room : goal.returns-in_err-place-clause-room
returns-in_err-place-clause-room c = let is = subst (λ (s : Selection). IsPlacingOf s.compiled s.chosen c.self.inside.counts) c.self.view_is c.self.invariant in room c.args.self.now.compiled c.args.self.now.chosen c.args.option is.selection c.requires

pub invariant_of-self-2 : goal.invariant_of-self-2
invariant_of-self-2 c =
    let i = c.self.inside in
    let x = i.xcc.now in
    let is_open = subst (λ (s : Selection). IsOpen (cover_of s.compiled) s.chosen c.args.option) (sym c.self.view_is) c.requires in
    let pushed = placing_pushed x i.chosen.items i.counts c.self.invariant c.args.option c.pair.result c.pair.ensures is_open in
    let chosen = c.push_reserved.ensures.items ∙ ap (λ os. os ++ c.args.option ∷ []) c.reserve.ensures.items in
    subst (λ (p : Placing). IsPlacingOf x c.push_reserved.new.self.items p) (sym c.in_ok-place.ensures.placed) (subst (λ os. IsPlacingOf x os (with_next i.counts c.pair.result)) (sym chosen) pushed)

pub returns-clause-room : goal.returns-clause-room
returns-clause-room c = let is = subst (λ (s : Selection). IsPlacingOf s.compiled s.chosen c.self.inside.counts) c.self.view_is c.self.invariant in room c.args.self.now.compiled c.args.self.now.chosen c.args.option is.selection c.requires
