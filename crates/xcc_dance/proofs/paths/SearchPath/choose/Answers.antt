use Rattle.std.proofs.Common.{◌<◌, List, length, sym, subst, ◌∙◌, ap, ◌++◌, ◌∷◌, []}
use Rattle.match_puzzle.specs.declared.placements.Pair.{Pair}
use Rattle.xcc_form.specs.Options.{Compiled, cover_of}
use Rattle.xcc_form.specs.Correspondence.{IsPairOf}
use Rattle.xcc_form.specs.Clashes.{IsOpen}
use Rattle.xcc_form.specs.Chosen.{Selection, with_option}
use Rattle.xcc_dance.specs.Placing.{ArePairsOf}
use Rattle.xcc_dance.proofs.PlacingLemmas.{pairs_pushed}
use Rattle.xcc_dance.proofs.paths.SearchPath.choose.Goals as goal

pub invariant_of-self-2 : goal.invariant_of-self-2
invariant_of-self-2 g c =
    let i = c.self.inside in
    let s = g.E.OpenOptions.selection i.engine in
    let chosen = c.in_ok-choose.ensures.chosen in
    let compiled = c.xcc.ensures ∙ ap (λ (v : Selection). v.compiled) chosen in
    let pair : IsPairOf s.compiled c.args.option c.pair.result = subst (λ (x : Compiled). IsPairOf x c.args.option c.pair.result) compiled c.pair.ensures in
    let pushed = pairs_pushed s.compiled s.chosen i.pairs.items c.args.option c.pair.result pair c.self.invariant in
    let items = c.push_reserved.ensures.items ∙ ap (λ ps. ps ++ c.pair.result ∷ []) c.reserve.ensures.items in
    subst (λ (v : Selection). ArePairsOf v.compiled v.chosen c.push_reserved.new.self.items) (sym chosen)
    (subst (ArePairsOf s.compiled (s.chosen ++ c.args.option ∷ [])) (sym {A = List Pair} items) pushed)

pub choose-requires : goal.choose-requires
choose-requires g c = subst (λ (v : Selection). IsOpen (cover_of v.compiled) v.chosen c.args.option) (sym (ap g.E.OpenOptions.selection c.self.view_is)) c.requires

pub returns-clause-chosen : goal.returns-clause-chosen
returns-clause-chosen g c = c.in_ok-choose.ensures.chosen ∙ ap (λ v. with_option (g.E.OpenOptions.selection v) c.args.option) c.self.view_is

pub returns-clause-before : goal.returns-clause-before
returns-clause-before g c = c.in_ok-choose.ensures.before ∙ c.self.view_is

pub returns-clause-room : goal.returns-clause-room
returns-clause-room g c = subst (λ (v : Selection). length v.chosen < length v.compiled.options) (ap g.E.OpenOptions.selection c.self.view_is) c.in_ok-choose.ensures.room

pub invariant_of-self : goal.invariant_of-self
invariant_of-self g c =
    let s = g.E.OpenOptions.selection c.self.inside.engine in
    subst (ArePairsOf s.compiled s.chosen) (sym {A = List Pair} c.reserve.ensures.items) c.self.invariant

pub invariant_of-self-in_err-choose : goal.invariant_of-self-in_err-choose
invariant_of-self-in_err-choose g c =
    let s = g.E.OpenOptions.selection c.self.inside.engine in
    subst (λ (v : Selection). ArePairsOf v.compiled v.chosen c.reserve.new.self.items) (sym (ap g.E.OpenOptions.selection c.in_err-choose.ensures.refused))
    (subst (ArePairsOf s.compiled s.chosen) (sym {A = List Pair} c.reserve.ensures.items) c.self.invariant)
