use Rattle.std.proofs.Common.{◌≡◌, ◌<◌, Some, slice_get, arith, ap, length, refl, subst}
use Rattle.std.proofs.lemmas.Option.{slice_get_read}
use Rattle.xcc_form.specs.Options.{Compiled}
use Rattle.xcc_form.specs.Correspondence.{IsPairOf}
use Rattle.xcc_form.proofs.ChoiceLemmas.{length-choices, choice, choice_of}
use Rattle.xcc_form.proofs.xccs.Xcc.pair.Goals as goal

pub index-requires : goal.index-requires
index-requires c =
    let kept = c.self.inside.options in
    let same = ap (λ (x : Compiled). length x.options) c.self.view_is in
    let long = length-choices kept.starts.items kept.edges.items 0 kept.pairs.items in
    omega (arith, same, long, c.requires, kept.pairs.ok.0)

pub returns : goal.returns
returns c =
    let kept = c.self.inside.options in
    let same = ap (λ (x : Compiled). length x.options) c.self.view_is in
    let long = length-choices kept.starts.items kept.edges.items 0 kept.pairs.items in
    let within : c.args.option < length kept.pairs.items = omega (arith, same, long, c.requires) in
    let pair = c.index.result.now in
    let at : slice_get kept.pairs.items c.args.option ≡ Some pair = slice_get_read kept.pairs.items (length kept.pairs.items) c.args.option pair refl within c.index.ensures in
    subst (λ (x : Compiled). IsPairOf x c.args.option pair) c.self.view_is
    (choice kept.starts.items kept.edges.items c.args.option pair, choice_of kept.starts.items kept.edges.items 0 kept.pairs.items c.args.option c.args.option pair (omega arith) at, refl)
