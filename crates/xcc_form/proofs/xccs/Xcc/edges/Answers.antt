use Rattle.std.proofs.Common.{◌≡◌, ◌<◌, ◌+◌, ◌-◌, ◌∙◌, ℕ, List, Some, slice_get, arith, ap, get_or, take, drop, length, subst, sym}
use Rattle.std.proofs.lemmas.Option.{slice_get-get_or}
use Rattle.std.proofs.lemmas.List.{get_or_default}
use Rattle.match_puzzle.specs.declared.placements.Pair.{Pair}
use Rattle.xcc_form.specs.Options.{Compiled, Choice}
use Rattle.xcc_form.specs.declared.edges.Edge.{Edge}
use Rattle.xcc_form.proofs.ChoiceLemmas.{length-choices, choice, choice_of}
use Rattle.xcc_form.proofs.xccs.Xcc.edges.Goals as goal

-- what is read is what stands there, whatever the default
read : (xs : List ℕ) (i x : ℕ) → i < length xs → x ≡ get_or xs i x → x ≡ get_or xs i 0
read xs i x lt e = e ∙ get_or_default xs i x 0 lt

pub index-requires : goal.index-requires
index-requires c =
    let kept = c.self.inside.options in
    let same = ap (λ (x : Compiled). length x.options) c.self.view_is in
    let long = length-choices kept.starts.items kept.edges.items 0 kept.pairs.items in
    omega (arith, same, long, c.requires, kept.starts.ok.0, c.self.invariant.laid_out.starts_long)

pub index-requires-2 : goal.index-requires-2
index-requires-2 c =
    let kept = c.self.inside.options in
    let same = ap (λ (x : Compiled). length x.options) c.self.view_is in
    let long = length-choices kept.starts.items kept.edges.items 0 kept.pairs.items in
    omega (arith, same, long, c.requires, kept.starts.ok.0, c.self.invariant.laid_out.starts_long)

pub slice_bounds-result-count : goal.slice_bounds-result-count
slice_bounds-result-count c =
    let kept = c.self.inside.options in
    let o = c.args.option in
    let same = ap (λ (x : Compiled). length x.options) c.self.view_is in
    let long = length-choices kept.starts.items kept.edges.items 0 kept.pairs.items in
    let laid_out = c.self.invariant.laid_out in
    let within : o < length kept.pairs.items = omega (arith, same, long, c.requires) in
    let from = read kept.starts.items o c.index.result.now (omega (arith, within, laid_out.starts_long)) c.index.ensures in
    let to = read kept.starts.items (o + 1) c.index-2.result.now (omega (arith, within, laid_out.starts_long)) c.index-2.ensures in
    let up = laid_out.rising o within in
    omega (arith, from, to, up)

pub slice_bounds-result-start : goal.slice_bounds-result-start
slice_bounds-result-start c = slice_bounds-result-count c

pub slice_bounds-result-end : goal.slice_bounds-result-end
slice_bounds-result-end c =
    let kept = c.self.inside.options in
    let o = c.args.option in
    let same = ap (λ (x : Compiled). length x.options) c.self.view_is in
    let long = length-choices kept.starts.items kept.edges.items 0 kept.pairs.items in
    let laid_out = c.self.invariant.laid_out in
    let within : o < length kept.pairs.items = omega (arith, same, long, c.requires) in
    let to = read kept.starts.items (o + 1) c.index-2.result.now (omega (arith, within, laid_out.starts_long)) c.index-2.ensures in
    let high = laid_out.within (o + 1) (omega (arith, within)) in
    let value = ap length c.deref.ensures.value in
    omega (arith, to, high, value)

pub returns : goal.returns
returns c =
    let kept = c.self.inside.options in
    let o = c.args.option in
    let starts = kept.starts.items in
    let edges = kept.edges.items in
    let same = ap (λ (x : Compiled). length x.options) c.self.view_is in
    let long = length-choices starts edges 0 kept.pairs.items in
    let laid_out = c.self.invariant.laid_out in
    let within : o < length kept.pairs.items = omega (arith, same, long, c.requires) in
    let from = read starts o c.index.result.now (omega (arith, within, laid_out.starts_long)) c.index.ensures in
    let to = read starts (o + 1) c.index-2.result.now (omega (arith, within, laid_out.starts_long)) c.index-2.ensures in
    let part : take (get_or starts (o + 1) 0 - get_or starts o 0) (drop (get_or starts o 0) edges) ≡ take (c.index-2.result.now - c.index.result.now) (drop c.index.result.now c.deref.result.now) =
    sym (ap (λ (es : List Edge). take (c.index-2.result.now - c.index.result.now) (drop c.index.result.now es)) c.deref.ensures.value
    ∙ ap (λ n. take (n - c.index.result.now) (drop c.index.result.now edges)) to
    ∙ ap (λ n. take (get_or starts (o + 1) 0 - n) (drop n edges)) from) in
    let x : Pair = get_or kept.pairs.items o (record { cell = 0; placement = record { tile = 0; turn = 0 } }) in
    let at : slice_get kept.pairs.items o ≡ Some x = slice_get-get_or kept.pairs.items o (record { cell = 0; placement = record { tile = 0; turn = 0 } }) within in
    subst (λ (y : Compiled). (d : Choice) × (slice_get y.options o ≡ Some d) × (d.edges ≡ take (c.index-2.result.now - c.index.result.now) (drop c.index.result.now c.deref.result.now))) c.self.view_is
    (choice starts edges o x, choice_of starts edges 0 kept.pairs.items o o x (omega arith) at, part)
