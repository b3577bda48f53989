use Rattle.std.proofs.Common.{◌≡◌, ◌<◌, ◌∙◌, ◌-◌, length, take, arith, ap, sym, subst}
use Rattle.xcc_links.specs.LinkStates.{LinkState}
use Rattle.xcc_links.specs.Marks.{mark_of}
use Rattle.xcc_links.proofs.ChoosingLemmas.{all_right_less, mark_in, moved, inner}
use Rattle.xcc_links.proofs.LinkLemmas.{right_now}
use Rattle.xcc_links.proofs.links.Links.undo.Goals as goal

pub show_back-requires-clause-mark : goal.show_back-requires-clause-mark
show_back-requires-clause-mark c =
    let i = c.self.inside in
    let h = c.self.invariant in
    let t = i.table in
    let some : 0 < length i.chosen.items = subst (λ (s : LinkState). 0 < length s.chosen) (sym c.self.view_is) c.requires in
    let last = length i.chosen.items - 1 in
    let n2 : i.marks.len - 1 ≡ last = omega (arith, i.marks.ok.0, i.chosen.ok.0, h.right.as_many) in
    let mark : c.in-Some.mark ≡ mark_of i.arrays.trail.items i.marks.items last = inner _ _ (c.in-Some.ensures.value (length i.arrays.trail.items) (omega (arith, i.marks.ok.0, h.right.as_many, some))) ∙ ap (mark_of i.arrays.trail.items i.marks.items) n2 in
    mark_in t.takable t.items t.options t.entries.items t.starts.items (i.arrays.links.items, i.arrays.sizes.items) i.arrays.trail.items i.marks.items i.chosen.items h.right last (omega (arith, some)) c.in-Some.mark mark

pub show_back-requires-clause-fits : goal.show_back-requires-clause-fits
show_back-requires-clause-fits c =
    let i = c.self.inside in
    let h = c.self.invariant in
    (right_now i.xcc.now i.table i.arrays i.marks.items i.chosen.items h).right.fits

pub show_back-requires-clause-options : goal.show_back-requires-clause-options
show_back-requires-clause-options c =
    let i = c.self.inside in
    let h = c.self.invariant in
    (right_now i.xcc.now i.table i.arrays i.marks.items i.chosen.items h).right.options

pub invariant_of-self : goal.invariant_of-self
invariant_of-self c =
    let i = c.self.inside in
    let h = c.self.invariant in
    let t = i.table in
    let some : 0 < length i.chosen.items = subst (λ (s : LinkState). 0 < length s.chosen) (sym c.self.view_is) c.requires in
    let last = length i.chosen.items - 1 in
    let n1 : i.chosen.len - 1 ≡ last = omega (arith, i.chosen.ok.0) in
    let n2 : i.marks.len - 1 ≡ last = omega (arith, i.marks.ok.0, i.chosen.ok.0, h.right.as_many) in
    let mark : c.in-Some.mark ≡ mark_of i.arrays.trail.items i.marks.items last =
    inner _ _ (c.in-Some.ensures.value (length i.arrays.trail.items) (omega (arith, i.marks.ok.0, h.right.as_many, some))) ∙ ap (mark_of i.arrays.trail.items i.marks.items) n2 in
    record {
      compiled = h.compiled;
      table = h.table;
      right = moved t.takable t.items t.options t.entries.items t.starts.items _ _ _ _ _ _ _ _
          c.show_back.ensures.back c.show_back.ensures.trail
          (c.pop-2.ensures.rest ∙ ap (λ n. take n i.marks.items) n2)
          (c.pop.ensures.rest ∙ ap (λ n. take n i.chosen.items) n1)
          (all_right_less t.takable t.items t.options t.entries.items t.starts.items (i.arrays.links.items, i.arrays.sizes.items) i.arrays.trail.items i.marks.items i.chosen.items h.right last (omega (arith, some)) c.in-Some.mark mark);
    }
