use Rattle.std.proofs.Common.{◌<◌, ◌∙◌, ◌++◌, ◌∷◌, [], ℕ, List, length, ap, refl, sym, subst}
use Rattle.xcc_form.specs.Options.{cover_of}
use Rattle.xcc_form.specs.Clashes.{IsOpen}
use Rattle.xcc_links.specs.Trails.{Arrays}
use Rattle.xcc_links.specs.Marks.{AreRightFor}
use Rattle.xcc_form.specs.Chosen.{with_option}
use Rattle.xcc_links.specs.LinkStates.{LinkState, selection_of}
use Rattle.xcc_links.proofs.PurifyingLemmas.{goes_has}
use Rattle.xcc_dance.proofs.RoomLemmas.{room}
use Rattle.xcc_links.proofs.ChoosingLemmas.{same_state, all_right_more, back_before, moved, uncovered, hides_more, ok_holds, err_holds, on_err, popped}
use Rattle.xcc_links.proofs.MeaningLemmas.{few_options, open_free}
use Rattle.xcc_links.proofs.LinkLemmas.{right_now, selection_is}
use Rattle.xcc_links.proofs.links.Links.choose.Goals as goal

pub returns-in_err-note_choice-clause-room : goal.returns-in_err-note_choice-clause-room
returns-in_err-note_choice-clause-room c =
    let i = c.self.inside in
    subst (λ (s : LinkState). length s.chosen < length s.compiled.options) c.self.view_is
    (room i.xcc.now i.chosen.items c.args.option (selection_is i.xcc.now i.table i.arrays i.marks.items i.chosen.items c.self.invariant) (subst (λ (s : LinkState). IsOpen (cover_of s.compiled) s.chosen c.args.option) (sym c.self.view_is) c.requires))

pub returns-then-is_err-clause-room : goal.returns-then-is_err-clause-room
returns-then-is_err-clause-room c =
    let i = c.self.inside in
    subst (λ (s : LinkState). length s.chosen < length s.compiled.options) c.self.view_is
    (room i.xcc.now i.chosen.items c.args.option (selection_is i.xcc.now i.table i.arrays i.marks.items i.chosen.items c.self.invariant) (subst (λ (s : LinkState). IsOpen (cover_of s.compiled) s.chosen c.args.option) (sym c.self.view_is) c.requires))

pub returns-clause-room : goal.returns-clause-room
returns-clause-room c =
    let i = c.self.inside in
    subst (λ (s : LinkState). length s.chosen < length s.compiled.options) c.self.view_is
    (room i.xcc.now i.chosen.items c.args.option (selection_is i.xcc.now i.table i.arrays i.marks.items i.chosen.items c.self.invariant) (subst (λ (s : LinkState). IsOpen (cover_of s.compiled) s.chosen c.args.option) (sym c.self.view_is) c.requires))

pub hide_excluded-requires-clause-right : goal.hide_excluded-requires-clause-right
hide_excluded-requires-clause-right c =
    let i = c.self.inside in
    (right_now i.xcc.now i.table i.arrays i.marks.items i.chosen.items c.self.invariant).right

pub hide_excluded-requires-clause-uncovered : goal.hide_excluded-requires-clause-uncovered
hide_excluded-requires-clause-uncovered c =
    let i = c.self.inside in
    let h = c.self.invariant in
    let t = i.table in
    let r = right_now i.xcc.now t i.arrays i.marks.items i.chosen.items h in
    let is = subst (λ (s : LinkState). IsOpen (cover_of s.compiled) s.chosen c.args.option) (sym c.self.view_is) c.requires in
    uncovered t.takable t.items t.options t.entries.items t.starts.items h.table.table i.chosen.items i.arrays.trail.items r.hides h.right.real c.args.option
    (few_options i.xcc.now h.compiled t h.table c.args.option is.real)
    (open_free i.xcc.now h.compiled t h.table i.chosen.items h.right.real c.args.option is)

pub invariant_of-self : goal.invariant_of-self
invariant_of-self c =
    let i = c.self.inside in
    let h = c.self.invariant in
    let t = i.table in
    let a : Arrays = (i.arrays.links.items, i.arrays.sizes.items) in
    record {
      compiled = h.compiled;
      table = h.table;
      right = moved t.takable t.items t.options t.entries.items t.starts.items a a i.arrays.trail.items i.arrays.trail.items i.marks.items _ i.chosen.items _
          refl refl c.in_err-note_choice.ensures.no_mark c.in_err-note_choice.ensures.none_chosen h.right;
    }

pub invariant_of-self-then-is_err : goal.invariant_of-self-then-is_err
invariant_of-self-then-is_err c =
    let i = c.self.inside in
    let h = c.self.invariant in
    let t = i.table in
    let e = c.hide_excluded.ensures in
    let a : Arrays = (i.arrays.links.items, i.arrays.sizes.items) in
    record {
      compiled = h.compiled;
      table = h.table;
      right = moved t.takable t.items t.options t.entries.items t.starts.items a _ i.arrays.trail.items _ i.marks.items _ i.chosen.items _
          (err_holds c.hide_excluded.result _ c.if-is_err.ensures.value e.arrays)
          (err_holds c.hide_excluded.result _ c.if-is_err.ensures.value e.trail)
          (popped _ _ _ _ _ c.note_choice.new.marks.ok.0 c.in_ok-note_choice.ensures.marks c.pop.ensures.rest)
          (popped _ _ _ _ _ c.note_choice.new.chosen.ok.0 c.in_ok-note_choice.ensures.chosen c.pop-then-is_err.ensures.rest)
          h.right;
    }

pub invariant_of-self-else-is_err : goal.invariant_of-self-else-is_err
invariant_of-self-else-is_err c =
    let i = c.self.inside in
    let h = c.self.invariant in
    let t = i.table in
    let r = right_now i.xcc.now t i.arrays i.marks.items i.chosen.items h in
    let is = subst (λ (s : LinkState). IsOpen (cover_of s.compiled) s.chosen c.args.option) (sym c.self.view_is) c.requires in
    let within = few_options i.xcc.now h.compiled t h.table c.args.option is.real in
    let free = open_free i.xcc.now h.compiled t h.table i.chosen.items h.right.real c.args.option is in
    let e = c.hide_excluded.ensures in
    let a : Arrays = (c.hide_excluded.new.self.links.items, c.hide_excluded.new.self.sizes.items) in
    let goes = ok_holds c.hide_excluded.result _ c.if-is_err.ensures.value e.goes in
    let all = ok_holds c.hide_excluded.result _ c.if-is_err.ensures.value e.all in
    let only = ok_holds c.hide_excluded.result _ c.if-is_err.ensures.value e.only in
    let now : AreRightFor t.takable t.items t.options t.entries.items t.starts.items (i.chosen.items ++ c.args.option ∷ []) a c.hide_excluded.new.self.trail.items = record {
      hides = hides_more t.takable t.items t.options t.entries.items t.starts.items h.table.table i.chosen.items i.arrays.trail.items r.hides h.right.real c.args.option within free c.hide_excluded.new.self.trail.items (λ p k. goes_has _ _ _ _ _ p goes k) all only;
      right = ok_holds c.hide_excluded.result _ c.if-is_err.ensures.value e.right;
    } in
    record {
      compiled = h.compiled;
      table = h.table;
      right = moved t.takable t.items t.options t.entries.items t.starts.items a _ c.hide_excluded.new.self.trail.items _ (i.marks.items ++ length i.arrays.trail.items ∷ []) _ (i.chosen.items ++ c.args.option ∷ []) _
          refl refl
          (c.in_ok-note_choice.ensures.marks ∙ ap (λ n. i.marks.items ++ n ∷ []) (c.len-mark.ensures ∙ i.arrays.trail.ok.0))
          c.in_ok-note_choice.ensures.chosen
          (all_right_more t.takable t.items t.options t.entries.items t.starts.items (i.arrays.links.items, i.arrays.sizes.items) a i.arrays.trail.items c.hide_excluded.new.self.trail.items i.marks.items i.chosen.items h.right goes c.args.option within free now);
    }

pub returns-in_err-note_choice-clause-refused : goal.returns-in_err-note_choice-clause-refused
returns-in_err-note_choice-clause-refused c =
    let i = c.self.inside in
    on_err c.from_residual.result _
    (same_state i.xcc.now i.table.entries.items i.table.starts.items refl refl c.in_err-note_choice.ensures.no_mark c.in_err-note_choice.ensures.none_chosen ∙ c.self.view_is)

pub returns-then-is_err-clause-refused : goal.returns-then-is_err-clause-refused
returns-then-is_err-clause-refused c =
    let i = c.self.inside in
    let e = c.hide_excluded.ensures in
    same_state i.xcc.now i.table.entries.items i.table.starts.items
    (err_holds c.hide_excluded.result _ c.if-is_err.ensures.value e.arrays)
    (err_holds c.hide_excluded.result _ c.if-is_err.ensures.value e.trail)
    (popped _ _ _ _ _ c.note_choice.new.marks.ok.0 c.in_ok-note_choice.ensures.marks c.pop.ensures.rest)
    (popped _ _ _ _ _ c.note_choice.new.chosen.ok.0 c.in_ok-note_choice.ensures.chosen c.pop-then-is_err.ensures.rest)
    ∙ c.self.view_is

pub returns-clause-chosen : goal.returns-clause-chosen
returns-clause-chosen c =
    let i = c.self.inside in
    ap (λ (chosen : List ℕ). record { compiled = i.xcc.now; chosen = chosen }) c.in_ok-note_choice.ensures.chosen
    ∙ ap (λ (s : LinkState). with_option (selection_of s) c.args.option) c.self.view_is

pub returns-clause-before : goal.returns-clause-before
returns-clause-before c =
    let i = c.self.inside in
    let t = i.table in
    let new = c.hide_excluded.new.self in
    let goes = ok_holds c.hide_excluded.result _ c.if-is_err.ensures.value c.hide_excluded.ensures.goes in
    let marks = c.in_ok-note_choice.ensures.marks ∙ ap (λ n. i.marks.items ++ n ∷ []) (c.len-mark.ensures ∙ i.arrays.trail.ok.0) in
    back_before t.takable t.items t.options t.entries.items t.starts.items (i.arrays.links.items, i.arrays.sizes.items) (new.links.items, new.sizes.items) i.arrays.trail.items new.trail.items i.marks.items i.chosen.items c.self.invariant.right goes i.xcc.now c.args.option _
    (same_state i.xcc.now t.entries.items t.starts.items refl refl marks c.in_ok-note_choice.ensures.chosen)
    ∙ c.self.view_is
