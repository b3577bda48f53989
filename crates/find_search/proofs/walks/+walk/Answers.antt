use Rattle.std.proofs.Common.{◌≤◌, ◌∷◌, [], Some, None, IfOk, IfSome, IsSomeAnd, MatchOption, length, length-append, arith, refl, ap, sym, ◌∙◌, subst}
use Rattle.xcc_form.specs.Options.{Compiled, cover_of}
use Rattle.xcc_form.specs.Clashes.{IsOpenAt}
use Rattle.xcc_form.specs.Chosen.{Selection, IsUncovered, AreAllCovered, with_option}
use Rattle.xcc_form.proofs.NextLemmas.{next_open, some_open, comes_after}
use Rattle.count_search.specs.Extensions.{IsExtension}
use Rattle.count_search.proofs.ExtensionLemmas.{IsNextOrLast}
use Rattle.count_search.proofs.SpreadLemmas.{ok_then}
use Rattle.find_search.specs.declared.ends.Ended.TheVariants.{Whole}
use Rattle.find_search.specs.declared.listed.Listed.{Listed}
use Rattle.find_search.specs.declared.turns.Turn.{Turn}
use Rattle.find_search.specs.Adding.{MayAdd, Adds}
use Rattle.find_search.specs.Turns.{IsInTurn, IsExtensionBy, IsExtensionInTurn}
use Rattle.find_search.proofs.AddingLemmas.{adds_none, adds_same, adds_both, may_fewer, may_after}
use Rattle.find_search.proofs.TurnLemmas.{IsDone, has_chosen, both_turns, turns_apart, none_done, comes_in_turn, not_done, still_done, now_done, done_or_now, done_in_turn, all_done, all_before, comes_from, comes_first, by_cases}
use Rattle.find_search.proofs.walks.+walk.Goals as goal

-- ---- a node

pub walk-returns-in-Some-clause-adds : goal.walk-returns-in-Some-clause-adds
walk-returns-in-Some-clause-adds g t c =
    let s = g.E.OpenOptions.selection c.args.engine.now in
    adds_none s.compiled.puzzle c.args.search.now.find.symmetries.now (IsExtension s) c.args.progress.now.listed c.in-Some.ended c.requires.may.list
    (λ whole. absurd (c.ended.ensures.whole (c.in-Some.is ∙ ap Some whole)))

pub walk-returns-then-is_ruled_out-clause-adds : goal.walk-returns-then-is_ruled_out-clause-adds
walk-returns-then-is_ruled_out-clause-adds g t c =
    let s = g.E.OpenOptions.selection c.args.engine.now in
    adds_none s.compiled.puzzle c.args.search.now.find.symmetries.now (IsExtension s) c.args.progress.now.listed Whole c.requires.may.list
    (λ whole a is. absurd (c.is_ruled_out.ensures c.if-is_ruled_out.true a is))

pub walk-add_leaf-requires-clause-covered : goal.walk-add_leaf-requires-clause-covered
walk-add_leaf-requires-clause-covered g t c =
    let s = g.E.OpenOptions.selection c.args.engine.now in
    let told = subst (λ o. MatchOption o (AreAllCovered (cover_of s.compiled) s.chosen) (IsUncovered (cover_of s.compiled) s.chosen)) c.in-None.is c.in_ok-item.ensures.uncovered in
    subst (λ (v : Selection). AreAllCovered (cover_of v.compiled) v.chosen) (sym (ap g.E.OpenOptions.selection c.item_of.ensures.same)) told

-- ---- an item

pub walk_item-walk_options-requires : goal.walk_item-walk_options-requires
walk_item-walk_options-requires g t c =
    let s = g.E.OpenOptions.selection c.args.engine.now in
    let motions = c.args.search.now.find.symmetries.now in
    let item = c.args.item in
    let turn : Turn = record { item = item; first = c.random_option-start.result; end = c.options-options.result } in
    let listed = c.random_option-start.ensures.listed in
    let may = subst (λ (l : Listed). MayAdd s.compiled.puzzle motions (IsExtensionInTurn s turn) l) (sym listed)
    (may_fewer s.compiled.puzzle motions (IsExtension s) (IsExtensionInTurn s turn) c.args.progress.now.listed (has_chosen s c.chosen-right.ensures.right item c.requires.uncovered (IsInTurn turn)) c.requires.may) in
    let few = subst (λ (l : Listed). length l.arrangements.items ≤ c.args.search.now.find.most) (sym listed) c.requires.few in
    λ κs below. (omega (arith, c.decreases), (below.0, (below.1, (c.requires.uncovered, (c.random_option-start.ensures.open, (may, few))))))

pub walk_item-returns-in_default-clause-adds : goal.walk_item-returns-in_default-clause-adds
walk_item-returns-in_default-clause-adds g t c =
    let s = g.E.OpenOptions.selection c.args.engine.now in
    let p = s.compiled.puzzle in
    let motions = c.args.search.now.find.symmetries.now in
    let item = c.args.item in
    let turn : Turn = record { item = item; first = c.random_option-start.result; end = c.options-options.result } in
    let after = c.walk_options.new.progress.listed in
    let ended = c.in_ok-ended.ended in
    adds_same p motions (IsExtensionInTurn s turn) (IsExtension s) c.args.progress.now.listed after ended (has_chosen s c.chosen-right.ensures.right item c.requires.uncovered (IsInTurn turn)) (λ whole. absurd (c.in_default.not-Whole whole))
    (subst (λ (l : Listed). Adds p motions (IsExtensionInTurn s turn) l after ended) c.random_option-start.ensures.listed c.in_ok-ended.ensures.adds)

pub walk_item-walk_options-requires-2 : goal.walk_item-walk_options-requires-2
walk_item-walk_options-requires-2 g t c =
    let s = g.E.OpenOptions.selection c.args.engine.now in
    let right = c.chosen-right.ensures.right in
    let p = s.compiled.puzzle in
    let motions = c.args.search.now.find.symmetries.now in
    let item = c.args.item in
    let start = c.random_option-start.result in
    let first = c.next_option.result in
    let count = c.options-options.result in
    let end = c.unwrap_or.result in
    let counted = c.options-options.ensures.count ∙ ap (λ (x : Compiled). length x.options) c.xcc.ensures in
    let ends = c.unwrap_or.ensures in
    let same = ap g.E.OpenOptions.selection c.in_ok-ended.ensures.same in
    let h = subst (λ (v : Selection). IsNextOrLast v item None first) same c.next_option.ensures in
    let one : Turn = record { item = item; first = start; end = count } in
    let two : Turn = record { item = item; first = first; end = end } in
    let before = c.args.progress.now.listed in
    let mid = c.walk_options.new.progress.listed in
    let adds =
    subst (λ e. Adds p motions (IsExtensionInTurn s one) before mid e) c.in-Whole.is
    (subst (λ (l : Listed). Adds p motions (IsExtensionInTurn s one) l mid c.in_ok-ended.ended) c.random_option-start.ensures.listed c.in_ok-ended.ensures.adds) in
    let may = may_after p motions (IsExtensionInTurn s one) (IsExtensionInTurn s two) (IsExtension s) before mid Whole (has_chosen s right item c.requires.uncovered (IsInTurn two))
    (turns_apart s right item c.requires.uncovered start first h count end counted ends) c.requires.may adds in
    let back = sym same in
    let uncovered = subst (λ (v : Selection). IsUncovered (cover_of v.compiled) v.chosen item) back c.requires.uncovered in
    let is_open = subst (λ (v : Selection). IfSome first (IsOpenAt (cover_of v.compiled) v.chosen item)) back (some_open s s item None first refl h) in
    let may' = subst (λ (v : Selection). MayAdd v.compiled.puzzle motions (IsExtensionInTurn v two) mid) back may in
    let left = ap (λ (v : Selection). length v.compiled.options) same in
    let chosen = ap (λ (v : Selection). length v.chosen) same in
    λ κs below. (omega (arith, c.decreases, left, chosen), (below.0, (below.1, (uncovered, (is_open, (may', c.in_ok-ended.ensures.few))))))

pub walk_item-returns-clause-adds : goal.walk_item-returns-clause-adds
walk_item-returns-clause-adds g t c =
    let s = g.E.OpenOptions.selection c.args.engine.now in
    let right = c.chosen-right.ensures.right in
    let p = s.compiled.puzzle in
    let motions = c.args.search.now.find.symmetries.now in
    let item = c.args.item in
    let start = c.random_option-start.result in
    let first = c.next_option.result in
    let count = c.options-options.result in
    let end = c.unwrap_or.result in
    let counted = c.options-options.ensures.count ∙ ap (λ (x : Compiled). length x.options) c.xcc.ensures in
    let same = ap g.E.OpenOptions.selection c.in_ok-ended.ensures.same in
    let h = subst (λ (v : Selection). IsNextOrLast v item None first) same c.next_option.ensures in
    let one : Turn = record { item = item; first = start; end = count } in
    let two : Turn = record { item = item; first = first; end = end } in
    let before = c.args.progress.now.listed in
    let mid = c.walk_options.new.progress.listed in
    let after = c.walk_options-2.new.progress.listed in
    let adds =
    subst (λ e. Adds p motions (IsExtensionInTurn s one) before mid e) c.in-Whole.is
    (subst (λ (l : Listed). Adds p motions (IsExtensionInTurn s one) l mid c.in_ok-ended.ended) c.random_option-start.ensures.listed c.in_ok-ended.ensures.adds) in
    ok_then (Adds p motions (IsExtensionInTurn s two) mid after) (Adds p motions (IsExtension s) before after)
    (λ ended more.
    adds_both p motions (IsExtensionInTurn s one) (IsExtensionInTurn s two) (IsExtension s) before mid after ended (has_chosen s right item c.requires.uncovered (IsInTurn one)) (has_chosen s right item c.requires.uncovered (IsInTurn two))
    (λ whole. both_turns s right item c.requires.uncovered start first h count end counted c.unwrap_or.ensures) adds more) c.walk_options-2.result
    (subst (λ (v : Selection). IfOk c.walk_options-2.result (Adds v.compiled.puzzle motions (IsExtensionInTurn v two) mid after)) same c.walk_options-2.ensures.adds)

-- ---- options in turn

pub walk_options-loop-next-init : goal.walk_options-loop-next-init
walk_options-loop-next-init g t c =
    let s = g.E.OpenOptions.selection c.args.engine.now in
    let turn = c.args.turn in
    record {
      same = refl;
      next = by_cases turn.first (IsOpenAt (cover_of s.compiled) s.chosen turn.item) c.requires.first;
      from = comes_first turn.first;
      adds = adds_none s.compiled.puzzle c.args.search.now.find.symmetries.now (IsExtensionBy s turn.item (IsDone s turn turn.first)) c.args.progress.now.listed Whole c.requires.may.list (λ whole a w. absurd (none_done s c.chosen-right.ensures.right turn.item c.requires.uncovered turn a w));
      few = c.requires.few;
      fuel = refl;
    }

pub walk_options-returns-then-option-turn-clause-adds : goal.walk_options-returns-then-option-turn-clause-adds
walk_options-returns-then-option-turn-clause-adds g t c =
    let s = g.E.OpenOptions.selection c.args.engine.now in
    let p = s.compiled.puzzle in
    let motions = c.args.search.now.find.symmetries.now in
    let turn = c.args.turn in
    let option = c.in-Some.option in
    let before = c.args.progress.now.listed in
    let after = c.loop-next.progress.listed in
    adds_same p motions (IsExtensionBy s turn.item (IsDone s turn (Some option))) (IsExtensionInTurn s turn) before after Whole
    (done_in_turn s c.chosen-right.ensures.right turn.item c.requires.uncovered turn (Some option)) (λ whole. all_before s c.chosen-right.ensures.right turn.item c.requires.uncovered turn option c.if-option-turn.true)
    (subst (λ o. Adds p motions (IsExtensionBy s turn.item (IsDone s turn o)) before after Whole) c.in-Some.is c.loop-next.invariant.adds)

pub walk_options-walk-below-requires : goal.walk_options-walk-below-requires
walk_options-walk-below-requires g t c =
    let s = g.E.OpenOptions.selection c.args.engine.now in
    let right = c.chosen-right.ensures.right in
    let i = c.loop-next.invariant in
    let p = s.compiled.puzzle in
    let motions = c.args.search.now.find.symmetries.now in
    let turn = c.args.turn in
    let option = c.in-Some.option in
    let before = c.args.progress.now.listed in
    let mid = c.loop-next.progress.listed in
    let is_open = subst (λ o. MatchOption o (Unit {0}) (IsOpenAt (cover_of s.compiled) s.chosen turn.item)) c.in-Some.is i.next in
    let from = subst (λ o. IfSome o (λ n. IsSomeAnd turn.first (λ f. f ≤ n))) c.in-Some.is i.from in
    let comes : IsInTurn turn option = (from, c.if-option-turn.false) in
    let adds = subst (λ o. Adds p motions (IsExtensionBy s turn.item (IsDone s turn o)) before mid Whole) c.in-Some.is i.adds in
    let may = may_after p motions (IsExtensionBy s turn.item (IsDone s turn (Some option))) (IsExtension (with_option s option)) (IsExtensionInTurn s turn) before mid Whole
    (comes_in_turn s right turn.item c.requires.uncovered turn option is_open comes) (not_done s right turn.item c.requires.uncovered turn option is_open comes) c.requires.may adds in
    let same = ap g.E.OpenOptions.selection i.same in
    let with = c.in_ok-choose.ensures.chosen ∙ ap (λ v. with_option v option) same in
    let may' = subst (λ (v : Selection). MayAdd v.compiled.puzzle motions (IsExtension v) mid) (sym with) may in
    let options = ap (λ (v : Selection). length v.compiled.options) with in
    let chosen = ap (λ (v : Selection). length v.chosen) with in
    let long = length-append s.chosen (option ∷ []) in
    let here = ap (λ (v : Selection). length v.compiled.options) same in
    let there = ap (λ (v : Selection). length v.chosen) same in
    let room = c.choose.ensures.room in
    λ κs below. (omega (arith, c.decreases, options, chosen, long, here, there, room), (below.0, (below.1, (may', i.few))))

pub walk_options-returns-in_default-ended-clause-same : goal.walk_options-returns-in_default-ended-clause-same
walk_options-returns-in_default-ended-clause-same g t c = c.undo.ensures ∙ ap g.E.OpenOptions.taken_back c.walk-below.ensures.same ∙ c.in_ok-choose.ensures.before ∙ c.loop-next.invariant.same

pub walk_options-returns-in_default-ended-clause-adds : goal.walk_options-returns-in_default-ended-clause-adds
walk_options-returns-in_default-ended-clause-adds g t c =
    let s = g.E.OpenOptions.selection c.args.engine.now in
    let right = c.chosen-right.ensures.right in
    let i = c.loop-next.invariant in
    let p = s.compiled.puzzle in
    let motions = c.args.search.now.find.symmetries.now in
    let turn = c.args.turn in
    let option = c.in-Some.option in
    let before = c.args.progress.now.listed in
    let mid = c.loop-next.progress.listed in
    let after = c.walk-below.new.progress.listed in
    let ended = c.in_ok-ended.ended in
    let is_open = subst (λ o. MatchOption o (Unit {0}) (IsOpenAt (cover_of s.compiled) s.chosen turn.item)) c.in-Some.is i.next in
    let from = subst (λ o. IfSome o (λ n. IsSomeAnd turn.first (λ f. f ≤ n))) c.in-Some.is i.from in
    let comes : IsInTurn turn option = (from, c.if-option-turn.false) in
    let adds = subst (λ o. Adds p motions (IsExtensionBy s turn.item (IsDone s turn o)) before mid Whole) c.in-Some.is i.adds in
    let with = c.in_ok-choose.ensures.chosen ∙ ap (λ v. with_option (g.E.OpenOptions.selection v) option) i.same in
    let more = subst (λ (v : Selection). Adds v.compiled.puzzle motions (IsExtension v) mid after ended) with c.in_ok-ended.ensures.adds in
    adds_both p motions (IsExtensionBy s turn.item (IsDone s turn (Some option))) (IsExtension (with_option s option)) (IsExtensionInTurn s turn) before mid after ended
    (done_in_turn s right turn.item c.requires.uncovered turn (Some option)) (comes_in_turn s right turn.item c.requires.uncovered turn option is_open comes) (λ whole. absurd (c.in_default-ended.not-Whole whole)) adds more

pub walk_options-loop-next-preserved : goal.walk_options-loop-next-preserved
walk_options-loop-next-preserved g t c =
    let s = g.E.OpenOptions.selection c.args.engine.now in
    let right = c.chosen-right.ensures.right in
    let i = c.loop-next.invariant in
    let p = s.compiled.puzzle in
    let motions = c.args.search.now.find.symmetries.now in
    let turn = c.args.turn in
    let option = c.in-Some.option in
    let next = c.next_option-next.result in
    let before = c.args.progress.now.listed in
    let mid = c.loop-next.progress.listed in
    let after = c.walk-below.new.progress.listed in
    let is_open = subst (λ o. MatchOption o (Unit {0}) (IsOpenAt (cover_of s.compiled) s.chosen turn.item)) c.in-Some.is i.next in
    let from = subst (λ o. IfSome o (λ n. IsSomeAnd turn.first (λ f. f ≤ n))) c.in-Some.is i.from in
    let comes : IsInTurn turn option = (from, c.if-option-turn.false) in
    let h = subst (λ (v : Selection). IsNextOrLast v turn.item (Some option) next) (ap g.E.OpenOptions.selection i.same) c.next_option-next.ensures in
    let adds = subst (λ o. Adds p motions (IsExtensionBy s turn.item (IsDone s turn o)) before mid Whole) c.in-Some.is i.adds in
    let with = c.in_ok-choose.ensures.chosen ∙ ap (λ v. with_option (g.E.OpenOptions.selection v) option) i.same in
    let more =
    subst (λ e. Adds p motions (IsExtension (with_option s option)) mid after e) c.in-Whole.is
    (subst (λ (v : Selection). Adds v.compiled.puzzle motions (IsExtension v) mid after c.in_ok-ended.ended) with c.in_ok-ended.ensures.adds) in
    record {
      same = c.undo.ensures ∙ ap g.E.OpenOptions.taken_back c.walk-below.ensures.same ∙ c.in_ok-choose.ensures.before ∙ i.same;
      next = next_open s s turn.item (Some option) next refl h;
      from = comes_from turn.first next option from (comes_after s turn.item option next h);
      adds = adds_both p motions (IsExtensionBy s turn.item (IsDone s turn (Some option))) (IsExtension (with_option s option)) (IsExtensionBy s turn.item (IsDone s turn next)) before mid after Whole
          (still_done s right turn.item c.requires.uncovered turn option is_open comes next h) (now_done s right turn.item c.requires.uncovered turn option is_open comes next h)
          (λ whole. done_or_now s right turn.item c.requires.uncovered turn option is_open comes next h) adds more;
      few = c.in_ok-ended.ensures.few;
      fuel = c.walk-below.ensures.fuel ∙ i.fuel;
    }

pub walk_options-returns-clause-adds : goal.walk_options-returns-clause-adds
walk_options-returns-clause-adds g t c =
    let s = g.E.OpenOptions.selection c.args.engine.now in
    let p = s.compiled.puzzle in
    let motions = c.args.search.now.find.symmetries.now in
    let turn = c.args.turn in
    let before = c.args.progress.now.listed in
    let after = c.loop-next.progress.listed in
    adds_same p motions (IsExtensionBy s turn.item (IsDone s turn None)) (IsExtensionInTurn s turn) before after Whole
    (done_in_turn s c.chosen-right.ensures.right turn.item c.requires.uncovered turn None) (λ whole. all_done s c.chosen-right.ensures.right turn.item c.requires.uncovered turn)
    (subst (λ o. Adds p motions (IsExtensionBy s turn.item (IsDone s turn o)) before after Whole) c.in_default.is c.loop-next.invariant.adds)
