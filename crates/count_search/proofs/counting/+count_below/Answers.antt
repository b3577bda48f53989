use Rattle.std.proofs.Common.{◌≤◌, ◌-◌, ◌∷◌, [], ℕ, length, length-append, sym, None, Some, MatchOption, IfSome, arith, refl, ap, ◌∙◌, subst}
use Rattle.match_puzzle.specs.Numbers.{AreSoMany, AreMoreThan}
use Rattle.match_puzzle.proofs.NumberLemmas.{more_than_fewer}
use Rattle.xcc_form.specs.Options.{cover_of}
use Rattle.xcc_form.specs.Clashes.{IsOpen, IsOpenAt}
use Rattle.xcc_form.specs.Chosen.{Selection, AreAllCovered, IsUncovered, with_option}
use Rattle.xcc_form.proofs.NextLemmas.{next_open}
use Rattle.count_search.specs.Looks.{AreLooks}
use Rattle.count_search.specs.Weights.{IsPassed, IsWeight}
use Rattle.count_search.proofs.ExtensionLemmas.{IsNextOrLast, one_extension}
use Rattle.count_search.proofs.WeightLemmas.{IsFoundUnder, none_under, passed_under, one_more_under, more_under, all_under}
use Rattle.count_search.proofs.TotalLemmas.{within_share}
use Rattle.count_search.specs.Extensions.{IsExtension, HasExtensions}
use Rattle.count_search.proofs.counting.+count_below.Goals as goal

-- What `item_of` says.
abbrev IsBranch : Selection → ℕ → Type 0
IsBranch s item = IsUncovered (cover_of s.compiled) s.chosen item

pub returns-then-most-eq0-clause-same : goal.returns-then-most-eq0-clause-same
returns-then-most-eq0-clause-same g t c = refl

pub returns-else-most-eq0-clause-same : goal.returns-else-most-eq0-clause-same
returns-else-most-eq0-clause-same g t c = refl

pub returns-then-most-eq0-clause-most : goal.returns-then-most-eq0-clause-most
returns-then-most-eq0-clause-most g t c = tt

pub returns-else-most-eq0-clause-most : goal.returns-else-most-eq0-clause-most
returns-else-most-eq0-clause-most g t c = let some = c.if-most-eq0.false in omega (arith, some)

pub next_option-next-requires-clause-item : goal.next_option-next-requires-clause-item
next_option-next-requires-clause-item g t c =
    let s = g.E.OpenOptions.selection c.args.engine.now in
    let branch = subst (λ o. MatchOption o (AreAllCovered (cover_of s.compiled) s.chosen) (IsBranch s)) c.in-Some.is c.item_of.ensures in
    branch

pub next_option-next-requires-clause-after : goal.next_option-next-requires-clause-after
next_option-next-requires-clause-after g t c = tt

pub next_option-next-requires-in-Some-next-clause-item : goal.next_option-next-requires-in-Some-next-clause-item
next_option-next-requires-in-Some-next-clause-item g t c =
    let s = g.E.OpenOptions.selection c.args.engine.now in
    let branch = subst (λ o. MatchOption o (AreAllCovered (cover_of s.compiled) s.chosen) (IsBranch s)) c.in-Some.is c.item_of.ensures in
    subst (λ (v : Selection). IsUncovered (cover_of v.compiled) v.chosen c.in-Some.item) (sym (ap g.E.OpenOptions.selection c.loop-next.invariant.same)) branch

pub next_option-next-requires-in-Some-next-clause-after : goal.next_option-next-requires-in-Some-next-clause-after
next_option-next-requires-in-Some-next-clause-after g t c =
    let s = g.E.OpenOptions.selection c.args.engine.now in
    let is_open = subst (λ o. MatchOption o (Unit {0}) (IsOpenAt (cover_of s.compiled) s.chosen c.in-Some.item)) c.in-Some-next.is c.loop-next.invariant.next in
    subst (λ (v : Selection). IsOpenAt (cover_of v.compiled) v.chosen c.in-Some.item c.in-Some-next.option) (sym (ap g.E.OpenOptions.selection c.loop-next.invariant.same)) is_open

pub weight_of-requires-clause-looks : goal.weight_of-requires-clause-looks
weight_of-requires-clause-looks g t c = subst (λ (v : Selection). AreLooks v.compiled c.args.looks.now) (sym (ap g.E.OpenOptions.selection c.loop-next.invariant.same)) c.requires

pub weight_of-requires-clause-item : goal.weight_of-requires-clause-item
weight_of-requires-clause-item g t c =
    let s = g.E.OpenOptions.selection c.args.engine.now in
    let branch = subst (λ o. MatchOption o (AreAllCovered (cover_of s.compiled) s.chosen) (IsBranch s)) c.in-Some.is c.item_of.ensures in
    subst (λ (v : Selection). IsUncovered (cover_of v.compiled) v.chosen c.in-Some.item) (sym (ap g.E.OpenOptions.selection c.loop-next.invariant.same)) branch

pub weight_of-requires-clause-option : goal.weight_of-requires-clause-option
weight_of-requires-clause-option g t c =
    let s = g.E.OpenOptions.selection c.args.engine.now in
    let is_open = subst (λ o. MatchOption o (Unit {0}) (IsOpenAt (cover_of s.compiled) s.chosen c.in-Some.item)) c.in-Some-next.is c.loop-next.invariant.next in
    subst (λ (v : Selection). IsOpenAt (cover_of v.compiled) v.chosen c.in-Some.item c.in-Some-next.option) (sym (ap g.E.OpenOptions.selection c.loop-next.invariant.same)) is_open

pub choose-requires : goal.choose-requires
choose-requires g t c =
    let s = g.E.OpenOptions.selection c.args.engine.now in
    let is_open = subst (λ o. MatchOption o (Unit {0}) (IsOpenAt (cover_of s.compiled) s.chosen c.in-Some.item)) c.in-Some-next.is c.loop-next.invariant.next in
    subst (λ (v : Selection). IsOpen (cover_of v.compiled) v.chosen c.in-Some-next.option) (sym (ap g.E.OpenOptions.selection c.loop-next.invariant.same)) is_open.open_option

pub returns-in_err-choose-clause-same : goal.returns-in_err-choose-clause-same
returns-in_err-choose-clause-same g t c = c.in_err-choose.ensures.refused ∙ c.loop-next.invariant.same

pub overflow_sub-most : goal.overflow_sub-most
overflow_sub-most g t c = c.loop-next.invariant.most

pub share-requires : goal.share-requires
share-requires g t c = c.in-Some-weight_of.ensures.least

pub undo-requires : goal.undo-requires
undo-requires g t c =
    let same = ap (λ e. length (g.E.OpenOptions.selection e).chosen) c.count_below-below.ensures.same in
    let more = ap (λ (v : Selection). length v.chosen) c.in_ok-choose.ensures.chosen in
    let long = length-append (g.E.OpenOptions.selection c.loop-next.engine).chosen (c.in-Some-next.option ∷ []) in
    omega (arith, same, more, long)

pub returns-in_err-count-clause-same : goal.returns-in_err-count-clause-same
returns-in_err-count-clause-same g t c = c.undo.ensures ∙ ap g.E.OpenOptions.taken_back c.count_below-below.ensures.same ∙ c.in_ok-choose.ensures.before ∙ c.loop-next.invariant.same

pub returns-in_default-2-clause-same : goal.returns-in_default-2-clause-same
returns-in_default-2-clause-same g t c = c.undo.ensures ∙ ap g.E.OpenOptions.taken_back c.count_below-below.ensures.same ∙ c.in_ok-choose.ensures.before ∙ c.loop-next.invariant.same

pub returns-in_default-2-clause-most : goal.returns-in_default-2-clause-most
returns-in_default-2-clause-most g t c = tt

pub returns-clause-same : goal.returns-clause-same
returns-clause-same g t c = c.loop-next.invariant.same

pub returns-clause-most : goal.returns-clause-most
returns-clause-most g t c = c.loop-next.invariant.most

pub returns-then-most-eq0-clause-counted : goal.returns-then-most-eq0-clause-counted
returns-then-most-eq0-clause-counted g t c =
    let s = g.E.OpenOptions.selection c.args.engine.now in
    let covered = subst (λ o. MatchOption o (AreAllCovered (cover_of s.compiled) s.chosen) (IsBranch s)) c.in_default.is c.item_of.ensures in
    more_than_fewer (IsExtension s) c.args.most 1 (omega (arith, c.if-most-eq0.true)) (one_extension s c.chosen-right.ensures.right covered)

pub returns-else-most-eq0-clause-counted : goal.returns-else-most-eq0-clause-counted
returns-else-most-eq0-clause-counted g t c =
    let s = g.E.OpenOptions.selection c.args.engine.now in
    one_extension s c.chosen-right.ensures.right (subst (λ o. MatchOption o (AreAllCovered (cover_of s.compiled) s.chosen) (IsBranch s)) c.in_default.is c.item_of.ensures)

pub loop-next-init : goal.loop-next-init
loop-next-init g t c =
    let s = g.E.OpenOptions.selection c.args.engine.now in
    let branch = subst (λ o. MatchOption o (AreAllCovered (cover_of s.compiled) s.chosen) (IsBranch s)) c.in-Some.is c.item_of.ensures in
    record {
      same = refl;
      next = next_open s s c.in-Some.item None c.next_option-next.result refl c.next_option-next.ensures;
      counted = none_under s c.chosen-right.ensures.right c.args.looks.now c.requires c.in-Some.item branch c.next_option-next.result c.next_option-next.ensures;
      most = omega arith;
    }

pub loop-next-preserved-in_default-weight_of : goal.loop-next-preserved-in_default-weight_of
loop-next-preserved-in_default-weight_of g t c =
    let s = g.E.OpenOptions.selection c.args.engine.now in
    let i = c.loop-next.invariant in
    let item = c.in-Some.item in
    let option = c.in-Some-next.option in
    let looks = c.args.looks.now in
    let same = ap g.E.OpenOptions.selection i.same in
    let branch = subst (λ o. MatchOption o (AreAllCovered (cover_of s.compiled) s.chosen) (IsBranch s)) c.in-Some.is c.item_of.ensures in
    let is_open = subst (λ o. MatchOption o (Unit {0}) (IsOpenAt (cover_of s.compiled) s.chosen item)) c.in-Some-next.is i.next in
    let next = c.next_option-next-in-Some-next.result in
    let h = subst (λ (v : Selection). IsNextOrLast v item (Some option) next) same c.next_option-next-in-Some-next.ensures in
    let told = subst (λ (v : Selection). MatchOption c.weight_of.result (IsPassed v looks item option) (IsWeight v looks item option)) same c.weight_of.ensures.weight in
    let passed = subst (λ o. MatchOption o (IsPassed s looks item option) (IsWeight s looks item option)) c.in_default-weight_of.is told in
    record {
      same = i.same;
      next = next_open s s item (Some option) next refl h;
      counted = passed_under s c.chosen-right.ensures.right looks c.requires item branch option is_open next h c.loop-next.sum passed
          (subst (λ o. AreSoMany (IsFoundUnder s looks item o) c.loop-next.sum) c.in-Some-next.is i.counted);
      most = i.most;
    }

pub loop-next-preserved : goal.loop-next-preserved
loop-next-preserved g t c =
    let s = g.E.OpenOptions.selection c.args.engine.now in
    let i = c.loop-next.invariant in
    let item = c.in-Some.item in
    let option = c.in-Some-next.option in
    let looks = c.args.looks.now in
    let weight = c.in-Some-weight_of.weight in
    let count = c.in-Some-2.count in
    let share = c.share.result in
    let left = c.args.most - c.loop-next.sum in
    let chosen = g.E.OpenOptions.selection c.choose.new.self in
    let same = ap g.E.OpenOptions.selection i.same in
    let branch = subst (λ o. MatchOption o (AreAllCovered (cover_of s.compiled) s.chosen) (IsBranch s)) c.in-Some.is c.item_of.ensures in
    let is_open = subst (λ o. MatchOption o (Unit {0}) (IsOpenAt (cover_of s.compiled) s.chosen item)) c.in-Some-next.is i.next in
    let next = c.next_option-next-in-Some-next.result in
    let h = subst (λ (v : Selection). IsNextOrLast v item (Some option) next) same c.next_option-next-in-Some-next.ensures in
    let told = subst (λ (v : Selection). MatchOption c.weight_of.result (IsPassed v looks item option) (IsWeight v looks item option)) same c.weight_of.ensures.weight in
    let weighs = subst (λ o. MatchOption o (IsPassed s looks item option) (IsWeight s looks item option)) c.in-Some-weight_of.is told in
    let with = c.in_ok-choose.ensures.chosen ∙ ap (λ v. with_option (g.E.OpenOptions.selection v) option) i.same in
    let back = c.undo.ensures ∙ ap g.E.OpenOptions.taken_back c.count_below-below.ensures.same ∙ c.in_ok-choose.ensures.before ∙ i.same in
    let below = subst (λ o. MatchOption o (AreMoreThan share (IsExtension chosen)) (HasExtensions chosen)) c.in-Some-2.is c.in_ok-count.ensures.counted in
    let few = subst (λ o. IfSome o (λ n. n ≤ share)) c.in-Some-2.is c.in_ok-count.ensures.most in
    let within = within_share left weight count (subst (λ n. count ≤ n) c.share.ensures few) in
    let most = i.most in
    record {
      same = back;
      next = next_open s s item (Some option) next refl h;
      counted = one_more_under s c.chosen-right.ensures.right looks c.requires item branch option is_open weight count weighs next h c.loop-next.sum
          (subst (λ o. AreSoMany (IsFoundUnder s looks item o) c.loop-next.sum) c.in-Some-next.is i.counted)
          (subst (λ v. HasExtensions v count) with below);
      most = omega (arith, within, most);
    }

pub overflow_mul-sum : goal.overflow_mul-sum
overflow_mul-sum g t c =
    let few = subst (λ o. IfSome o (λ n. n ≤ c.share.result)) c.in-Some-2.is c.in_ok-count.ensures.most in
    let within = within_share (c.args.most - c.loop-next.sum) c.in-Some-weight_of.weight c.in-Some-2.count (subst (λ n. c.in-Some-2.count ≤ n) c.share.ensures few) in
    let fits = c.ranges.most in
    omega (arith, within, fits)

pub overflow_add-sum : goal.overflow_add-sum
overflow_add-sum g t c =
    let few = subst (λ o. IfSome o (λ n. n ≤ c.share.result)) c.in-Some-2.is c.in_ok-count.ensures.most in
    let within = within_share (c.args.most - c.loop-next.sum) c.in-Some-weight_of.weight c.in-Some-2.count (subst (λ n. c.in-Some-2.count ≤ n) c.share.ensures few) in
    let le = c.loop-next.invariant.most in
    let fits = c.ranges.most in
    omega (arith, within, le, fits)

pub returns-in_default-2-clause-counted : goal.returns-in_default-2-clause-counted
returns-in_default-2-clause-counted g t c =
    let s = g.E.OpenOptions.selection c.args.engine.now in
    let i = c.loop-next.invariant in
    let item = c.in-Some.item in
    let option = c.in-Some-next.option in
    let looks = c.args.looks.now in
    let weight = c.in-Some-weight_of.weight in
    let share = c.share.result in
    let chosen = g.E.OpenOptions.selection c.choose.new.self in
    let same = ap g.E.OpenOptions.selection i.same in
    let branch = subst (λ o. MatchOption o (AreAllCovered (cover_of s.compiled) s.chosen) (IsBranch s)) c.in-Some.is c.item_of.ensures in
    let is_open = subst (λ o. MatchOption o (Unit {0}) (IsOpenAt (cover_of s.compiled) s.chosen item)) c.in-Some-next.is i.next in
    let told = subst (λ (v : Selection). MatchOption c.weight_of.result (IsPassed v looks item option) (IsWeight v looks item option)) same c.weight_of.ensures.weight in
    let weighs = subst (λ o. MatchOption o (IsPassed s looks item option) (IsWeight s looks item option)) c.in-Some-weight_of.is told in
    let with = c.in_ok-choose.ensures.chosen ∙ ap (λ v. with_option (g.E.OpenOptions.selection v) option) i.same in
    let below = subst (λ o. MatchOption o (AreMoreThan share (IsExtension chosen)) (HasExtensions chosen)) c.in_default-2.is c.in_ok-count.ensures.counted in
    more_under s c.chosen-right.ensures.right looks c.requires item branch option is_open c.loop-next.sum c.args.most weight i.most c.in-Some-weight_of.ensures.least weighs
    (subst (λ o. AreSoMany (IsFoundUnder s looks item o) c.loop-next.sum) c.in-Some-next.is i.counted)
    (subst (λ n. AreMoreThan n (IsExtension (with_option s option))) c.share.ensures (subst (λ v. AreMoreThan share (IsExtension v)) with below))

pub returns-clause-counted : goal.returns-clause-counted
returns-clause-counted g t c =
    let s = g.E.OpenOptions.selection c.args.engine.now in
    let branch = subst (λ o. MatchOption o (AreAllCovered (cover_of s.compiled) s.chosen) (IsBranch s)) c.in-Some.is c.item_of.ensures in
    all_under s c.chosen-right.ensures.right c.args.looks.now c.requires c.in-Some.item branch c.loop-next.sum
    (subst (λ o. AreSoMany (IsFoundUnder s c.args.looks.now c.in-Some.item o) c.loop-next.sum) c.in_default-next.is c.loop-next.invariant.counted)
