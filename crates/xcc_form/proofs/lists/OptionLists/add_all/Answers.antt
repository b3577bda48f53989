use Rattle.std.proofs.Common.{Contains, List, ap, arith, length, subst, sym}
use Rattle.std.proofs.lemmas.List.{length_push}
use Rattle.match_puzzle.specs.declared.placements.Pair.{Pair}
use Rattle.xcc_form.proofs.PairsLemmas.{one_moved, in_rest, in_first}
use Rattle.xcc_form.proofs.lists.OptionLists.add_all.Goals as goal

pub add-requires-clause-legal : goal.add-requires-clause-legal
add-requires-clause-legal c =
    let x = c.in-Some.pair in
    c.loop-pair.invariant.legal x (subst (λ (xs : List Pair). Contains xs x) (sym c.in-Some.ensures) (in_first x c.take_first.new.self))

pub loop-pair-preserved : goal.loop-pair-preserved
loop-pair-preserved c =
    let x = c.in-Some.pair in
    let rest = c.take_first.new.self in
    let before = c.loop-pair.invariant in
    let added = c.in_ok-add.ensures in
    record {
      laid_out = added.laid_out;
      legal = λ y here. before.legal y (subst (λ (xs : List Pair). Contains xs y) (sym c.in-Some.ensures) (in_rest x y rest here));
      short =
          let longer = ap length added.pairs in
          let pushed = length_push c.loop-pair.self.pairs.items x in
          let shorter = ap length c.in-Some.ensures in
          omega (arith, before.short, longer, pushed, shorter);
      rest = one_moved c.loop-pair.self.pairs.items c.add.new.self.pairs.items c.loop-pair.fitting rest _ x c.in-Some.ensures added.pairs before.rest;
    }
