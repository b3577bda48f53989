use Rattle.std.proofs.Common.{◌≡◌, ◌<◌, ◌+◌, ◌++◌, ◌∷◌, [], Some, None, length, map, take, get_or, refl, sym, ap, ◌∙◌, arith}
use Rattle.std.proofs.lemmas.List.{length-set, drop-set-lt, map_push, take_all, take_more}
use Rattle.std.proofs.lemmas.Option.{slice_get-get_or}
use Rattle.cert_tree.proofs.AssemblyLemmas.{same_head, not_before}
use Rattle.cert_tree.proofs.slots.take_each.Goals as goal

pub loop-number-init : goal.loop-number-init
loop-number-init g c = record { long = refl; left = refl; taken = ap (map Some) c.in_ok-pieces.ensures.items }

pub index_mut-requires : goal.index_mut-requires
index_mut-requires g c = omega (arith, c.loop-number-test.true, c.len-number-end.ensures, c.args.slots.ok.0, c.loop-number.invariant.long)

pub overflow_cast-result : goal.overflow_cast-result
overflow_cast-result g c = omega (arith, c.loop-number-test.true, c.len-number-end.ensures, c.args.slots.ok.0, c.requires)

pub returns-in_default-clause-missing : goal.returns-in_default-clause-missing
returns-in_default-clause-missing g c =
    let so_far = c.loop-number.invariant in
    let lt : c.loop-number.number < length c.args.slots.items = omega (arith, c.loop-number-test.true, c.len-number-end.ensures, c.args.slots.ok.0) in
    let head = same_head c.loop-number.slots.items c.args.slots.items c.loop-number.number c.index_mut.result.now (omega (arith, lt, so_far.long)) so_far.long so_far.left in
    let none : c.index_mut.result.now ≡ None = sym c.take.ensures.value ∙ c.in_default.is in (
      slice_get-get_or c.args.slots.items c.loop-number.number c.index_mut.result.now lt ∙ ap Some (sym head.0 ∙ sym c.index_mut.ensures.value ∙ none),
      λ m empty. not_before c.loop-number.pieces.items c.args.slots.items c.loop-number.number m (omega (arith, lt)) so_far.taken empty,
    )

pub loop-number-preserved : goal.loop-number-preserved
loop-number-preserved g c =
    let so_far = c.loop-number.invariant in
    let lt : c.loop-number.number < length c.args.slots.items = omega (arith, c.loop-number-test.true, c.len-number-end.ensures, c.args.slots.ok.0) in
    let head = same_head c.loop-number.slots.items c.args.slots.items c.loop-number.number c.index_mut.result.now (omega (arith, lt, so_far.long)) so_far.long so_far.left in
    let some : get_or c.args.slots.items c.loop-number.number c.index_mut.result.now ≡ Some c.in-Some.piece = sym head.0 ∙ sym c.index_mut.ensures.value ∙ sym c.take.ensures.value ∙ c.in-Some.is in
    record {
      long = length-set c.loop-number.slots.items c.loop-number.number c.take.new.self ∙ so_far.long;
      left = drop-set-lt (c.loop-number.number + 1) c.loop-number.slots.items c.loop-number.number c.take.new.self (omega arith) ∙ head.1;
      taken =
          ap (map Some) c.in_ok-push.ensures.items ∙ map_push Some c.loop-number.pieces.items c.in-Some.piece
          ∙ ap (λ xs. xs ++ Some c.in-Some.piece ∷ []) so_far.taken
          ∙ ap (λ x. take c.loop-number.number c.args.slots.items ++ x ∷ []) (sym some)
          ∙ sym (take_more c.args.slots.items c.loop-number.number c.index_mut.result.now lt);
    }

pub returns-clause-all : goal.returns-clause-all
returns-clause-all g c =
    c.loop-number.invariant.taken ∙ take_all c.loop-number.number c.args.slots.items (omega (arith, c.loop-number-test.false, c.len-number-end.ensures, c.args.slots.ok.0))
