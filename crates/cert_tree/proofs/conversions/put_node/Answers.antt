use Rattle.std.proofs.Common.{◌≡◌, ◌++◌, ◌∷◌, [], length, ap, sym, subst, ◌∙◌, arith, length-append}
use Rattle.cert_tree.specs.Tree.{forest_of, AreNarrow}
use Rattle.cert_tree.proofs.ConversionLemmas.{heads_left, head_put, nothing_put, whole_put, AreAllNarrow, narrow_popped, narrow_pushed}
use Rattle.cert_tree.proofs.conversions.put_node.Goals as goal
use Rattle.cert_tree.proofs.conversions.put_node.Goals.{In_ok-push-4}

pub head_and_children-head-requires : goal.head_and_children-head-requires
head_and_children-head-requires c =
    let narrow = narrow_popped c.pop.new.self.items c.in-Some.nodes (subst AreAllNarrow c.in-Some.ensures.items c.loop-nodes.invariant.narrow) in
    (subst (λ nodes. AreNarrow (forest_of nodes)) c.in-Some-split_first.ensures.cases.0 narrow.1).0

-- what is left once a head was put
module _ (c : In_ok-push-4) where
  pushed : c.push-in-Some-3.new.self.items ≡ (c.pop.new.self.items ++ c.in-Some-split_first.others ∷ []) ++ c.head_and_children-head.result.1 ∷ []
  pushed = c.in_ok-push-4.ensures.items ∙ ap (λ left. left ++ c.head_and_children-head.result.1 ∷ []) c.in_ok-push-3.ensures.items

  next : heads_left c.loop-nodes.left.items ≡ c.head_and_children-head.result.0 ∷ heads_left c.push-in-Some-3.new.self.items
  next =
      let made = c.head_and_children-head in
      let split = c.in-Some-split_first in
      ap heads_left c.in-Some.ensures.items ∙ head_put c.pop.new.self.items c.in-Some.nodes split.others made.result.1 split.node.now made.result.0 split.ensures.cases.0 made.ensures.heads
      ∙ ap (λ left. made.result.0 ∷ heads_left left) (sym pushed)

pub loop-nodes-smaller : goal.loop-nodes-smaller
loop-nodes-smaller c =
    let rest = c.pop.new.self.items in
    let others = c.in-Some-split_first.others ∷ [] in
    let before = ap length c.in-Some.ensures.items ∙ length-append rest (c.in-Some.nodes ∷ []) in
    let after = ap length (pushed c) ∙ length-append (rest ++ others) (c.head_and_children-head.result.1 ∷ []) in
    omega (arith, ap length (next c), before, after, length-append rest others)

pub loop-nodes-preserved : goal.loop-nodes-preserved
loop-nodes-preserved c =
    let rest = c.pop.new.self.items in
    let split = c.in-Some-split_first in
    let made = c.head_and_children-head in
    let narrow = narrow_popped rest c.in-Some.nodes (subst AreAllNarrow c.in-Some.ensures.items c.loop-nodes.invariant.narrow) in
    let beside = (subst (λ nodes. AreNarrow (forest_of nodes)) split.ensures.cases.0 narrow.1).1 in
    record {
      whole = whole_put c.loop-nodes.heads.items c.push-in-Some.new.self.items c.loop-nodes.left.items c.push-in-Some-3.new.self.items made.result.0 _ c.in_ok-push-2.ensures.items (next c) c.loop-nodes.invariant.whole;
      narrow = subst AreAllNarrow (sym (pushed c)) (narrow_pushed (rest ++ split.others ∷ []) made.result.1 (narrow_pushed rest split.others narrow.0 beside) made.ensures.narrow);
    }

pub loop-nodes-smaller-in_default-split_first : goal.loop-nodes-smaller-in_default-split_first
loop-nodes-smaller-in_default-split_first c =
    let rest = c.pop.new.self.items in
    let popped = c.in-Some.ensures.items in
    let same = ap heads_left popped ∙ nothing_put rest c.in-Some.nodes c.in_default-split_first.ensures.cases in
    omega (arith, ap length same, ap length popped ∙ length-append rest (c.in-Some.nodes ∷ []))

pub loop-nodes-preserved-in_default-split_first : goal.loop-nodes-preserved-in_default-split_first
loop-nodes-preserved-in_default-split_first c =
    let rest = c.pop.new.self.items in
    let popped = c.in-Some.ensures.items in
    record {
      whole = ap (λ heads. c.loop-nodes.heads.items ++ heads) (sym (ap heads_left popped ∙ nothing_put rest c.in-Some.nodes c.in_default-split_first.ensures.cases)) ∙ c.loop-nodes.invariant.whole;
      narrow = (narrow_popped rest c.in-Some.nodes (subst AreAllNarrow popped c.loop-nodes.invariant.narrow)).0;
    }
