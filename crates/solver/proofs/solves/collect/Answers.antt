use Rattle.std.proofs.Common.{ℕ, ⊎_elim, ◌≡◌, ◌+◌, ◌≤◌, ◌∙◌, ◌++◌, ◌∷◌, [], All, List, Contains, suc, ap, arith, length, vec_len, subst}
use Rattle.std.proofs.lemmas.List.Elements.{All-head, All-rest, Contains-append_cases}
use Rattle.std.proofs.lemmas.List.{length-append}
use Rattle.match_puzzle.specs.Puzzle.{Task}
use Rattle.match_puzzle.specs.declared.placements.Placement.{Placement}
use Rattle.match_limits.specs.declared.TheConstants.{MOST_ARRANGEMENTS}
use Rattle.steal_crew.proofs.QueueRuleLemmas.{all_more}
use Rattle.piece_desk.specs.FlatDesks.{IsOfFlat}
use Rattle.match_puzzle.specs.Arrangement.{AreArrangements}
use Rattle.match_limits.proofs.ListLemmas.{contains_at, place_of}
use Rattle.solver.specs.Solving.{IsOutcomeOf}
use Rattle.solver.proofs.solves.collect.Goals as goal

pub receipt_of-requires-clause-outcome : goal.receipt_of-requires-clause-outcome
receipt_of-requires-clause-outcome c = All-head (IsOutcomeOf c.args._puzzle.now c.args._desk.now) c.in-Some.searched c.next.new.self.rest.items
    (subst (All (IsOutcomeOf c.args._puzzle.now c.args._desk.now)) c.in-Some.ensures.steps.0 c.loop-searched.invariant.rest)

-- as many numbers and one more
one_more : {X Y : Type 0} (a b : List X) (x : X) (n m k : ℕ) (rest rest' : List Y) (y : Y) → b ≡ a ++ x ∷ [] → n ≡ length a → m ≡ length b → rest ≡ y ∷ rest' → n + length rest ≡ k → m + length rest' ≡ k
one_more a b x n m k rest rest' y is an bn steps even =
    let l : length b ≡ length a + 1 = ap length is ∙ length-append a (x ∷ []) in let r : length rest ≡ suc (length rest') = ap length steps in omega arith

-- arrangements and more of them
both_are : (p : Task) (xs ys zs : List (List Placement)) → zs ≡ xs ++ ys → AreArrangements p xs → AreArrangements p ys → AreArrangements p zs
both_are p xs ys zs is one two number a at = ⊎_elim
    (λ h. let w = place_of xs a h in one w.0 a w.1)
    (λ h. let w = place_of ys a h in two w.0 a w.1)
    (Contains-append_cases xs ys a (subst (λ (l : List (List Placement)). Contains l a) is (contains_at zs number a at)))

pub loop-searched-preserved : goal.loop-searched-preserved
loop-searched-preserved c =
    let inv = c.loop-searched.invariant in
    let more = c.in_ok-add.ensures in
    let steps = c.in-Some.ensures.steps.0 in
    let p = c.args._puzzle.now in
    let got = c.in_ok-receipt.ensures in
    let old = c.loop-searched.collected in
    let new = c.add.new.collected in
    record {
      rest = All-rest (IsOutcomeOf p c.args._desk.now) c.in-Some.searched c.next.new.self.rest.items _ steps inv.rest;
      receipts = all_more (λ receipt. IsOfFlat c.args._desk.now receipt) _ _ _ inv.receipts got.receipt more.receipts;
      many = one_more old.first.items new.first.items (vec_len old.listed) _ _ _ _ _ c.in-Some.searched more.first old.first.ok.0 new.first.ok.0 steps inv.many;
      first = all_more (λ n. n ≤ MOST_ARRANGEMENTS) _ _ _ inv.first inv.few more.first;
      listed = both_are p old.listed.items _ new.listed.items more.listed inv.listed got.found;
      few = (let found = c.in_ok-receipt.found in let l : length new.listed.items ≡ length old.listed.items + length found.items = ap length more.listed ∙ length-append old.listed.items found.items in
          omega (arith, got.few, old.listed.ok.0, new.listed.ok.0, found.ok.0));
    }
