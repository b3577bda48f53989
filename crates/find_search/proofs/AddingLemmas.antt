-- What a search adds to its list.
use Rattle.std.proofs.Common.{◌≡◌, ◌⊎◌, ◌<◌, ◌↔◌, ◌++◌, List, [], ◌∷◌, Some, Contains, length, map, slice_get, append_assoc, refl, ap, sym, ◌∙◌, subst, inl, inr, ⊎_elim}
use Rattle.std.proofs.lemmas.List.{append-nil}
use Rattle.std.proofs.lemmas.List.Elements.{Contains-append_cases}
use Rattle.match_limits.proofs.ListLemmas.{none≢some, contains_none, pushed_at}
use Rattle.match_puzzle.specs.Puzzle.{Task}
use Rattle.match_puzzle.specs.Arrangement.{IsArrangement}
use Rattle.match_puzzle.specs.declared.placements.Placement.{Placement}
use Rattle.puzzle_symmetry.specs.Motion.{Motion, line_of}
use Rattle.puzzle_symmetry.specs.Reached.{IsReached}
use Rattle.puzzle_symmetry.proofs.Reaching.{reached_at_once}
use Rattle.symmetry_orbits.specs.Orbits.{IsInOrbit}
use Rattle.symmetry_orbits.specs.Products.{AreSymmetriesOf}
use Rattle.symmetry_orbits.proofs.OrbitLemmas.{only_one, the_one}
use Rattle.find_search.specs.declared.ends.Ended.{Ended}
use Rattle.find_search.specs.declared.ends.Ended.TheVariants.{Whole}
use Rattle.find_search.specs.declared.listed.Listed.{Listed}
use Rattle.find_search.specs.Finding.{AreOfDifferentOrbits}
use Rattle.find_search.specs.Adding.{IsList, MayAdd, Adds}
use Rattle.find_search.proofs.ListLemmas.{reached_still, reached_push, reached_alone, apart_more}

module _ (p : Task) (motions : List Motion) where
  -- at the beginning nothing is listed
  pub list_none : (l : Listed) → l.arrangements.items ≡ [] → l.reached.keys ≡ [] → IsList p motions l
  list_none l none unreached = record {
    arrangements = λ n a at. absurd (none≢some (subst (λ xs. slice_get xs n ≡ Some a) none at));
    apart = λ n k a b at. absurd (none≢some (subst (λ xs. slice_get xs n ≡ Some a) none at));
    reached = λ some a. (
      λ c. absurd (contains_none a (subst (λ xs. Contains xs a) unreached c)),
      λ r. absurd (contains_none r.from (subst (λ xs. Contains xs r.from) none r.is_listed)),
    );
  }

  pub may_none : (Is : List Placement → Type 0) (l : Listed) → AreSymmetriesOf p motions → l.arrangements.items ≡ [] → l.reached.keys ≡ [] → MayAdd p motions Is l
  may_none Is l symmetries none unreached = record {
    symmetries = symmetries;
    list = list_none l none unreached;
    new = λ alone a is c. contains_none a (subst (λ xs. Contains xs a) none c);
  }

  -- where some may be added, fewer may
  pub may_fewer : (Is Fewer : List Placement → Type 0) (l : Listed) → ((a : List Placement) → Fewer a → Is a) → MayAdd p motions Is l → MayAdd p motions Fewer l
  may_fewer Is Fewer l are may = record { symmetries = may.symmetries; list = may.list; new = λ alone a is. may.new alone a (are a is) }

  -- nothing is added
  pub adds_none : (Is : List Placement → Type 0) (l : Listed) (ended : Ended) → IsList p motions l → (ended ≡ Whole → (a : List Placement) → Is a → IsReached p (map line_of motions) l.arrangements.items a) → Adds p motions Is l l ended
  adds_none Is l ended list all = record {
    list = list;
    more = [];
    added = sym (append-nil l.arrangements.items);
    each = λ a c. absurd (contains_none a c);
    all = all;
  }

  -- What was added is still like this, and all that is like this is like that.
  pub adds_same : (These Those : List Placement → Type 0) (before after : Listed) (ended : Ended) → ((a : List Placement) → These a → Those a) → (ended ≡ Whole → (a : List Placement) → Those a → These a) → Adds p motions These before after ended → Adds p motions Those before after ended
  adds_same These Those before after ended to from adds = record {
    list = adds.list;
    more = adds.more;
    added = adds.added;
    each = λ a c. to a (adds.each a c);
    all = λ whole a is. adds.all whole a (from whole a is);
  }

  -- First these were added, then those.
  pub adds_both : (These Those Both : List Placement → Type 0) (before mid after : Listed) (ended : Ended) → ((a : List Placement) → These a → Both a) → ((a : List Placement) → Those a → Both a) → (ended ≡ Whole → (a : List Placement) → Both a → These a ⊎ Those a)
      → Adds p motions These before mid Whole → Adds p motions Those mid after ended → Adds p motions Both before after ended
  adds_both These Those Both before mid after ended these those both one two = record {
    list = two.list;
    more = one.more ++ two.more;
    added = two.added ∙ ap (λ xs. xs ++ two.more) one.added ∙ append_assoc before.arrangements.items one.more two.more;
    each = λ a c. ⊎_elim (λ d. these a (one.each a d)) (λ d. those a (two.each a d)) (Contains-append_cases one.more two.more a c);
    all = λ whole a is.
        ⊎_elim
        (λ t. subst (λ xs. IsReached p (map line_of motions) xs a) (sym two.added) (reached_still p (map line_of motions) mid.arrangements.items two.more a (one.all refl a t)))
        (λ t. two.all whole a t) (both whole a is);
  }

  -- After these were added, those may be that are none of them.
  pub may_after : (These Those Both : List Placement → Type 0) (before mid : Listed) (ended : Ended) → ((a : List Placement) → Those a → Both a) → ((a : List Placement) → These a → Those a → ⊥) → MayAdd p motions Both before → Adds p motions These before mid ended → MayAdd p motions Those mid
  may_after These Those Both before mid ended those apart may adds = record {
    symmetries = may.symmetries;
    list = adds.list;
    new = λ alone a is c.
        ⊎_elim (λ old. may.new alone a (those a is) old) (λ more. apart a (adds.each a more) is) (Contains-append_cases before.arrangements.items adds.more a (subst (λ xs. Contains xs a) adds.added c));
  }

  -- ---- one arrangement

  module _ (Is : List Placement → Type 0) (b : List Placement) (is : Is b) (one : (a : List Placement) → Is a → a ≡ b) (arranged : IsArrangement p b) (before : Listed) (may : MayAdd p motions Is before) where
    -- It is reached already.
    pub adds_reached : (after : Listed) → after ≡ before → IsReached p (map line_of motions) before.arrangements.items b → Adds p motions Is before after Whole
    adds_reached after same reached =
        subst (λ l. Adds p motions Is before l Whole) (sym same)
        (adds_none Is before Whole may.list (λ whole a also. subst (IsReached p (map line_of motions) before.arrangements.items) (sym (one a also)) reached))

    -- It is new.
    pub adds_one : (after : Listed) → after.arrangements.items ≡ before.arrangements.items ++ b ∷ [] → (IsReached p (map line_of motions) before.arrangements.items b → ⊥)
        → (0 < length motions → (a : List Placement) → Contains after.reached.keys a ↔ (Contains before.reached.keys a ⊎ IsInOrbit p (map line_of motions) b a)) → Adds p motions Is before after Whole
    adds_one after added unreached orbit = record {
      list = record {
        arrangements = λ n a at.
            ⊎_elim (may.list.arrangements n a) (λ e. subst (IsArrangement p) e arranged) (pushed_at before.arrangements.items b n a (subst (λ xs. slice_get xs n ≡ Some a) added at));
        apart = subst (AreOfDifferentOrbits p (map line_of motions)) (sym added)
            (apart_more p (map line_of motions) may.symmetries.puzzle may.symmetries.symmetries before.arrangements.items b arranged unreached may.list.apart);
        reached = λ some a.
            let push = reached_push p (map line_of motions) before.arrangements.items b a in
            let old = may.list.reached some a in
            let new = orbit some a in
            subst (λ xs. Contains after.reached.keys a ↔ IsReached p (map line_of motions) xs a) (sym added) (
              λ c. push.1 (⊎_elim (λ d. inl (old.0 d)) (λ r. inr r) (new.0 c)),
              λ r. new.1 (⊎_elim (λ d. inl (old.1 d)) (λ o. inr o) (push.0 r)),
            );
      };
      more = b ∷ [];
      added = added;
      each = λ a c. subst Is (only_one b a c) is;
      all = λ whole a also.
          subst (λ xs. IsReached p (map line_of motions) xs a) (sym added)
          ((reached_push p (map line_of motions) before.arrangements.items b a).1 (inr (subst (IsInOrbit p (map line_of motions) b) (sym (one a also)) (reached_at_once p (map line_of motions) (b ∷ []) b (the_one b)))));
    }

    -- Without symmetries it isn't reached.
    pub alone_unreached : length motions ≡ 0 → IsReached p (map line_of motions) before.arrangements.items b → ⊥
    alone_unreached alone r = may.new alone b is (reached_alone p motions before.arrangements.items b alone r)
