-- A walk along the list of items finds the one with the fewest open options.
use Rattle.std.proofs.Common.{◌≡◌, ◌≢◌, ◌⊎◌, ◌<◌, ◌≤◌, ◌+◌, ◌-◌, ℕ, true, false, List, Contains, length, get_or, arith, ap, sym, ◌∙◌, subst, inl, inr, ⊎_elim}
use Rattle.std.proofs.lemmas.Bool.{cases_lt, cases_Bool}
use Rattle.xcc_links.specs.Rings.{item_of, option_of}
use Rattle.xcc_links.specs.NodeTables.{IsNodeTable, AreRight, has, shown_by, start_of}
use Rattle.xcc_links.proofs.NodeWords.{IsWalking, left_to, HaveChosenNodes, HasLeastSize, NoBetter, IsBest}
use Rattle.xcc_links.specs.Marks.{HidesJust}
use Rattle.xcc_links.specs.declared.links.arrays.Link.{Link}
use Rattle.xcc_links.specs.declared.links.tables.Entry.{Entry}
use Rattle.xcc_links.proofs.HidingLemmas.{shown_true, shown_parts}
use Rattle.xcc_links.proofs.PurifyingLemmas.{here, node_in, passed, place_next, goes_down}
use Rattle.xcc_links.proofs.NodeSizeLemmas.{size_listing, uncovered_shown, shown_uncovered, hidden_covered}

module _ (takable items options : ℕ) (entries : List Entry) (starts : List ℕ) (table : IsNodeTable takable items options entries starts) (links : List Link) (sizes trail : List ℕ) (right : AreRight items entries starts links sizes trail) (root : ℕ) (is_root : root + 1 ≡ items) (first : ℕ) (is_first : first ≡ start_of starts options) where
  pub root_in : root < items
  root_in = omega (arith, is_root)

  -- a node in the list of items stands for an item
  pub item_there : (n : ℕ) → shown_by items entries trail n ≡ true → item_of entries n ≡ root → (first ≤ n) × (n - first < takable) × (option_of entries n ≡ options + (n - first))
  item_there n s same =
      let q = shown_parts items entries trail n s in
      let o = option_of entries n in
      let ge : options ≤ o = ⊎_elim (λ (lt : o < options). absurd (let r = table.real n q.0 q.1 lt in omega (arith, r, same, is_root))) (λ (le : options ≤ o). le) (cases_lt o options) in
      let a = table.runs.around n q.0 q.1 in
      let x = a.0 in
      let j = o - options in
      let lt : j < takable = omega (arith, x, table.starts_long, ge) in
      let e : o ≡ options + j = omega (arith, ge) in
      let y : start_of starts (options + j) ≤ n = subst (λ k. start_of starts k ≤ n) e a.1 in
      let e2 : o + 1 ≡ options + (j + 1) = omega (arith, ge) in
      let z : n < start_of starts (options + (j + 1)) = subst (λ k. n < start_of starts k) e2 a.2 in
      let s1 = table.single j (omega (arith, lt)) in
      let s2 = table.single (j + 1) (omega (arith, lt)) in
      let at : n ≡ first + j = omega (arith, y, z, s1, s2, is_first) in
      (omega (arith, at), omega (arith, at, lt), omega (arith, e, at))

  -- an item that isn't covered has its node in the list of items
  pub own_node : (j : ℕ) → j < takable → has trail (options + j) ≡ false → (shown_by items entries trail (first + j) ≡ true) × (item_of entries (first + j) ≡ root)
  own_node j lt e =
      let n = first + j in
      let s1 = table.single j (omega (arith, lt)) in
      let s2 = table.single (j + 1) (omega (arith, lt)) in
      let in_ : (options + j) + 1 < length starts = omega (arith, table.starts_long, lt) in
      let y : start_of starts (options + j) ≤ n = omega (arith, s1, is_first) in
      let k : options + (j + 1) ≡ (options + j) + 1 = omega arith in
      let z : n < start_of starts ((options + j) + 1) = subst (λ m. n < start_of starts m) k (omega (arith, s2, is_first)) in
      let o = table.runs.inside (options + j) n in_ y z in
      let low = table.runs.low (options + j) (omega (arith, in_)) in
      let high = table.runs.high ((options + j) + 1) in_ in
      let from : items ≤ n = omega (arith, low, y) in
      let to : n < length entries = omega (arith, high, z) in
      let r = table.rooted n from to (omega (arith, o)) in
      (shown_true items entries trail n from to (ap (has trail) o ∙ e), omega (arith, r, is_root))

  weaker : (Q R : ℕ → Type 0) (node : ℕ) → ((n : ℕ) → shown_by items entries trail n ≡ true → item_of entries n ≡ root → Q n → R n) → IsWalking items entries trail root Q node → IsWalking items entries trail root R node
  weaker Q R node to w = record { place = w.place; before = λ n s same. ⊎_elim (λ q. inl (to n s same q)) (λ x. inr x) (w.before n s same) }

  -- the walk has come to its end, or past the nodes of the primary items
  module _ (chosen : List ℕ) (hides : HidesJust takable items options entries chosen trail) (real : (o : ℕ) → Contains chosen o → o < options) (primaries : ℕ) (few : primaries ≤ takable) (node : ℕ) (done : (node ≡ root) ⊎ (first + primaries ≤ node)) where
    past : (j : ℕ) → j < primaries → node ≢ root → node ≤ first + j → ⊥
    past j lt ne le = ⊎_elim ne (λ over. omega (arith, over, lt, le)) done

    -- no primary item is uncovered
    pub none_left : IsWalking items entries trail root (λ _. ⊥) node → HaveChosenNodes primaries items entries chosen
    none_left w j lt = ⊎_elim
        (λ (h : has trail (options + j) ≡ true). hidden_covered takable items options entries starts table chosen trail hides j h real)
        (λ (h : has trail (options + j) ≡ false). let o = own_node j (omega (arith, lt, few)) h in absurd (⊎_elim (λ x. x) (λ x. past j lt x.0 x.1) (w.before (first + j) o.0 o.1)))
        (cases_Bool (has trail (options + j)))

    pub best_least : (best fewest : ℕ) → best < primaries → IsBest items entries trail sizes root first best fewest node → HasLeastSize primaries takable items options entries chosen best
    best_least best fewest primary b =
        let t = item_there (first + best) b.stands b.listed in
        let d : (first + best) - first ≡ best = omega arith in
        let lt : best < takable = let x = t.1 in omega (arith, x) in
        let o : option_of entries (first + best) ≡ options + best = let x = t.2 in omega (arith, x, d) in
        record {
          primary = primary;
          uncovered = shown_uncovered takable items options entries starts table chosen trail hides best lt (ap (has trail) (sym o) ∙ (shown_parts items entries trail (first + best) b.stands).2);
          fewest = λ j is_primary free xs ys lx ly.
              let jt : j < takable = omega (arith, is_primary, few) in
              let n = own_node j jt (uncovered_shown takable items options entries starts table chosen trail hides j free real) in
              let sx = right.counted.sized best (omega (arith, lt, table.some)) ∙ size_listing takable items options entries starts table chosen trail hides best lt xs lx in
              let sy = right.counted.sized j (omega (arith, jt, table.some)) ∙ size_listing takable items options entries starts table chosen trail hides j jt ys ly in
              let k : (first + j) - first ≡ j = omega arith in
              let sz = ap (λ i. get_or sizes i 0) k in
              ⊎_elim
              (λ nb. ⊎_elim (λ l. inl (omega (arith, l, sx, sy, sz, b.size))) (λ w. let u = w.0 in let v = w.1 in inr (omega (arith, u, sx, sy, sz, b.size), omega (arith, v))) nb)
              (λ x. absurd (past j is_primary x.0 x.1))
              (b.walking.before (first + j) n.0 n.1);
        }

  -- the first item
  module _ (node : ℕ) (w : IsWalking items entries trail root (λ _. ⊥) node) (ne : node ≢ root) where
    pub first_here : (shown_by items entries trail node ≡ true) × (item_of entries node ≡ root)
    first_here = here takable items options entries starts table links sizes trail right root root_in (λ _. ⊥) node w ne

    pub first_item : (first ≤ node) × (node - first < takable)
    first_item = let t = item_there node first_here.0 first_here.1 in (t.0, t.1)

    pub first_in : node < length links
    first_in = node_in takable items options entries starts table links sizes trail right root root_in (λ _. ⊥) node w ne

    pub first_down : (x : Link) → x ≡ get_or links node x → left_to (length entries) root x.down < left_to (length entries) root node
    first_down x r = goes_down takable items options entries starts table links sizes trail right root root_in (λ _. ⊥) node w ne x r

    pub first_best : (x : Link) → x ≡ get_or links node x → (fewest : ℕ) → fewest ≡ get_or sizes (node - first) 0 → IsBest items entries trail sizes root first (node - first) fewest x.down
    first_best x r fewest sz =
        let t = first_item in
        let le = t.0 in
        let at : first + (node - first) ≡ node = omega (arith, le) in
        let w2 = weaker (λ _. ⊥) (NoBetter sizes first (node - first) fewest) node (λ n s same q. absurd q) w in
        record {
          walking = passed takable items options entries starts table links sizes trail right root root_in (NoBetter sizes first (node - first) fewest) node w2 ne x r (inr (sz, omega (arith, le)));
          stands = ap (shown_by items entries trail) at ∙ first_here.0;
          listed = ap (item_of entries) at ∙ first_here.1;
          size = sz;
          past = λ off. ⊎_elim (λ e. absurd (off e)) (λ u. let lt = u.2 in omega (arith, lt, at)) (place_next takable items options entries starts table links sizes trail right root root_in (λ _. ⊥) node w ne x r);
        }

  -- a further item
  module _ (best fewest node : ℕ) (b : IsBest items entries trail sizes root first best fewest node) (ne : node ≢ root) where
    Q : ℕ → Type 0
    Q = NoBetter sizes first best fewest

    pub more_here : (shown_by items entries trail node ≡ true) × (item_of entries node ≡ root)
    more_here = here takable items options entries starts table links sizes trail right root root_in (NoBetter sizes first best fewest) node b.walking ne

    pub more_item : (first ≤ node) × (node - first < takable)
    more_item = let t = item_there node more_here.0 more_here.1 in (t.0, t.1)

    pub more_in : node < length links
    more_in = node_in takable items options entries starts table links sizes trail right root root_in (NoBetter sizes first best fewest) node b.walking ne

    module _ (x : Link) (r : x ≡ get_or links node x) where
      pub more_down : left_to (length entries) root x.down < left_to (length entries) root node
      more_down = goes_down takable items options entries starts table links sizes trail right root root_in (NoBetter sizes first best fewest) node b.walking ne x r

      further : (k : ℕ) → k ≤ node → (x.down ≢ root) → k < x.down
      further k le off = ⊎_elim (λ e. absurd (off e)) (λ u. let lt = u.2 in omega (arith, lt, le)) (place_next takable items options entries starts table links sizes trail right root root_in (NoBetter sizes first best fewest) node b.walking ne x r)

      pub keeps : fewest ≤ get_or sizes (node - first) 0 → IsBest items entries trail sizes root first best fewest x.down
      keeps le = let pa = b.past ne in record {
        walking = passed takable items options entries starts table links sizes trail right root root_in (NoBetter sizes first best fewest) node b.walking ne x r
            (⊎_elim (λ (lt : fewest < get_or sizes (node - first) 0). inl lt) (λ (ge : get_or sizes (node - first) 0 ≤ fewest). inr (omega (arith, le, ge), omega (arith, pa))) (cases_lt fewest (get_or sizes (node - first) 0)));
        stands = b.stands;
        listed = b.listed;
        size = b.size;
        past = λ off. further (first + best) (omega (arith, pa)) off;
      }

      pub betters : (fewer : ℕ) → fewer ≡ get_or sizes (node - first) 0 → fewer < fewest → IsBest items entries trail sizes root first (node - first) fewer x.down
      betters fewer sz lt =
          let pa = b.past ne in
          let t = more_item in
          let le = t.0 in
          let at : first + (node - first) ≡ node = omega (arith, le) in
          let w2 = weaker (NoBetter sizes first best fewest) (NoBetter sizes first (node - first) fewer) node (λ n s same q. inl (⊎_elim (λ l. omega (arith, l, lt)) (λ v. let u = v.0 in omega (arith, u, lt)) q)) b.walking in
          record {
            walking = passed takable items options entries starts table links sizes trail right root root_in (NoBetter sizes first (node - first) fewer) node w2 ne x r (inr (sz, omega (arith, le)));
            stands = ap (shown_by items entries trail) at ∙ more_here.0;
            listed = ap (item_of entries) at ∙ more_here.1;
            size = sz;
            past = λ off. further (first + (node - first)) (omega (arith, at)) off;
          }
