-- A walk down an item's list hides the options that have it with another colour.
use Rattle.std.proofs.Common.{true≢false, ◌≡◌, ◌≢◌, ◌⊎◌, ◌<◌, ◌≤◌, ◌+◌, ℕ, Bool, true, false, List, [], ◌∷◌, ◌++◌, length, get_or, arith, refl, ap, sym, ◌∙◌, subst, inl, inr, ⊎_elim}
use Rattle.std.proofs.lemmas.Bool.{cases_eq, cases_lt, cases_Bool}
use Rattle.std.proofs.lemmas.Bool.Decides.{eqb_tells}
use Rattle.std.proofs.lemmas.List.{get_or_read}
use Rattle.xcc_links.specs.NodeLists.{IsLast, IsAfter}
use Rattle.xcc_links.specs.Rings.{no_link, down_of, item_of, colour_of, option_of}
use Rattle.xcc_links.specs.NodeTables.{IsNodeTable, AreRight, has, shown_by}
use Rattle.xcc_links.specs.Trails.{Arrays, LeadsBack}
use Rattle.xcc_links.specs.NodeClashes.{HasOtherColour}
use Rattle.xcc_links.proofs.NodeWords.{IsWalking, left_to}
use Rattle.xcc_links.specs.declared.links.arrays.Link.{Link}
use Rattle.xcc_links.specs.declared.links.tables.Entry.{Entry}
use Rattle.xcc_links.proofs.HidingLemmas.{shown_true, shown_parts, has_last, has_left, has_left_no, has_other}

pub goes_has : (step : ℕ → Arrays → Arrays) (a a' : Arrays) (t t' : List ℕ) (p : ℕ) → LeadsBack step a t a' t' → has t p ≡ true → has t' p ≡ true
goes_has step a a' t t' p g e = ap (λ x. has x p) g.longer ∙ has_left t g.more p e

module _ (takable items options : ℕ) (entries : List Entry) (starts : List ℕ) (table : IsNodeTable takable items options entries starts) (links : List Link) (sizes trail : List ℕ) (right : AreRight items entries starts links sizes trail) (item : ℕ) (in_ : item < items) (Q : ℕ → Type 0) where
  shown : ℕ → Bool
  shown = shown_by items entries trail

  column : item_of entries item ≡ item
  column = table.own item in_

  pub begun : (x : Link) → x ≡ get_or links item x → IsWalking items entries trail item Q x.down
  begun x r =
      let e : x.down ≡ down_of links item = ap (λ (l : Link). l.down) (get_or_read links item x (omega (arith, right.kept.own_high, right.kept.long)) r no_link) in
      subst (IsWalking items entries trail item Q) (sym e) (⊎_elim
      (λ (l : IsLast (item_of entries) (shown_by items entries trail) item (down_of links item)). record {
        place = inl (l.own ∙ column);
        before = λ n s same. let h = l.none_after n s (same ∙ sym column) in let b = right.kept.low n s in absurd (omega (arith, h, b));
      })
      (λ (l : IsAfter (item_of entries) (shown_by items entries trail) item (down_of links item)). record {
        place = inr (l.shown_there, l.same ∙ column);
        before = λ n s same. let b = right.kept.low n s in let c = right.kept.low (down_of links item) l.shown_there in inr (omega (arith, c), l.none_between n s (same ∙ sym column) (omega (arith, b)));
      })
      (right.kept.linked.next item (inl in_)))

  module _ (node : ℕ) (at : IsWalking items entries trail item Q node) (ne : node ≢ item) where
    pub here : (shown_by items entries trail node ≡ true) × (item_of entries node ≡ item)
    here = ⊎_elim (λ e. absurd (ne e)) (λ w. w) at.place

    pub parts : (items ≤ node) × (node < length entries) × (has trail (option_of entries node) ≡ false)
    parts = shown_parts items entries trail node here.0

    pub there : option_of entries node + 1 < length starts
    there = (table.runs.around node parts.0 parts.1).0

    pub node_in : node < length links
    node_in = let h = parts in omega (arith, h.1, right.kept.long)

    module _ (x : Link) (r : x ≡ get_or links node x) where
      down_is : x.down ≡ down_of links node
      down_is = ap (λ (l : Link). l.down) (get_or_read links node x node_in r no_link)

      after_it : (n : ℕ) → shown_by items entries trail n ≡ true → item_of entries n ≡ item → node < n → (x.down ≢ item) × (x.down ≤ n)
      after_it n s same lt = subst (λ d. (d ≢ item) × (d ≤ n)) (sym down_is) (⊎_elim
          (λ (l : IsLast (item_of entries) (shown_by items entries trail) node (down_of links node)). let h = l.none_after n s (same ∙ sym here.1) in absurd (omega (arith, h, lt)))
          (λ (l : IsAfter (item_of entries) (shown_by items entries trail) node (down_of links node)). let c = right.kept.low (down_of links node) l.shown_there in let h = l.none_between n s (same ∙ sym here.1) lt in (λ e. omega (arith, c, e, in_), h))
          (right.kept.linked.next node (inr here.0)))

      pub place_next : (x.down ≡ item) ⊎ ((shown_by items entries trail x.down ≡ true) × (item_of entries x.down ≡ item) × (node < x.down))
      place_next = subst (λ d. (d ≡ item) ⊎ ((shown_by items entries trail d ≡ true) × (item_of entries d ≡ item) × (node < d))) (sym down_is) (⊎_elim
          (λ (l : IsLast (item_of entries) (shown_by items entries trail) node (down_of links node)). inl (l.own ∙ here.1))
          (λ (l : IsAfter (item_of entries) (shown_by items entries trail) node (down_of links node)). inr (l.shown_there, l.same ∙ here.1, l.after))
          (right.kept.linked.next node (inr here.0)))

      -- nothing is passed over
      pub passes : IsWalking items entries trail item (λ n. n ≤ node) x.down
      passes = record {
        place = ⊎_elim (λ e. inl e) (λ w. inr (w.0, w.1)) place_next;
        before = λ n s same. ⊎_elim (λ (lt : node < n). inr (after_it n s same lt)) (λ (le : n ≤ node). inl le) (cases_lt node n);
      }

      pub passed : Q node → IsWalking items entries trail item Q x.down
      passed q = record {
        place = ⊎_elim (λ e. inl e) (λ w. inr (w.0, w.1)) place_next;
        before = λ n s same. ⊎_elim (λ e. inl e) (λ w. ⊎_elim
            (λ (e : n ≡ node). inl (subst Q (sym e) q))
            (λ (off : n ≢ node). inr (after_it n s same (let le = w.1 in omega arith)))
            (cases_eq n node)) (at.before n s same);
      }

      still : (n : ℕ) → shown_by items entries (trail ++ option_of entries node ∷ []) n ≡ true → (shown_by items entries trail n ≡ true) × (n ≢ node)
      still n s =
          let p = shown_parts items entries (trail ++ option_of entries node ∷ []) n s in (
            shown_true items entries trail n p.0 p.1 (has_left_no trail (option_of entries node ∷ []) (option_of entries n) p.2),
            λ e. true≢false (sym (has_last trail (option_of entries node)) ∙ ap (λ k. has (trail ++ option_of entries node ∷ []) (option_of entries k)) (sym e) ∙ p.2),
          )

      pub hid : IsWalking items entries (trail ++ option_of entries node ∷ []) item Q x.down
      hid = record {
        place = ⊎_elim (λ e. inl e)
            (λ w. let p = shown_parts items entries trail x.down w.0 in
            inr (shown_true items entries (trail ++ option_of entries node ∷ []) x.down p.0 p.1 (has_other trail (option_of entries node) (option_of entries x.down) (λ same. let e = table.once x.down node p.0 p.1 parts.0 parts.1 same (w.1 ∙ sym here.1) in let lt = w.2 in omega (arith, e, lt)) ∙ p.2), w.1))
            place_next;
        before = λ n s same. let t = still n s in ⊎_elim (λ e. inl e) (λ w. inr (after_it n t.0 same (let le = w.1 in let off = t.1 in omega (arith, le, off)))) (at.before n t.0 same);
      }

      pub goes_down : left_to (length entries) item x.down < left_to (length entries) item node
      goes_down = ⊎_elim
          (λ w. absurd (ne w.1))
          (λ w. rw (w.0) (let hn = parts in ⊎_elim
          (λ v. rw (v.0) (omega (arith, hn.1)))
          (λ v. rw (v.0) (⊎_elim (λ e. absurd (v.1 e)) (λ u. let lt = u.2 in omega (arith, lt, hn.1)) place_next))
          (eqb_tells x.down item)))
          (eqb_tells node item)

module _ (takable items options : ℕ) (entries : List Entry) (starts : List ℕ) (table : IsNodeTable takable items options entries starts) (links : List Link) (sizes trail : List ℕ) (right : AreRight items entries starts links sizes trail) (item : ℕ) (in_ : item < items) (keep : ℕ) where
  pub only_hid : (node : ℕ) → IsWalking items entries trail item (λ n. colour_of entries n ≡ keep) node → node ≢ item → colour_of entries node ≢ keep → HasOtherColour items entries item keep (option_of entries node)
  only_hid node at ne off =
      let p = parts takable items options entries starts table links sizes trail right item in_ (λ n. colour_of entries n ≡ keep) node at ne in
      let h = here takable items options entries starts table links sizes trail right item in_ (λ n. colour_of entries n ≡ keep) node at ne in
      record { node = node; from = p.0; to = p.1; option = refl; there = h.1; colour = off }

  -- the walk is back
  pub cleared : IsWalking items entries trail item (λ n. colour_of entries n ≡ keep) item → (p : ℕ) → HasOtherColour items entries item keep p → has trail p ≡ true
  cleared at p d = ⊎_elim (λ e. e)
      (λ (e : has trail p ≡ false). absurd (⊎_elim (λ same. d.colour same) (λ w. w.0 refl) (at.before d.node (shown_true items entries trail d.node d.from d.to (ap (has trail) d.option ∙ e)) d.there)))
      (cases_Bool (has trail p))
