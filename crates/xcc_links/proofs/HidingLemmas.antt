-- An option is hidden.
use Rattle.std.proofs.Common.{true≢false, ◌≡◌, ◌≢◌, ◌⊎◌, ◌<◌, ◌≤◌, ◌+◌, ◌-◌, ℕ, suc, Bool, true, false, not, ◌&&◌, ◌||◌, ◌==◌, List, [], ◌∷◌, ◌++◌, length, length-set, arith, refl, ap, sym, ◌∙◌, subst, inl, inr, ⊎_elim}
use Rattle.std.proofs.lemmas.Bool.{cases_lt, lt-ltb, le-ltb, ltb-true, ltb-false, and_parts, and_from, not-true, not_from_false, or_cases, false_from_ne_true}
use Rattle.std.proofs.lemmas.Bool.Decides.{eqb_tells}
use Rattle.std.proofs.Common.{nat_lt}
use Rattle.xcc_links.specs.Rings.{up_of, down_of, item_of, option_of, unlinked, relinked, hidden_links, shown_links, hidden_sizes, shown_sizes, more_at, fewer_at}
use Rattle.xcc_links.specs.NodeTables.{IsNodeTable, AreRight, AreInRange, AreLinked, AreCounted, hidden, has, shown_by, start_of, width_of}
use Rattle.xcc_links.specs.Trails.{put_back, LeadsBack}
use Rattle.xcc_links.specs.declared.links.arrays.Link.{Link}
use Rattle.xcc_links.specs.declared.links.tables.Entry.{Entry}
use Rattle.xcc_links.proofs.LinkedLemmas.{hidden_still, hidden_low, hidden_in, stage, stage_sizes, links_back, all_sizes_back}
use Rattle.xcc_links.proofs.RingLemmas.{joined_inside, joined_length}

pub has_append : (xs ys : List ℕ) (o : ℕ) → has (xs ++ ys) o ≡ (has xs o || has ys o)
has_append [] ys o = refl
has_append (x ∷ xs) ys o = by (x == o) (has_append xs ys o)
  where
    by : (b : Bool) → has (xs ++ ys) o ≡ (has xs o || has ys o) → (b || has (xs ++ ys) o) ≡ ((b || has xs o) || has ys o)
    by true e = refl
    by false e = e

or_no : (a b : Bool) → (a || b) ≡ false → (a ≡ false) × (b ≡ false)
or_no true b e = absurd (true≢false e)
or_no false b e = (refl, e)

pub has_left : (xs ys : List ℕ) (o : ℕ) → has xs o ≡ true → has (xs ++ ys) o ≡ true
has_left xs ys o e = has_append xs ys o ∙ ap (λ b. b || has ys o) e

pub has_left_no : (xs ys : List ℕ) (o : ℕ) → has (xs ++ ys) o ≡ false → has xs o ≡ false
has_left_no xs ys o e = (or_no (has xs o) (has ys o) (sym (has_append xs ys o) ∙ e)).0

pub has_last : (xs : List ℕ) (o : ℕ) → has (xs ++ o ∷ []) o ≡ true
has_last [] o = ⊎_elim (λ w. rw (w.0) refl) (λ w. absurd (w.1 refl)) (eqb_tells o o)
has_last (x ∷ xs) o = by (x == o) (has_last xs o)
  where
    by : (b : Bool) → has (xs ++ o ∷ []) o ≡ true → (b || has (xs ++ o ∷ []) o) ≡ true
    by true e = refl
    by false e = e

pub has_one : (o p : ℕ) → has (o ∷ []) p ≡ true → p ≡ o
has_one o p e = ⊎_elim (λ w. sym w.1) (λ w. absurd (let h : false ≡ has (o ∷ []) p = rw (w.0) refl in true≢false (sym (h ∙ e)))) (eqb_tells o p)

pub has_cases : (xs : List ℕ) (o p : ℕ) → has (xs ++ o ∷ []) p ≡ true → (has xs p ≡ true) ⊎ (p ≡ o)
has_cases xs o p e = ⊎_elim (λ h. inl h) (λ h. inr (has_one o p h)) (or_cases (has xs p) (has (o ∷ []) p) (sym (has_append xs (o ∷ []) p) ∙ e))

pub has_other : (xs : List ℕ) (o p : ℕ) → p ≢ o → has (xs ++ o ∷ []) p ≡ has xs p
has_other xs o p ne = has_append xs (o ∷ []) p ∙ ⊎_elim (λ w. absurd (ne (sym w.1))) (λ w. rw (w.0) (by (has xs p))) (eqb_tells o p)
  where
    by : (b : Bool) → (b || false) ≡ b
    by true = refl
    by false = refl

module _ (items : ℕ) (entries : List Entry) (trail : List ℕ) (n : ℕ) where
  pub shown_true : items ≤ n → n < length entries → has trail (option_of entries n) ≡ false → shown_by items entries trail n ≡ true
  unfolding shown_by
  shown_true le lt e = and_from (not (nat_lt n items) && nat_lt n (length entries)) (not (has trail (option_of entries n))) (and_from (not (nat_lt n items)) (nat_lt n (length entries)) (not_from_false (nat_lt n items) (le-ltb n items le)) (lt-ltb n (length entries) lt)) (not_from_false (has trail (option_of entries n)) e)

  pub shown_parts : shown_by items entries trail n ≡ true → (items ≤ n) × (n < length entries) × (has trail (option_of entries n) ≡ false)
  unfolding shown_by
  shown_parts e =
      let p = and_parts (not (nat_lt n items) && nat_lt n (length entries)) (not (has trail (option_of entries n))) e in
      let q = and_parts (not (nat_lt n items)) (nat_lt n (length entries)) p.0 in
      (ltb-false n items (not-true (nat_lt n items) q.0), ltb-true n (length entries) q.1, not-true (has trail (option_of entries n)) p.1)

same_bools : (a b : Bool) → (a ≡ true → b ≡ true) → (b ≡ true → a ≡ true) → a ≡ b
same_bools true b f g = sym (f refl)
same_bools false true f g = g refl
same_bools false false f g = refl

pub both_at : (f g : ℕ → Bool) → ((k : ℕ) → f k ≡ g k) → f ≡ g
both_at f g h = λ i. λ k. h k i

module _ (takable items options : ℕ) (entries : List Entry) (starts : List ℕ) (table : IsNodeTable takable items options entries starts) (trail : List ℕ) (option : ℕ) (in_ : option + 1 < length starts) (free : has trail option ≡ false) where
  pub rise : start_of starts option ≤ start_of starts (option + 1)
  rise = table.runs.rising option in_

  pub end_is : start_of starts option + width_of starts option ≡ start_of starts (option + 1)
  end_is = let h = rise in omega (arith, h)

  pub nodes_shown : (k : ℕ) → start_of starts option ≤ k → k < start_of starts option + width_of starts option → shown_by items entries trail k ≡ true
  nodes_shown k le lt =
      let lt2 : k < start_of starts (option + 1) = omega (arith, end_is) in
      let low = table.runs.low option (omega arith) in
      let high = table.runs.high (option + 1) in_ in
      shown_true items entries trail k (omega (arith, low)) (omega (arith, high, lt2)) (ap (has trail) (table.runs.inside option k in_ le lt2) ∙ free)

  hides : (k : ℕ) → hidden (shown_by items entries trail) (start_of starts option) (width_of starts option) k ≡ shown_by items entries (trail ++ option ∷ []) k
  hides k = ⊎_elim
      (λ (lt : k < start_of starts option). out k (hidden_low (shown_by items entries trail) (start_of starts option) (width_of starts option) k lt) (λ w. omega (arith, w.1, lt)))
      (λ (ge : start_of starts option ≤ k). ⊎_elim
      (λ (lt : k < start_of starts (option + 1)). let lt2 : k < start_of starts option + width_of starts option = omega (arith, end_is) in
      hidden_in (shown_by items entries trail) (start_of starts option) (width_of starts option) k ge lt2
      ∙ sym (false_from_ne_true (shown_by items entries (trail ++ option ∷ []) k) (λ e. true≢false (sym (has_last trail option) ∙ ap (has (trail ++ option ∷ [])) (sym (table.runs.inside option k in_ ge lt)) ∙ (shown_parts items entries (trail ++ option ∷ []) k e).2))))
      (λ (ge2 : start_of starts (option + 1) ≤ k). out k (hidden_still (shown_by items entries trail) (start_of starts option) (width_of starts option) k (omega (arith, end_is))) (λ w. omega (arith, w.2, ge2)))
      (cases_lt k (start_of starts (option + 1))))
      (cases_lt k (start_of starts option))
    where
      out : (k : ℕ) → hidden (shown_by items entries trail) (start_of starts option) (width_of starts option) k ≡ shown_by items entries trail k → ((option + 1 < length starts) × (start_of starts option ≤ k) × (k < start_of starts (option + 1)) → ⊥) → hidden (shown_by items entries trail) (start_of starts option) (width_of starts option) k ≡ shown_by items entries (trail ++ option ∷ []) k
      out k e off = e ∙ same_bools (shown_by items entries trail k) (shown_by items entries (trail ++ option ∷ []) k)
          (λ s. let p = shown_parts items entries trail k s in shown_true items entries (trail ++ option ∷ []) k p.0 p.1 (has_other trail option (option_of entries k) (λ same. off (subst (λ o. (o + 1 < length starts) × (start_of starts o ≤ k) × (k < start_of starts (o + 1))) same (table.runs.around k p.0 p.1))) ∙ p.2))
          (λ s. let p = shown_parts items entries (trail ++ option ∷ []) k s in shown_true items entries trail k p.0 p.1 (has_left_no trail (option ∷ []) (option_of entries k) p.2))

  pub all_hidden : hidden (shown_by items entries trail) (start_of starts option) (width_of starts option) ≡ shown_by items entries (trail ++ option ∷ [])
  all_hidden = both_at (hidden (shown_by items entries trail) (start_of starts option) (width_of starts option)) (shown_by items entries (trail ++ option ∷ [])) hides

  module _ (links : List Link) (sizes : List ℕ) (right : AreRight items entries starts links sizes trail) where
    pub right_hidden : AreInRange items entries (hidden_links links (start_of starts option) (width_of starts option)) (hidden_sizes entries sizes (start_of starts option) (width_of starts option)) → AreRight items entries starts (hidden_links links (start_of starts option) (width_of starts option)) (hidden_sizes entries sizes (start_of starts option) (width_of starts option)) (trail ++ option ∷ [])
    right_hidden fits = record {
      fits = fits;
      options = λ o e. ⊎_elim (λ h. right.options o h) (λ (s : o ≡ option). omega (arith, s, in_)) (has_cases trail option o e);
      kept = subst (λ s. AreLinked items entries s (hidden_links links (start_of starts option) (width_of starts option))) all_hidden (stage takable items options entries starts table (shown_by items entries trail) links sizes right.kept right.counted (start_of starts option) (width_of starts option) nodes_shown (width_of starts option) (omega arith));
      counted = subst (λ s. AreCounted items entries s (hidden_sizes entries sizes (start_of starts option) (width_of starts option))) all_hidden (stage_sizes takable items options entries starts table (shown_by items entries trail) links sizes right.kept right.counted (start_of starts option) (width_of starts option) nodes_shown (width_of starts option) (omega arith));
    }

    pub goes_hidden : LeadsBack (put_back entries starts) (links, sizes) trail (hidden_links links (start_of starts option) (width_of starts option), hidden_sizes entries sizes (start_of starts option) (width_of starts option)) (trail ++ option ∷ [])
    goes_hidden = record {
      more = option ∷ [];
      longer = refl;
      back_to = let l = links_back takable items options entries starts table (shown_by items entries trail) links sizes right.kept right.counted (start_of starts option) (width_of starts option) nodes_shown (width_of starts option) (omega arith) in
          let s = all_sizes_back takable items options entries starts table (shown_by items entries trail) links sizes right.kept right.counted (start_of starts option) (width_of starts option) nodes_shown (width_of starts option) (omega arith) in
          λ i. (l i, s i);
    }

-- The arrays fit at each write.
module _ (items : ℕ) (entries : List Entry) (links : List Link) (sizes : List ℕ) (fits : AreInRange items entries links sizes) (m i : ℕ) (lt : m < length links) where
  pub fits_unlinked : AreInRange items entries (unlinked links m) (fewer_at sizes i)
  fits_unlinked =
      let iu = fits.inside.up m lt in
      let id = fits.inside.down m lt in
      record {
        long = joined_length links (up_of links m) (down_of links m) (down_of links m) (up_of links m) iu id ∙ fits.long;
        sizes_long = length-set sizes i _ ∙ fits.sizes_long;
        inside = joined_inside links (up_of links m) (down_of links m) (down_of links m) (up_of links m) iu id id iu fits.inside;
      }

  pub fits_relinked : AreInRange items entries (relinked links m) (more_at sizes i)
  fits_relinked =
      let iu = fits.inside.up m lt in
      let id = fits.inside.down m lt in
      record {
        long = joined_length links (up_of links m) (down_of links m) m m iu id ∙ fits.long;
        sizes_long = length-set sizes i _ ∙ fits.sizes_long;
        inside = joined_inside links (up_of links m) (down_of links m) m m iu id lt lt fits.inside;
      }

-- The steps of hiding and of putting back, by node.
pub hide_step : (links : List Link) (a n : ℕ) → a ≤ n → hidden_links links a (n + 1 - a) ≡ unlinked (hidden_links links a (n - a)) n
hide_step links a n le =
    let s : n + 1 - a ≡ suc (n - a) = omega arith in
    let e : a + (n - a) ≡ n = omega arith in
    ap (hidden_links links a) s ∙ ap (unlinked (hidden_links links a (n - a))) e

pub hide_size_step : (entries : List Entry) (sizes : List ℕ) (a n : ℕ) → a ≤ n → hidden_sizes entries sizes a (n + 1 - a) ≡ fewer_at (hidden_sizes entries sizes a (n - a)) (item_of entries n)
hide_size_step entries sizes a n le =
    let s : n + 1 - a ≡ suc (n - a) = omega arith in
    let e : a + (n - a) ≡ n = omega arith in
    ap (hidden_sizes entries sizes a) s ∙ ap (λ k. fewer_at (hidden_sizes entries sizes a (n - a)) (item_of entries k)) e

pub show_step : (links : List Link) (a n : ℕ) → a < n → shown_links links a (n - a) ≡ shown_links (relinked links (n - 1)) a (n - 1 - a)
show_step links a n lt =
    let s : n - a ≡ suc (n - 1 - a) = omega arith in
    let e : a + (n - 1 - a) ≡ n - 1 = omega arith in
    ap (shown_links links a) s ∙ ap (λ k. shown_links (relinked links k) a (n - 1 - a)) e

pub show_size_step : (entries : List Entry) (sizes : List ℕ) (a n : ℕ) → a < n → shown_sizes entries sizes a (n - a) ≡ shown_sizes entries (more_at sizes (item_of entries (n - 1))) a (n - 1 - a)
show_size_step entries sizes a n lt =
    let s : n - a ≡ suc (n - 1 - a) = omega arith in
    let e : a + (n - 1 - a) ≡ n - 1 = omega arith in
    ap (shown_sizes entries sizes a) s ∙ ap (λ k. shown_sizes entries (more_at sizes (item_of entries k)) a (n - 1 - a)) e
