-- Links of one compiled puzzle with nothing chosen are the same.
use Rattle.std.proofs.Common.{◌≡◌, ◌<◌, ◌≤◌, ◌+◌, ◌-◌, ℕ, zero, suc, Bool, true, List, [], ◌∷◌, Some, length, slice_get, get_or, arith, refl, ap, sym, ◌∙◌, subst, inl, inr, ⊎_elim}
use Rattle.std.proofs.lemmas.Bool.{cases_lt}
use Rattle.std.proofs.lemmas.Bool.Decides.{eqb_tells}
use Rattle.std.proofs.lemmas.List.{ext_get_or, get_or_past, nil_from_length}
use Rattle.match_board.specs.Board.{cell_count}
use Rattle.match_limits.proofs.Listings.{contains_none}
use Rattle.xcc_form.specs.Options.{Choice, Compiled}
use Rattle.xcc_form.proofs.OptionLemmas.{read_in}
use Rattle.xcc_links.specs.Rings.{no_link, no_entry, up_of, down_of, item_of, option_of}
use Rattle.xcc_links.specs.NodeLists.{IsIn, IsLast, IsAfter, Linked}
use Rattle.xcc_links.specs.NodeTables.{AreRight, has, shown_by, start_of}
use Rattle.xcc_links.specs.Marks.{HidesJust}
use Rattle.xcc_links.specs.TableLayout.{IsTableOf, taken_entry}
use Rattle.xcc_links.specs.LinkStates.{AreLinksOf, link_state}
use Rattle.xcc_links.specs.declared.links.arrays.Link.{Link}
use Rattle.xcc_links.specs.declared.links.arrays.LinkArrays.{LinkArrays}
use Rattle.xcc_links.specs.declared.links.tables.Entry.{Entry}
use Rattle.xcc_links.specs.declared.links.tables.NodeTable.{NodeTable}
use Rattle.xcc_links.proofs.RingLemmas.{same_links}
use Rattle.xcc_links.proofs.HidingLemmas.{shown_true}
use Rattle.xcc_links.proofs.NodeSizeLemmas.{starts_to}
use Rattle.xcc_links.proofs.TableLemmas.{Place, at_cell, at_tile, at_edge, place_in}
use Rattle.xcc_links.proofs.LinkLemmas.{right_now}

-- ---- the nodes

-- the options' nodes follow the items' own
pub first_start : (x : Compiled) (t : NodeTable) → IsTableOf x t → start_of t.starts.items 0 ≡ t.items
first_start x t tab =
    let low = tab.table.runs.low 0 tab.table.runs.some in
    let high = tab.table.runs.high 0 tab.table.runs.some in
    ⊎_elim
    (λ (lt : t.items < length t.entries.items).
    let w = tab.table.runs.around t.items (omega arith) lt in
    let real = w.0 in
    let from = w.1 in
    let rise = starts_to t.takable t.items t.options t.entries.items t.starts.items tab.table 0 (option_of t.entries.items t.items) (omega arith) (omega (arith, real)) in
    omega (arith, low, from, rise))
    (λ (none : length t.entries.items ≤ t.items). omega (arith, low, high, none))
    (cases_lt t.items (length t.entries.items))

module _ (x : Compiled) (t t' : NodeTable) (tab : IsTableOf x t) (tab' : IsTableOf x t') where
  same_takable : t.takable ≡ t'.takable
  same_takable = tab.takable ∙ sym tab'.takable

  pub same_items : t.items ≡ t'.items
  same_items = tab.items ∙ sym tab'.items

  same_options : t.options ≡ t'.options
  same_options = tab.options ∙ sym tab'.options

  -- an option has as many nodes in both
  option_starts : (o : ℕ) → o ≤ t.options → start_of t.starts.items o ≡ start_of t'.starts.items o
  option_starts zero le = first_start x t tab ∙ same_items ∙ sym (first_start x t' tab')
  option_starts (suc o) le =
      let c = read_in x.options o (omega (arith, le, tab.options)) in
      let w = (tab.nodes o c.0 c.1).width in
      let w' = (tab'.nodes o c.0 c.1).width in
      let before = option_starts o (omega arith) in
      let e : suc o ≡ o + 1 = omega arith in
      ap (start_of t.starts.items) e ∙ omega (arith, w, w', before) ∙ sym (ap (start_of t'.starts.items) e)

  root_starts : (item : ℕ) → item ≤ t.takable → start_of t.starts.items (t.options + item) ≡ start_of t'.starts.items (t.options + item)
  root_starts item le =
      let s = tab.table.single item le in
      let s' = tab'.table.single item (omega (arith, le, same_takable)) in
      let last = option_starts t.options (omega arith) in
      let last' = ap (start_of t'.starts.items) same_options in
      let e' = ap (λ o. start_of t'.starts.items (o + item)) same_options in
      omega (arith, s, s', last, last', e')

  same_start : (o : ℕ) → o < length t.starts.items → start_of t.starts.items o ≡ start_of t'.starts.items o
  same_start o lt = ⊎_elim
      (λ (g : t.options < o).
      let e : o ≡ t.options + (o - t.options) = omega (arith, g) in
      ap (start_of t.starts.items) e ∙ root_starts (o - t.options) (omega (arith, lt, tab.table.starts_long)) ∙ sym (ap (start_of t'.starts.items) e))
      (λ (le : o ≤ t.options). option_starts o le)
      (cases_lt t.options o)

  pub same_starts : t.starts.items ≡ t'.starts.items
  same_starts = ext_get_or 0 t.starts.items t'.starts.items (omega (arith, tab.table.starts_long, tab'.table.starts_long, same_options, same_takable)) same_start

  start_is : (o : ℕ) → start_of t.starts.items o ≡ start_of t'.starts.items o
  start_is o = ap (λ s. start_of s o) same_starts

  same_length : length t.entries.items ≡ length t'.entries.items
  same_length = sym tab.table.runs.last ∙ ap (λ s. start_of s (length s - 1)) same_starts ∙ tab'.table.runs.last

  same_place : (o n : ℕ) (c : Choice) → slice_get x.options o ≡ Some c → Place (cell_count x.puzzle.board) o c (start_of t.starts.items o) n → get_or t.entries.items n no_entry ≡ get_or t'.entries.items n no_entry
  same_place o n c at (at_cell e) =
      ap (λ m. get_or t.entries.items m no_entry) e ∙ (tab.nodes o c at).cell ∙ sym (ap (λ m. get_or t'.entries.items m no_entry) (e ∙ start_is o) ∙ (tab'.nodes o c at).cell)
  same_place o n c at (at_tile e) =
      ap (λ m. get_or t.entries.items m no_entry) e ∙ (tab.nodes o c at).tile ∙ sym (ap (λ m. get_or t'.entries.items m no_entry) (e ∙ ap (λ s. s + 1) (start_is o)) ∙ (tab'.nodes o c at).tile)
  same_place o n c at (at_edge k d there e) =
      ap (λ m. get_or t.entries.items m no_entry) e ∙ (tab.nodes o c at).edge k d there ∙ sym (ap (λ m. get_or t'.entries.items m no_entry) (e ∙ ap (λ s. s + 2 + k) (start_is o)) ∙ (tab'.nodes o c at).edge k d there)

  same_root : (item n : ℕ) → item < t.takable → n ≡ start_of t.starts.items (t.options + item) → get_or t.entries.items n no_entry ≡ get_or t'.entries.items n no_entry
  same_root item n lt at =
      let at' = at ∙ start_is (t.options + item) ∙ ap (λ o. start_of t'.starts.items (o + item)) same_options in
      ap (λ m. get_or t.entries.items m no_entry) at ∙ (tab.root item lt).entry
      ∙ ap (λ o. taken_entry (o + item) (t.items - 1)) same_options ∙ ap (λ i. taken_entry (t'.options + item) (i - 1)) same_items
      ∙ sym (ap (λ m. get_or t'.entries.items m no_entry) at' ∙ (tab'.root item (omega (arith, lt, same_takable))).entry)

  same_entry : (n : ℕ) → n < length t.entries.items → get_or t.entries.items n no_entry ≡ get_or t'.entries.items n no_entry
  same_entry n to = ⊎_elim
      (λ (lt : n < t.items). tab.own n lt ∙ sym (tab'.own n (omega (arith, lt, same_items))))
      (λ (from : t.items ≤ n).
      let o = option_of t.entries.items n in
      let w = tab.table.runs.around n from to in
      ⊎_elim
      (λ (lt : option_of t.entries.items n < t.options).
      let c = read_in x.options o (omega (arith, lt, tab.options)) in
      same_place o n c.0 c.1 (place_in (cell_count x.puzzle.board) o c.0 t.entries.items (start_of t.starts.items o) (start_of t.starts.items (o + 1)) n (tab.nodes o c.0 c.1) w.1 w.2))
      (λ (ge : t.options ≤ option_of t.entries.items n).
      let item = option_of t.entries.items n - t.options in
      let real = w.0 in
      let can_take : item < t.takable = omega (arith, real, ge, tab.table.starts_long) in
      let e : option_of t.entries.items n ≡ t.options + item = omega (arith, ge) in
      let width = (tab.root item can_take).width in
      let low = subst (λ p. start_of t.starts.items p ≤ n) e w.1 in
      let high = subst (λ p. n < start_of t.starts.items (p + 1)) e w.2 in
      same_root item n can_take (omega (arith, low, high, width)))
      (cases_lt (option_of t.entries.items n) t.options))
      (cases_lt n t.items)

  pub same_entries : t.entries.items ≡ t'.entries.items
  same_entries = ext_get_or no_entry t.entries.items t'.entries.items same_length same_entry

-- ---- the links and the sizes

-- where a list goes on is determined by what is shown
module _ (items : ℕ) (column : ℕ → ℕ) (shown : ℕ → Bool) (up down up' down' : ℕ → ℕ) (h : Linked items column shown up down) (h' : Linked items column shown up' down') where
  pub same_down : (n : ℕ) → IsIn items shown n → down n ≡ down' n
  same_down n is = ⊎_elim
      (λ (l : IsLast column shown n (down n)). ⊎_elim
      (λ (l' : IsLast column shown n (down' n)). l.own ∙ sym l'.own)
      (λ (l' : IsAfter column shown n (down' n)). let le = l.none_after (down' n) l'.shown_there l'.same in let lt = l'.after in absurd (omega (arith, le, lt)))
      (h'.next n is))
      (λ (l : IsAfter column shown n (down n)). ⊎_elim
      (λ (l' : IsLast column shown n (down' n)). let le = l'.none_after (down n) l.shown_there l.same in let lt = l.after in absurd (omega (arith, le, lt)))
      (λ (l' : IsAfter column shown n (down' n)).
      let le = l.none_between (down' n) l'.shown_there l'.same l'.after in
      let ge = l'.none_between (down n) l.shown_there l.same l.after in
      omega (arith, le, ge))
      (h'.next n is))
      (h.next n is)

  pub same_up : (n : ℕ) → IsIn items shown n → up n ≡ up' n
  same_up n is =
      let before = h.before n is in
      let down_is : down' (up n) ≡ n = sym (same_down (up n) before) ∙ h.forth n is in
      sym (h'.back_up (up n) before) ∙ ap up' down_is

module _ (items : ℕ) (entries : List Entry) (starts : List ℕ) (links links' : List Link) (sizes sizes' : List ℕ) (r : AreRight items entries starts links sizes []) (r' : AreRight items entries starts links' sizes' []) where
  is_in : (n : ℕ) → n < length entries → IsIn items (shown_by items entries []) n
  is_in n lt = ⊎_elim (λ (low : n < items). inl low) (λ (from : items ≤ n). inr (shown_true items entries [] n from lt refl)) (cases_lt n items)

  same_part : (f : Link → ℕ) → ((n : ℕ) → IsIn items (shown_by items entries []) n → f (get_or links n no_link) ≡ f (get_or links' n no_link)) → (n : ℕ) → f (get_or links n no_link) ≡ f (get_or links' n no_link)
  same_part f same n = ⊎_elim
      (λ (lt : n < length entries). same n (is_in n lt))
      (λ (past : length entries ≤ n). ap f (get_or_past links n no_link (omega (arith, past, r.kept.long)) ∙ sym (get_or_past links' n no_link (omega (arith, past, r'.kept.long)))))
      (cases_lt n (length entries))

  pub links_same : links ≡ links'
  links_same = same_links links links' (r.kept.long ∙ sym r'.kept.long)
      (same_part (λ (l : Link). l.up) (same_up items (item_of entries) (shown_by items entries []) (up_of links) (down_of links) (up_of links') (down_of links') r.kept.linked r'.kept.linked))
      (same_part (λ (l : Link). l.down) (same_down items (item_of entries) (shown_by items entries []) (up_of links) (down_of links) (up_of links') (down_of links') r.kept.linked r'.kept.linked))

  pub sizes_same : sizes ≡ sizes'
  sizes_same = ext_get_or 0 sizes sizes' (r.counted.long ∙ sym r'.counted.long)
      (λ i lt. let real : i < items = omega (arith, lt, r.counted.long) in r.counted.sized i real ∙ sym (r'.counted.sized i real))

-- ---- with nothing chosen

pub none_hidden : (takable items options : ℕ) (entries : List Entry) (trail : List ℕ) → HidesJust takable items options entries [] trail → trail ≡ []
none_hidden takable items options entries [] h = refl
none_hidden takable items options entries (o ∷ trail) h =
    let here : has (o ∷ trail) o ≡ true = ⊎_elim (λ w. rw (w.0) refl) (λ w. absurd (w.1 refl)) (eqb_tells o o) in
    let w = h.only o here in
    absurd (contains_none w.by w.among)

module _ (x : Compiled) (t : NodeTable) (a : LinkArrays) (marks chosen : List ℕ) (h : AreLinksOf x t a marks chosen) (none : chosen ≡ []) where
  pub trail_none : a.trail.items ≡ []
  trail_none = none_hidden t.takable t.items t.options t.entries.items a.trail.items (subst (λ c. HidesJust t.takable t.items t.options t.entries.items c a.trail.items) none (right_now x t a marks chosen h).hides)

  pub marks_none : marks ≡ []
  marks_none = nil_from_length marks (h.right.as_many ∙ ap length none)

  pub right_none : AreRight t.items t.entries.items t.starts.items a.links.items a.sizes.items []
  right_none = subst (λ s. AreRight t.items t.entries.items t.starts.items a.links.items a.sizes.items s) trail_none (right_now x t a marks chosen h).right

module _ (x x' : Compiled) (t t' : NodeTable) (a a' : LinkArrays) (marks marks' chosen chosen' : List ℕ) (h : AreLinksOf x t a marks chosen) (h' : AreLinksOf x' t' a' marks' chosen') (same : x ≡ x') (none : chosen ≡ []) (none' : chosen' ≡ []) where
  tab' : IsTableOf x t'
  tab' = subst (λ y. IsTableOf y t') (sym same) h'.table

  items_are : t.items ≡ t'.items
  items_are = same_items x t t' h.table tab'

  entries_are : t.entries.items ≡ t'.entries.items
  entries_are = same_entries x t t' h.table tab'

  starts_are : t.starts.items ≡ t'.starts.items
  starts_are = same_starts x t t' h.table tab'

  right' : AreRight t.items t.entries.items t.starts.items a'.links.items a'.sizes.items []
  right' =
      subst (λ n. AreRight n t.entries.items t.starts.items a'.links.items a'.sizes.items []) (sym items_are)
      (subst (λ e. AreRight t'.items e t.starts.items a'.links.items a'.sizes.items []) (sym entries_are)
      (subst (λ s. AreRight t'.items t'.entries.items s a'.links.items a'.sizes.items []) (sym starts_are)
      (right_none x' t' a' marks' chosen' h' none')))

  links_are : a.links.items ≡ a'.links.items
  links_are = links_same t.items t.entries.items t.starts.items a.links.items a'.links.items a.sizes.items a'.sizes.items (right_none x t a marks chosen h none) right'

  sizes_are : a.sizes.items ≡ a'.sizes.items
  sizes_are = sizes_same t.items t.entries.items t.starts.items a.links.items a'.links.items a.sizes.items a'.sizes.items (right_none x t a marks chosen h none) right'

  trail_is : a.trail.items ≡ a'.trail.items
  trail_is = trail_none x t a marks chosen h none ∙ sym (trail_none x' t' a' marks' chosen' h' none')

  marks_are : marks ≡ marks'
  marks_are = marks_none x t a marks chosen h none ∙ sym (marks_none x' t' a' marks' chosen' h' none')

  chosen_is : chosen ≡ chosen'
  chosen_is = none ∙ sym none'

  pub states_are_one : link_state x t a marks chosen ≡ link_state x' t' a' marks' chosen'
  states_are_one = λ i. record {
    compiled = same i;
    chosen = chosen_is i;
    entries = entries_are i;
    starts = starts_are i;
    arrays = (links_are i, sizes_are i);
    trail = trail_is i;
    marks = marks_are i;
  }
