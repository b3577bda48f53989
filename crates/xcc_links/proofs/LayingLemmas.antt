-- The nodes of a compiled puzzle are laid out one option after another.
use Rattle.std.proofs.Common.{◌≡◌, ◌<◌, ◌≤◌, ◌+◌, ◌-◌, ℕ, zero, suc, List, [], ◌∷◌, ◌++◌, Some, length, length-append, drop, slice_get, get_or, map, arith, refl, ap, sym, ◌∙◌, subst, ⊎_elim}
use Rattle.std.proofs.lemmas.Bool.{cases_lt}
use Rattle.std.proofs.lemmas.List.{get_or_append_left, get_or-append_right, get_or_at, get_or_push, length-map}
use Rattle.std.proofs.lemmas.Option.{slice_get_within, none-some}
use Rattle.match_board.specs.Board.{cell_count}
use Rattle.match_puzzle.proofs.Prefixes.{inside}
use Rattle.xcc_form.specs.ExactCover.{ItemSet, entry_count}
use Rattle.xcc_form.specs.Options.{Choice, Compiled, cover_of, entries_of, items_of}
use Rattle.xcc_form.specs.declared.edges.Edge.{Edge}
use Rattle.xcc_links.specs.Rings.{no_entry, option_of}
use Rattle.xcc_links.specs.NodeTables.{AreRuns, start_of}
use Rattle.xcc_links.specs.TableLayout.{AreNodesOf, IsLaidOutTo, own_entry, taken_entry, edge_entry}
use Rattle.xcc_links.specs.declared.links.tables.Entry.{Entry}
use Rattle.xcc_dance.proofs.ItemLemmas.{to_map}

-- what option_nodes lays out
abbrev pub option_nodes : (cells option : ℕ) → Choice → List Entry
option_nodes cells option c = taken_entry option c.pair.cell ∷ taken_entry option (cells + c.pair.placement.tile) ∷ map (edge_entry option) c.edges

map_at : {X Y : Type 0} (f : X → Y) (xs : List X) (k : ℕ) (x : X) (d : Y) → slice_get xs k ≡ Some x → get_or (map f xs) k d ≡ f x
map_at f [] k x d at = absurd (none-some x at)
map_at f (y ∷ xs) zero x d at = ap f (inside at)
map_at f (y ∷ xs) (suc k) x d at = map_at f xs k x d at

-- the entries from an option on are its own and those from the next on
count_drop : (options : List ItemSet) (i : ℕ) (o : ItemSet) → slice_get options i ≡ Some o → entry_count (drop i options) ≡ length o.primary + length o.coloured + entry_count (drop (i + 1) options)
count_drop [] i o at = absurd (none-some o at)
count_drop (p ∷ options) zero o at = ap (λ (q : ItemSet). length q.primary + length q.coloured + entry_count options) (inside at)
count_drop (p ∷ options) (suc i) o at = let e : suc i + 1 ≡ suc (i + 1) = omega arith in count_drop options i o at ∙ ap (λ n. length o.primary + length o.coloured + entry_count (drop n (p ∷ options))) (sym e)

pub entries_left : (x : Compiled) (option : ℕ) (c : Choice) → slice_get x.options option ≡ Some c → entry_count (drop option (cover_of x).options) ≡ 2 + length c.edges + entry_count (drop (option + 1) (cover_of x).options)
entries_left x option c at = count_drop (cover_of x).options option (items_of (cell_count x.puzzle.board) c) (to_map (items_of (cell_count x.puzzle.board)) x.options option c at)

-- ---- one run more

module _ (first : ℕ) (entries more : List Entry) (starts : List ℕ) (r : AreRuns first entries starts) (new : (k : ℕ) → k < length more → option_of more k + 1 ≡ length starts) where
  longer : length (entries ++ more) ≡ length entries + length more
  longer = length-append entries more

  starts_longer : length (starts ++ length (entries ++ more) ∷ []) ≡ length starts + 1
  starts_longer = length-append starts (length (entries ++ more) ∷ [])

  pub start_old : (o : ℕ) → o < length starts → start_of (starts ++ length (entries ++ more) ∷ []) o ≡ start_of starts o
  start_old o lt = get_or_append_left starts (length (entries ++ more) ∷ []) 0 o lt

  pub start_new : (o : ℕ) → o ≡ length starts → start_of (starts ++ length (entries ++ more) ∷ []) o ≡ length (entries ++ more)
  start_new o e = get_or_at starts (length (entries ++ more)) [] 0 o (sym e)

  pub last_start : (o : ℕ) → o + 1 ≡ length starts → start_of starts o ≡ length entries
  last_start o e = let s : o ≡ length starts - 1 = omega arith in ap (start_of starts) s ∙ r.last

  pub first_in : first ≤ length entries
  first_in = let low = r.low 0 r.some in let high = r.high 0 r.some in omega (arith, low, high)

  pub entry_old : (n : ℕ) → n < length entries → get_or (entries ++ more) n no_entry ≡ get_or entries n no_entry
  entry_old n lt = get_or_append_left entries more no_entry n lt

  pub entry_new : (n : ℕ) → length entries ≤ n → get_or (entries ++ more) n no_entry ≡ get_or more (n - length entries) no_entry
  entry_new n le = get_or-append_right entries more (length entries) n no_entry refl le

  new_option : (n : ℕ) → length entries ≤ n → n < length (entries ++ more) → option_of (entries ++ more) n + 1 ≡ length starts
  new_option n le lt =
      let e = ap (λ (z : Entry). z.option) (entry_new n le) in
      let h = new (n - length entries) (omega (arith, longer, lt)) in
      omega (arith, e, h)

  pub runs_more : AreRuns first (entries ++ more) (starts ++ length (entries ++ more) ∷ [])
  runs_more = record {
    some = omega (arith, starts_longer);
    last = start_new (length (starts ++ length (entries ++ more) ∷ []) - 1) (omega (arith, starts_longer));
    rising = λ o lt. ⊎_elim
        (λ (l : o + 1 < length starts). let h = r.rising o l in let a = start_old o (omega arith) in let b = start_old (o + 1) l in omega (arith, h, a, b))
        (λ (g : length starts ≤ o + 1). let h = r.high o (omega (arith, lt, starts_longer)) in let a = start_old o (omega (arith, lt, starts_longer)) in let b = start_new (o + 1) (omega (arith, g, lt, starts_longer)) in omega (arith, h, a, b, longer))
        (cases_lt (o + 1) (length starts));
    low = λ o lt. ⊎_elim
        (λ (l : o < length starts). let h = r.low o l in let a = start_old o l in omega (arith, h, a))
        (λ (g : length starts ≤ o). let b = start_new o (omega (arith, g, lt, starts_longer)) in omega (arith, first_in, b, longer))
        (cases_lt o (length starts));
    high = λ o lt. ⊎_elim
        (λ (l : o < length starts). let h = r.high o l in let a = start_old o l in omega (arith, h, a, longer))
        (λ (g : length starts ≤ o). let b = start_new o (omega (arith, g, lt, starts_longer)) in omega (arith, b))
        (cases_lt o (length starts));
    inside = λ o n lt from to. ⊎_elim
        (λ (l : o + 1 < length starts).
        let a = start_old o (omega arith) in
        let b = start_old (o + 1) l in
        let high = r.high (o + 1) l in
        let within : n < length entries = omega (arith, to, b, high) in
        ap (λ (z : Entry). z.option) (entry_old n within) ∙ r.inside o n l (omega (arith, from, a)) (omega (arith, to, b)))
        (λ (g : length starts ≤ o + 1).
        let e : o + 1 ≡ length starts = omega (arith, g, lt, starts_longer) in
        let a = start_old o (omega (arith, e)) in
        let b = start_new (o + 1) e in
        let l = last_start o e in
        let h = new_option n (omega (arith, from, a, l)) (omega (arith, to, b)) in
        omega (arith, h, e))
        (cases_lt (o + 1) (length starts));
    around = λ n le lt. ⊎_elim
        (λ (l : n < length entries).
        let w = r.around n le l in
        let x = w.0 in
        let y = w.1 in
        let z = w.2 in
        let a = start_old (option_of entries n) (omega (arith, x)) in
        let b = start_old (option_of entries n + 1) x in
        subst (λ o. (o + 1 < length (starts ++ length (entries ++ more) ∷ [])) × (start_of (starts ++ length (entries ++ more) ∷ []) o ≤ n) × (n < start_of (starts ++ length (entries ++ more) ∷ []) (o + 1)))
        (sym (ap (λ (z : Entry). z.option) (entry_old n l)))
        (omega (arith, x, starts_longer), omega (arith, y, a), omega (arith, z, b)))
        (λ (g : length entries ≤ n).
        let e = new_option n g lt in
        let a = start_old (option_of (entries ++ more) n) (omega (arith, e)) in
        let b = start_new (option_of (entries ++ more) n + 1) e in
        let l = last_start (option_of (entries ++ more) n) e in
        (omega (arith, e, starts_longer), omega (arith, a, l, g), omega (arith, b, lt)))
        (cases_lt n (length entries));
  }

  -- what is laid out stays
  pub nodes_kept : (cells option : ℕ) (c : Choice) → option + 1 < length starts → AreNodesOf cells option c entries (start_of starts option) (start_of starts (option + 1)) → AreNodesOf cells option c (entries ++ more) (start_of (starts ++ length (entries ++ more) ∷ []) option) (start_of (starts ++ length (entries ++ more) ∷ []) (option + 1))
  nodes_kept cells option c lt h =
      let high = r.high (option + 1) lt in
      let w = h.width in
      let s = start_of starts option in
      let kept : AreNodesOf cells option c (entries ++ more) (start_of starts option) (start_of starts (option + 1)) = record {
        width = h.width;
        cell = entry_old s (omega (arith, high, w)) ∙ h.cell;
        tile = entry_old (s + 1) (omega (arith, high, w)) ∙ h.tile;
        edge = λ k e at. let within = slice_get_within c.edges k e at in entry_old (s + 2 + k) (omega (arith, high, w, within)) ∙ h.edge k e at;
      } in
      subst (λ n. AreNodesOf cells option c (entries ++ more) n (start_of (starts ++ length (entries ++ more) ∷ []) (option + 1))) (sym (start_old option (omega (arith, lt))))
      (subst (λ n. AreNodesOf cells option c (entries ++ more) (start_of starts option) n) (sym (start_old (option + 1) lt)) kept)

-- ---- one option more

module _ (x : Compiled) (items option : ℕ) (entries : List Entry) (starts : List ℕ) (h : IsLaidOutTo x items option 0 entries starts) (c : Choice) (at : slice_get x.options option ≡ Some c) where
  cells : ℕ
  cells = cell_count x.puzzle.board

  added : List Entry
  added = option_nodes (cell_count x.puzzle.board) option c

  own_option : (k : ℕ) → k < length (option_nodes (cell_count x.puzzle.board) option c) → option_of (option_nodes (cell_count x.puzzle.board) option c) k ≡ option
  own_option zero lt = refl
  own_option (suc zero) lt = refl
  own_option (suc (suc k)) lt = edges c.edges k (let e = length-map c.edges (edge_entry option) in omega (arith, lt, e))
    where
      edges : (es : List Edge) (k : ℕ) → k < length es → option_of (map (edge_entry option) es) k ≡ option
      edges [] k lt = absurd (omega (arith, lt))
      edges (e ∷ es) zero lt = refl
      edges (e ∷ es) (suc k) lt = edges es k (omega (arith, lt))

  pub long_before : length entries + (2 + length c.edges + entry_count (drop (option + 1) (cover_of x).options)) ≡ items + entries_of x
  long_before =
      let e = entries_left x option c at in
      omega (arith, h.long, e)

  pub option_more : IsLaidOutTo x items (option + 1) 0 (entries ++ option_nodes (cell_count x.puzzle.board) option c) (starts ++ length (entries ++ option_nodes (cell_count x.puzzle.board) option c) ∷ [])
  option_more =
      let more = option_nodes (cell_count x.puzzle.board) option c in
      let starts_long = h.starts_long in
      let new : (k : ℕ) → k < length more → option_of more k + 1 ≡ length starts = λ k lt. let e = own_option k lt in omega (arith, e, starts_long) in
      let long = length-append entries more in
      let edges_long = length-map c.edges (edge_entry option) in
      let start : start_of starts option ≡ length entries = last_start items entries more starts h.runs new option (omega (arith, starts_long)) in
      let here : AreNodesOf (cell_count x.puzzle.board) option c (entries ++ more) (length entries) (length (entries ++ more)) = record {
        width = omega (arith, long, edges_long);
        cell = entry_new items entries more starts h.runs new (length entries) (omega arith) ∙ (let e : length entries - length entries ≡ 0 = omega arith in ap (λ n. get_or more n no_entry) e);
        tile = entry_new items entries more starts h.runs new (length entries + 1) (omega arith) ∙ (let e : (length entries + 1) - length entries ≡ 1 = omega arith in ap (λ n. get_or more n no_entry) e);
        edge = λ k e there. entry_new items entries more starts h.runs new (length entries + 2 + k) (omega arith) ∙ (let i : (length entries + 2 + k) - length entries ≡ suc (suc k) = omega arith in ap (λ n. get_or more n no_entry) i) ∙ map_at (edge_entry option) c.edges k e no_entry there;
      } in
      record {
        starts_long = length-append starts (length (entries ++ more) ∷ []) ∙ omega (arith, starts_long);
        long = omega (arith, long, edges_long, long_before);
        own = λ item lt. entry_old items entries more starts h.runs new item (let f = first_in items entries more starts h.runs new in omega (arith, f, lt)) ∙ h.own item lt;
        runs = runs_more items entries more starts h.runs new;
        nodes = λ o d lt there. ⊎_elim
            (λ (l : o < option). nodes_kept items entries more starts h.runs new (cell_count x.puzzle.board) o d (omega (arith, l, starts_long)) (h.nodes o d l there))
            (λ (g : option ≤ o).
            let same : option ≡ o = omega (arith, g, lt) in
            let choice : c ≡ d = inside (sym at ∙ ap (slice_get x.options) same ∙ there) in
            subst (λ (e : Choice). AreNodesOf (cell_count x.puzzle.board) o e (entries ++ more) (start_of (starts ++ length (entries ++ more) ∷ []) o) (start_of (starts ++ length (entries ++ more) ∷ []) (o + 1))) choice
            (subst (λ n. AreNodesOf (cell_count x.puzzle.board) n c (entries ++ more) (start_of (starts ++ length (entries ++ more) ∷ []) n) (start_of (starts ++ length (entries ++ more) ∷ []) (n + 1))) same
            (subst (λ n. AreNodesOf (cell_count x.puzzle.board) option c (entries ++ more) n (start_of (starts ++ length (entries ++ more) ∷ []) (option + 1))) (sym (start_old items entries more starts h.runs new option (omega (arith, starts_long)) ∙ start))
            (subst (λ n. AreNodesOf (cell_count x.puzzle.board) option c (entries ++ more) (length entries) n) (sym (start_new items entries more starts h.runs new (option + 1) (omega (arith, starts_long)))) here))))
            (cases_lt o option);
        root = λ item lt. absurd (omega (arith, lt));
      }

-- ---- one node of the root more

module _ (x : Compiled) (items options roots : ℕ) (entries : List Entry) (starts : List ℕ) (h : IsLaidOutTo x items options roots entries starts) where
  pub root_more : IsLaidOutTo x items options (roots + 1) (entries ++ taken_entry (options + roots) (items - 1) ∷ []) (starts ++ length (entries ++ taken_entry (options + roots) (items - 1) ∷ []) ∷ [])
  root_more =
      let more = taken_entry (options + roots) (items - 1) ∷ [] in
      let starts_long = h.starts_long in
      let new : (k : ℕ) → k < length more → option_of more k + 1 ≡ length starts = λ k lt. let e : k ≡ 0 = omega (arith, lt) in let f = ap (option_of more) e in omega (arith, f, starts_long) in
      let long = length-append entries more in
      let starts' = starts ++ length (entries ++ more) ∷ [] in
      record {
        starts_long = length-append starts (length (entries ++ more) ∷ []) ∙ omega (arith, starts_long);
        long = omega (arith, long, h.long);
        own = λ item lt. entry_old items entries more starts h.runs new item (let f = first_in items entries more starts h.runs new in omega (arith, f, lt)) ∙ h.own item lt;
        runs = runs_more items entries more starts h.runs new;
        nodes = λ o d lt there. nodes_kept items entries more starts h.runs new (cell_count x.puzzle.board) o d (omega (arith, lt, starts_long)) (h.nodes o d lt there);
        root = λ item lt. ⊎_elim
            (λ (l : item < roots).
            let w = h.root item l in
            let a = start_old items entries more starts h.runs new (options + item) (omega (arith, l, starts_long)) in
            let b = start_old items entries more starts h.runs new (options + item + 1) (omega (arith, l, starts_long)) in
            let width = w.width in
            let high = h.runs.high (options + item + 1) (omega (arith, l, starts_long)) in
            record {
              entry = ap (λ n. get_or (entries ++ more) n no_entry) a ∙ entry_old items entries more starts h.runs new (start_of starts (options + item)) (omega (arith, high, width)) ∙ w.entry;
              width = omega (arith, a, b, width);
            })
            (λ (g : roots ≤ item).
            let same : item ≡ roots = omega (arith, g, lt) in
            let a = start_old items entries more starts h.runs new (options + item) (omega (arith, same, starts_long)) in
            let s = last_start items entries more starts h.runs new (options + item) (omega (arith, same, starts_long)) in
            let b = start_new items entries more starts h.runs new (options + item + 1) (omega (arith, same, starts_long)) in
            let at : start_of starts' (options + item) ≡ length entries = omega (arith, a, s) in
            record {
              entry = ap (λ n. get_or (entries ++ more) n no_entry) at
                  ∙ entry_new items entries more starts h.runs new (length entries) (omega arith)
                  ∙ (let e : length entries - length entries ≡ 0 = omega arith in ap (λ n. get_or more n no_entry) e)
                  ∙ ap (λ n. taken_entry (options + n) (items - 1)) (sym same);
              width = omega (arith, at, b, long);
            })
            (cases_lt item roots);
      }

-- ---- at first

-- one item's own node more
pub own_more : (entries entries' : List Entry) (items : ℕ) → entries' ≡ entries ++ own_entry items ∷ [] → length entries ≡ items → ((item : ℕ) → item < items → get_or entries item no_entry ≡ own_entry item)
    → (item : ℕ) → item < items + 1 → get_or entries' item no_entry ≡ own_entry item
own_more entries entries' items e long own item lt =
    ap (λ es. get_or es item no_entry) e
    ∙ ⊎_elim
    (λ (below : item < items). get_or_append_left entries (own_entry items ∷ []) no_entry item (omega (arith, below, long)) ∙ own item below)
    (λ (le : items ≤ item). let same : item ≡ items = omega (arith, le, lt) in get_or_push entries (own_entry items) no_entry item (omega (arith, long, same)) ∙ ap own_entry (sym same))
    (cases_lt item items)

pub laid_first : (x : Compiled) (items : ℕ) (entries : List Entry) (starts : List ℕ) → length entries ≡ items → ((item : ℕ) → item < items → get_or entries item no_entry ≡ own_entry item) → starts ≡ items ∷ [] → IsLaidOutTo x items 0 0 entries starts
laid_first x items entries starts long own is = subst (IsLaidOutTo x items 0 0 entries) (sym is) (record {
  starts_long = refl;
  long = omega (arith, long);
  own = own;
  runs = record {
    some = omega arith;
    last = sym long;
    rising = λ o lt. absurd (omega (arith, lt));
    low = λ o lt. let e : o ≡ 0 = omega (arith, lt) in let f = ap (start_of (items ∷ [])) e in omega (arith, f);
    high = λ o lt. let e : o ≡ 0 = omega (arith, lt) in let f = ap (start_of (items ∷ [])) e in omega (arith, f, long);
    inside = λ o n lt. absurd (omega (arith, lt));
    around = λ n le lt. absurd (omega (arith, le, lt, long));
  };
  nodes = λ o c lt. absurd (omega (arith, lt));
  root = λ item lt. absurd (omega (arith, lt));
})
