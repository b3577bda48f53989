-- What is laid out is a table of the compiled puzzle.
use Rattle.std.proofs.Common.{◌≡◌, ◌≢◌, ◌<◌, ◌≤◌, ◌+◌, ◌-◌, ◌^◌, ℕ, zero, suc, List, Some, length, slice_get, get_or, arith, refl, ap, sym, ◌∙◌, subst, ⊎_elim}
use Rattle.std.proofs.lemmas.Bool.{cases_eq, cases_lt, cases_order}
use Rattle.std.proofs.lemmas.List.{get_or_past}
use Rattle.std.proofs.lemmas.Option.{slice_get_within, get_or_from_slice_get}
use Rattle.match_board.specs.Board.{cell_count}
use Rattle.xcc_form.specs.Options.{Choice, Compiled, IsCompiled, item_count}
use Rattle.xcc_form.specs.declared.edges.Edge.{Edge}
use Rattle.xcc_form.proofs.OptionLemmas.{contains_at, read_in, option_pair, has_tile}
use Rattle.xcc_form.proofs.CoverLemmas.{coloured_cover}
use Rattle.xcc_links.specs.Rings.{no_entry, item_of, option_of}
use Rattle.xcc_links.specs.NodeTables.{IsNodeTable, start_of}
use Rattle.xcc_links.specs.TableLayout.{AreNodesOf, IsLaidOutTo, own_entry, taken_entry, edge_entry}
use Rattle.xcc_links.specs.declared.links.tables.Entry.{Entry}
use Rattle.xcc_dance.proofs.ItemLemmas.{edge_has}

-- A node is the one at the cell, or at the tile, or at an edge.
pub data Place (cells option : ℕ) (c : Choice) (start n : ℕ) : Type 0 where
  at_cell : n ≡ start → Place cells option c start n
  at_tile : n ≡ start + 1 → Place cells option c start n
  at_edge : (k : ℕ) (e : Edge) → slice_get c.edges k ≡ Some e → n ≡ start + 2 + k → Place cells option c start n

pub place_in : (cells option : ℕ) (c : Choice) (entries : List Entry) (start end n : ℕ) → AreNodesOf cells option c entries start end → start ≤ n → n < end → Place cells option c start n
place_in cells option c entries start end n h from to = ⊎_elim
    (λ (e : n ≡ start). at_cell e)
    (λ (ne : n ≢ start). ⊎_elim
    (λ (e : n ≡ start + 1). at_tile e)
    (λ (ne2 : n ≢ start + 1). let w = h.width in let r = read_in c.edges (n - (start + 2)) (omega (arith, w, from, to, ne, ne2)) in at_edge (n - (start + 2)) r.0 r.1 (omega (arith, from, ne, ne2)))
    (cases_eq n (start + 1)))
    (cases_eq n start)

module _ (x : Compiled) (is : IsCompiled x) where
  cells : ℕ
  cells = cell_count x.puzzle.board

  cell_below : (option : ℕ) (c : Choice) → slice_get x.options option ≡ Some c → c.pair.cell < cell_count x.puzzle.board
  cell_below option c at = (option_pair x is option c.pair (c, at, refl)).cell

  tile_below : (option : ℕ) (c : Choice) → slice_get x.options option ≡ Some c → cell_count x.puzzle.board + c.pair.placement.tile < item_count x.puzzle
  tile_below option c at = (coloured_cover x is).cover.primary option (cell_count x.puzzle.board + c.pair.placement.tile) (has_tile x is option c.pair (c, at, refl))

  edge_within : (option : ℕ) (c : Choice) (k : ℕ) (e : Edge) → slice_get x.options option ≡ Some c → slice_get c.edges k ≡ Some e → (item_count x.puzzle ≤ e.item) × (e.item < item_count x.puzzle + length x.shared)
  edge_within option c k e at there = (coloured_cover x is).cover.secondary option e.item e.colour (edge_has x is option e.item e.colour c.edges (c, at, refl) (contains_at c.edges k e there))

  edges_rise : (option : ℕ) (c : Choice) (k k' : ℕ) (e f : Edge) → slice_get x.options option ≡ Some c → slice_get c.edges k ≡ Some e → slice_get c.edges k' ≡ Some f → k < k' → e.item < f.item
  edges_rise option c k k' e f at here there lt =
      let less = (is.edges option c at).rising k k' e lt (slice_get_within c.edges k' f there) in
      let a = ap (λ (g : Edge). g.item) (get_or_from_slice_get c.edges k e e here) in
      let b = ap (λ (g : Edge). g.item) (get_or_from_slice_get c.edges k' f e there) in
      omega (arith, less, a, b)

  module _ (takable items options : ℕ) (entries : List Entry) (starts : List ℕ) (h : IsLaidOutTo x items options takable entries starts) (is_takable : takable ≡ item_count x.puzzle) (is_items : items ≡ item_count x.puzzle + length x.shared + 1) (is_options : options ≡ length x.options) (few : length entries < 2 ^ 32) (few_starts : options + takable + 1 < 2 ^ 32) where
    choice : (option : ℕ) → option < options → (c : Choice) × (slice_get x.options option ≡ Some c)
    choice option lt = read_in x.options option (omega (arith, lt, is_options))

    run : (option : ℕ) → (lt : option < options) → AreNodesOf (cell_count x.puzzle.board) option (choice option lt).0 entries (start_of starts option) (start_of starts (option + 1))
    run option lt = h.nodes option (choice option lt).0 lt (choice option lt).1

    -- the place of a node among its option's
    place : (n option : ℕ) → items ≤ n → n < length entries → option_of entries n ≡ option → (lt : option < options) → Place (cell_count x.puzzle.board) option (choice option lt).0 (start_of starts option) n
    place n option from to of lt =
        let w = h.runs.around n from to in
        place_in (cell_count x.puzzle.board) option (choice option lt).0 entries (start_of starts option) (start_of starts (option + 1)) n (run option lt)
        (subst (λ o. start_of starts o ≤ n) of w.1) (subst (λ o. n < start_of starts (o + 1)) of w.2)

    at_place : (P : Entry → Type 0) (option n : ℕ) (lt : option < options) → Place (cell_count x.puzzle.board) option (choice option lt).0 (start_of starts option) n → P (taken_entry option (choice option lt).0.pair.cell) → P (taken_entry option (cell_count x.puzzle.board + (choice option lt).0.pair.placement.tile)) → ((k : ℕ) (e : Edge) → slice_get (choice option lt).0.edges k ≡ Some e → P (edge_entry option e)) → P (get_or entries n no_entry)
    at_place P option n lt (at_cell e) a b c = subst P (sym (ap (λ m. get_or entries m no_entry) e ∙ (run option lt).cell)) a
    at_place P option n lt (at_tile e) a b c = subst P (sym (ap (λ m. get_or entries m no_entry) e ∙ (run option lt).tile)) b
    at_place P option n lt (at_edge k d there e) a b c = subst P (sym (ap (λ m. get_or entries m no_entry) e ∙ (run option lt).edge k d there)) (c k d there)

    -- a node of the root's list
    root_node : (n : ℕ) → items ≤ n → n < length entries → options ≤ option_of entries n → (item : ℕ) × (item < takable) × (option_of entries n ≡ options + item) × (n ≡ start_of starts (options + item)) × (get_or entries n no_entry ≡ taken_entry (options + item) (items - 1))
    root_node n from to ge =
        let w = h.runs.around n from to in
        let x0 = w.0 in
        let item = option_of entries n - options in
        let long = h.starts_long in
        let lt : item < takable = omega (arith, x0, long, ge) in
        let of : option_of entries n ≡ options + item = omega (arith, ge) in
        let r = h.root item lt in
        let width = r.width in
        let low = subst (λ o. start_of starts o ≤ n) of w.1 in
        let high = subst (λ o. n < start_of starts (o + 1)) of w.2 in
        let at : n ≡ start_of starts (options + item) = omega (arith, low, high, width) in
        (item, lt, of, at, ap (λ m. get_or entries m no_entry) at ∙ r.entry)

    -- what holds of each entry
    by_entry : (P : Entry → Type 0) (n : ℕ) → ((item : ℕ) → item < items → P (own_entry item)) → ((option : ℕ) (c : Choice) → slice_get x.options option ≡ Some c → P (taken_entry option c.pair.cell) × P (taken_entry option (cell_count x.puzzle.board + c.pair.placement.tile)) × ((k : ℕ) (e : Edge) → slice_get c.edges k ≡ Some e → P (edge_entry option e))) → ((item : ℕ) → P (taken_entry (options + item) (items - 1))) → P no_entry → P (get_or entries n no_entry)
    by_entry P n own options_have root none = ⊎_elim
        (λ (lt : n < items). subst P (sym (h.own n lt)) (own n lt))
        (λ (from : items ≤ n). ⊎_elim
        (λ (to : n < length entries). ⊎_elim
        (λ (lt : option_of entries n < options).
        let w = options_have (option_of entries n) (choice (option_of entries n) lt).0 (choice (option_of entries n) lt).1 in
        at_place P (option_of entries n) n lt (place n (option_of entries n) from to refl lt) w.0 w.1 w.2)
        (λ (ge : options ≤ option_of entries n). let w = root_node n from to ge in subst P (sym w.4) (root w.0))
        (cases_lt (option_of entries n) options))
        (λ (past : length entries ≤ n). subst P (sym (get_or_past entries n no_entry past)) none)
        (cases_lt n (length entries)))
        (cases_lt n items)

    -- an option's items rise from node to node
    module _ (option : ℕ) (lt : option < options) where
      cell_item : (n : ℕ) → n ≡ start_of starts option → item_of entries n ≡ (choice option lt).0.pair.cell
      cell_item n e = ap (λ m. item_of entries m) e ∙ ap (λ (z : Entry). z.item) (run option lt).cell

      tile_item : (n : ℕ) → n ≡ start_of starts option + 1 → item_of entries n ≡ cell_count x.puzzle.board + (choice option lt).0.pair.placement.tile
      tile_item n e = ap (λ m. item_of entries m) e ∙ ap (λ (z : Entry). z.item) (run option lt).tile

      edge_item : (n k : ℕ) (d : Edge) → slice_get (choice option lt).0.edges k ≡ Some d → n ≡ start_of starts option + 2 + k → item_of entries n ≡ d.item
      edge_item n k d there e = ap (λ m. item_of entries m) e ∙ ap (λ (z : Entry). z.item) ((run option lt).edge k d there)

      cell_low : (choice option lt).0.pair.cell < cell_count x.puzzle.board
      cell_low = cell_below option (choice option lt).0 (choice option lt).1

      tile_low : cell_count x.puzzle.board + (choice option lt).0.pair.placement.tile < item_count x.puzzle
      tile_low = tile_below option (choice option lt).0 (choice option lt).1

      edge_high : (k : ℕ) (d : Edge) → slice_get (choice option lt).0.edges k ≡ Some d → item_count x.puzzle ≤ d.item
      edge_high k d there = (edge_within option (choice option lt).0 k d (choice option lt).1 there).0

      items_rise : (m n : ℕ) → m < n → Place (cell_count x.puzzle.board) option (choice option lt).0 (start_of starts option) m → Place (cell_count x.puzzle.board) option (choice option lt).0 (start_of starts option) n → item_of entries m < item_of entries n
      items_rise m n less (at_cell e) (at_cell f) = absurd (omega (arith, less, e, f))
      items_rise m n less (at_cell e) (at_tile f) = omega (arith, cell_item m e, tile_item n f, cell_low)
      items_rise m n less (at_cell e) (at_edge k d there f) = let a = cell_low in let b = tile_low in let g = edge_high k d there in omega (arith, cell_item m e, edge_item n k d there f, a, b, g)
      items_rise m n less (at_tile e) (at_cell f) = absurd (omega (arith, less, e, f))
      items_rise m n less (at_tile e) (at_tile f) = absurd (omega (arith, less, e, f))
      items_rise m n less (at_tile e) (at_edge k d there f) = let b = tile_low in let g = edge_high k d there in omega (arith, tile_item m e, edge_item n k d there f, b, g)
      items_rise m n less (at_edge k d there e) (at_cell f) = absurd (omega (arith, less, e, f))
      items_rise m n less (at_edge k d there e) (at_tile f) = absurd (omega (arith, less, e, f))
      items_rise m n less (at_edge k d there e) (at_edge k' d' there' f) =
          let g = edges_rise option (choice option lt).0 k k' d d' (choice option lt).1 there there' (omega (arith, less, e, f)) in
          omega (arith, edge_item m k d there e, edge_item n k' d' there' f, g)

    onces : (m n : ℕ) → items ≤ m → m < length entries → items ≤ n → n < length entries → option_of entries m ≡ option_of entries n → item_of entries m ≡ item_of entries n → m ≡ n
    onces m n lm tm ln tn same item = ⊎_elim
        (λ (lt : option_of entries n < options).
        let p = place m (option_of entries n) lm tm same lt in
        let q = place n (option_of entries n) ln tn refl lt in
        ⊎_elim (λ e. e) (λ o. absurd (⊎_elim
        (λ (l : m < n). let r = items_rise (option_of entries n) lt m n l p q in omega (arith, r, item))
        (λ (l : n < m). let r = items_rise (option_of entries n) lt n m l q p in omega (arith, r, item))
        o)) (cases_order m n))
        (λ (ge : options ≤ option_of entries n).
        let v = root_node m lm tm (omega (arith, same, ge)) in
        let w = root_node n ln tn ge in
        let a = v.2 in
        let b = w.2 in
        let i : v.0 ≡ w.0 = omega (arith, a, b, same) in
        v.3 ∙ ap (λ k. start_of starts (options + k)) i ∙ sym w.3)
        (cases_lt (option_of entries n) options)

    singles : (i : ℕ) → i ≤ takable → start_of starts (options + i) ≡ start_of starts options + i
    singles zero le = let e : options + 0 ≡ options = omega arith in ap (start_of starts) e ∙ omega arith
    singles (suc i) le =
        let r = (h.root i (omega arith)).width in
        let e : options + suc i ≡ options + i + 1 = omega arith in
        let before = singles i (omega arith) in
        ap (start_of starts) e ∙ omega (arith, r, before)

    pub laid_table : IsNodeTable takable items options entries starts
    laid_table = record {
      some = omega (arith, is_takable, is_items);
      few = few;
      few_starts = omega (arith, few_starts, h.starts_long);
      starts_long = h.starts_long;
      own = λ i lt. ap (λ (e : Entry). e.item) (h.own i lt);
      small = λ n. by_entry (λ e. e.item < items) n
          (λ item lt. lt)
          (λ option c at. (
            (let a = cell_below option c at in let b = tile_below option c at in omega (arith, a, b, is_items)),
            (let b = tile_below option c at in omega (arith, b, is_items)),
            λ k e there. let w = edge_within option c k e at there in let l = w.1 in omega (arith, l, is_items),
          ))
          (λ item. omega (arith, is_items))
          (omega (arith, is_items));
      runs = h.runs;
      once = onces;
      real = λ n from to lt. at_place (λ e. e.item + 1 < items) (option_of entries n) n lt (place n (option_of entries n) from to refl lt)
          (let a = cell_low (option_of entries n) lt in let b = tile_low (option_of entries n) lt in omega (arith, a, b, is_items))
          (let b = tile_low (option_of entries n) lt in omega (arith, b, is_items))
          (λ k e there. let w = edge_within (option_of entries n) (choice (option_of entries n) lt).0 k e (choice (option_of entries n) lt).1 there in let l = w.1 in omega (arith, l, is_items));
      rooted = λ n from to ge. let w = root_node n from to ge in let e = ap (λ (z : Entry). z.item) w.4 in omega (arith, e, is_items);
      single = singles;
      coloured = λ n. by_entry (λ e. e.colour < 255) n
          (λ item lt. omega arith)
          (λ option c at. (omega arith, omega arith, λ k e there. let l = (coloured_cover x is).colours option c e at (contains_at c.edges k e there) in omega (arith, l)))
          (λ item. omega arith)
          (omega arith);
    }
