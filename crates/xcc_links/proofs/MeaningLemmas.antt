-- What nodes say of options is what the exact cover says.
use Rattle.std.proofs.Common.{◌≡◌, ◌≢◌, ◌⊎◌, ◌<◌, ◌≤◌, ◌+◌, ℕ, List, Some, Contains, length, slice_get, get_or, arith, refl, ap, sym, ◌∙◌, subst, inl, inr, ⊎_elim}
use Rattle.std.proofs.lemmas.Option.{slice_get_within}
use Rattle.match_board.specs.Board.{cell_count}
use Rattle.match_puzzle.specs.declared.placements.Pair.{Pair}
use Rattle.xcc_form.specs.ExactCover.{HasPrimary, HasColour}
use Rattle.xcc_form.specs.Options.{Choice, Compiled, IsCompiled, cover_of, items_of, primary_count}
use Rattle.xcc_form.specs.declared.edges.Edge.{Edge}
use Rattle.xcc_form.proofs.OptionLemmas.{contains_at, place_of, read_in, primary_of, of_map, has_cell, has_tile, many_options, few_primaries}
use Rattle.xcc_form.proofs.CoverLemmas.{coloured_cover}
use Rattle.xcc_links.specs.Rings.{no_entry, item_of, option_of, colour_of}
use Rattle.xcc_links.specs.NodeTables.{start_of}
use Rattle.xcc_links.specs.NodeClashes.{NodesClash}
use Rattle.xcc_links.proofs.NodeWords.{HasNode, HasNoChosenNode, IsFreeAt, HasChosenNode}
use Rattle.xcc_links.specs.TableLayout.{IsTableOf, IsNodeAt}
use Rattle.xcc_form.specs.Clashes.{Clash, IsOpen, IsOpenAt}
use Rattle.xcc_form.specs.Chosen.{IsCovered, IsUncovered}
use Rattle.xcc_links.specs.declared.links.tables.Entry.{Entry}
use Rattle.xcc_links.specs.declared.links.tables.NodeTable.{NodeTable}
use Rattle.xcc_dance.proofs.ItemLemmas.{edge_has}
use Rattle.xcc_links.proofs.TableLemmas.{Place, at_cell, at_tile, at_edge, place_in}

module _ (x : Compiled) (t : NodeTable) (tab : IsTableOf x t) where
  pub few_primary : t.primaries ≤ t.takable
  few_primary = let few = few_primaries x.puzzle in omega (arith, few, tab.primaries, tab.takable)

  -- what has to be taken can be taken
  pub takes_primary : (item : ℕ) → item < primary_count x.puzzle → item < t.takable
  takes_primary item lt = let few = few_primary in omega (arith, lt, few, tab.primaries)

module _ (x : Compiled) (is : IsCompiled x) (t : NodeTable) (tab : IsTableOf x t) where
  -- A node of an option: at an item that the option takes, or at an edge that it has with this colour.
  abbrev Says : (option item colour : ℕ) → Type 0
  Says option item colour = ((item < t.takable) × HasPrimary (cover_of x) option item) ⊎ ((t.takable ≤ item) × HasColour (cover_of x) option item colour)

  pub real : (option : ℕ) → option < t.options → (c : Choice) × (slice_get x.options option ≡ Some c)
  real option lt = let o = tab.options in read_in x.options option (omega (arith, lt, o))

  says_at : (option : ℕ) (c : Choice) → slice_get x.options option ≡ Some c → (n : ℕ) → Place (cell_count x.puzzle.board) option c (start_of t.starts.items option) n → Says option (item_of t.entries.items n) (colour_of t.entries.items n)
  says_at option c at n (at_cell e) =
      let i = ap (item_of t.entries.items) e ∙ ap (λ (z : Entry). z.item) (tab.nodes option c at).cell in
      let has = has_cell x is option c.pair (c, at, refl) in
      let low = (coloured_cover x is).cover.primary option c.pair.cell has in
      inl (omega (arith, i, low, tab.takable), subst (HasPrimary (cover_of x) option) (sym i) has)
  says_at option c at n (at_tile e) =
      let i = ap (item_of t.entries.items) e ∙ ap (λ (z : Entry). z.item) (tab.nodes option c at).tile in
      let has = has_tile x is option c.pair (c, at, refl) in
      let low = (coloured_cover x is).cover.primary option (cell_count x.puzzle.board + c.pair.placement.tile) has in
      inl (omega (arith, i, low, tab.takable), subst (HasPrimary (cover_of x) option) (sym i) has)
  says_at option c at n (at_edge k d there e) =
      let entry = ap (λ m. get_or t.entries.items m no_entry) e ∙ (tab.nodes option c at).edge k d there in
      let i = ap (λ (z : Entry). z.item) entry in
      let colour = ap (λ (z : Entry). z.colour) entry in
      let has = edge_has x is option d.item d.colour c.edges (c, at, refl) (contains_at c.edges k d there) in
      let high = ((coloured_cover x is).cover.secondary option d.item d.colour has).0 in
      inr (omega (arith, i, high, tab.takable), subst (λ m. HasColour (cover_of x) option m (colour_of t.entries.items n)) (sym i) (subst (HasColour (cover_of x) option d.item) (sym colour) has))

  pub node_says : (n option : ℕ) → t.items ≤ n → n < length t.entries.items → option_of t.entries.items n ≡ option → option < t.options → Says option (item_of t.entries.items n) (colour_of t.entries.items n)
  node_says n option from to of lt =
      let c = real option lt in
      let w = tab.table.runs.around n from to in
      says_at option c.0 c.1 n (place_in (cell_count x.puzzle.board) option c.0 t.entries.items (start_of t.starts.items option) (start_of t.starts.items (option + 1)) n (tab.nodes option c.0 c.1)
      (subst (λ o. start_of t.starts.items o ≤ n) of w.1) (subst (λ o. n < start_of t.starts.items (o + 1)) of w.2))

  -- a place of an option's run
  pub in_run : (option : ℕ) (c : Choice) → slice_get x.options option ≡ Some c → (k : ℕ) → k < 2 + length c.edges → (t.items ≤ start_of t.starts.items option + k) × (start_of t.starts.items option + k < length t.entries.items) × (option_of t.entries.items (start_of t.starts.items option + k) ≡ option)
  in_run option c at k lt =
      let many = slice_get_within x.options option c at in
      let o = tab.options in
      let long = tab.table.starts_long in
      let width = (tab.nodes option c at).width in
      let low = tab.table.runs.low option (omega (arith, many, o, long)) in
      let high = tab.table.runs.high (option + 1) (omega (arith, many, o, long)) in
      (omega (arith, low), omega (arith, high, width, lt), tab.table.runs.inside option (start_of t.starts.items option + k) (omega (arith, many, o, long)) (omega arith) (omega (arith, width, lt)))

  -- the first two nodes of an option are those of the items that it takes
  pub primary_node : (option item : ℕ) → HasPrimary (cover_of x) option item → (n : ℕ) × ((n ≡ start_of t.starts.items option) ⊎ (n ≡ start_of t.starts.items option + 1)) × (t.items ≤ n) × (n < length t.entries.items) × (option_of t.entries.items n ≡ option) × (item_of t.entries.items n ≡ item)
  primary_node option item has =
      let w = primary_of x is option item has in
      let v = w.1 in
      let c = v.0 in
      let s = start_of t.starts.items option in
      let zero_is : s + 0 ≡ s = omega arith in
      let first = in_run option c v.1 0 (omega arith) in
      let second = in_run option c v.1 1 (omega arith) in
      ⊎_elim
      (λ e. (
        s,
        inl refl,
        subst (λ n. t.items ≤ n) zero_is first.0,
        subst (λ n. n < length t.entries.items) zero_is first.1,
        subst (λ n. option_of t.entries.items n ≡ option) zero_is first.2,
        ap (λ (z : Entry). z.item) (tab.nodes option c v.1).cell ∙ ap (λ (p : Pair). p.cell) v.2 ∙ sym e,
      ))
      (λ e. (
        s + 1,
        inr refl,
        second.0,
        second.1,
        second.2,
        ap (λ (z : Entry). z.item) (tab.nodes option c v.1).tile ∙ ap (λ (p : Pair). cell_count x.puzzle.board + p.placement.tile) v.2 ∙ sym e,
      ))
      w.2

  pub colour_node : (option item colour : ℕ) → HasColour (cover_of x) option item colour → (n : ℕ) × (t.items ≤ n) × (n < length t.entries.items) × (option_of t.entries.items n ≡ option) × (item_of t.entries.items n ≡ item) × (colour_of t.entries.items n ≡ colour)
  colour_node option item colour has =
      let d : Edge = record { item = item; colour = colour } in
      let of = of_map (items_of (cell_count x.puzzle.board)) x.options option has.0 has.1 in
      let c = of.0 in
      let among : Contains c.edges d = subst (λ (s : _). Contains s.coloured d) (sym of.2) has.2 in
      let at = place_of c.edges d among in
      let k = at.0 in
      let s = start_of t.starts.items option in
      let within = slice_get_within c.edges k d at.1 in
      let run = in_run option c of.1 (2 + k) (omega (arith, within)) in
      let e : s + 2 + k ≡ s + (2 + k) = omega arith in
      let entry = ap (λ n. get_or t.entries.items n no_entry) (sym e) ∙ (tab.nodes option c of.1).edge k d at.1 in
      (s + (2 + k), run.0, run.1, run.2, ap (λ (z : Entry). z.item) entry, ap (λ (z : Entry). z.colour) entry)

  -- ---- items

  pub has_node : (option item : ℕ) → HasPrimary (cover_of x) option item → HasNode t.items t.entries.items option item
  has_node option item has = let w = primary_node option item has in record { node = w.0; from = w.2; to = w.3; option = w.4; item = w.5 }

  pub node_has : (option item : ℕ) → option < t.options → item < t.takable → HasNode t.items t.entries.items option item → HasPrimary (cover_of x) option item
  node_has option item lt can_take h = ⊎_elim
      (λ w. subst (HasPrimary (cover_of x) option) h.item w.1)
      (λ w. let g = w.0 in let i = h.item in absurd (omega (arith, g, i, can_take)))
      (node_says h.node option h.from h.to h.option lt)

  -- ---- clashes

  pub clash_nodes : (o p : ℕ) → Clash (cover_of x) o p → NodesClash t.takable t.items t.entries.items o p
  clash_nodes o p (inl s) =
      let m = primary_node o s.item s.one in
      let n = primary_node p s.item s.two in
      let low = (coloured_cover x is).cover.primary o s.item s.one in
      let i = m.5 in
      record { node = m.0; from = m.2; to = m.3; option = m.4; clashes = record { node = n.0; from = n.2; to = n.3; option = n.4; item = n.5 ∙ sym m.5; differ = inl (omega (arith, i, low, tab.takable)) } }
  clash_nodes o p (inr s) =
      let m = colour_node o s.item s.colour s.one in
      let n = colour_node p s.item s.other_colour s.two in
      record { node = m.0; from = m.1; to = m.2; option = m.3; clashes = record { node = n.0; from = n.1; to = n.2; option = n.3; item = n.4 ∙ sym m.4; differ = inr (λ e. s.differ (sym m.5 ∙ sym e ∙ n.5)) } }

  pub nodes_clash : (o p : ℕ) → o < t.options → p < t.options → NodesClash t.takable t.items t.entries.items o p → Clash (cover_of x) o p
  nodes_clash o p lo lp h =
      let m = h.node in
      let n = h.clashes.node in
      let same : item_of t.entries.items n ≡ item_of t.entries.items m = h.clashes.item in
      ⊎_elim
      (λ a. ⊎_elim
      (λ b. inl (record { item = item_of t.entries.items m; one = a.1; two = subst (HasPrimary (cover_of x) p) same b.1 }))
      (λ b. let l = a.0 in let g = b.0 in absurd (omega (arith, l, g, same)))
      (node_says n p h.clashes.from h.clashes.to h.clashes.option lp))
      (λ a. ⊎_elim
      (λ b. let g = a.0 in let l = b.0 in absurd (omega (arith, l, g, same)))
      (λ b. inr (record {
        item = item_of t.entries.items m;
        colour = colour_of t.entries.items m;
        other_colour = colour_of t.entries.items n;
        one = a.1;
        two = subst (λ i. HasColour (cover_of x) p i (colour_of t.entries.items n)) same b.1;
        differ = λ e. ⊎_elim (λ l. let g = a.0 in absurd (omega (arith, l, g))) (λ ne. ne (sym e)) h.clashes.differ;
      }))
      (node_says n p h.clashes.from h.clashes.to h.clashes.option lp))
      (node_says m o h.from h.to h.option lo)

  -- ---- chosen options

  pub few_options : (option : ℕ) → option < length (cover_of x).options → option < t.options
  few_options option lt = let m = many_options x is in let o = tab.options in omega (arith, lt, m, o)

  pub all_options : (option : ℕ) → option < t.options → option < length (cover_of x).options
  all_options option lt = let m = many_options x is in let o = tab.options in omega (arith, lt, m, o)

  module _ (chosen : List ℕ) (real_chosen : (o : ℕ) → Contains chosen o → o < t.options) where
    pub open_free : (option : ℕ) → IsOpen (cover_of x) chosen option → (o : ℕ) → Contains chosen o → NodesClash t.takable t.items t.entries.items o option → ⊥
    open_free option w o among h = w.free o among (nodes_clash o option (real_chosen o among) (few_options option w.real) h)

    pub open_at_free : (item option : ℕ) → IsOpenAt (cover_of x) chosen item option → IsFreeAt t.takable t.items t.options t.entries.items chosen item option
    open_at_free item option w = record { small = few_options option w.open_option.real; free = open_free option w.open_option; at = has_node option item w.at }

    pub free_open_at : (item option : ℕ) → item < t.takable → IsFreeAt t.takable t.items t.options t.entries.items chosen item option → IsOpenAt (cover_of x) chosen item option
    free_open_at item option can_take w = record {
      open_option = record { real = all_options option w.small; free = λ o among k. w.free o among (clash_nodes o option k) };
      at = node_has option item w.small can_take w.at;
    }

    pub node_covered : (item : ℕ) → item < t.takable → HasChosenNode t.items t.entries.items chosen item → IsCovered (cover_of x) chosen item
    node_covered item can_take w = (w.by, w.among, node_has w.by item (real_chosen w.by w.among) can_take w.at)

    pub uncovered_node : (item : ℕ) → IsUncovered (cover_of x) chosen item → HasNoChosenNode t.items t.entries.items chosen item
    uncovered_node item w c among h = w.uncovered (c, among, node_has c item (real_chosen c among) (takes_primary x t tab item w.primary) h)

    pub node_uncovered : (item : ℕ) → item < t.primaries → HasNoChosenNode t.items t.entries.items chosen item → IsUncovered (cover_of x) chosen item
    node_uncovered item lt none = record { primary = omega (arith, lt, tab.primaries); uncovered = λ w. none w.0 w.1 (has_node w.0 item w.2) }

  -- where an option's node at an item that it takes stands
  module _ (option item : ℕ) (has : HasPrimary (cover_of x) option item) where
    first_run : (t.items ≤ start_of t.starts.items option) × (start_of t.starts.items option < length t.entries.items) × (option_of t.entries.items (start_of t.starts.items option) ≡ option)
    first_run =
        let v = (primary_of x is option item has).1 in
        let r = in_run option v.0 v.1 0 (omega arith) in
        let e : start_of t.starts.items option + 0 ≡ start_of t.starts.items option = omega arith in
        (subst (λ n. t.items ≤ n) e r.0, subst (λ n. n < length t.entries.items) e r.1, subst (λ n. option_of t.entries.items n ≡ option) e r.2)

    pub start_within : (option < length t.starts.items) × (start_of t.starts.items option < length t.entries.items)
    start_within =
        let v = (primary_of x is option item has).1 in
        let many = slice_get_within x.options option v.0 v.1 in
        let o = tab.options in
        let long = tab.table.starts_long in
        (omega (arith, many, o, long), first_run.1)

    pub at_first : item_of t.entries.items (start_of t.starts.items option) ≡ item → IsNodeAt t option item (start_of t.starts.items option)
    at_first same = record { from = first_run.0; to = first_run.1; of = first_run.2; at = same }

    pub at_second : item_of t.entries.items (start_of t.starts.items option) ≢ item → IsNodeAt t option item (start_of t.starts.items option + 1)
    at_second differs =
        let w = primary_node option item has in
        ⊎_elim
        (λ (e : w.0 ≡ start_of t.starts.items option). absurd (differs (ap (item_of t.entries.items) (sym e) ∙ w.5)))
        (λ (e : w.0 ≡ start_of t.starts.items option + 1). subst (IsNodeAt t option item) e (record { from = w.2; to = w.3; of = w.4; at = w.5 }))
        w.1
