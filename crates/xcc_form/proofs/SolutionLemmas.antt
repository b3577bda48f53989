-- Solutions and the arrangements that stand with them.
use Rattle.std.proofs.Common.{◌≡◌, ◌<◌, ◌+◌, ◌-◌, ℕ, List, Some, Contains, length, slice_get, arith, refl, ap, sym, ◌∙◌, subst, inl, inr, ⊎_elim}
use Rattle.match_board.specs.Board.{cell_count, Meets}
use Rattle.std.proofs.lemmas.Bool.Decides.{eqb_tells}
use Rattle.match_limits.proofs.Listings.{lt_or_le}
use Rattle.match_puzzle.specs.Puzzle.{AllHaveToStand, colour_of, GoTogether}
use Rattle.match_puzzle.specs.Arrangement.{IsArrangement, Stands}
use Rattle.match_puzzle.specs.declared.placements.Placement.{Placement}
use Rattle.match_puzzle.specs.declared.placements.Pair.{Pair}
use Rattle.match_puzzle.proofs.Pigeonhole.{all_placed}
use Rattle.match_puzzle.proofs.Prefixes.{inside}
use Rattle.xcc_form.specs.ExactCover.{IsSolution, IsInExactlyOne, HasPrimary, HasColour}
use Rattle.xcc_form.specs.Options.{Compiled, IsCompiled, IsSharedEdge, IsSideOf, colour_given, cover_of, primary_count, item_count}
use Rattle.xcc_form.specs.Correspondence.{IsPairOf, IsFilledBy}
use Rattle.xcc_form.specs.declared.edges.SharedEdge.{SharedEdge}
use Rattle.xcc_form.proofs.EdgeLemmas.{other_cell}
use Rattle.xcc_form.proofs.GivenLemmas.{given_alike, met}
use Rattle.xcc_form.proofs.ShownLemmas.{one_side}
use Rattle.xcc_form.proofs.OptionLemmas.{option_pair, one_option, one_pair, many_options, IsItemOf, primary_of, has_cell, has_tile, primaries_are, cell_is_primary, colour_at, has_colour, shared_by, contains_at, read_in}

-- the pair of a cell and a placement
abbrev pub pair : ℕ → Placement → Pair
pair cell y = record { cell = cell; placement = y }

pub stands_one : (a : List Placement) (cell : ℕ) (y z : Placement) → Stands a cell y → Stands a cell z → y ≡ z
stands_one a cell y z s t = inside (sym s ∙ t)

module _ (x : Compiled) (is : IsCompiled x) where
  -- how many cells there are
  abbrev cells : ℕ
  cells = cell_count x.puzzle.board

  -- a cell is no tile's item
  cell_of : (y : Pair) (item : ℕ) → item < cells → IsItemOf x is y item → y.cell ≡ item
  cell_of y item lt (inl e) = sym e
  cell_of y item lt (inr e) = absurd (omega (arith, lt, e))

  tile_of : (option : ℕ) (y : Pair) (tile : ℕ) → IsPairOf x option y → IsItemOf x is y (cells + tile) → y.placement.tile ≡ tile
  tile_of option y tile w (inl e) = let within = (option_pair x is option y w).cell in absurd (omega (arith, within, e))
  tile_of option y tile w (inr e) = omega (arith, e)

  -- ---- from a solution

  module _ (chosen : List ℕ) (solution : IsSolution (cover_of x) chosen) where
    -- the option at a cell
    pub chosen_at : (cell : ℕ) → cell < cells → (option : ℕ) × (y : Pair) × Contains chosen option × IsPairOf x option y × (y.cell ≡ cell)
    chosen_at cell lt =
        let one = solution.covered cell (cell_is_primary x.puzzle cell lt) in
        let of = primary_of x is one.0 cell one.2 in
        (one.0, of.0, one.1, of.1, cell_of of.0 cell lt of.2)

    -- no two options have one cell
    pub one_chosen_at : (option option' : ℕ) (y z : Pair) → Contains chosen option → Contains chosen option' → IsPairOf x option y → IsPairOf x option' z → y.cell ≡ z.cell → option ≡ option'
    one_chosen_at option option' y z c d w v e =
        solution.apart y.cell option option' c d (has_cell x is option y w) (subst (HasPrimary (cover_of x) option') (sym e) (has_cell x is option' z v))

    -- nor one tile
    one_chosen_of : (option option' : ℕ) (y z : Pair) → Contains chosen option → Contains chosen option' → IsPairOf x option y → IsPairOf x option' z → y.placement.tile ≡ z.placement.tile → option ≡ option'
    one_chosen_of option option' y z c d w v e =
        solution.apart (cells + y.placement.tile) option option' c d (has_tile x is option y w) (subst (λ tile. HasPrimary (cover_of x) option' (cells + tile)) (sym e) (has_tile x is option' z v))

    module _ (a : List Placement) (same : IsFilledBy x chosen a) where
      once : (cell cell' : ℕ) (y z : Placement) → Stands a cell y → Stands a cell' z → y.tile ≡ z.tile → cell ≡ cell'
      once cell cell' y z s t e =
          let o = same.put cell y s in
          let o' = same.put cell' z t in
          let both = one_chosen_of o.0 o'.0 (pair cell y) (pair cell' z) o.1 o'.1 o.2 o'.2 e in
          ap (λ (q : Pair). q.cell) (one_pair x is o.0 (pair cell y) (pair cell' z) o.2 (subst (λ n. IsPairOf x n (pair cell' z)) (sym both) o'.2))

      match_at : (cell side cell' side' : ℕ) (y z : Placement) → Meets x.puzzle.board cell side cell' side' → Stands a cell y → Stands a cell' z → GoTogether x.puzzle (colour_of x.puzzle y side) (colour_of x.puzzle z side')
      match_at cell side cell' side' y z meets s t =
          let o = same.put cell y s in
          let o' = same.put cell' z t in
          let e = shared_by x is cell side cell' side' meets in
          let item = item_count x.puzzle + e.0 in
          let shared = is.shared.only e.1 (contains_at x.shared e.0 e.1 e.2) in
          let shown = colour_of x.puzzle y side in
          let shown' = colour_of x.puzzle z side' in
          let given = colour_given x.puzzle e.1 cell shown in
          let given' = colour_given x.puzzle e.1 cell' shown' in
          (given_alike x.puzzle e.1 is.puzzle shared.0 cell side cell' side' shown shown' (other_cell meets) e.3 e.4).0
          (solution.coloured item o.0 o'.0 given given' o.1 o'.1
          (has_colour x is o.0 item given (pair cell y) o.2 (record { number = e.0; edge = e.1; side = side; numbered = e.2; side_of = e.3; item = refl; colour = refl }))
          (has_colour x is o'.0 item given' (pair cell' z) o'.2 (record { number = e.0; edge = e.1; side = side'; numbered = e.2; side_of = e.4; item = refl; colour = refl })))

      -- what stands with a solution is an arrangement
      pub solution_stands : IsArrangement x.puzzle a
      solution_stands = record {
        cells = same.cells;
        legal = λ cell y s. let o = same.put cell y s in (option_pair x is o.0 (pair cell y) o.2).legal;
        once = once;
        border = λ cell side colour y s rule. let o = same.put cell y s in (option_pair x is o.0 (pair cell y) o.2).border side colour rule;
        edges = λ cell side cell' side' y z meets s t. match_at cell side cell' side' y z meets s t;
      }

  -- ---- from an arrangement

  module _ (a : List Placement) (whole : IsArrangement x.puzzle a) (chosen : List ℕ) (same : IsFilledBy x chosen a) where
    chosen_pair : (option : ℕ) (y : Pair) → Contains chosen option → IsPairOf x option y → Stands a y.cell y.placement
    chosen_pair option y c w = same.stands option y c w

    -- the option that stands at the cell is the one that is there
    same_option : (option option' : ℕ) (y z : Pair) → IsPairOf x option y → IsPairOf x option' z → Stands a y.cell y.placement → Stands a z.cell z.placement → y.cell ≡ z.cell → option ≡ option'
    same_option option option' y z w v s t e =
        let there : Stands a y.cell z.placement = subst (λ cell. Stands a cell z.placement) (sym e) t in
        let placement : y.placement ≡ z.placement = stands_one a y.cell y.placement z.placement s there in
        let both : y ≡ z = ap (λ cell. pair cell y.placement) e ∙ ap (pair z.cell) placement in
        one_option x is option option' z (subst (IsPairOf x option) both w) v

    cell_in_one : (item : ℕ) → item < cells → IsInExactlyOne (cover_of x) chosen item
    cell_in_one item lt =
        let long = whole.cells in
        let here = read_in a item (omega (arith, lt, long)) in
        let o = same.put item here.0 here.1 in (
          o.0,
          o.1,
          has_cell x is o.0 (pair item here.0) o.2,
          λ other d has.
              let of = primary_of x is other item has in
              same_option other o.0 of.0 (pair item here.0) of.1 o.2 (chosen_pair other of.0 d of.1) here.1 (cell_of of.0 item lt of.2),
        )

    tile_in_one : AllHaveToStand x.puzzle → (tile : ℕ) → tile < length x.puzzle.words → IsInExactlyOne (cover_of x) chosen (cells + tile)
    tile_in_one all tile lt =
        let here = all_placed x.puzzle a all whole tile lt in
        let o = same.put here.0 here.1 here.2 in (
          o.0,
          o.1,
          subst (λ n. HasPrimary (cover_of x) o.0 (cells + n)) here.3 (has_tile x is o.0 (pair here.0 here.1) o.2),
          λ other d has.
              let of = primary_of x is other (cells + tile) has in
              let stands = chosen_pair other of.0 d of.1 in
              let tiles = tile_of other of.0 tile of.1 of.2 in
              same_option other o.0 of.0 (pair here.0 here.1) of.1 o.2 stands here.2 (whole.once of.0.cell here.0 of.0.placement here.1 stands here.2 (tiles ∙ sym here.3)),
        )

    in_one : (item : ℕ) → item < primary_count x.puzzle → IsInExactlyOne (cover_of x) chosen item
    in_one item lt =
        ⊎_elim
        (λ cell. cell_in_one item cell)
        (λ le.
        ⊎_elim
        (λ w.
        let many = w.1 in
        let tile = item - cells in
        let at : cells + tile ≡ item = omega (arith, le) in
        subst (IsInExactlyOne (cover_of x) chosen) at (tile_in_one w.0 tile (omega (arith, le, lt, many))))
        (λ w. let many = w.1 in absurd (omega (arith, le, lt, many)))
        (primaries_are x.puzzle))
        (lt_or_le item cells)

    -- no item is taken twice
    one_takes : (item option option' : ℕ) → Contains chosen option → Contains chosen option' → HasPrimary (cover_of x) option item → HasPrimary (cover_of x) option' item → option ≡ option'
    one_takes item option option' c d has has' =
        let y = primary_of x is option item has in
        let z = primary_of x is option' item has' in
        let s = chosen_pair option y.0 c y.1 in
        let t = chosen_pair option' z.0 d z.1 in
        let within = (option_pair x is option y.0 y.1).cell in
        same_option option option' y.0 z.0 y.1 z.1 s t
        (⊎_elim
        (λ e. sym e ∙ sym (cell_of z.0 item (omega (arith, e, within)) z.2))
        (λ e. whole.once y.0.cell z.0.cell y.0.placement z.0.placement s t (sym (tile_of option' z.0 y.0.placement.tile z.1 (subst (IsItemOf x is z.0) e z.2))))
        y.2)

    -- two placements give one colour to one edge
    same_given : (e : SharedEdge) (y z : Pair) (side side' : ℕ) → IsSharedEdge x.puzzle.board e → IsSideOf e y.cell side → IsSideOf e z.cell side' → Stands a y.cell y.placement → Stands a z.cell z.placement →
        colour_given x.puzzle e y.cell (colour_of x.puzzle y.placement side) ≡ colour_given x.puzzle e z.cell (colour_of x.puzzle z.placement side')
    same_given e y z side side' shared u v s t =
        let meets = shared.0 in
        ⊎_elim
        (λ here.
        let placement = stands_one a y.cell y.placement z.placement s (subst (λ cell. Stands a cell z.placement) (sym here.1) t) in
        let sides = one_side x.puzzle.board e y.cell side side' shared u (subst (λ cell. IsSideOf e cell side') (sym here.1) v) in
        ap (λ k. colour_given x.puzzle e y.cell (colour_of x.puzzle y.placement k)) sides
        ∙ ap (λ q. colour_given x.puzzle e y.cell (colour_of x.puzzle q side')) placement
        ∙ ap (λ c. colour_given x.puzzle e c (colour_of x.puzzle z.placement side')) here.1)
        (λ apart.
        (given_alike x.puzzle e is.puzzle meets y.cell side z.cell side' (colour_of x.puzzle y.placement side) (colour_of x.puzzle z.placement side') apart.1 u v).1
        (whole.edges y.cell side z.cell side' y.placement z.placement (met x.puzzle.board e y.cell side z.cell side' meets apart.1 u v) s t))
        (eqb_tells y.cell z.cell)

    one_colour : (item option option' colour colour' : ℕ) → Contains chosen option → Contains chosen option' → HasColour (cover_of x) option item colour → HasColour (cover_of x) option' item colour' → colour ≡ colour'
    one_colour item option option' colour colour' c d has has' =
        let u = colour_at x is option item colour has in
        let v = colour_at x is option' item colour' has' in
        let y = u.0 in
        let z = v.0 in
        let shown = u.2 in
        let shown' = v.2 in
        let numbers : shown'.number ≡ shown.number = let p = shown.item in let q = shown'.item in omega (arith, p, q) in
        let edges : shown'.edge ≡ shown.edge = inside (sym shown'.numbered ∙ ap (slice_get x.shared) numbers ∙ shown.numbered) in
        let shared = is.shared.only shown.edge (contains_at x.shared shown.number shown.edge shown.numbered) in
        shown.colour
        ∙ same_given shown.edge y z shown.side shown'.side shared shown.side_of (subst (λ e. IsSideOf e z.cell shown'.side) edges shown'.side_of) (same.stands option y c u.1) (same.stands option' z d v.1)
        ∙ sym (shown'.colour ∙ ap (λ h. colour_given x.puzzle h z.cell (colour_of x.puzzle z.placement shown'.side)) edges)

    -- what stands as an arrangement is a solution, where no option is repeated
    pub whole_solves : ((option : ℕ) → Contains chosen option → option < length x.options) → ((place place' option : ℕ) → slice_get chosen place ≡ Some option → slice_get chosen place' ≡ Some option → place ≡ place') → IsSolution (cover_of x) chosen
    whole_solves real different = record {
      real = λ option c. let lt = real option c in let many = many_options x is in omega (arith, lt, many);
      different = different;
      covered = in_one;
      apart = one_takes;
      coloured = one_colour;
    }
