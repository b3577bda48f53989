-- Options that go with each other, and pairs that fit in turn.
use Rattle.std.proofs.Common.{◌≡◌, ◌≢◌, ◌<◌, ◌≤◌, ◌+◌, ◌++◌, ◌∷◌, [], ℕ, zero, suc, List, Option, Some, None, length, length-append, slice_get, take, arith, refl, ap, inl, inr, sym, ◌∙◌, subst, ⊎_elim, add-one}
use Rattle.std.proofs.lemmas.Bool.Decides.{eqb_tells}
use Rattle.std.proofs.lemmas.Option.{slice_get_within}
use Rattle.std.proofs.lemmas.List.{length-replicate, length-take}
use Rattle.match_limits.proofs.OptionLemmas.{none_some}
use Rattle.match_board.specs.Board.{Meets}
use Rattle.match_board.proofs.Places.{Meets-turned}
use Rattle.match_puzzle.specs.Puzzle.{Task, colour_of, GoTogether}
use Rattle.match_puzzle.proofs.TogetherLemmas.{together_turned}
use Rattle.match_puzzle.specs.Prefix.{Prefix, Has, IsFree, empty_prefix, with_pair}
use Rattle.match_puzzle.specs.declared.placements.Placement.{Placement}
use Rattle.match_puzzle.specs.declared.placements.Pair.{Pair}
use Rattle.match_puzzle.proofs.Prefixes.{inside, has_new, has_still}
use Rattle.fit_counts.proofs.PlacedPairLemmas.{pushed_at}
use Rattle.match_puzzle.proofs.PairLemmas.{has_of_pairs, free_of_pairs, free_in_empty, length-with_pairs, taken_at, next_pair}
use Rattle.match_puzzle.proofs.UsedTiles.{has_none}
use Rattle.match_board.specs.Board.{cell_count}
use Rattle.xcc_form.specs.Options.{Compiled, IsCompiled, IsOptionPair, IsSideOf, IsShownEdge, colour_given, cover_of, item_count}
use Rattle.xcc_form.specs.Correspondence.{IsPairOf}
use Rattle.xcc_form.specs.declared.edges.Edge.{Edge}
use Rattle.xcc_form.specs.declared.edges.SharedEdge.{SharedEdge}
use Rattle.xcc_form.proofs.OptionLemmas.{contains_at, place_of, read_in, option_pair, one_pair, real_option, many_options, has_colour, colour_at, shared_by}
use Rattle.xcc_form.proofs.EdgeLemmas.{other_cell}
use Rattle.xcc_form.proofs.GivenLemmas.{given_alike, met}
use Rattle.xcc_form.proofs.ShownLemmas.{shared_at}
use Rattle.xcc_form.specs.Clashes.{Clash, IsPartialSolution, IsOpen}
use Rattle.xcc_form.specs.Chosen.{Selection, IsFoundFrom}
use Rattle.fit_counts.specs.Placing.{prefix_of, FitInTurn}
use Rattle.xcc_dance.specs.Placing.{ArePairsOf, IsArrangementWith}
use Rattle.xcc_dance.proofs.ItemLemmas.{share_cell, share_tile, shares}

module _ (x : Compiled) (is : IsCompiled x) where
  -- Sides of the two pairs that meet match.
  abbrev pub Match : (y z : Pair) → Type 0
  Match y z = (side side' : ℕ) → Meets x.puzzle.board y.cell side z.cell side' → GoTogether x.puzzle (colour_of x.puzzle y.placement side) (colour_of x.puzzle z.placement side')

  match_turned : (y z : Pair) → Match y z → Match z y
  match_turned y z h side side' meets = together_turned x.puzzle is.puzzle (colour_of x.puzzle y.placement side') (colour_of x.puzzle z.placement side) (h side' side (Meets-turned meets))

  module _ (o p : ℕ) (y z : Pair) (w : IsPairOf x o y) (v : IsPairOf x p z) where
    -- options that don't clash match
    pub match : (Clash (cover_of x) o p → ⊥) → Match y z
    match apart side side' meets =
        let e = shared_by x is y.cell side z.cell side' meets in
        let item = item_count x.puzzle + e.0 in
        let shared = shared_at x.puzzle.board x.shared e.0 e.1 is.shared e.2 in
        let shown = colour_of x.puzzle y.placement side in
        let shown' = colour_of x.puzzle z.placement side' in
        let colour = colour_given x.puzzle e.1 y.cell shown in
        let other = colour_given x.puzzle e.1 z.cell shown' in
        ⊎_elim
        (λ same. (given_alike x.puzzle e.1 is.puzzle shared.0 y.cell side z.cell side' shown shown' (other_cell meets) e.3 e.4).0 same.1)
        (λ ne.
        absurd (apart (inr (record {
          item = item;
          colour = colour;
          other_colour = other;
          one = has_colour x is o item colour y w (record { number = e.0; edge = e.1; side = side; numbered = e.2; side_of = e.3; item = refl; colour = refl });
          two = has_colour x is p item other z v (record { number = e.0; edge = e.1; side = side'; numbered = e.2; side_of = e.4; item = refl; colour = refl });
          differ = ne.1;
        }))))
        (eqb_tells colour other)

    -- pairs at two cells that match give one colour to the edge between them
    one_colour : (e : SharedEdge) (side side' : ℕ) → Meets x.puzzle.board e.cell e.side e.other_cell e.other_side → y.cell ≢ z.cell → Match y z → IsSideOf e y.cell side → IsSideOf e z.cell side' →
        colour_given x.puzzle e y.cell (colour_of x.puzzle y.placement side) ≡ colour_given x.puzzle e z.cell (colour_of x.puzzle z.placement side')
    one_colour e side side' meets cells match a b =
        (given_alike x.puzzle e is.puzzle meets y.cell side z.cell side' (colour_of x.puzzle y.placement side) (colour_of x.puzzle z.placement side') cells a b).1
        (match side side' (met x.puzzle.board e y.cell side z.cell side' meets cells a b))

    -- options of two cells and two tiles that match don't clash
    pub no_clash : y.cell ≢ z.cell → y.placement.tile ≢ z.placement.tile → Match y z → Clash (cover_of x) o p → ⊥
    no_clash cells tiles match (inl s) = ⊎_elim cells tiles (shares x is o p y z w v s)
    no_clash cells tiles match (inr t) =
        let a = colour_at x is o t.item t.colour t.one in
        let b = colour_at x is p t.item t.other_colour t.two in
        let edge : Edge = record { item = t.item; colour = t.colour } in
        let other : Edge = record { item = t.item; colour = t.other_colour } in
        let shown = subst (λ q. IsShownEdge x.puzzle x.shared q edge) (one_pair x is o a.0 y a.1 w) a.2 in
        let shown' = subst (λ q. IsShownEdge x.puzzle x.shared q other) (one_pair x is p b.0 z b.1 v) b.2 in
        let item = shown.item in
        let item' = shown'.item in
        let number : shown'.number ≡ shown.number = omega (arith, item, item') in
        let edges : shown'.edge ≡ shown.edge = inside (sym shown'.numbered ∙ ap (slice_get x.shared) number ∙ shown.numbered) in
        let shared = shared_at x.puzzle.board x.shared shown.number shown.edge is.shared shown.numbered in
        let same = one_colour shown.edge shown.side shown'.side shared.0 cells match shown.side_of (subst (λ e. IsSideOf e z.cell shown'.side) edges shown'.side_of) in
        t.differ (shown.colour ∙ same ∙ sym (shown'.colour ∙ ap (λ h. colour_given x.puzzle h z.cell (colour_of x.puzzle z.placement shown'.side)) edges))

  -- ---- pairs of chosen options

  module _ (chosen : List ℕ) (pairs : List Pair) (partial : IsPartialSolution (cover_of x) chosen) (of : ArePairsOf x chosen pairs) where
    -- the option at the place of a pair
    option_of : (place : ℕ) (y : Pair) → slice_get pairs place ≡ Some y → (option : ℕ) × (slice_get chosen place ≡ Some option) × IsPairOf x option y
    option_of place y at =
        let long = of.long in
        let o = read_in chosen place (let lt = slice_get_within pairs place y at in omega (arith, lt, long)) in
        (o.0, o.1, of.each place o.0 y o.1 at)

    pub fit_in_turn : FitInTurn x.puzzle pairs
    fit_in_turn place y at = record {
      free = free_of_pairs (take place pairs) (empty_prefix x.puzzle) y.cell (λ j z there same. let w = taken_at pairs place j z there in let v = option_of j z w.1 in partial.apart j place v.0 o.0 w.0 v.1 o.1 (share_cell x is v.0 o.0 z y v.2 o.2 same)) (free_in_empty x.puzzle y.cell good.cell);
      unused = λ cell z has same.
          ⊎_elim
          (λ u.
          let w = taken_at pairs place u.place u.pair u.there in
          let v = option_of u.place u.pair w.1 in
          partial.apart u.place place v.0 o.0 w.0 v.1 o.1 (share_tile x is v.0 o.0 u.pair y v.2 o.2 (ap (λ (q : Placement). q.tile) u.placement ∙ same)))
          (λ none. has_none (cell_count x.puzzle.board) cell z none)
          (has_of_pairs (take place pairs) (empty_prefix x.puzzle) cell z has);
      legal = good.legal;
      border = good.border;
      edges = λ side cell' side' z meets has.
          ⊎_elim
          (λ u.
          let w = taken_at pairs place u.place u.pair u.there in
          let v = option_of u.place u.pair w.1 in
          let there = subst (λ c. Meets x.puzzle.board y.cell side c side') (sym u.cell) meets in
          together_turned x.puzzle is.puzzle (colour_of x.puzzle z side') (colour_of x.puzzle y.placement side)
          (sym (ap (λ q. colour_of x.puzzle q side') u.placement) ∙ match v.0 o.0 u.pair y v.2 o.2 (partial.apart u.place place v.0 o.0 w.0 v.1 o.1) side' side (Meets-turned there)))
          (λ none. absurd (has_none (cell_count x.puzzle.board) cell' z none))
          (has_of_pairs (take place pairs) (empty_prefix x.puzzle) cell' z has);
    }
      where
        o : (option : ℕ) × (slice_get chosen place ≡ Some option) × IsPairOf x option y
        o = option_of place y at

        good : IsOptionPair x.puzzle y
        good = option_pair x is o.0 y o.2

  -- ---- pairs that fit in turn

  module _ (pairs : List Pair) (fit : FitInTurn x.puzzle pairs) where
    -- a pair stands once it is placed
    pub stands_after : (n j : ℕ) (z : Pair) → n ≤ length pairs → j < n → slice_get pairs j ≡ Some z → Has (prefix_of x.puzzle (take n pairs)) z.cell z.placement
    stands_after zero j z le lt at = absurd (omega (arith, lt))
    stands_after (suc n) j z le lt at =
        let y = read_in pairs n (omega (arith, le)) in
        let before = prefix_of x.puzzle (take n pairs) in
        let free = (fit n y.0 y.1).free in
        let after = ap (λ k. prefix_of x.puzzle (take k pairs)) (sym (add-one n)) ∙ next_pair pairs n y.0 (empty_prefix x.puzzle) y.1 in
        subst (λ q. Has q z.cell z.placement) (sym after)
        (⊎_elim
        (λ e. subst (λ (q : Pair). Has (with_it y.0) q.cell q.placement) (inside (sym y.1 ∙ ap (slice_get pairs) (sym e.1) ∙ at)) (has_new before y.0.cell y.0.placement free))
        (λ ne. has_still before y.0.cell y.0.placement z.cell z.placement free (stands_after n j z (omega (arith, le)) (omega (arith, lt, ne.1)) at))
        (eqb_tells j n))
      where
        with_it : Pair → Prefix
        with_it y = with_pair (prefix_of x.puzzle (take n pairs)) y.cell y.placement

    -- the option of the next pair is open
    pub next_is_open : (chosen : List ℕ) (place option : ℕ) (y : Pair) → ArePairsOf x chosen (take place pairs) → slice_get pairs place ≡ Some y → IsPairOf x option y → IsOpen (cover_of x) chosen option
    next_is_open chosen place option y of at w = record {
      real = let real = real_option x is option y w in let many = many_options x is in omega (arith, real, many);
      free = λ other c clash.
          let o = place_of chosen other c in
          let long = of.long in
          let z = read_in (take place pairs) o.0 (let lt = slice_get_within chosen o.0 other o.1 in omega (arith, lt, long)) in
          let there = taken_at pairs place o.0 z.0 z.1 in
          let v = of.each o.0 other z.0 o.1 z.1 in
          let within = slice_get_within pairs place y at in
          let has = stands_after place o.0 z.0 (omega (arith, within)) there.0 there.1 in
          let good = fit place y at in
          no_clash other option z.0 y v w
          (λ same. full (prefix_of x.puzzle (take place pairs)) y.cell z.0.placement (subst (λ c. Has (prefix_of x.puzzle (take place pairs)) c z.0.placement) same has) good.free)
          (λ same. good.unused z.0.cell z.0.placement has same)
          (match_turned y z.0 (λ side side' meets. good.edges side z.0.cell side' z.0.placement meets has))
          clash;
    }
      where
        full : (q : Prefix) (c : ℕ) (u : Placement) → Has q c u → IsFree q c → ⊥
        full q c u has free = cc

-- each of pairs that fit in turn is an option's
pub option_pair_at : (p : Task) (pairs : List Pair) → FitInTurn p pairs → (place : ℕ) (y : Pair) → slice_get pairs place ≡ Some y → IsOptionPair p y
option_pair_at p pairs fit place y at =
    let good = fit place y at in
    let before = take place pairs in
    let lt = slice_get_within (prefix_of p before) y.cell None good.free in
    let long = length-with_pairs before (empty_prefix p) ∙ length-replicate {A = Option Placement} (cell_count p.board) None in
    record { cell = omega (arith, lt, long); legal = good.legal; border = good.border }

-- no options and no pairs
pub no_pairs : (x : Compiled) → ArePairsOf x [] []
no_pairs x = record { long = refl; each = λ place o y at at'. absurd (none_some at') }

-- one option and its pair more, and one less
pub pairs_pushed : (x : Compiled) (chosen : List ℕ) (pairs : List Pair) (option : ℕ) (y : Pair) → IsPairOf x option y → ArePairsOf x chosen pairs → ArePairsOf x (chosen ++ option ∷ []) (pairs ++ y ∷ [])
pairs_pushed x chosen pairs option y w of = record {
  long = let long = of.long in omega (arith, long, length-append chosen (option ∷ []), length-append pairs (y ∷ []));
  each = λ place o z at at'.
      let long = of.long in
      ⊎_elim
      (λ old.
      let within = slice_get_within chosen place o old in
      ⊎_elim (λ old'. of.each place o z old old') (λ new'. absurd (omega (arith, within, long, new'.0))) (pushed_at pairs y place z at'))
      (λ new.
      ⊎_elim
      (λ old'. let within = slice_get_within pairs place z old' in absurd (omega (arith, within, long, new.0)))
      (λ new'. subst (λ q. IsPairOf x o q) (sym new'.1) (subst (λ n. IsPairOf x n y) (sym new.1) w))
      (pushed_at pairs y place z at'))
      (pushed_at chosen option place o at);
}

pub pairs_less : (x : Compiled) (n : ℕ) (chosen : List ℕ) (pairs : List Pair) → ArePairsOf x chosen pairs → ArePairsOf x (take n chosen) (take n pairs)
pairs_less x n chosen pairs of = record {
  long = let long = of.long in omega (arith, long, length-take n chosen, length-take n pairs);
  each = λ place o z at at'. of.each place o z (taken_at chosen n place o at).1 (taken_at pairs n place z at').1;
}

-- what is found from the options of a prefix extends it
pub found_extends : (s : Selection) (prefix : List Pair) (a : List Placement) → ArePairsOf s.compiled s.chosen prefix → IsFoundFrom s a → IsArrangementWith s.compiled.puzzle prefix a
found_extends s prefix a of found = record {
  arrangement = found.is_solution.arrangement;
  extends = λ y c.
      let at = place_of prefix y c in
      let long = of.long in
      let o = read_in s.chosen at.0 (let lt = slice_get_within prefix at.0 y at.1 in omega (arith, lt, long)) in
      found.is_solution.filled.stands o.0 y (found.has_chosen o.0 (contains_at s.chosen at.0 o.0 o.1)) (of.each at.0 o.0 y o.1 at.1);
}
