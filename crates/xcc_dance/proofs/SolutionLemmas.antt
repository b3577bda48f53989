-- Chosen options that cover all items are a solution.
use Rattle.std.proofs.Common.{◌≡◌, ◌<◌, ℕ, List, Some, Contains, slice_get, arith, refl, ap, inl, inr, sym, ◌∙◌, subst, ⊎_elim}
use Rattle.std.proofs.lemmas.Bool.Decides.{eqb_tells}
use Rattle.match_puzzle.proofs.Prefixes.{inside}
use Rattle.xcc_form.specs.ExactCover.{ItemSet, HasColour, IsSolution}
use Rattle.xcc_form.specs.Options.{Compiled, cover_of}
use Rattle.xcc_form.specs.declared.edges.Edge.{Edge}
use Rattle.xcc_form.proofs.OptionLemmas.{contains_at, place_of, pair_at, many_options, has_cell}
use Rattle.xcc_form.proofs.CoverLemmas.{coloured_cover}
use Rattle.xcc_form.specs.Clashes.{Clash}
use Rattle.xcc_form.specs.Chosen.{IsSelection, AreAllCovered}

module _ (x : Compiled) (chosen : List ℕ) (is : IsSelection x chosen) where
  -- two chosen options that clash stand at one place
  one_place : (place place' option other : ℕ) → slice_get chosen place ≡ Some option → slice_get chosen place' ≡ Some other → Clash (cover_of x) option other → Clash (cover_of x) other option → place ≡ place'
  one_place place place' option other at at' clash back =
      let not_before : (place < place' → ⊥) = λ lt. is.partial.apart place place' option other lt at at' clash in
      let not_after : (place' < place → ⊥) = λ lt. is.partial.apart place' place other option lt at' at back in
      omega (arith, not_before, not_after)

  pub one_option : (option other : ℕ) → Contains chosen option → Contains chosen other → Clash (cover_of x) option other → Clash (cover_of x) other option → option ≡ other
  one_option option other c d clash back =
      let a = place_of chosen option c in
      let b = place_of chosen other d in
      let same = one_place a.0 b.0 option other a.1 b.1 clash back in
      inside (sym a.1 ∙ ap (slice_get chosen) same ∙ b.1)

  clash_with_itself : (option : ℕ) → Contains chosen option → Clash (cover_of x) option option
  clash_with_itself option c =
      let real = is.partial.real option c in
      let many = many_options x is.compiled in
      let pair = pair_at x is.compiled option (omega (arith, real, many)) in
      let at = has_cell x is.compiled option pair.0 pair.1 in
      inl (record { item = pair.0.cell; one = at; two = at })

  -- an option gives an item one colour
  colour_once : (option item colour colour' : ℕ) → HasColour (cover_of x) option item colour → HasColour (cover_of x) option item colour' → colour ≡ colour'
  colour_once option item colour colour' w v =
      let e : Edge = record { item = item; colour = colour } in
      let f : Edge = record { item = item; colour = colour' } in
      let same : v.0 ≡ w.0 = inside (sym v.1 ∙ w.1) in
      let here = place_of w.0.coloured e w.2 in
      let there = place_of w.0.coloured f (subst (λ (s : ItemSet). Contains s.coloured f) same v.2) in
      let one = (coloured_cover x is.compiled).cover.once_coloured option here.0 there.0 w.0 e f w.1 here.1 there.1 refl in
      ap (λ (g : Edge). g.colour) (inside (sym here.1 ∙ ap (slice_get w.0.coloured) one ∙ there.1))

  one_colour : (item option option' colour colour' : ℕ) → Contains chosen option → Contains chosen option' → HasColour (cover_of x) option item colour → HasColour (cover_of x) option' item colour' → colour ≡ colour'
  one_colour item option option' colour colour' c d w v =
      ⊎_elim
      (λ e. e.1)
      (λ ne.
      let clash : Clash (cover_of x) option option' = inr (record { item = item; colour = colour; other_colour = colour'; one = w; two = v; differ = ne.1 }) in
      let back : Clash (cover_of x) option' option = inr (record { item = item; colour = colour'; other_colour = colour; one = v; two = w; differ = λ e. ne.1 (sym e) }) in
      let same = one_option option option' c d clash back in
      colour_once option item colour colour' w (subst (λ o. HasColour (cover_of x) o item colour') (sym same) v))
      (eqb_tells colour colour')

  pub different : (place place' option : ℕ) → slice_get chosen place ≡ Some option → slice_get chosen place' ≡ Some option → place ≡ place'
  different place place' option at at' =
      let clash = clash_with_itself option (contains_at chosen place option at) in
      one_place place place' option option at at' clash clash

  pub is_solution : AreAllCovered (cover_of x) chosen → IsSolution (cover_of x) chosen
  is_solution all = record {
    real = is.partial.real;
    different = different;
    covered = λ item lt.
        let w = all item lt in (
          w.0,
          w.1,
          w.2,
          λ other d has. one_option other w.0 d w.1 (inl (record { item = item; one = has; two = w.2 })) (inl (record { item = item; one = w.2; two = has })),
        );
    apart = λ item option option' c d has has'. one_option option option' c d (inl (record { item = item; one = has; two = has' })) (inl (record { item = item; one = has'; two = has }));
    coloured = one_colour;
  }
