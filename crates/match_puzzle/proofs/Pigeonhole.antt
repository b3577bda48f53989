-- Each tile stands somewhere, where there are as many tiles as cells and none stands twice.
use Rattle.std.proofs.Common.{◌≡◌, ◌⊎◌, ◌||◌, ◌<◌, ℕ, zero, suc, Bool, true, false, List, [], ◌∷◌, map, length, eqb, arith, refl, sym, subst, ⊎_elim, inl, inr, ◌∙◌}
use Rattle.std.specs.List.{IsDistinct, list_any, AllByRecursion}
use Rattle.std.proofs.lemmas.Map.Steps.{length-le_from_distinct_below}
use Rattle.std.proofs.lemmas.Map.Keys.{IsDistinct-cons}
use Rattle.std.proofs.lemmas.Bool.{eqb-true, false≢true}
use Rattle.std.proofs.lemmas.List.{length-map}
use Rattle.match_puzzle.proofs.Prefixes.{inside}
use Rattle.match_puzzle.specs.Arrangement.{Stands, AllTilesArePlaced}
use Rattle.match_puzzle.specs.declared.placements.Placement.{Placement}

-- a tile that stands somewhere, or nowhere
find : (a : List Placement) (tile : ℕ) → ((cell : ℕ) × (x : Placement) × Stands a cell x × (x.tile ≡ tile)) ⊎ AllByRecursion (λ t. eqb tile t ≡ false) (map (λ (x : Placement). x.tile) a)
find [] tile = inr tt
find (y ∷ a) tile = by_test (eqb tile y.tile) refl (find a tile)
  where
    by_test : (b : Bool) → eqb tile y.tile ≡ b → ((cell : ℕ) × (x : Placement) × Stands a cell x × (x.tile ≡ tile)) ⊎ AllByRecursion (λ t. eqb tile t ≡ false) (map (λ (x : Placement). x.tile) a) →
        ((cell : ℕ) × (x : Placement) × Stands (y ∷ a) cell x × (x.tile ≡ tile)) ⊎ AllByRecursion (λ t. eqb tile t ≡ false) (map (λ (x : Placement). x.tile) (y ∷ a))
    by_test true e rest = inl (0, y, refl, sym (eqb-true tile y.tile e))
    by_test false e (inl w) = inl (suc w.0, w.1, w.2, w.3)
    by_test false e (inr none) = inr (e, none)

-- no tile stands at two cells
abbrev pub Once : List Placement → Type 0
Once a = (cell cell' : ℕ) (x y : Placement) → Stands a cell x → Stands a cell' y → x.tile ≡ y.tile → cell ≡ cell'

once_rest : (y : Placement) (a : List Placement) → Once (y ∷ a) → Once a
once_rest y a once = λ c c' x z s s' e. let same = once (suc c) (suc c') x z s s' e in omega (arith, same)

distinct_tiles : (a : List Placement) → Once a → IsDistinct eqb (map (λ (x : Placement). x.tile) a)
unfolding IsDistinct
distinct_tiles [] once = tt
distinct_tiles (y ∷ a) once =
    IsDistinct-cons eqb y.tile (map (λ (x : Placement). x.tile) a)
    (⊎_elim (λ w. absurd (omega (arith, once zero (suc w.0) y w.1 refl w.2 (sym w.3)))) (λ none. none) (find a y.tile))
    (distinct_tiles a (once_rest y a once))

-- what is found in a list of numbers below a bound is below it
found_below : (n q : ℕ) (a : List Placement) → ((cell : ℕ) (x : Placement) → Stands a cell x → x.tile < n) → list_any (eqb q) (map (λ (x : Placement). x.tile) a) ≡ true → q < n
found_below n q [] all e = absurd (false≢true e)
found_below n q (y ∷ a) all e = by_test (eqb q y.tile) refl (λ h. found_below n q a (λ c x s. all (suc c) x s) h) e
  where
    by_test : (b : Bool) → eqb q y.tile ≡ b → (list_any (eqb q) (map (λ (x : Placement). x.tile) a) ≡ true → q < n) → (b || list_any (eqb q) (map (λ (x : Placement). x.tile) a)) ≡ true → q < n
    by_test true t rest h = subst (λ k. k < n) (sym (eqb-true q y.tile t)) (all zero y refl)
    by_test false t rest h = rest h

pub placed_somewhere : (a : List Placement) (n : ℕ) → length a ≡ n → ((cell : ℕ) (x : Placement) → Stands a cell x → x.tile < n) → Once a → (tile : ℕ) → tile < n → (cell : ℕ) × (x : Placement) × Stands a cell x × (x.tile ≡ tile)
placed_somewhere a n long below once tile lt = ⊎_elim (λ w. w) (λ none. absurd (too_many none)) (find a tile)
  where
    too_many : AllByRecursion (λ t. eqb tile t ≡ false) (map (λ (x : Placement). x.tile) a) → ⊥
    too_many none =
        let extra : Placement = record { tile = tile; turn = 0 } in
        let le = length-le_from_distinct_below (tile ∷ map (λ (x : Placement). x.tile) a) n (IsDistinct-cons eqb tile _ none (distinct_tiles a once))
        (λ q e. found_below n q (extra ∷ a) (λ c x s. by_place c x s) e) in
        omega (arith, le, length-map a (λ (x : Placement). x.tile))
      where
        by_place : (c : ℕ) (x : Placement) → Stands ((let y : Placement = record { tile = tile; turn = 0 } in y) ∷ a) c x → x.tile < n
        by_place zero x s = subst (λ (y : Placement). y.tile < n) (inside s) lt
        by_place (suc c) x s = below c x s

-- The law of arrangements: where there are as many tiles as cells, each tile stands.
pub all_placed : AllTilesArePlaced
all_placed p a many is = placed_somewhere a (length p.words) (is.cells ∙ sym many) (λ cell x s. (is.legal cell x s).tile) is.once
