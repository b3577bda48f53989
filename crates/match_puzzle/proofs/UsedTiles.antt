-- Which tiles are placed.
use Rattle.std.proofs.Common.{◌≡◌, ◌≢◌, ◌⊎◌, ◌∷◌, [], ℕ, zero, suc, Option, Some, None, refl, ap, sym, ◌∙◌, replicate, inl, inr, ⊎_elim}
use Rattle.std.proofs.lemmas.Bool.Decides.{eqb_tells}
use Rattle.match_puzzle.specs.Prefix.{Prefix, Has, IsUsed, IsUnused}
use Rattle.match_puzzle.specs.declared.placements.Placement.{Placement}
use Rattle.match_puzzle.proofs.Prefixes.{inside, slice_get-replicate}

nothing_is_some : {X : Type 0} {x : X} → Some x ≡ None → ⊥
nothing_is_some e = cc

pub twice : {a b : Placement} → Some (Some a) ≡ Some (Some b) → a ≡ b
twice e = cc

-- Nothing stands in an empty prefix.
pub has_none : (n cell : ℕ) (x : Placement) → Has (replicate n None) cell x → ⊥
has_none n cell x has = nothing_is_some (slice_get-replicate n cell None (Some x) has)

-- ---- which tiles are placed

nowhere : {x : Option Placement} → None ≡ Some x → ⊥
nowhere e = cc

-- a tile stands somewhere or nowhere
pub used_or_unused : (q : Prefix) (tile : ℕ) → IsUsed q tile ⊎ IsUnused q tile
used_or_unused [] tile = inr (λ cell x has same. nowhere has)
used_or_unused (y ∷ q) tile = ⊎_elim (λ w. inl (suc w.0, w.1, w.2, w.3)) (λ none. at_first y none) (used_or_unused q tile)
  where
    at_first : (z : Option Placement) → IsUnused q tile → IsUsed (z ∷ q) tile ⊎ IsUnused (z ∷ q) tile
    at_first None none = inr elsewhere
      where
        elsewhere : IsUnused (None ∷ q) tile
        elsewhere zero x has same = nothing_is_some (sym (inside has))
        elsewhere (suc cell) x has same = none cell x has same
    at_first (Some z) none = ⊎_elim (λ e. inl (0, z, refl, e.1)) (λ ne. inr (elsewhere ne.1)) (eqb_tells z.tile tile)
      where
        elsewhere : z.tile ≢ tile → IsUnused (Some z ∷ q) tile
        elsewhere ne zero x has same = ne (ap (λ (y : Placement). y.tile) (twice has) ∙ same)
        elsewhere ne (suc cell) x has same = none cell x has same

pub not_both : (q : Prefix) (tile : ℕ) → IsUsed q tile → IsUnused q tile → ⊥
not_both q tile used unused = unused used.0 used.1 used.2 used.3
