-- Fills.
use Rattle.std.proofs.Common.{◌≡◌, ◌⊎◌, ◌<◌, ◌+◌, ◌*◌, ◌==◌, ℕ, zero, suc, Bool, true, false, List, [], ◌∷◌, if◌then◌else◌, codes, min, slice_index_or, arith, refl, ap, sym, ◌∙◌, subst, ⊎_elim, eqb-true}
use Rattle.std.proofs.Math.Nat.{min_comm}
use Rattle.match_limits.specs.declared.TheConstants.{MOST_COLOURS}
use Rattle.match_puzzle.specs.Puzzle.{Task, mate_of}
use Rattle.show_pictures.specs.Palette.{PaletteLaw, fill_of}
use Rattle.show_pictures.specs.declared.palette.TheConstants.{FILLS}

-- a fill as one number
abbrev key : List ℕ → ℕ
key [] = 0
key (digit ∷ digits) = digit + 256 * key digits

-- at which place the first fill with this number stands
abbrev place_in : ℕ → List (List ℕ) → ℕ
place_in n [] = 0
place_in n (fill ∷ fills) = if n == key fill then 0 else suc (place_in n fills)

-- the colour of a fill, read from it alone
abbrev colour_in : List ℕ → ℕ
colour_in fill = place_in (key fill) FILLS

-- whether the first so many colours can be read
abbrev can_read : ℕ → Bool
can_read zero = true
can_read (suc n) = if colour_in (slice_index_or FILLS n []) == n then can_read n else false

both_true : (a b : Bool) → (if a then b else false) ≡ true → (a ≡ true) × (b ≡ true)
both_true true b e = (refl, e)
both_true false b e = absurd cc

is_read : (count colour : ℕ) → can_read count ≡ true → colour < count → colour_in (slice_index_or FILLS colour []) ≡ colour
is_read zero colour e lt = absurd (omega (arith, lt))
is_read (suc n) colour e lt =
    let both = both_true (colour_in (slice_index_or FILLS n []) == n) (can_read n) e in
    let last = eqb-true (colour_in (slice_index_or FILLS n [])) n both.0 in
    ⊎_elim (λ l. is_read n colour both.1 l) (λ same. subst (λ c. colour_in (slice_index_or FILLS c []) ≡ c) (sym same) last) (let w : (colour < n) ⊎ (colour ≡ n) = grind (arith, lt) in w)

read : (colour : ℕ) → colour < MOST_COLOURS → colour_in (slice_index_or FILLS colour []) ≡ colour
read colour lt = is_read 36 colour refl lt

pub fills_differ : (colour other : ℕ) → colour < MOST_COLOURS → other < MOST_COLOURS → slice_index_or FILLS colour [] ≡ slice_index_or FILLS other [] → colour ≡ other
fills_differ colour other few few' same = sym (read colour few) ∙ ap colour_in same ∙ read other few'

pub palette_law : PaletteLaw
palette_law = record {
  many = refl;
  differ = fills_differ;
  stand_out = λ colour few same.
      let past : colour_in (codes "fff") ≡ 36 = refl in
      let e = sym (read colour few) ∙ ap colour_in same ∙ past in omega (arith, e, few);
}

-- mates have one fill
pub one_fill : (p : Task) (colour other : ℕ) → colour ≡ mate_of p other → other ≡ mate_of p colour → fill_of p colour ≡ fill_of p other
one_fill p colour other e e' =
    ap (λ n. slice_index_or FILLS n []) (ap (min colour) (sym e') ∙ min_comm colour other ∙ ap (min other) e)
