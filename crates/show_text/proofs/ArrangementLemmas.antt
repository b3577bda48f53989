-- Arrangements are laid out cell by cell.
use Rattle.std.proofs.Common.{◌≡◌, ◌<◌, ◌≤◌, ◌+◌, ℕ, List, Option, Some, None, length, replicate, slice_get, length-set, arith, sym, subst, ap, ◌∙◌, ⊎_elim}
use Rattle.std.proofs.lemmas.Bool.Decides.{eqb_tells}
use Rattle.std.proofs.lemmas.List.{length-replicate}
use Rattle.std.specs.Prelude.{slice_index_or}
use Rattle.std.proofs.lemmas.Option.{slice_get-get_or, slice_get_within}
use Rattle.match_puzzle.specs.Arrangement.{Stands, StandOnce}
use Rattle.match_puzzle.specs.Prefix.{Prefix, Has, IsFree, IsUnused, with_pair}
use Rattle.match_puzzle.specs.declared.placements.Placement.{Placement}
use Rattle.match_puzzle.proofs.Prefixes.{free_or_has, has_new, has_placed, has_still, inside, slice_get-replicate}
use Rattle.show_text.specs.Arrangement.{HasJust}

-- The cells before this one have what the arrangement has there, and no other cell has anything.
pub record AreLaid (a : List Placement) (n : ℕ) (q : Prefix) : Type 0 where
  pub only : (cell : ℕ) (x : Placement) → Has q cell x → (cell < n) × Stands a cell x
  pub all : (cell : ℕ) (x : Placement) → cell < n → Stands a cell x → Has q cell x
  pub long : length q ≡ length a

none_some : {X : Type 0} {x : X} → Some x ≡ None → ⊥
none_some e = absurd cc

pub none_laid : (a : List Placement) (count : ℕ) → length a ≡ count → AreLaid a 0 (replicate count None)
none_laid a count cells = record {
  only = λ cell x has. absurd (none_some (slice_get-replicate count cell None (Some x) has));
  all = λ cell x lt stands. absurd (omega (arith, lt));
  long = length-replicate count None ∙ sym cells;
}

module _ (a : List Placement) (n : ℕ) (q : Prefix) (laid : AreLaid a n q) (lt : n < length a) where
  pub free_at : IsFree q n
  free_at = ⊎_elim (λ free. free) (λ has. let lt = (laid.only n has.0 has.1).0 in absurd (omega (arith, lt))) (free_or_has q n (let long = laid.long in omega (arith, lt, long)))

  module _ (x : Placement) (here : Stands a n x) where
    pub unused_at : StandOnce a → IsUnused q x.tile
    unused_at once = λ cell y has same.
        let before = laid.only cell y has in
        let is = once cell n y x before.1 here same in
        let lt = before.0 in
        omega (arith, is, lt)

    pub one_more : AreLaid a (n + 1) (with_pair q n x)
    one_more = record {
      only = λ cell y has. ⊎_elim
          (λ same. let is = same.0 in (omega (arith, is), subst (λ k. Stands a k y) (sym is) (subst (Stands a n) (sym same.1) here)))
          (λ other. let before = laid.only cell y other.1 in let lt = before.0 in (omega (arith, lt), before.1))
          (has_placed q n x cell y free_at has);
      all = λ cell y lt stands. ⊎_elim
          (λ is. subst (λ k. Has (with_pair q n x) k y) (sym is.1) (subst (Has (with_pair q n x) n) (inside (sym here ∙ subst (λ k. Stands a k y) is.1 stands)) (has_new q n x free_at)))
          (λ other. let ne = other.1 in has_still q n x cell y free_at (laid.all cell y (omega (arith, lt, ne)) stands))
          (eqb_tells cell n);
      long = length-set q n (Some x) ∙ laid.long;
    }

-- what is read at the place of a number stands there
pub read_stands : (a : List Placement) (n place : ℕ) (d : Placement) → place ≡ n → n < length a → Stands a n (slice_index_or a place d)
read_stands a n place d is lt = subst (λ k. Stands a k (slice_index_or a place d)) is (slice_get-get_or a place d (omega (arith, is, lt)))

pub all_laid : (a : List Placement) (n : ℕ) (q : Prefix) → AreLaid a n q → length a ≤ n → HasJust a q
all_laid a n q laid long = λ cell x. (λ has. (laid.only cell x has).1, λ stands. let lt = slice_get_within a cell x stands in laid.all cell x (omega (arith, lt, long)) stands)
