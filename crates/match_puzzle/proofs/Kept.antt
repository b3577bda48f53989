-- What holds of each partial arrangement stays so.
use Rattle.std.proofs.Common.{◌≡◌, ◌≢◌, ◌⊎◌, ◌<◌, ◌+◌, ◌*◌, ◌/◌, ◌%◌, ℕ, eqb, List, Some, None, MatchBool, Contains, length, length-set, replicate, set, arith, ap, sym, ◌∙◌, subst, inl, inr, ⊎_elim}
use Rattle.std.specs.Int.{bit_at}
use Rattle.std.proofs.lemmas.Nat.Bits.{bit_at-zero, bit_at-lt as bit_at_lt, same_from_bits_below}
use Rattle.std.proofs.lemmas.List.{length-replicate}
use Rattle.std.proofs.lemmas.Bool.Decides.{eqb_tells}
use Rattle.match_board.specs.Board.{cell_count}
use Rattle.match_limits.specs.Listing.{IsListing}
use Rattle.match_puzzle.specs.Puzzle.{Task, IsPuzzle, IsLegal}
use Rattle.match_puzzle.specs.Prefix.{Prefix, Has, IsFree, IsUsed, IsUnused, with_pair}
use Rattle.match_limits.specs.NumberSets.{IsGroup}
use Rattle.match_puzzle.specs.PlacementSets.{AreLegalNumbers, AreFreeNumbers, AreUnturnedLegal, numbered}
use Rattle.match_puzzle.specs.Partials.{IsKept, AreAsking}
use Rattle.match_puzzle.specs.declared.placements.Placement.{Placement}
use Rattle.match_puzzle.proofs.FittingLemmas.{numbered_at}
use Rattle.match_puzzle.proofs.Prefixes.{has_placed, has_new, has_still, has_lifted, has_kept}
use Rattle.match_puzzle.proofs.UsedTiles.{twice, has_none, used_or_unused, not_both}

-- A tile is placed where none of its placements is free.
module _ (p : Task) (q : Prefix) (numbers : List ℕ) (tile digits : ℕ) (free : AreFreeNumbers p q numbers) (unturned : AreUnturnedLegal p) (tile_in : tile < length p.words) (few : digits < 16) (group : IsGroup numbers tile digits) where
  digit_of_free : (k : ℕ) → k < 4 → IsUsed q tile → bit_at digits k ≡ 0
  digit_of_free k lt used =
      ⊎_elim
      (λ one. absurd (let e : (4 * tile + k) / 4 ≡ tile = omega (arith, lt) in not_both q tile used (subst (IsUnused q) e (free.only (4 * tile + k) ((group k lt).0 one.1)).1)))
      (λ ne. let small = bit_at_lt digits k in let not_one = ne.1 in omega (arith, small, not_one))
      (eqb_tells (bit_at digits k) 1)

  first_of_unused : IsUnused q tile → bit_at digits 0 ≡ 1
  first_of_unused unused =
      (group 0 (omega arith)).1
      (free.all (4 * tile + 0)
      (subst (IsLegal p) (sym (numbered_at tile 0 (omega arith))) (unturned tile tile_in), subst (IsUnused q) (let e : tile ≡ (4 * tile + 0) / 4 = omega arith in e) unused))

  pub used_by_group : MatchBool (eqb digits 0) (IsUsed q tile) (IsUnused q tile)
  used_by_group =
      ⊎_elim
      (λ e. subst (λ b. MatchBool b (IsUsed q tile) (IsUnused q tile)) (sym e.0)
      (⊎_elim (λ used. used) (λ unused. absurd (let none = e.1 in omega (arith, sym (first_of_unused unused) ∙ ap (λ d. bit_at d 0) none, bit_at-zero 0))) (used_or_unused q tile)))
      (λ ne. subst (λ b. MatchBool b (IsUsed q tile) (IsUnused q tile)) (sym ne.0)
      (⊎_elim (λ used. absurd (ne.1 (same_from_bits_below 4 digits 0 few (omega arith) (λ k lt. digit_of_free k lt used ∙ sym (bit_at-zero k))))) (λ unused. unused) (used_or_unused q tile)))
      (eqb_tells digits 0)

-- ---- nothing is placed

pub kept_new : (p : Task) (numbers asks : List ℕ) → IsPuzzle p → AreLegalNumbers p numbers → AreUnturnedLegal p → AreAsking p (replicate (cell_count p.board) None) asks → IsKept p (replicate (cell_count p.board) None) numbers asks
kept_new p numbers asks is legal unturned asking = record {
  puzzle = is;
  prefix = record {
    cells = length-replicate (cell_count p.board) None;
    legal = λ cell x has. absurd (has_none _ cell x has);
    once = λ cell cell' x y has has' e. absurd (has_none _ cell x has);
  };
  free = record {
    only = λ n c. (legal.only n c, λ cell x has same. absurd (has_none _ cell x has));
    all = λ n h. legal.all n h.0;
    rising = legal.rising;
  };
  unturned = unturned;
  asking = asking;
}

module _ (p : Task) (q : Prefix) (numbers asks : List ℕ) (kept : IsKept p q numbers asks) (cell : ℕ) (x : Placement) where
  -- ---- one is placed

  unused_placed : (free : IsFree q cell) (tile : ℕ) → IsUnused q tile → tile ≢ x.tile → IsUnused (with_pair q cell x) tile
  unused_placed free tile unused ne cell' y has same = ⊎_elim (λ w. ne (sym same ∙ ap (λ (z : Placement). z.tile) w.1)) (λ w. unused cell' y w.1 same) (has_placed q cell x cell' y free has)

  pub kept_placed : (after : List ℕ) → IsListing ◌<◌ (λ n. Contains numbers n × (n / 4 ≢ x.tile)) after → IsLegal p x → IsFree q cell → IsUnused q x.tile → (asks' : List ℕ) → AreAsking p (with_pair q cell x) asks' → IsKept p (with_pair q cell x) after asks'
  kept_placed after others legal free unused asks' asking = record {
    puzzle = kept.puzzle;
    prefix = record {
      cells = length-set q cell (Some x) ∙ kept.prefix.cells;
      legal = λ cell' y has. ⊎_elim (λ w. subst (λ z. IsLegal p z) (sym w.1) legal) (λ w. kept.prefix.legal cell' y w.1) (has_placed q cell x cell' y free has);
      once = λ a b y z has_a has_b e.
          ⊎_elim
          (λ v. ⊎_elim (λ w. v.0 ∙ sym w.0) (λ w. absurd (unused b z w.1 (sym e ∙ ap (λ (u : Placement). u.tile) v.1))) (has_placed q cell x b z free has_b))
          (λ v. ⊎_elim (λ w. absurd (unused a y v.1 (e ∙ ap (λ (u : Placement). u.tile) w.1))) (λ w. kept.prefix.once a b y z v.1 w.1 e) (has_placed q cell x b z free has_b))
          (has_placed q cell x a y free has_a);
    };
    free = record {
      only = λ n c. let w = others.only n c in let old = kept.free.only n w.0 in (old.0, unused_placed free (n / 4) old.1 w.1);
      all = λ n h.
          let ne : n / 4 ≢ x.tile = λ e. h.1 cell x (has_new q cell x free) (sym e) in
          others.all n (kept.free.all n (h.0, λ cell' y has same. h.1 cell' y (has_still q cell x cell' y free has) same), ne);
      rising = others.rising;
    };
    unturned = kept.unturned;
    asking = asking;
  }

  -- ---- one is taken away

  one_standing : Has q cell x → (cell' : ℕ) (y : Placement) → cell' ≡ cell → Has q cell' y → y ≡ x
  one_standing here cell' y same has = twice (sym (subst (λ k. Has q k y) same has) ∙ here)

  unused_lifted : Has q cell x → (tile : ℕ) → tile ≡ x.tile → IsUnused (set q cell None) tile
  unused_lifted here tile e cell' y has same = let w = has_lifted q cell cell' x y here has in w.0 (kept.prefix.once cell' cell y x w.1 here (same ∙ e))

  pub kept_lifted : (turns : ℕ) (legal after : List ℕ) → AreLegalNumbers p legal → IsGroup legal x.tile turns → IsListing ◌<◌ (λ n. Contains numbers n ⊎ ((n / 4 ≡ x.tile) × (bit_at turns (n % 4) ≡ 1))) after → Has q cell x → (asks' : List ℕ) → AreAsking p (set q cell None) asks' → IsKept p (set q cell None) after asks'
  kept_lifted turns legal after are_legal group more here asks' asking = record {
    puzzle = kept.puzzle;
    prefix = record {
      cells = length-set q cell None ∙ kept.prefix.cells;
      legal = λ cell' y has. kept.prefix.legal cell' y (has_lifted q cell cell' x y here has).1;
      once = λ a b y z has_a has_b e. kept.prefix.once a b y z (has_lifted q cell a x y here has_a).1 (has_lifted q cell b x z here has_b).1 e;
    };
    free = record {
      only = λ n c.
          ⊎_elim
          (λ old. let w = kept.free.only n old in (w.0, λ cell' y has same. w.1 cell' y (has_lifted q cell cell' x y here has).1 same))
          (λ new.
          let e = new.0 in
          let at : 4 * x.tile + n % 4 ≡ n = omega (arith, e) in
          (subst (λ k. IsLegal p (numbered k)) at (are_legal.only (4 * x.tile + n % 4) ((group (n % 4) (omega arith)).0 new.1)), unused_lifted here (n / 4) e))
          (more.only n c);
      all = λ n h.
          ⊎_elim
          (λ e.
          let same = e.1 in
          let at : n ≡ 4 * x.tile + n % 4 = omega (arith, same) in
          more.all n (inr (same, (group (n % 4) (omega arith)).1 (subst (Contains legal) at (are_legal.all n h.0)))))
          (λ ne. more.all n (inl (kept.free.all n (h.0, unused_before (n / 4) ne.1 h.1))))
          (eqb_tells (n / 4) x.tile);
      rising = more.rising;
    };
    unturned = kept.unturned;
    asking = asking;
  }
    where
      unused_before : (tile : ℕ) → tile ≢ x.tile → IsUnused (set q cell None) tile → IsUnused q tile
      unused_before tile ne unused cell' y has same =
          ⊎_elim
          (λ e. ne (sym same ∙ ap (λ (z : Placement). z.tile) (one_standing here cell' y e.1 has)))
          (λ other. unused cell' y (has_kept q cell cell' y other.1 has) same)
          (eqb_tells cell' cell)
