-- Turns of a word.
use Rattle.std.proofs.Common.{◌≡◌, ◌<◌, ◌≤◌, ◌+◌, ◌-◌, ◌%◌, ℕ, take, get_or, List, length, arith, ap, subst, sym, ◌∙◌, slice_index}
use Rattle.std.proofs.Math.Nat.{add-mod_left, add-mod_right, add-mod-mod, mod-eq_of_lt}
use Rattle.std.proofs.lemmas.List.{get_or-take}
use Rattle.match_board.specs.Turns.{shown, IsSameAfter, IsLessAfter}

-- a whole turn gives the same word
pub whole_turn : (word : List ℕ) → IsSameAfter word (length word)
unfolding IsSameAfter shown
whole_turn word = λ side lt.
    let plain : side + 0 ≡ side = omega arith in
    ap (λ k. slice_index word k) (add-mod_right side (length word) ∙ ap (λ k. k % length word) (sym plain))

-- what is shown before any turn
pub shown-none : (word : List ℕ) (side : ℕ) → side < length word → shown word 0 side ≡ slice_index word side
unfolding shown
shown-none word side lt =
    let here : (side + 0) % length word ≡ side = ap (λ k. k % length word) (let e : side + 0 ≡ side = omega arith in e) ∙ mod-eq_of_lt lt in
    ap (λ k. slice_index word k) here

-- a side after some turns, of which fewer than a round remain: as it is, or one round less
module _ (sides side turn rest : ℕ) (same : rest % sides ≡ turn % sides) where
  after_rest : (side + turn) % sides ≡ (side + rest) % sides
  after_rest = sym (add-mod-mod side turn sides) ∙ ap (λ n. (side + n) % sides) (sym same) ∙ add-mod-mod side rest sides

  pub after_below : side + rest < sides → (side + turn) % sides ≡ side + rest
  after_below lt = after_rest ∙ mod-eq_of_lt lt

  pub after_round : sides ≤ side + rest → side < sides → rest < sides → (side + turn) % sides ≡ side + rest - sides
  after_round le side_in rest_in =
      after_rest ∙ ap (λ n. n % sides) (let round : side + rest ≡ sides + (side + rest - sides) = omega arith in round) ∙ add-mod_left sides (side + rest - sides) ∙ mod-eq_of_lt (let lt : side + rest - sides < sides = omega arith in lt)

-- the colour at a place of the first colours
pub shown_at : (colours : List ℕ) (sides turn side place : ℕ) → length (take sides colours) ≡ sides → place < sides → (side + turn) % sides ≡ place → get_or colours place 0 ≡ shown (take sides colours) turn side
unfolding shown
shown_at colours sides turn side place long lt e =
    sym (get_or-take sides colours place 0 lt) ∙ ap (λ k. get_or (take sides colours) k 0) (sym e ∙ ap (λ n. (side + turn) % n) (sym long))

-- a word that is less after some turns has the lesser colour at the side where it first differs
pub less_at : (word : List ℕ) (turns side : ℕ) → ((before : ℕ) → before < side → shown word turns before ≡ shown word 0 before) → (shown word turns side ≡ shown word 0 side → ⊥) → IsLessAfter word turns → shown word turns side < shown word 0 side
less_at word turns side same differs less =
    let not_before : (less.side < side → ⊥) = λ lt. omega (arith, same less.side lt, less.less) in
    let not_behind : (side < less.side → ⊥) = λ lt. differs (less.same side lt) in
    let here : less.side ≡ side = omega (arith, not_before, not_behind) in
    subst (λ k. shown word turns k < shown word 0 k) here less.less
