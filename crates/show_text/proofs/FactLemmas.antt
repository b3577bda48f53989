-- Colours, counted.
use Rattle.std.proofs.Common.{◌≡◌, ◌<◌, ◌≤◌, ◌+◌, ◌-◌, ◌++◌, ℕ, suc, List, Bool, cond, drop, get_or, length, count_by, add-one, refl, ap, sym, ◌∙◌, arith, ⊎_elim}
use Rattle.std.specs.List.{flat_map, range_with_len}
use Rattle.std.proofs.Math.Seq.{drop-cons}
use Rattle.std.proofs.lemmas.List.Elements.{All-contains}
use Rattle.std.proofs.lemmas.List.Sums.{sum_by-cons}
use Rattle.match_limits.specs.declared.TheConstants.{MOST_COLOURS}
use Rattle.match_puzzle.specs.Puzzle.{Task, IsPuzzle, word_of}
use Rattle.match_puzzle.specs.Colours.{IsColourCount}

-- what is counted from a place on
pub count_from : (p : ℕ → Bool) (xs : List ℕ) (i : ℕ) → i < length xs → count_by p (drop i xs) ≡ cond (p (get_or xs i 0)) 1 0 + count_by p (drop (i + 1) xs)
count_from p xs i lt =
    ap (count_by p) (drop-cons xs i 0 lt)
    ∙ sum_by-cons (λ x. cond {A = ℕ} (p x) 1 0) (get_or xs i 0) (drop (suc i) xs)
    ∙ ap (λ n. cond {A = ℕ} (p (get_or xs i 0)) 1 0 + count_by p (drop n xs)) (sym (add-one i))

-- the first of what is left, and the others
pub lines_next : (line : ℕ → List ℕ) (i n : ℕ) → i < n → flat_map line (range_with_len i (n - i)) ≡ line i ++ flat_map line (range_with_len (i + 1) (n - (i + 1)))
lines_next line i n lt =
    let more : n - i ≡ suc (n - (i + 1)) = omega (arith, lt) in
    rw more refl

-- there are at most `MOST_COLOURS` colours
pub few_colours : (p : Task) (count : ℕ) → IsPuzzle p → IsColourCount p count → count ≤ MOST_COLOURS
few_colours p count puzzle counted =
    counted.least MOST_COLOURS (λ colour has.
    ⊎_elim
    (λ t. All-contains (λ c. c < MOST_COLOURS) (word_of p t.0) colour (puzzle.tile_colours t.0 t.1) t.2)
    (λ other. ⊎_elim (λ r. puzzle.border_colours r.0 colour r.1) (λ last. ⊎_elim (λ lt. let few = puzzle.mating.mates.few in omega (arith, lt, few)) (λ w. puzzle.clues.colours w.0 w.1 colour w.2) last) other)
    has)
