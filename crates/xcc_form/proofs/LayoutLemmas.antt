-- The layout of options, as one more is added, and the options that it stands for.
use Rattle.std.proofs.Common.{◌≡◌, ◌*◌, ◌<◌, ◌≤◌, ◌+◌, ◌-◌, ℕ, List, [], ◌∷◌, ◌++◌, Some, length, length-append, length-drop, slice_get, slice_range, get_or, take, drop, arith, refl, ap, sym, ◌∙◌, subst, ⊎_elim}
use Rattle.match_limits.specs.declared.TheConstants.{MOST_CELLS}
use Rattle.std.proofs.lemmas.List.{get_or_append_left, get_or_push, length_push, take-append-le, drop-append-le, drop_at, take_all}
use Rattle.std.proofs.lemmas.Option.{none-some}
use Rattle.match_limits.proofs.Listings.{lt_or_le}
use Rattle.match_puzzle.specs.Puzzle.{Task}
use Rattle.match_puzzle.specs.declared.placements.Pair.{Pair}
use Rattle.match_puzzle.proofs.TableLemmas.{pushed_is}
use Rattle.xcc_form.specs.Options.{AreShownEdges}
use Rattle.xcc_form.specs.Layout.{edges_of, AreLaidOut}
use Rattle.xcc_form.specs.declared.edges.Edge.{Edge}
use Rattle.xcc_form.specs.declared.edges.SharedEdge.{SharedEdge}

-- ---- one option more

-- a part of a list is the same in a longer one
part_of_more : (edges more : List Edge) (a b : ℕ) → a ≤ b → b ≤ length edges → slice_range (edges ++ more) a b ≡ slice_range edges a b
part_of_more edges more a b le within =
    let long = length-drop a edges in
    ap (take (b - a)) (drop-append-le a edges more (omega (arith, le, within)))
    ∙ take-append-le (b - a) (drop a edges) more (omega (arith, long, within, le))

-- the part behind a list
part_behind : (edges more : List Edge) (a b : ℕ) → a ≡ length edges → b ≡ length (edges ++ more) → slice_range (edges ++ more) a b ≡ more
part_behind edges more a b from to =
    let all = length-append edges more in
    ap (take (b - a)) (drop_at edges more a (sym from)) ∙ take_all (b - a) more (omega (arith, all, from, to))

module _ (p : Task) (shared : List SharedEdge) (pairs : List Pair) (starts : List ℕ) (edges : List Edge) (is : AreLaidOut p shared pairs starts edges) (x : Pair) (more : List Edge) (shown : AreShownEdges p shared x more) (few : length more ≤ 4 * MOST_CELLS) where
  abbrev new_pairs : List Pair
  new_pairs = pairs ++ x ∷ []

  abbrev new_edges : List Edge
  new_edges = edges ++ more

  abbrev new_starts : List ℕ
  new_starts = starts ++ length new_edges ∷ []

  old_start : (o : ℕ) → o ≤ length pairs → get_or new_starts o 0 ≡ get_or starts o 0
  old_start o le = let long = is.starts_long in get_or_append_left starts (length new_edges ∷ []) 0 o (omega (arith, long, le))

  new_start : (o : ℕ) → o ≡ length pairs + 1 → get_or new_starts o 0 ≡ length new_edges
  new_start o e = get_or_push starts (length new_edges) 0 o (is.starts_long ∙ sym e)

  longer : length edges ≤ length new_edges
  longer = let all = length-append edges more in omega (arith, all)

  many : length new_pairs ≡ length pairs + 1
  many = length_push pairs x

  new_rising : (o : ℕ) → o < length new_pairs → get_or new_starts o 0 ≤ get_or new_starts (o + 1) 0
  new_rising o lt =
      ⊎_elim
      (λ old. let a = old_start o (omega (arith, old)) in let b = old_start (o + 1) (omega (arith, old)) in let c = is.rising o old in omega (arith, a, b, c))
      (λ last. let a = old_start o (omega (arith, lt, many)) in let b = new_start (o + 1) (omega (arith, last, lt, many)) in let c = is.within o (omega (arith, lt, many)) in omega (arith, a, b, c, longer))
      (lt_or_le o (length pairs))

  new_within : (o : ℕ) → o ≤ length new_pairs → get_or new_starts o 0 ≤ length new_edges
  new_within o le =
      ⊎_elim
      (λ old. let a = old_start o (omega (arith, old)) in let c = is.within o (omega (arith, old)) in omega (arith, a, c, longer))
      (λ last. let b = new_start o (omega (arith, last, le, many)) in omega (arith, b))
      (lt_or_le o (length pairs + 1))

  new_shown : (o : ℕ) (y : Pair) → slice_get new_pairs o ≡ Some y → AreShownEdges p shared y (edges_of new_starts new_edges o)
  new_shown o y at =
      ⊎_elim
      (λ old.
      let a = old_start o (omega (arith, old.0)) in
      let b = old_start (o + 1) (omega (arith, old.0)) in
      let same : edges_of new_starts new_edges o ≡ edges_of starts edges o =
      ap (λ n. slice_range new_edges n (get_or new_starts (o + 1) 0)) a
      ∙ ap (λ n. slice_range new_edges (get_or starts o 0) n) b
      ∙ part_of_more edges more (get_or starts o 0) (get_or starts (o + 1) 0) (is.rising o old.0) (is.within (o + 1) (omega (arith, old.0))) in
      subst (AreShownEdges p shared y) (sym same) (is.shown o y old.1))
      (λ last.
      let a = old_start o (omega (arith, last.0)) ∙ ap (λ n. get_or starts n 0) last.0 ∙ is.last in
      let b = new_start (o + 1) (omega (arith, last.0)) in
      let same = part_behind edges more (get_or new_starts o 0) (get_or new_starts (o + 1) 0) a b in
      subst (AreShownEdges p shared y) (sym same) (subst (λ z. AreShownEdges p shared z more) (sym last.1) shown))
      (pushed_is pairs x o y at)

  laid_out_more : AreLaidOut p shared new_pairs new_starts new_edges
  laid_out_more = record {
    starts_long = length_push starts (length new_edges) ∙ (let a = is.starts_long in omega (arith, a, many));
    first = old_start 0 (omega arith) ∙ is.first;
    last = new_start (length new_pairs) many;
    rising = new_rising;
    within = new_within;
    shown = new_shown;
    few = let old = is.few in let all = length-append edges more in omega (arith, old, few, all, many);
  }

-- the same, with what was pushed
pub laid_out_pushed : (p : Task) (shared : List SharedEdge) (pairs pairs' : List Pair) (starts starts' : List ℕ) (edges edges' : List Edge) (x : Pair) (more : List Edge) (end : ℕ) → AreLaidOut p shared pairs starts edges → AreShownEdges p shared x more → length more ≤ 4 * MOST_CELLS → edges' ≡ edges ++ more → pairs' ≡ pairs ++ x ∷ [] → end ≡ length edges' → starts' ≡ starts ++ end ∷ [] → AreLaidOut p shared pairs' starts' edges'
laid_out_pushed p shared pairs pairs' starts starts' edges edges' x more end is shown few e q n s =
    subst (λ k. AreLaidOut p shared k starts' edges') (sym q)
    (subst (λ k. AreLaidOut p shared (pairs ++ x ∷ []) k edges') (sym (s ∙ ap (λ m. starts ++ m ∷ []) (n ∙ ap length e)))
    (subst (λ k. AreLaidOut p shared (pairs ++ x ∷ []) (starts ++ length (edges ++ more) ∷ []) k) (sym e)
    (laid_out_more p shared pairs starts edges is x more shown few)))

-- ---- no option

pub laid_out_none : (p : Task) (shared : List SharedEdge) → AreLaidOut p shared [] (0 ∷ []) []
laid_out_none p shared = record {
  starts_long = omega arith;
  first = refl;
  last = refl;
  rising = λ o lt. absurd (omega (arith, lt));
  within = λ o le. let at : o ≡ 0 = omega (arith, le) in subst (λ k. get_or (0 ∷ []) k 0 ≤ 0) (sym at) (omega arith);
  shown = λ o x at. absurd (none-some x at);
  few = omega arith;
}
