-- Pieces by their numbers, one after the other.
use Rattle.std.proofs.Common.{◌≡◌, ◌≢◌, ◌≤◌, ◌<◌, ◌+◌, ◌⊎◌, ℕ, zero, suc, Bool, true, false, cond, eqb, List, [], ◌∷◌, ◌++◌, length, map, set, drop, drop-cons, get_or, take, min, replicate, Option, Some, None, Err, refl, sym, ap, subst, ◌∙◌, inl, inr, ⊎_elim, add-one, arith}
use Rattle.std.specs.Prelude.{All, Contains, slice_get}
use Rattle.std.proofs.lemmas.List.Sums.{sum_by-cons, count_by_more_yes, count_by_more_no}
use Rattle.std.proofs.lemmas.Bool.{ne_eqb, eq-eqb, cases_lt, cases_eq, lt-ltb, le-ltb}
use Rattle.match_limits.specs.First.{AtMost, IsLeast, IsFirst}
use Rattle.cert_tree.specs.declared.faults.AssembleFault.TheVariants.{Stranger, Double, Missing, Memory}
use Rattle.cert_tree.specs.Assembly.{how_often, IsOnly, HaveNoStranger, IsAssembly, AssemblyFails, assembly_rank, Assembles, TellsLeast}
use Rattle.cert_tree.specs.Slots.{lesser_of, stranger_of, IsFilled, IsEntered, IsPut, IsTaken, IsFirstEmpty}
use Rattle.std.proofs.lemmas.Option.{slice_get_within, slice_get-map, slice_get-get_or, get_or_from_slice_get}
use Rattle.std.proofs.lemmas.List.{length-map, length-set, length-replicate, get_or-set_same, get_or-set_other, get_or-replicate}
use Rattle.cert_tree.specs.declared.faults.AssembleFault.{AssembleFault}
use Rattle.std.specs.Option.{option_map}

-- ---- the least number

-- one number more has the property
pub tells_more : (P Q : ℕ → Type 0) (least : Option ℕ) (n : ℕ) → TellsLeast P least → Q n → ((m : ℕ) → P m → Q m) → ((m : ℕ) → Q m → P m ⊎ (m ≡ n)) → TellsLeast Q (Some (lesser_of least n))
tells_more P Q None n tells here on back = record {
  holds = here;
  least = λ m holds. ⊎_elim (λ before. absurd (tells m before)) (λ same. omega (arith, same)) (back m holds);
}
tells_more P Q (Some other) n tells here on back = elim (cases_lt other n) [
  | inl lt ↦
      let same : other ≡ min other n = omega (arith, lt) in
      record {
        holds = subst Q same (on other tells.holds);
        least = λ m holds. ⊎_elim (λ before. omega (arith, tells.least m before)) (λ is. omega (arith, is)) (back m holds);
      }
  | inr ge ↦
      let same : n ≡ min other n = omega (arith, ge) in
      record {
        holds = subst Q same here;
        least = λ m holds. ⊎_elim (λ before. omega (arith, tells.least m before)) (λ is. omega (arith, is)) (back m holds);
      }
]

-- the same numbers have the property
pub tells_same : (P Q : ℕ → Type 0) (least : Option ℕ) → TellsLeast P least → ((m : ℕ) → P m → Q m) → ((m : ℕ) → Q m → P m) → TellsLeast Q least
tells_same P Q None tells on back = λ m holds. tells m (back m holds)
tells_same P Q (Some n) tells on back = record { holds = on n tells.holds; least = λ m holds. tells.least m (back m holds) }

-- ---- how often a number stands

module _ {X : Type 0} (number_of : X → ℕ) where
  pub often-cons : (x : X) (xs : List X) (n : ℕ) → how_often number_of (x ∷ xs) n ≡ cond (eqb (number_of x) n) 1 0 + how_often number_of xs n
  often-cons x xs n = sum_by-cons (λ y. cond (eqb (number_of y) n) 1 0) x xs

  pub often-same : (x : X) (xs : List X) (n : ℕ) → number_of x ≡ n → how_often number_of (x ∷ xs) n ≡ how_often number_of xs n + 1
  often-same x xs n e = let yes : eqb (number_of x) n ≡ true = eq-eqb (number_of x) n e in rw (often-cons x xs n, yes) (omega arith)

  pub often-other : (x : X) (xs : List X) (n : ℕ) → number_of x ≢ n → how_often number_of (x ∷ xs) n ≡ how_often number_of xs n
  often-other x xs n e = let no : eqb (number_of x) n ≡ false = ne_eqb (number_of x) n e in rw (often-cons x xs n, no) (omega arith)

  -- a piece counts
  pub often_contained : (xs : List X) (x : X) → Contains xs x → how_often number_of xs (number_of x) ≢ 0
  often_contained [] x at none = omega (arith, at.1)
  often_contained (y ∷ xs) x (zero, at, is) none = omega (arith, often-same y xs (number_of x) (ap number_of is), none)
  often_contained (y ∷ xs) x (suc k, at, is) none =
      let more = often-cons y xs (number_of x) in
      often_contained xs x (k, omega (arith, at), is) (omega (arith, more, none))

  -- and what counts is a piece
  pub contained_often : (xs : List X) (n : ℕ) → how_often number_of xs n ≢ 0 → (x : X) × Contains xs x × (number_of x ≡ n)
  contained_often [] n some = absurd (some refl)
  contained_often (y ∷ xs) n some =
      elim (cases_eq (number_of y) n) [
        | inl same ↦ (y, (0, omega arith, refl), same)
        | inr other ↦
            let later = contained_often xs n (λ none. some (often-other y xs n other ∙ none)) in
            (later.0, (later.1.0 + 1, omega (arith, later.1.1), rw (add-one later.1.0) later.1.2), later.2)
      ]

  -- two pieces with one number are the same, where it stands once
  pub only_contained : (xs : List X) (n : ℕ) (x y : X) → how_often number_of xs n ≡ 1 → Contains xs x → Contains xs y → number_of x ≡ n → number_of y ≡ n → x ≡ y
  only_contained [] n x y once at at' e e' = absurd (omega (arith, at.1))
  only_contained (z ∷ xs) n x y once (zero, at, is) (zero, at', is') e e' = sym is ∙ is'
  only_contained (z ∷ xs) n x y once (zero, at, is) (suc k, at', is') e e' =
      absurd (often_contained xs y (k, omega (arith, at'), is') (rw e' (omega (arith, often-same z xs n (ap number_of is ∙ e), once))))
  only_contained (z ∷ xs) n x y once (suc k, at, is) (zero, at', is') e e' =
      absurd (often_contained xs x (k, omega (arith, at), is) (rw e (omega (arith, often-same z xs n (ap number_of is' ∙ e'), once))))
  only_contained (z ∷ xs) n x y once (suc k, at, is) (suc j, at', is') e e' =
      let inner : Contains xs x = (k, omega (arith, at), is) in
      let some : how_often number_of xs n ≢ 0 = λ none. often_contained xs x inner (rw e none) in
      let same : how_often number_of xs n ≡ 1 = omega (arith, often-cons z xs n, once, some) in
      only_contained xs n x y same inner (j, omega (arith, at'), is') e e'

  -- one piece more
  often_more : (xs : List X) (i : ℕ) (d : X) (n : ℕ) → i < length xs → how_often number_of (take (i + 1) xs) n ≡ cond (eqb (number_of (get_or xs i d)) n) 1 0 + how_often number_of (take i xs) n
  often_more xs i d n lt = by_test (eqb (number_of (get_or xs i d)) n) refl
    where
      by_test : (t : Bool) → eqb (number_of (get_or xs i d)) n ≡ t → how_often number_of (take (i + 1) xs) n ≡ cond t 1 0 + how_often number_of (take i xs) n
      by_test true is = omega (arith, count_by_more_yes (λ x. eqb (number_of x) n) xs i d lt is)
      by_test false is = omega (arith, count_by_more_no (λ x. eqb (number_of x) n) xs i d lt is)

  pub stranger_more : (xs : List X) (i : ℕ) (d : X) (count : ℕ) (least : Option ℕ) → i < length xs
      → TellsLeast (λ n. (count ≤ n) × (how_often number_of (take i xs) n ≢ 0)) least → TellsLeast (λ n. (count ≤ n) × (how_often number_of (take (i + 1) xs) n ≢ 0)) (stranger_of count least (number_of (get_or xs i d)))
  stranger_more xs i d count least lt tells =
      let number = number_of (get_or xs i d) in
      let yes : how_often number_of (take (i + 1) xs) number ≡ 1 + how_often number_of (take i xs) number =
      often_more xs i d number lt ∙ ap (λ t. cond t 1 0 + how_often number_of (take i xs) number) (eq-eqb number number refl) in
      elim (cases_lt number count) [
        | inl below ↦
            rw (lt-ltb number count below)
            (tells_same (λ n. (count ≤ n) × (how_often number_of (take i xs) n ≢ 0)) (λ n. (count ≤ n) × (how_often number_of (take (i + 1) xs) n ≢ 0)) least tells
            (λ m p. (p.0, λ none. p.1 (omega (arith, often_more xs i d m lt, none))))
            (λ m q. (q.0, λ none. q.1 (more_other m (λ same. omega (arith, same, below, q.0)) none))))
        | inr past ↦
            rw (le-ltb number count past)
            (tells_more (λ n. (count ≤ n) × (how_often number_of (take i xs) n ≢ 0)) (λ n. (count ≤ n) × (how_often number_of (take (i + 1) xs) n ≢ 0)) least number tells
            (past, λ none. omega (arith, yes, none))
            (λ m p. (p.0, λ none. p.1 (omega (arith, often_more xs i d m lt, none))))
            (λ m q. elim (cases_eq number m) [
              | inl same ↦ inr (sym same)
              | inr other ↦ inl (q.0, λ none. q.1 (more_other m other none))
            ]))
      ]
    where
      more_other : (m : ℕ) → (number_of (get_or xs i d) ≡ m → ⊥) → how_often number_of (take i xs) m ≡ 0 → how_often number_of (take (i + 1) xs) m ≡ 0
      more_other m other none = omega (arith, often_more xs i d m lt ∙ ap (λ t. cond t 1 0 + how_often number_of (take i xs) m) (ne_eqb (number_of (get_or xs i d)) m other), none)

-- a number stands among what pieces are made to as often as among the pieces
pub often-map : {X Y : Type 0} (number_of : Y → ℕ) (f : X → Y) (xs : List X) (n : ℕ) → how_often number_of (map f xs) n ≡ how_often (λ x. number_of (f x)) xs n
often-map number_of f [] n = refl
often-map number_of f (x ∷ xs) n =
    often-cons number_of (f x) (map f xs) n ∙ ap (λ m. cond (eqb (number_of (f x)) n) 1 0 + m) (often-map number_of f xs n) ∙ sym (often-cons (λ y. number_of (f y)) x xs n)

-- ---- places

-- a piece stands in the list
pub first_contained : {X : Type 0} (x : X) (xs : List X) → Contains (x ∷ xs) x
first_contained x xs = (0, omega arith, refl)

pub later_contained : {X : Type 0} (x y : X) (xs : List X) → Contains xs x → Contains (y ∷ xs) x
later_contained x y xs at = (suc at.0, omega (arith, at.1), at.2)

module _ {X : Type 0} (number_of : X → ℕ) where
  filled_on : (pieces : List X) (piece : X) (n : ℕ) (slot : Option X) → number_of piece ≢ n → IsFilled number_of pieces n slot → IsFilled number_of (piece ∷ pieces) n slot
  filled_on pieces piece n None other filled = often-other number_of piece pieces n other ∙ filled
  filled_on pieces piece n (Some found) other filled = (later_contained found piece pieces filled.0, filled.1)

  -- the places with the piece in its own
  abbrev put_in : List (Option X) → X → List (Option X)
  put_in before piece = set before (number_of piece) (Some piece)

  put_at : (before after : List (Option X)) (piece : X) (n : ℕ) (slot : Option X) → IsPut number_of before after piece → slice_get after n ≡ Some slot → slice_get (put_in before piece) n ≡ Some slot
  put_at before after piece n slot put at = ap (λ s. slice_get s n) (sym put.1) ∙ at

  still_within : (before after : List (Option X)) (piece : X) (n : ℕ) (slot : Option X) → IsPut number_of before after piece → slice_get after n ≡ Some slot → n < length before
  still_within before after piece n slot put at =
      let long = length-set before (number_of piece) (Some piece) in
      let lt = slice_get_within (put_in before piece) n slot (put_at before after piece n slot put at) in
      omega (arith, long, lt)

  pub put_entered : (pieces : List X) (piece : X) (before after : List (Option X)) (double : Option ℕ) → IsPut number_of before after piece → IsEntered number_of pieces before double → IsEntered number_of (piece ∷ pieces) after double
  put_entered pieces piece before after double put entered =
      let none : how_often number_of pieces (number_of piece) ≡ 0 = entered.filled (number_of piece) None put.0 in
      let within : number_of piece < length before = slice_get_within before (number_of piece) None put.0 in
      record {
        filled = λ n slot at.
            elim (cases_eq (number_of piece) n) [
              | inl same ↦
                  let is : slot ≡ Some piece = sym (get_or_from_slice_get (put_in before piece) n slot None (put_at before after piece n slot put at)) ∙ ap (λ k. get_or (put_in before piece) k None) (sym same) ∙ get_or-set_same before (number_of piece) (Some piece) None within in
                  rw is (first_contained piece pieces, same)
              | inr other ↦
                  let there : slice_get before n ≡ Some slot = slice_get-get_or before n None (still_within before after piece n slot put at) ∙ ap Some (sym (get_or-set_other before (number_of piece) n (Some piece) None (λ e. other (sym e))) ∙ get_or_from_slice_get (put_in before piece) n slot None (put_at before after piece n slot put at)) in
                  filled_on pieces piece n slot other (entered.filled n slot there)
            ];
        least =
            tells_same (λ n. 1 < how_often number_of pieces n) (λ n. 1 < how_often number_of (piece ∷ pieces) n) double entered.least
            (λ m twice. omega (arith, often-cons number_of piece pieces m, twice))
            (λ m twice. elim (cases_eq (number_of piece) m) [
              | inl same ↦ absurd (omega (arith, often-same number_of piece pieces m same, subst (λ k. how_often number_of pieces k ≡ 0) same none, twice))
              | inr other ↦ omega (arith, often-other number_of piece pieces m other, twice)
            ]);
      }

  pub taken_entered : (pieces : List X) (piece : X) (before after : List (Option X)) (double : Option ℕ) → IsTaken number_of before after piece → IsEntered number_of pieces before double → IsEntered number_of (piece ∷ pieces) after (Some (lesser_of double (number_of piece)))
  taken_entered pieces piece before after double taken entered =
      let other = entered.filled (number_of piece) (Some taken.0) taken.1 in
      let some : how_often number_of pieces (number_of piece) ≢ 0 = subst (λ k. how_often number_of pieces k ≢ 0) other.1 (often_contained number_of pieces taken.0 other.0) in
      record {
        filled = λ n slot at.
            let there = entered.filled n slot (ap (λ s. slice_get s n) (sym taken.2) ∙ at) in
            elim (cases_eq (number_of piece) n) [
              | inl same ↦ filled_again slot n same there at
              | inr apart ↦ filled_on pieces piece n slot apart there
            ];
        least =
            tells_more (λ n. 1 < how_often number_of pieces n) (λ n. 1 < how_often number_of (piece ∷ pieces) n) double (number_of piece) entered.least
            (omega (arith, often-same number_of piece pieces (number_of piece) refl, some))
            (λ m twice. omega (arith, often-cons number_of piece pieces m, twice))
            (λ m twice. elim (cases_eq (number_of piece) m) [
              | inl same ↦ inr (sym same)
              | inr apart ↦ inl (omega (arith, often-other number_of piece pieces m apart, twice))
            ]);
      }
    where
      filled_again : (slot : Option X) (n : ℕ) → number_of piece ≡ n → IsFilled number_of pieces n slot → slice_get after n ≡ Some slot → IsFilled number_of (piece ∷ pieces) n slot
      filled_again None n same filled at =
          let is : Some None ≡ Some (Some taken.0) = sym at ∙ ap (λ s. slice_get s n) taken.2 ∙ ap (slice_get before) (sym same) ∙ taken.1 in
          absurd cc
      filled_again (Some found) n same filled at = (later_contained found piece pieces filled.0, filled.1)

pub mid_contained : {X : Type 0} (front : List X) (x : X) (back : List X) → Contains (front ++ x ∷ back) x
mid_contained [] x back = first_contained x back
mid_contained (y ∷ front) x back = later_contained x y (front ++ x ∷ back) (mid_contained front x back)

-- ---- taking what stands in the places

pub same_head : {X : Type 0} (xs ys : List X) (i : ℕ) (d : X) → i < length xs → length xs ≡ length ys → drop i xs ≡ drop i ys → (get_or xs i d ≡ get_or ys i d) × (drop (i + 1) xs ≡ drop (i + 1) ys)
same_head {X} xs ys i d lt long same =
    let one : get_or xs i d ∷ drop (suc i) xs ≡ get_or ys i d ∷ drop (suc i) ys = sym (drop-cons xs i d lt) ∙ same ∙ drop-cons ys i d (omega (arith, lt, long)) in
    (first_is one, rw add-one (rest_is one))
  where
    first_is : {a b : X} {v w : List X} → a ∷ v ≡ b ∷ w → a ≡ b
    first_is e = cc

    rest_is : {a b : X} {v w : List X} → a ∷ v ≡ b ∷ w → v ≡ w
    rest_is e = cc

slice_get-take : {X : Type 0} (xs : List X) (n m : ℕ) → m < n → slice_get (take n xs) m ≡ slice_get xs m
slice_get-take [] zero m lt = refl
slice_get-take [] (suc n) m lt = refl
slice_get-take (x ∷ xs) zero m lt = absurd (omega (arith, lt))
slice_get-take (x ∷ xs) (suc n) zero lt = refl
slice_get-take (x ∷ xs) (suc n) (suc m) lt = slice_get-take xs n m (omega (arith, lt))

-- a place that was reached is not empty
pub not_before : {X : Type 0} (sorted : List X) (slots : List (Option X)) (number m : ℕ) → number ≤ length slots → map Some sorted ≡ take number slots → slice_get slots m ≡ Some None → number ≤ m
not_before {X} sorted slots number m few taken none = elim (cases_lt m number) [
  | inl lt ↦
      let at : slice_get (take number slots) m ≡ Some None = slice_get-take slots number m lt ∙ none in
      absurd (is_some_none (slice_get sorted m) (sym (slice_get-map Some sorted m) ∙ ap (λ s. slice_get s m) taken ∙ at))
  | inr ge ↦ ge
]
  where
    is_some_none : (o : Option X) → option_map Some o ≡ Some None → ⊥
    is_some_none None e = absurd cc
    is_some_none (Some l) e = absurd cc

-- ---- what the places say of the pieces

module _ {X : Type 0} (number_of : X → ℕ) where
  empty_entered : (count : ℕ) → IsEntered number_of [] (replicate count None) None
  empty_entered count = record {
    filled = λ n slot at. rw (nothing_there n slot at) refl;
    least = λ n twice. omega (arith, twice);
  }
    where
      nothing_there : (n : ℕ) (slot : Option X) → slice_get (replicate count None) n ≡ Some slot → slot ≡ None
      nothing_there n slot at =
          let lt : n < count = omega (arith, slice_get_within (replicate count None) n slot at, length-replicate count (let o : Option X = None in o)) in
          sym (get_or_from_slice_get (replicate count None) n slot None at) ∙ get_or-replicate count n None None lt

  pub all_below : (count : ℕ) (pieces : List X) → HaveNoStranger number_of count pieces → (piece : X) → Contains pieces piece → number_of piece < count
  all_below count pieces none piece at = elim (cases_lt (number_of piece) count) [
    | inl lt ↦ lt
    | inr ge ↦ absurd (often_contained number_of pieces piece at (none (number_of piece) ge))
  ]

-- a fault of an earlier kind
earlier : (f g : AssembleFault) → (assembly_rank f).first < (assembly_rank g).first → AtMost (assembly_rank f) (assembly_rank g)
earlier f g lt = record { first = omega (arith, lt); second = λ same. absurd (omega (arith, same, lt)); third = λ same b. absurd (omega (arith, same, lt)) }

-- ---- a stranger

module _ {X : Type 0} (number_of : X → ℕ) (count : ℕ) (pieces : List X) where
  module _ (n : ℕ) (least : IsLeast (λ m. (count ≤ m) × (how_often number_of pieces m ≢ 0)) n) where
    stranger_first : (g : AssembleFault) → AssemblyFails number_of count pieces g → AtMost (assembly_rank (Stranger n)) (assembly_rank g)
    stranger_first (Stranger m) occurs = record { first = omega arith; second = λ same. least.least m occurs; third = λ a b. omega arith }
    stranger_first (Double m) occurs = earlier (Stranger n) (Double m) (omega arith)
    stranger_first (Missing m) occurs = earlier (Stranger n) (Missing m) (omega arith)
    stranger_first Memory occurs = absurd occurs

    pub first_stranger : IsFirst assembly_rank (AssemblyFails number_of count pieces) (Stranger n)
    first_stranger = record { occurs = least.holds; first = stranger_first }

  pub no_strangers : TellsLeast (λ m. (count ≤ m) × (how_often number_of pieces m ≢ 0)) None → HaveNoStranger number_of count pieces
  no_strangers none n past = elim (cases_eq (how_often number_of pieces n) 0) [
    | inl is ↦ is
    | inr some ↦ absurd (none n (past, some))
  ]

module _ {X : Type 0} (number_of : X → ℕ) (count : ℕ) (pieces : List X) where
  abbrev Fails : AssembleFault → Type 0
  Fails = AssemblyFails number_of count pieces

  module _ (home : HaveNoStranger number_of count pieces) where
    -- ---- a number that stands twice

    module _ (n : ℕ) (least : IsLeast (λ m. 1 < how_often number_of pieces m) n) where
      double_first : (g : AssembleFault) → Fails g → AtMost (assembly_rank (Double n)) (assembly_rank g)
      double_first (Stranger m) occurs = absurd (occurs.1 (home m occurs.0))
      double_first (Double m) occurs = record { first = omega arith; second = λ same. least.least m occurs; third = λ a b. omega arith }
      double_first (Missing m) occurs = earlier (Double n) (Missing m) (omega arith)
      double_first Memory occurs = absurd occurs

      pub first_double : IsFirst assembly_rank Fails (Double n)
      first_double = record { occurs = least.holds; first = double_first }

    -- ---- each number at most once

    module _ (slots : List (Option X)) (long : length slots ≡ count) (entered : IsEntered number_of pieces slots None) where
      once_at : (n : ℕ) (piece : X) → slice_get slots n ≡ Some (Some piece) → IsOnly number_of pieces n piece
      once_at n piece at =
          let filled = entered.filled n (Some piece) at in
          let some : how_often number_of pieces n ≢ 0 = subst (λ k. how_often number_of pieces k ≢ 0) filled.1 (often_contained number_of pieces piece filled.0) in
          let few : how_often number_of pieces n ≤ 1 = at_most_once n in
          record { among = filled.0; number = filled.1; once = omega (arith, some, few) }
        where
          at_most_once : (m : ℕ) → how_often number_of pieces m ≤ 1
          at_most_once m = elim (cases_lt 1 (how_often number_of pieces m)) [
            | inl twice ↦ absurd (entered.least m twice)
            | inr few ↦ few
          ]

      pub assembled : (sorted : List X) → map Some sorted ≡ slots → IsAssembly number_of count pieces sorted
      assembled sorted all = record {
        many = sym (length-map sorted Some) ∙ ap length all ∙ long;
        only = λ n piece at. once_at n piece (ap (λ s. slice_get s n) (sym all) ∙ slice_get-map Some sorted n ∙ ap (option_map Some) at);
        no_stranger = home;
      }

      module _ (n : ℕ) (empty : slice_get slots n ≡ Some None) (first : (m : ℕ) → slice_get slots m ≡ Some None → n ≤ m) where
        not_empty : (m : ℕ) (slot : Option X) → slice_get slots m ≡ Some slot → how_often number_of pieces m ≡ 0 → n ≤ m
        not_empty m None at none = first m at
        not_empty m (Some piece) at none = absurd (omega (arith, (once_at m piece at).once, none))

        missing_first : (g : AssembleFault) → Fails g → AtMost (assembly_rank (Missing n)) (assembly_rank g)
        missing_first (Stranger m) occurs = absurd (occurs.1 (home m occurs.0))
        missing_first (Double m) occurs = absurd (entered.least m occurs)
        missing_first (Missing m) occurs =
            let at = slice_get-get_or slots m None (omega (arith, occurs.0, long)) in
            record { first = omega arith; second = λ same. not_empty m (get_or slots m None) at occurs.1; third = λ a b. omega arith }
        missing_first Memory occurs = absurd occurs

        pub first_missing : IsFirst assembly_rank Fails (Missing n)
        first_missing = record { occurs = (omega (arith, slice_get_within slots n None empty, long), entered.filled n None empty); first = missing_first }

      pub missing_of : (fault : AssembleFault) → IsFirstEmpty slots fault → Assembles number_of count pieces (Err fault)
      missing_of (Missing n) is = first_missing n is.0 is.1
      missing_of Memory is = tt
      missing_of (Stranger n) is = absurd is
      missing_of (Double n) is = absurd is

-- what is true of each piece is true of each that was assembled
pub assembled_all : {X : Type 0} (number_of : X → ℕ) (P : X → Type 0) (count : ℕ) (pieces sorted : List X) → All P pieces → IsAssembly number_of count pieces sorted → (n : ℕ) (piece : X) → slice_get sorted n ≡ Some piece → P piece
assembled_all number_of P count pieces sorted all is n piece at =
    let among = (is.only n piece at).among in
    subst P among.2 (all among.0 piece among.1)

-- Each piece that was assembled has a number below the count.
pub assembled_below : {X : Type 0} (number_of : X → ℕ) (count : ℕ) (pieces sorted : List X) → IsAssembly number_of count pieces sorted → All (λ x. number_of x < count) sorted
assembled_below number_of count pieces sorted is n d lt =
    let number = (is.only n (get_or sorted n d) (slice_get-get_or sorted n d lt)).number in
    omega (arith, number, lt, is.many)

pub assembled_each : {X : Type 0} (number_of : X → ℕ) (P : X → Type 0) (count : ℕ) (pieces sorted : List X) → All P pieces → IsAssembly number_of count pieces sorted → All P sorted
assembled_each number_of P count pieces sorted all is n d lt = assembled_all number_of P count pieces sorted all is n (get_or sorted n d) (slice_get-get_or sorted n d lt)
