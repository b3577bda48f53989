-- What lines tell, line by line.
use Rattle.std.proofs.Common.{◌≡◌, ◌≢◌, ◌∙◌, ◌<◌, ◌≤◌, ◌+◌, ◌-◌, ◌++◌, ◌∷◌, [], ℕ, List, Option, Some, None, Contains, length, map, slice_get, set, get_or, length-set, get_or-set_same, get_or-set_other, replicate, arith, ap, sym, subst, refl, inl, inr, ⊎_elim, ◌&&◌, true, false, is_some, eqb, eqb-true, ap₂}
use Rattle.text_words.proofs.WordLemmas.{both}
use Rattle.std.proofs.lemmas.Bool.{cases_eq}
use Rattle.std.proofs.lemmas.List.{get_or-replicate, length-map, length-replicate}
use Rattle.std.proofs.lemmas.List.Elements.{Contains-append_left, Contains-push, Contains-push_cases}
use Rattle.std.proofs.lemmas.Option.{get_or_from_slice_get, slice_get_read, slice_get-map, slice_get_within}
use Rattle.match_limits.proofs.ListLemmas.{mapped_at}
use Rattle.count_totals.specs.Counts.{HaveSum, IsFirstWithout}
use Rattle.count_totals.specs.Tallies.{AreTold, IsOnly, TellCounts, Tells}
use Rattle.count_totals.specs.Totals.{AreCountsOf, ClashesWith, GoTogether, HaveTotal, Lack, LackPart, NameNoPart, NameNoPuzzle, NameNoSplit}
use Rattle.count_totals.specs.declared.lines.CountedPart.{CountedPart}
use Rattle.count_totals.specs.declared.lines.SplitLine.{SplitLine}
use Rattle.count_totals.specs.declared.lines.Line.{Line}
use Rattle.count_totals.specs.declared.lines.Line.TheVariants.{Puzzle, Split, Part}
use Rattle.std.specs.Option.{option_map}
use Rattle.count_totals.specs.declared.faults.Clash.TheVariants as clashes
use Rattle.count_totals.specs.declared.faults.PartsFault.{PartsFault}
use Rattle.count_totals.specs.declared.faults.PartsFault.TheVariants as faults
use Rattle.count_totals.specs.declared.tallies.Tally.{Tally}

abbrev pub some : {X : Type 0} → X → Option X
some x = Some x

abbrev pub none : {X : Type 0} → Option X
none = None

pub some_is : {X : Type 0} (x y : X) → some x ≡ some y → x ≡ y
some_is x y e = cc

pub none_is_some : {X : Type 0} (x : X) → none ≡ some x → ⊥
none_is_some x e = absurd cc

-- ---- a puzzle and a split

not_new : (lines : List Line) (line wanted : Line) → (line ≡ wanted → ⊥) → Contains (lines ++ line ∷ []) wanted → Contains lines wanted
not_new lines line wanted other has = ⊎_elim (λ h. h) (λ e. absurd (other e)) (Contains-push_cases lines line wanted has)

module _ {X : Type 0} (of : X → Line) (lines : List Line) where
  abbrev Named : List Line → X → Type 0
  Named ls x = Contains ls (of x)

  pub only_kept : (line : Line) (o : Option X) → ((x : X) → line ≡ of x → ⊥) → IsOnly (λ x. Contains lines (of x)) o → IsOnly (λ x. Contains (lines ++ line ∷ []) (of x)) o
  only_kept line None other only = λ x has. only x (not_new lines line (of x) (other x) has)
  only_kept line (Some x) other only = (Contains-append_left lines (line ∷ []) (of x) only.0, λ y has. only.1 y (not_new lines line (of y) (other y) has))

  pub only_first : (x : X) → ((y : X) → of x ≡ of y → y ≡ x) → IsOnly (λ y. Contains lines (of y)) None → IsOnly (λ y. Contains (lines ++ of x ∷ []) (of y)) (Some x)
  only_first x same unnamed = (Contains-push lines (of x), λ y has. ⊎_elim (λ h. absurd (unnamed y h)) (λ e. same y e) (Contains-push_cases lines (of x) (of y) has))

  pub only_again : (x : X) → ((y : X) → of x ≡ of y → y ≡ x) → IsOnly (λ y. Contains lines (of y)) (Some x) → IsOnly (λ y. Contains (lines ++ of x ∷ []) (of y)) (Some x)
  only_again x same only = (Contains-push lines (of x), λ y has. ⊎_elim (λ h. only.1 y h) (λ e. same y e) (Contains-push_cases lines (of x) (of y) has))

pub same_puzzle : (x y : List ℕ) → Puzzle x ≡ Puzzle y → y ≡ x
same_puzzle x y e = cc

pub same_split : (x y : SplitLine) → Split x ≡ Split y → y ≡ x
same_split x y e = cc

pub same_part : (x y : CountedPart) → Part x ≡ Part y → x ≡ y
same_part x y e = cc

pub puzzle_is_split : (x : List ℕ) (y : SplitLine) → Puzzle x ≡ Split y → ⊥
puzzle_is_split x y e = absurd cc

pub puzzle_is_part : (x : List ℕ) (y : CountedPart) → Puzzle x ≡ Part y → ⊥
puzzle_is_part x y e = absurd cc

pub split_is_part : (x : SplitLine) (y : CountedPart) → Split x ≡ Part y → ⊥
split_is_part x y e = absurd cc

-- ---- counts of parts

named_as : (lines : List Line) (part : CountedPart) (number parts count : ℕ) → part.number ≡ number → part.parts ≡ parts → part.count ≡ count → Contains lines (Part part) → Contains lines (Part (record { number = number; parts = parts; count = count }))
named_as lines part number parts count number_is parts_is count_is has =
    subst (λ c. Contains lines (Part (record { number = number; parts = parts; count = c }))) count_is
    (subst (λ p. Contains lines (Part (record { number = number; parts = p; count = part.count }))) parts_is
    (subst (λ n. Contains lines (Part (record { number = n; parts = part.parts; count = part.count }))) number_is has))

set_same : (counts : List (Option ℕ)) (i : ℕ) (v : Option ℕ) → i < length counts → slice_get (set counts i v) i ≡ Some v
set_same counts i v lt = slice_get_read (set counts i v) (length counts) i v (sym (length-set counts i v)) lt (sym (get_or-set_same counts i v v lt))

set_other : (counts : List (Option ℕ)) (i j : ℕ) (v w : Option ℕ) → j ≢ i → slice_get (set counts i v) j ≡ Some w → slice_get counts j ≡ Some w
set_other counts i j v w other at =
    let within : j < length counts = omega (arith, slice_get_within (set counts i v) j w at, length-set counts i v) in
    let read : get_or counts j w ≡ w = sym (get_or-set_other counts i j v w other) ∙ get_or_from_slice_get (set counts i v) j w w at in
    slice_get_read counts (length counts) j w refl within (sym read)

set_kept : (counts : List (Option ℕ)) (i j : ℕ) (v w : Option ℕ) → j ≢ i → slice_get counts j ≡ Some w → slice_get (set counts i v) j ≡ Some w
set_kept counts i j v w other at =
    let read : get_or (set counts i v) j w ≡ w = get_or-set_other counts i j v w other ∙ get_or_from_slice_get counts j w w at in
    slice_get_read (set counts i v) (length counts) j w (sym (length-set counts i v)) (slice_get_within counts j w at) (sym read)

pub told_kept : (lines : List Line) (line : Line) (counts : List (Option ℕ)) → ((part : CountedPart) → line ≡ Part part → ⊥) → AreTold lines counts → AreTold (lines ++ line ∷ []) counts
told_kept lines line counts other told = record {
  each = λ earlier count at. Contains-append_left lines (line ∷ []) _ (told.each earlier count at);
  all = λ part has. told.all part (not_new lines line (Part part) (other part) has);
}

pub counts_kept : (lines : List Line) (line : Line) (counts : List (Option ℕ)) → ((part : CountedPart) → line ≡ Part part → ⊥) → TellCounts lines counts → TellCounts (lines ++ line ∷ []) counts
counts_kept lines line counts other tell = record {
  some = λ lt. let named = tell.some lt in (named.0, Contains-append_left lines (line ∷ []) (Part named.0) named.1);
  told = told_kept lines line counts other tell.told;
}

pub counts_again : (lines : List Line) (part : CountedPart) (counts : List (Option ℕ)) → part.parts ≡ length counts → slice_get counts (part.number - 1) ≡ Some (Some part.count) → TellCounts lines counts → TellCounts (lines ++ Part part ∷ []) counts
counts_again lines part counts parts at tell = record {
  some = λ _. (part, Contains-push lines (Part part));
  told = record {
    each = λ earlier count here. Contains-append_left lines (Part part ∷ []) _ (tell.told.each earlier count here);
    all = λ other has. ⊎_elim (λ h. tell.told.all other h) (λ e. subst (λ (p : CountedPart). (p.parts ≡ length counts) × (slice_get counts (p.number - 1) ≡ Some (Some p.count))) (same_part part other e) (parts, at)) (Contains-push_cases lines (Part part) (Part other) has);
  };
}

module _ (lines : List Line) (part : CountedPart) (counts : List (Option ℕ)) (some_number : 1 ≤ part.number) (parts : part.parts ≡ length counts) (open_place : slice_get counts (part.number - 1) ≡ Some None)
    (told : AreTold lines counts) where
  abbrev place : ℕ
  place = part.number - 1

  abbrev after : List (Option ℕ)
  after = set counts place (Some part.count)

  within : place < length counts
  within = slice_get_within counts place None open_place

  long : length after ≡ length counts
  long = length-set counts place (Some part.count)

  each_new : (earlier count : ℕ) → slice_get after earlier ≡ Some (Some count) → Contains (lines ++ Part part ∷ []) (Part (record { number = earlier + 1; parts = length after; count = count }))
  each_new earlier count at = elim (cases_eq earlier place) [
    | inl same ↦
        let counted : part.count ≡ count = some_is part.count count (some_is (Some part.count) (Some count) (sym (set_same counts place (Some part.count) within) ∙ subst (λ i. slice_get after i ≡ Some (Some count)) same at)) in
        let number : part.number ≡ earlier + 1 = omega (arith, same, some_number) in
        let many : part.parts ≡ length after = parts ∙ sym long in
        named_as (lines ++ Part part ∷ []) part (earlier + 1) (length after) count number many counted (Contains-push lines (Part part))
    | inr other ↦
        let old = told.each earlier count (set_other counts place earlier (Some part.count) (Some count) other at) in
        subst (λ n. Contains (lines ++ Part part ∷ []) (Part (record { number = earlier + 1; parts = n; count = count }))) (sym long) (Contains-append_left lines (Part part ∷ []) _ old)
  ]

  all_new : (other : CountedPart) → Contains (lines ++ Part part ∷ []) (Part other) → (other.parts ≡ length after) × (slice_get after (other.number - 1) ≡ Some (Some other.count))
  all_new other has =
      ⊎_elim
      (λ h. let old = told.all other h in
      (old.0 ∙ sym long, set_kept counts place (other.number - 1) (Some part.count) (Some other.count) (λ same. none_is_some other.count (some_is None (Some other.count) (sym open_place ∙ subst (λ i. slice_get counts i ≡ Some (Some other.count)) same old.1))) old.1))
      (λ e. subst (λ (p : CountedPart). (p.parts ≡ length after) × (slice_get after (p.number - 1) ≡ Some (Some p.count))) (same_part part other e) (parts ∙ sym long, set_same counts place (Some part.count) within))
      (Contains-push_cases lines (Part part) (Part other) has)

  pub counts_new : TellCounts (lines ++ Part part ∷ []) (set counts (part.number - 1) (Some part.count))
  counts_new = record {
    some = λ _. (part, Contains-push lines (Part part));
    told = record { each = each_new; all = all_new };
  }

-- ---- the first part that is named

empty_names_none : (lines : List Line) (counts : List (Option ℕ)) → length counts ≡ 0 → AreTold lines counts → NameNoPart lines
empty_names_none lines counts none told = λ part has.
    let lt = slice_get_within counts (part.number - 1) (Some part.count) (told.all part has).1 in
    omega (arith, lt, none)

abbrev nothing : Option ℕ
nothing = None

open_at : (n i : ℕ) → i < n → slice_get (replicate n nothing) i ≡ Some nothing
open_at n i lt = slice_get_read (replicate n nothing) n i nothing (sym (length-replicate n nothing)) lt (sym (get_or-replicate n i nothing nothing lt))

never_counted : (n i count : ℕ) → slice_get (replicate n nothing) i ≡ Some (Some count) → ⊥
never_counted n i count at =
    let within : i < n = omega (arith, slice_get_within (replicate n nothing) i (Some count) at, length-replicate n nothing) in
    none_is_some count (sym (get_or-replicate n i nothing nothing within) ∙ get_or_from_slice_get (replicate n nothing) i (Some count) nothing at)

pub counts_first : (lines : List Line) (part : CountedPart) (counts : List (Option ℕ)) → length counts ≡ 0 → 1 ≤ part.number → part.number ≤ part.parts → TellCounts lines counts → TellCounts (lines ++ Part part ∷ []) (set (replicate part.parts None) (part.number - 1) (Some part.count))
counts_first lines part counts empty some_number within_parts tell =
    counts_new lines part (replicate part.parts None) some_number (sym (length-replicate part.parts nothing)) (open_at part.parts (part.number - 1) (omega arith)) (record {
      each = λ earlier count at. absurd (never_counted part.parts earlier count at);
      all = λ other has. absurd (empty_names_none lines counts empty tell.told other has);
    })

pub no_part : (lines : List Line) (counts : List (Option ℕ)) → length counts ≡ 0 → TellCounts lines counts → NameNoPart lines
no_part lines counts none tell = empty_names_none lines counts none tell.told

-- ---- all lines

only : {X : Type 0} (Named : X → Type 0) (o : Option X) → IsOnly Named o → (x y : X) → Named x → Named y → x ≡ y
only Named None unnamed x y has_x has_y = absurd (unnamed x has_x)
only Named (Some z) one x y has_x has_y = one.1 x has_x ∙ sym (one.1 y has_y)

pub go_together : (tally : Tally) (lines : List Line) → Tells tally lines → GoTogether lines
go_together tally lines tells = record {
  one_puzzle = λ x y has_x has_y. only (λ digest. Contains lines (Puzzle digest)) tally.puzzle tells.puzzle x y has_x has_y;
  one_split = λ x y has_x has_y. only (λ split. Contains lines (Split split)) tally.split tells.split x y has_x has_y;
  one_number = λ a b has_a has_b. (tells.counts.told.all a has_a).0 ∙ sym (tells.counts.told.all b has_b).0;
  one_count = λ a b has_a has_b same. some_is a.count b.count (some_is (Some a.count) (Some b.count) (sym (tells.counts.told.all a has_a).1 ∙ ap (λ n. slice_get tally.counts.items (n - 1)) same ∙ (tells.counts.told.all b has_b).1));
}

pub counts_whole : (lines : List Line) (counts : List (Option ℕ)) (numbers : List ℕ) → TellCounts lines counts → 0 < length counts → counts ≡ map some numbers → AreCountsOf lines numbers
counts_whole lines counts numbers tell some_parts is =
    let long : length counts ≡ length numbers = ap length is ∙ length-map numbers some in
    record {
      some = omega (arith, long, some_parts);
      each = λ earlier count at.
          let here : slice_get counts earlier ≡ Some (Some count) = ap (λ cs. slice_get cs earlier) is ∙ slice_get-map some numbers earlier ∙ ap (option_map some) at in
          subst (λ n. Contains lines (Part (record { number = earlier + 1; parts = n; count = count }))) long (tell.told.each earlier count here);
      all = λ part has.
          let old = tell.told.all part has in
          let mapped = mapped_at some numbers (part.number - 1) (Some part.count) (ap (λ cs. slice_get cs (part.number - 1)) (sym is) ∙ old.1) in
          (old.0 ∙ long, mapped.1 ∙ ap some (sym (some_is part.count mapped.0 mapped.2)));
    }

pub has_total : (tally : Tally) (lines : List Line) (digest : List ℕ) (split : SplitLine) (total : ℕ) → tally.puzzle ≡ Some digest → tally.split ≡ Some split → 0 < length tally.counts.items → HaveSum tally.counts.items total → Tells tally lines → HaveTotal lines total
has_total tally lines digest split total puzzle_is split_is some_parts added tells = record {
  together = go_together tally lines tells;
  puzzle = (digest, (subst (IsOnly (λ d. Contains lines (Puzzle d))) puzzle_is tells.puzzle).0);
  split = (split, (subst (IsOnly (λ s. Contains lines (Split s))) split_is tells.split).0);
  counts = added.0;
  are_counts = counts_whole lines tally.counts.items added.0 tells.counts some_parts added.1;
  is = added.2;
}

-- ---- what is missing

pub names_puzzle : (tally : Tally) (lines : List Line) (digest : List ℕ) → tally.puzzle ≡ Some digest → Tells tally lines → NameNoPuzzle lines → ⊥
names_puzzle tally lines digest is tells unnamed = unnamed digest (subst (IsOnly (λ d. Contains lines (Puzzle d))) is tells.puzzle).0

pub names_split : (tally : Tally) (lines : List Line) (split : SplitLine) → tally.split ≡ Some split → Tells tally lines → NameNoSplit lines → ⊥
names_split tally lines split is tells unnamed = unnamed split (subst (IsOnly (λ s. Contains lines (Split s))) is tells.split).0

pub lacks_part : (lines : List Line) (counts : List (Option ℕ)) (number parts : ℕ) → TellCounts lines counts → 0 < length counts → IsFirstWithout counts (faults.Missing number parts) → LackPart lines number parts
lacks_part lines counts number parts tell some_parts first =
    let named = tell.some some_parts in
    let place = slice_get_within counts (number - 1) None first.2 in
    record {
      named = (named.0, named.1, (tell.told.all named.0 named.1).0 ∙ sym first.0);
      some = first.1;
      within = omega (arith, place, first.0, first.1);
      lacking = λ (part, has, is). none_is_some part.count (some_is None (Some part.count) (sym first.2 ∙ subst (λ n. slice_get counts (n - 1) ≡ Some (Some part.count)) is (tell.told.all part has).1));
      least = λ other some_other before.
          let counted = first.3 (other - 1) (omega arith) in
          let same : (other - 1) + 1 ≡ other = omega arith in
          (_, tell.told.each (other - 1) counted.0 counted.1, same);
    }

-- ---- a line more

pub more_puzzle : (tally : Tally) (lines : List Line) (digest : List ℕ) → tally.puzzle ≡ Some digest → Tells tally lines → Tells tally (lines ++ Puzzle digest ∷ [])
more_puzzle tally lines digest is tells = record {
  puzzle = subst (IsOnly (λ d. Contains (lines ++ Puzzle digest ∷ []) (Puzzle d))) (sym is) (only_again Puzzle lines digest (same_puzzle digest) (subst (IsOnly (λ d. Contains lines (Puzzle d))) is tells.puzzle));
  split = only_kept Split lines (Puzzle digest) tally.split (puzzle_is_split digest) tells.split;
  counts = counts_kept lines (Puzzle digest) tally.counts.items (puzzle_is_part digest) tells.counts;
}

pub first_puzzle : (tally new : Tally) (lines : List Line) (digest : List ℕ) → tally.puzzle ≡ None → new.puzzle ≡ Some digest → new.split ≡ tally.split → new.counts.items ≡ tally.counts.items → Tells tally lines → Tells new (lines ++ Puzzle digest ∷ [])
first_puzzle tally new lines digest unnamed is same_splits same_counts tells = record {
  puzzle = subst (IsOnly (λ d. Contains (lines ++ Puzzle digest ∷ []) (Puzzle d))) (sym is) (only_first Puzzle lines digest (same_puzzle digest) (subst (IsOnly (λ d. Contains lines (Puzzle d))) unnamed tells.puzzle));
  split = subst (IsOnly (λ s. Contains (lines ++ Puzzle digest ∷ []) (Split s))) (sym same_splits) (only_kept Split lines (Puzzle digest) tally.split (puzzle_is_split digest) tells.split);
  counts = subst (TellCounts (lines ++ Puzzle digest ∷ [])) (sym same_counts) (counts_kept lines (Puzzle digest) tally.counts.items (puzzle_is_part digest) tells.counts);
}

pub more_split : (tally : Tally) (lines : List Line) (split : SplitLine) → tally.split ≡ Some split → Tells tally lines → Tells tally (lines ++ Split split ∷ [])
more_split tally lines split is tells = record {
  puzzle = only_kept Puzzle lines (Split split) tally.puzzle (λ d e. puzzle_is_split d split (sym e)) tells.puzzle;
  split = subst (IsOnly (λ s. Contains (lines ++ Split split ∷ []) (Split s))) (sym is) (only_again Split lines split (same_split split) (subst (IsOnly (λ s. Contains lines (Split s))) is tells.split));
  counts = counts_kept lines (Split split) tally.counts.items (split_is_part split) tells.counts;
}

pub first_split : (tally new : Tally) (lines : List Line) (split : SplitLine) → tally.split ≡ None → new.split ≡ Some split → new.puzzle ≡ tally.puzzle → new.counts.items ≡ tally.counts.items → Tells tally lines → Tells new (lines ++ Split split ∷ [])
first_split tally new lines split unnamed is same_puzzles same_counts tells = record {
  puzzle = subst (IsOnly (λ d. Contains (lines ++ Split split ∷ []) (Puzzle d))) (sym same_puzzles) (only_kept Puzzle lines (Split split) tally.puzzle (λ d e. puzzle_is_split d split (sym e)) tells.puzzle);
  split = subst (IsOnly (λ s. Contains (lines ++ Split split ∷ []) (Split s))) (sym is) (only_first Split lines split (same_split split) (subst (IsOnly (λ s. Contains lines (Split s))) unnamed tells.split));
  counts = subst (TellCounts (lines ++ Split split ∷ [])) (sym same_counts) (counts_kept lines (Split split) tally.counts.items (split_is_part split) tells.counts);
}

pub more_counts : (tally new : Tally) (lines : List Line) (part : CountedPart) → new.puzzle ≡ tally.puzzle → new.split ≡ tally.split → TellCounts (lines ++ Part part ∷ []) new.counts.items → Tells tally lines → Tells new (lines ++ Part part ∷ [])
more_counts tally new lines part same_puzzles same_splits counts tells = record {
  puzzle = subst (IsOnly (λ d. Contains (lines ++ Part part ∷ []) (Puzzle d))) (sym same_puzzles) (only_kept Puzzle lines (Part part) tally.puzzle (λ d e. puzzle_is_part d part (sym e)) tells.puzzle);
  split = subst (IsOnly (λ s. Contains (lines ++ Part part ∷ []) (Split s))) (sym same_splits) (only_kept Split lines (Part part) tally.split (λ s e. split_is_part s part (sym e)) tells.split);
  counts = counts;
}

pub same_splits : (known split : SplitLine) → (eqb known.branches split.branches && eqb known.hash split.hash) ≡ true → known ≡ split
same_splits known split e =
    let parts = both (eqb known.branches split.branches) (eqb known.hash split.hash) e in
    ap₂ (λ (branches hash : ℕ). record { branches = branches; hash = hash }) (eqb-true known.branches split.branches parts.0) (eqb-true known.hash split.hash parts.1)

pub clashing_count : (tally : Tally) (lines : List Line) (part : CountedPart) (known : ℕ) → 1 ≤ part.number → part.parts ≡ length tally.counts.items → slice_get tally.counts.items (part.number - 1) ≡ Some (Some known) → (known ≡ part.count → ⊥) → Tells tally lines → ClashesWith lines (Part part) (clashes.Count part.number part.parts known)
clashing_count tally lines part known some_number parts at differs tells =
    let named = tells.counts.told.each (part.number - 1) known at in
    (part, _, refl, named, refl, omega arith, refl, sym parts, refl, λ e. differs (sym e))

pub clashing_parts : (tally : Tally) (lines : List Line) (part : CountedPart) (earlier : ℕ) → 0 < length tally.counts.items → earlier ≡ length tally.counts.items → (part.parts ≡ earlier → ⊥) → Tells tally lines → ClashesWith lines (Part part) (clashes.Parts part.parts earlier)
clashing_parts tally lines part earlier some_parts is differs tells =
    let named = tells.counts.some some_parts in
    (part, named.0, refl, named.1, refl, (tells.counts.told.all named.0 named.1).0 ∙ sym is, differs)

-- ---- what options hold

pub has_some : {X : Type 0} (o : Option X) → is_some o ≡ true → (x : X) × (o ≡ some x)
has_some None e = absurd cc
has_some (Some x) e = (x, refl)

pub has_none : {X : Type 0} (o : Option X) → is_some o ≡ false → o ≡ none
has_none None e = refl
has_none (Some x) e = absurd cc

pub lacks_at_end : (tally : Tally) (lines : List Line) (fault : PartsFault) → (NameNoPuzzle lines → ⊥) → (NameNoSplit lines → ⊥) → 0 < length tally.counts.items → Tells tally lines → IsFirstWithout tally.counts.items fault → Lack lines fault
lacks_at_end tally lines (faults.Missing number parts) puzzle split some_parts tells first = (puzzle, split, lacks_part lines tally.counts.items number parts tells.counts some_parts first)
lacks_at_end tally lines (faults.Ends at) puzzle split some_parts tells first = absurd first
lacks_at_end tally lines (faults.Unknown at) puzzle split some_parts tells first = absurd first
lacks_at_end tally lines (faults.Clashes at clash) puzzle split some_parts tells first = absurd first
lacks_at_end tally lines faults.NoPuzzle puzzle split some_parts tells first = absurd first
lacks_at_end tally lines faults.NoSplit puzzle split some_parts tells first = absurd first
lacks_at_end tally lines faults.NoPart puzzle split some_parts tells first = absurd first
lacks_at_end tally lines faults.Memory puzzle split some_parts tells first = absurd first
