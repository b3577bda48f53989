-- A list's lines, part by part.
use Rattle.std.proofs.Common.{◌≡◌, ◌⊎◌, ⊎_elim, List, [], ◌∷◌, ◌++◌, Bool, true, false, MatchBool, length, map, ℕ, refl, sym, ap, subst, ◌∙◌}
use Rattle.std.specs.List.{AllByRecursion, flat_map}
use Rattle.std.proofs.lemmas.List.{map-append}
use Rattle.match_puzzle.specs.declared.placements.Placement.{Placement}
use Rattle.text_words.specs.Spelling.{end_lines, text_of}
use Rattle.match_limits.specs.declared.ranges.TheConstants.{FIRST, SECOND}
use Rattle.text_words.proofs.WritingLemmas.{text_of-append}
use Rattle.match_text.specs.ListSpelling.{IsListWithin, IsRowWithin, IsSpelledIn, arrangement_words, list_head, list_spelling}
use Rattle.match_text.specs.RowLines.{AreParts, whole_text}
use Rattle.match_text.specs.declared.row_lines.RowLines.{RowLines}
use Rattle.match_text.proofs.ListLemmas.{first_spelled, list_parts, second_spelled}

abbrev Rows : Type 0
Rows = List (List Placement)

-- the lines of these
abbrev lines_of : Rows → List ℕ
lines_of rows = text_of (map arrangement_words rows)

lines_of-append : (rows others : Rows) → lines_of (rows ++ others) ≡ lines_of rows ++ lines_of others
lines_of-append rows others = ap text_of (map-append arrangement_words rows others) ∙ text_of-append (map arrangement_words rows) (map arrangement_words others)

no_lines : lines_of [] ≡ []
unfolding text_of
no_lines = refl

-- all parts are the lines of all rows
pub parts_text : (rows : Rows) (parts : List RowLines) → AreParts rows parts → flat_map (λ part. part.text.items) parts ≡ lines_of rows
parts_text rows [] are = sym (ap lines_of are ∙ no_lines)
parts_text rows (part ∷ parts) are =
    let first = are.0 in
    let others = are.1 in
    ap (λ t. t ++ flat_map (λ p. p.text.items) parts) are.3.text ∙ ap (λ t. lines_of first ++ t) (parts_text others parts are.4)
    ∙ sym (ap lines_of are.2 ∙ lines_of-append first others)

module _ {X : Type 0} (P : X → Type 0) where
  both_all : (xs ys : List X) → AllByRecursion P xs → AllByRecursion P ys → AllByRecursion P (xs ++ ys)
  both_all [] ys one two = two
  both_all (x ∷ xs) ys one two = (one.0, both_all xs ys one.1 two)

  first_all : (xs ys : List X) → AllByRecursion P (xs ++ ys) → AllByRecursion P xs
  first_all [] ys all = tt
  first_all (x ∷ xs) ys all = (all.0, first_all xs ys all.1)

  others_all : (xs ys : List X) → AllByRecursion P (xs ++ ys) → AllByRecursion P ys
  others_all [] ys all = all
  others_all (x ∷ xs) ys all = others_all xs ys all.1

abbrev AreWithin : Rows → Type 0
AreWithin rows = AllByRecursion (IsRowWithin FIRST) rows

abbrev AreAllFirst : List RowLines → Type 0
AreAllFirst parts = AllByRecursion (λ (part : RowLines). part.is_first ≡ true) parts

told_true : (told : Bool) (X : Type 0) → MatchBool told X (X → ⊥) → X → told ≡ true
told_true true X tells x = refl
told_true false X tells x = absurd (tells x)

-- where all parts tell so, version 1 has the numbers for all rows
pub all_first : (rows : Rows) (parts : List RowLines) → AreParts rows parts → AreAllFirst parts → AreWithin rows
all_first rows [] are told = subst AreWithin (sym are) tt
all_first rows (part ∷ parts) are told =
    let first = are.0 in
    let others = are.1 in
    let here : AreWithin first = subst (λ b. MatchBool b (AreWithin first) (AreWithin first → ⊥)) told.0 are.3.first in
    subst AreWithin (sym are.2) (both_all (IsRowWithin FIRST) first others here (all_first others parts are.4 told.1))

-- and where it has, all tell so
pub first_all_parts : (rows : Rows) (parts : List RowLines) → AreParts rows parts → AreWithin rows → AreAllFirst parts
first_all_parts rows [] are within = tt
first_all_parts rows (part ∷ parts) are within =
    let first = are.0 in
    let others = are.1 in
    let apart = subst AreWithin are.2 within in (
      told_true part.is_first (AreWithin first) are.3.first (first_all (IsRowWithin FIRST) first others apart),
      first_all_parts others parts are.4 (others_all (IsRowWithin FIRST) first others apart),
    )

-- the version is the first that has the numbers
abbrev pub IsFirstVersion : (version : ℕ) → Type 0 → Type 0
IsFirstVersion version First = ((version ≡ 1) × First) ⊎ ((version ≡ 2) × (First → ⊥))

module _ (version : ℕ) (rows : Rows) (parts : List RowLines) (are : AreParts rows parts) (is : IsFirstVersion version (AreAllFirst parts)) (within : IsListWithin SECOND rows) where
  pub is_spelled : IsSpelledIn version rows
  is_spelled = ⊎_elim
      (λ one. subst (λ v. IsSpelledIn v rows) (sym one.0) (first_spelled rows (within.0, all_first rows parts are one.1)))
      (λ two. subst (λ v. IsSpelledIn v rows) (sym two.0) (second_spelled rows within))
      is

  pub is_one : IsListWithin FIRST rows → version ≡ 1
  is_one first = ⊎_elim (λ one. one.0) (λ two. absurd (two.1 (first_all_parts rows parts are first.1))) is

  pub is_two : (IsListWithin FIRST rows → ⊥) → version ≡ 2
  is_two not = ⊎_elim (λ one. absurd (not (within.0, all_first rows parts are one.1))) (λ two. two.0) is

  -- between what stands before the arrangements and the last line
  pub is_whole : whole_text (text_of (list_head version (length rows))) parts ≡ list_spelling version rows
  is_whole = ap (λ t. (text_of (list_head version (length rows)) ++ t) ++ text_of end_lines) (parts_text rows parts are) ∙ sym (list_parts version rows)
