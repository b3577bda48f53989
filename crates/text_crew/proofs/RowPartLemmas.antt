-- A list's lines in parts, one behind the other.
use Rattle.std.proofs.Common.{◌≡◌, ◌<◌, ◌+◌, ◌-◌, ℕ, zero, suc, List, [], ◌∷◌, Result, Ok, Err, IfOk, Vec, Global, vec_len, length, get_or, drop, arith, sym, ap, subst, ◌∙◌}
use Rattle.std.proofs.Math.ListN.{drop_of_length-le}
use Rattle.std.proofs.lemmas.List.Folds.{drop_split}
use Rattle.std.proofs.Math.Seq.{drop-cons}
use Rattle.match_limits.proofs.ListLemmas.{member_at}
use Rattle.match_puzzle.specs.declared.placements.Placement.{Placement}
use Rattle.match_text.specs.declared.row_lines.RowLines.{RowLines}
use Rattle.match_text.specs.RowLines.{AreLinesOf, AreParts}
use Rattle.steal_crew.specs.Results.{Belongs}
use Rattle.cert_text.specs.LemmaParts.{AreStarts, part_start}
use Rattle.text_crew.specs.Texts.{rows_of_part}

module _ (rows : List (List Placement)) (starts : List ℕ) (parts : List RowLines) (are : AreStarts (length rows) starts) (many : length starts ≡ length parts + 1) (each : Belongs (λ n lines. AreLinesOf (rows_of_part rows starts n) lines) parts) where
  -- the parts from this one on are the lines of the rows from there on
  from_part : (left n : ℕ) → n + left ≡ length parts → AreParts (drop (part_start starts n) rows) (drop n parts)
  from_part zero n at =
      let last : n ≡ length starts - 1 = omega (arith, at, many) in
      let ends : part_start starts n ≡ length rows = ap (part_start starts) last ∙ are.to_last in
      let none : drop n parts ≡ [] = drop_of_length-le parts (omega (arith, at)) in
      let no_rows : drop (part_start starts n) rows ≡ [] = drop_of_length-le rows (omega (arith, ends)) in
      subst (AreParts (drop (part_start starts n) rows)) (sym none) no_rows
  from_part (suc left) n at =
      let lt : n < length parts = omega (arith, at) in
      let lines = (member_at parts n lt).0 in
      let next : suc n ≡ n + 1 = omega arith in
      let rest = from_part left (n + 1) (omega (arith, at)) in
      let rising = are.rising n (omega (arith, lt, many)) in
      subst (AreParts (drop (part_start starts n) rows)) (sym (drop-cons parts n lines lt ∙ ap (λ k. get_or parts n lines ∷ drop k parts) next))
      (rows_of_part rows starts n, drop (part_start starts (n + 1)) rows, drop_split rows (part_start starts n) (part_start starts (n + 1)) rising, each n lines lt, rest)

  pub all_row_parts : AreParts rows parts
  all_row_parts = subst (λ k. AreParts (drop k rows) parts) are.from_first (from_part (length parts) 0 (omega arith))

-- what a crew wrote
pub parts_of : {E : Type 0} (rows : List (List Placement)) (starts : List ℕ) (count : ℕ) (result : Result (Vec RowLines Global) E) → AreStarts (length rows) starts → length starts ≡ count + 1 → IfOk result (λ parts. vec_len parts ≡ count)
    → IfOk result (λ parts. Belongs (λ n lines. AreLinesOf (rows_of_part rows starts n) lines) parts.items) → IfOk result (λ parts. AreParts rows parts.items)
parts_of rows starts count (Ok parts) are long many each = all_row_parts rows starts parts.items are (omega (arith, long, many, parts.ok.0)) each
parts_of rows starts count (Err e) are long many each = tt
