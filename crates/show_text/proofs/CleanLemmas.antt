-- Lines are read back from their text.
use Rattle.std.proofs.Common.{◌≡◌, ◌<◌, ◌≤◌, ◌+◌, ◌-◌, ◌%◌, ◌^◌, ◌++◌, ℕ, zero, suc, List, [], ◌∷◌, Some, None, true, length, replicate, reverse, take, decimal, get_or, slice_get, refl, ap, sym, subst, ◌∙◌, append_assoc, arith, ⊎_elim}
use Rattle.std.specs.Char.{is_ascii_whitespace}
use Rattle.std.specs.List.{suffix_len}
use Rattle.std.proofs.lemmas.Bool.{cases_lt}
use Rattle.std.proofs.lemmas.Bool.Decides.{nat_tests}
use Rattle.std.proofs.lemmas.Fmt.{decimal_by_steps}
use Rattle.std.proofs.lemmas.List.{get_or-take, get_or_past, get_or-reverse, length-take-le, get_or-append_right, get_or_append_left, ext_get_or}
use Rattle.std.proofs.lemmas.List.Sums.{prefix_len_passes, suffix_len-le-length}
use Rattle.match_puzzle.proofs.Prefixes.{inside}
use Rattle.show_text.specs.Pieces.{sheet_text}
use Rattle.show_text.specs.Laws.{HasAt}

none_some : {X : Type 0} {x : X} → None ≡ Some x → ⊥
none_some e = cc

-- ---- bytes

-- The byte is no white space but a space.
abbrev pub IsClean : ℕ → Type 0
IsClean byte = is_ascii_whitespace byte ≡ true → byte ≡ 32

pub clean_above : (byte : ℕ) → 32 < byte → IsClean byte
clean_above byte lt white = absurd (grind (arith, nat_tests))

pub clean_space : IsClean 32
clean_space white = refl

-- ---- lines

-- Each byte of the line is clean.
abbrev pub AreClean : List ℕ → Type 0
AreClean [] = Unit {0}
AreClean (byte ∷ line) = IsClean byte × AreClean line

pub clean_append : (xs ys : List ℕ) → AreClean xs → AreClean ys → AreClean (xs ++ ys)
clean_append [] ys c d = d
clean_append (x ∷ xs) ys c d = (c.0, clean_append xs ys c.1 d)

pub clean_replicate : (count byte : ℕ) → IsClean byte → AreClean (replicate count byte)
clean_replicate zero byte c = tt
clean_replicate (suc count) byte c = (c, clean_replicate count byte c)

pub clean_decimal : (n : ℕ) → n < 2 ^ 64 → AreClean (decimal n)
clean_decimal n lt =
    decimal_by_steps (λ m ds. AreClean ds)
    (λ m few. (clean_above (48 + m) (omega arith), tt))
    (λ m ds many c. clean_append ds ((48 + m % 10) ∷ []) c (clean_above (48 + m % 10) (omega arith), tt))
    n lt

clean_at : (line : List ℕ) (k : ℕ) → AreClean line → IsClean (get_or line k 32)
clean_at [] k c = clean_space
clean_at (x ∷ line) zero c = c.0
clean_at (x ∷ line) (suc k) c = clean_at line k c.1

clean_take : (n : ℕ) (line : List ℕ) → AreClean line → AreClean (take n line)
clean_take zero line c = tt
clean_take (suc n) [] c = tt
clean_take (suc n) (x ∷ line) c = (c.0, clean_take n line c.1)

-- a line without the spaces at its end
abbrev trimmed : List ℕ → List ℕ
trimmed line = take (length line - suffix_len is_ascii_whitespace line) line

-- it has the same bytes, and spaces behind them
trimmed_reads : (line : List ℕ) (k : ℕ) → AreClean line → get_or (trimmed line) k 32 ≡ get_or line k 32
trimmed_reads line k c =
    ⊎_elim inner (λ le. get_or_past (trimmed line) k 32 (omega (arith, le, short)) ∙ sym (blank le)) (cases_lt k end)
  where
    end : ℕ
    end = length line - suffix_len is_ascii_whitespace line

    few : suffix_len is_ascii_whitespace line ≤ length line
    few = suffix_len-le-length is_ascii_whitespace line

    short : length (trimmed line) ≡ end
    short = length-take-le end line (omega arith)

    inner : k < end → get_or (trimmed line) k 32 ≡ get_or line k 32
    inner lt = rw get_or-take refl

    blank : end ≤ k → get_or line k 32 ≡ 32
    blank le =
        ⊎_elim
        (λ lt.
        let back : length line - 1 - k < length line = omega (arith, lt) in
        let here : length line - 1 - (length line - 1 - k) ≡ k = omega (arith, lt) in
        let turned = get_or-reverse line (length line - 1 - k) 32 back ∙ ap (λ n. get_or line n 32) here in
        let passes = prefix_len_passes is_ascii_whitespace (reverse line) (length line - 1 - k) 32 (omega (arith, lt, le, few)) in
        clean_at line k c (ap is_ascii_whitespace (sym turned) ∙ passes))
        (λ past. get_or_past line k 32 past)
        (cases_lt k (length line))

-- texts whose first lines end at the first LF
cut : (xs ys rest rest' : List ℕ) → AreClean xs → AreClean ys → (xs ++ 10 ∷ []) ++ rest ≡ (ys ++ 10 ∷ []) ++ rest' → (xs ≡ ys) × (rest ≡ rest')
cut [] [] rest rest' c d e = (refl, cc)
cut [] (y ∷ ys) rest rest' c d e = let same : 10 ≡ y = cc in absurd (omega (arith, subst IsClean (sym same) d.0 refl))
cut (x ∷ xs) [] rest rest' c d e = let same : x ≡ 10 = cc in absurd (omega (arith, subst IsClean same c.0 refl))
cut (x ∷ xs) (y ∷ ys) rest rest' c d e =
    let same : x ≡ y = cc in
    let tail : (xs ++ 10 ∷ []) ++ rest ≡ (ys ++ 10 ∷ []) ++ rest' = cc in
    let found = cut xs ys rest rest' c.1 d.1 tail in
    (cc (same, found.0), found.1)

-- Each line is clean.
abbrev pub AreCleanLines : List (List ℕ) → Type 0
AreCleanLines [] = Unit {0}
AreCleanLines (line ∷ lines) = AreClean line × AreCleanLines lines

-- lines of the same text have the same bytes at the same places
pub same_lines : (ls ms : List (List ℕ)) → AreCleanLines ls → AreCleanLines ms → sheet_text ls ≡ sheet_text ms → (n : ℕ) (l m : List ℕ) → slice_get ls n ≡ Some l → slice_get ms n ≡ Some m → (k : ℕ) → get_or l k 32 ≡ get_or m k 32
same_lines [] ms c d e n l m at at' k = absurd (none_some at)
same_lines (l' ∷ ls) [] c d e n l m at at' k = absurd (none_some at')
same_lines (l' ∷ ls) (m' ∷ ms) c d e zero l m at at' k =
    let both = cut (trimmed l') (trimmed m') (sheet_text ls) (sheet_text ms) (clean_take _ l' c.0) (clean_take _ m' d.0) e in
    ap (λ x. get_or x k 32) (sym (inside at)) ∙ sym (trimmed_reads l' k c.0) ∙ ap (λ x. get_or x k 32) both.0 ∙ trimmed_reads m' k d.0 ∙ ap (λ x. get_or x k 32) (inside at')
same_lines (l' ∷ ls) (m' ∷ ms) c d e (suc n) l m at at' k =
    let both = cut (trimmed l') (trimmed m') (sheet_text ls) (sheet_text ms) (clean_take _ l' c.0) (clean_take _ m' d.0) e in
    same_lines ls ms c.1 d.1 both.1 n l m at at' k

-- what stands in a line at a column
read_at : (before bytes after : List ℕ) (k : ℕ) → k < length bytes → get_or (before ++ bytes ++ after) (length before + k) 32 ≡ get_or bytes k 32
read_at before bytes after k lt =
    ap (λ l. get_or l (length before + k) 32) (append_assoc before bytes after)
    ∙ get_or-append_right before (bytes ++ after) (length before) (length before + k) 32 refl (omega arith)
    ∙ ap (λ n. get_or (bytes ++ after) n 32) (let e : length before + k - length before ≡ k = omega arith in e)
    ∙ get_or_append_left bytes after 32 k lt

-- the same bytes stand at the same place of lines of the same text
pub same_bytes : (ls ms : List (List ℕ)) → AreCleanLines ls → AreCleanLines ms → sheet_text ls ≡ sheet_text ms → (line column : ℕ) (xs ys : List ℕ) → length xs ≡ length ys → HasAt ls line column xs → HasAt ms line column ys → xs ≡ ys
same_bytes ls ms c d e line column xs ys long h h' =
    ext_get_or 32 xs ys long (λ k lt.
    sym (read_at h.before xs h.after k lt)
    ∙ same_lines ls ms c d e line (h.before ++ xs ++ h.after) (h'.before ++ ys ++ h'.after) h.line_is h'.line_is (length h.before + k)
    ∙ ap (λ n. get_or (h'.before ++ ys ++ h'.after) (n + k) 32) (h.column_is ∙ sym h'.column_is)
    ∙ read_at h'.before ys h'.after k (omega (arith, lt, long)))
