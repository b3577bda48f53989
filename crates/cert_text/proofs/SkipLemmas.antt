-- A line that is read is the one that is gone past, whatever it says.
use Rattle.std.proofs.Common.{◌≡◌, ℕ, zero, suc, ◌+◌, ◌-◌, ◌<◌, List, [], ◌∷◌, ◌++◌, Some, Result, Ok, Err, true, false, inl, inr, is_err, refl, sym, ap, subst, ◌∙◌, append_assoc, arith}
use Rattle.std.specs.List.{join_with_byte}
use Rattle.std.proofs.lemmas.List.{append-nil}
use Rattle.text_words.specs.declared.faults.TextFault.{TextFault}
use Rattle.match_limits.specs.declared.ranges.Ranges.{Ranges}
use Rattle.match_limits.specs.Ranges.{AreRanges}
use Rattle.text_words.specs.Bytes.{cut_at, line_ends, words_of}
use Rattle.text_words.specs.Place.{Place, Read, ◌>>=◌, Gives, give, next_line, skip_line, skip_lines, times}
use Rattle.text_words.specs.Spelling.{line_text, text_of}
use Rattle.text_words.proofs.CutLemmas.{CutsShort, bind_ok, cuts_next_line, ok_is, place, runs_out}
use Rattle.text_words.proofs.WordLemmas.{are_clean}
use Rattle.text_words.proofs.LineLemmas.{TakesLines, cut_join}
use Rattle.cert_tree.specs.Certificate.{Piece}
use Rattle.cert_tree.specs.Limits.{IsLemmaWithin}
use Rattle.cert_text.specs.CertificateText.{lemma_line}
use Rattle.cert_text.specs.CertificateSpelling.{lemma_words}
use Rattle.cert_text.proofs.LemmaTextLemmas.{clean_lemma, cuts_lemma, takes_lemma}

-- ---- one line

-- the first line of a text of lines
first_cut : (words : List (List ℕ)) (rest : List ℕ) → are_clean words ≡ true → cut_at 10 (text_of (words ∷ []) ++ rest) ≡ Some (join_with_byte 32 words, rest)
unfolding text_of line_text
first_cut words rest clean =
    let joined = join_with_byte 32 words in
    let text : ((joined ++ 10 ∷ []) ++ []) ++ rest ≡ joined ++ 10 ∷ rest = ap (λ t. t ++ rest) (append-nil (joined ++ 10 ∷ [])) ∙ append_assoc joined (10 ∷ []) rest in
    ap (cut_at 10) text ∙ cut_join words rest clean

-- a line is gone past where it is cut
past_cut : (p : Place) (parts : List ℕ × List ℕ) → cut_at 10 p.ahead ≡ Some parts → skip_line p ≡ Ok (tt, place (p.line + 1) [] parts.1)
unfolding skip_line next_line
past_cut p parts is = rw is refl

-- lines that are read are counted
lines_kept : {X : Type 0} (r : Read X) → CutsShort r → (p : Place) (x : X) (q : Place) → r p ≡ Ok (x, q) → q.line + line_ends q.ahead ≡ p.line + line_ends p.ahead
lines_kept {X} r cuts p x q e =
    let whole : r (place p.line p.words (p.ahead ++ [])) ≡ Ok (x, q) = subst (λ (t : List ℕ). r (place p.line p.words t) ≡ Ok (x, q)) (sym (append-nil p.ahead)) e in
    elim (cuts p.line p.words p.ahead [] x q whole) [
      | inl s ↦ ap (λ t. q.line + line_ends t) (s.1.left ∙ append-nil s.0) ∙ s.1.lines
      | inr h ↦ absurd (no_fault (r p) e h)
    ]
  where
    no_fault : (read : Result (X × Place) TextFault) → read ≡ Ok (x, q) → read ≡ runs_out p.line p.ahead → ⊥
    no_fault read is not = absurd cc

-- the next line, where it is cut
next_cut : (p : Place) (parts : List ℕ × List ℕ) → cut_at 10 p.ahead ≡ Some parts → next_line p ≡ Ok (tt, place (p.line + 1) (words_of parts.0) parts.1)
unfolding next_line
next_cut p parts is = rw is refl

-- behind it, a line end less is left
one_less : (p : Place) (parts : List ℕ × List ℕ) → cut_at 10 p.ahead ≡ Some parts → line_ends p.ahead ≡ line_ends parts.1 + 1
one_less p parts is =
    let kept : p.line + 1 + line_ends parts.1 ≡ p.line + line_ends p.ahead = lines_kept next_line cuts_next_line p tt (place (p.line + 1) (words_of parts.0) parts.1) (next_cut p parts is) in
    omega arith

module _ {X : Type 0} (r : Read X) (words_by : X → List (List ℕ)) (Fits : X → Type 0) (takes : TakesLines r (λ x. words_by x ∷ []) Fits) (cuts : CutsShort r) (clean : (x : X) → Fits x → are_clean (words_by x) ≡ true) where
  -- a line that is read is gone past
  line_read : (p : Place) (x : X) (q : Place) → r p ≡ Ok (x, q) → skip_line p ≡ Ok (tt, q)
  line_read p x q e =
      let taken = takes.is p x q e in
      let cut : cut_at 10 p.ahead ≡ Some (join_with_byte 32 (words_by x), q.ahead) = ap (cut_at 10) taken.0 ∙ first_cut (words_by x) q.ahead (clean x taken.1) in
      let again = takes.passes x taken.1 p.line p.words q.ahead in
      let read : r p ≡ Ok (x, place again.0 [] q.ahead) = ap (λ (t : List ℕ). r (place p.line p.words t)) taken.0 ∙ again.1 in
      let words : q.words ≡ [] = ap (λ (z : X × Place). z.1.words) (ok_is (x, q) (x, place again.0 [] q.ahead) (sym e ∙ read)) in
      let ends = one_less p (join_with_byte 32 (words_by x), q.ahead) cut in
      let line : q.line ≡ p.line + 1 = let kept = lines_kept r cuts p x q e in omega arith in
      past_cut p (join_with_byte 32 (words_by x), q.ahead) cut ∙ ap (λ n. Ok (tt, place n [] q.ahead)) (sym line) ∙ ap (λ (ws : List (List ℕ)). Ok (tt, place q.line ws q.ahead)) (sym words)

  pub lines_read : (n : ℕ) (p : Place) (xs : List X) (q : Place) → times n r p ≡ Ok (xs, q) → skip_lines n p ≡ Ok (tt, q)
  unfolding times skip_lines
  lines_read zero p xs q e = ap (λ (z : List X × Place). Ok (tt, z.1)) (ok_is ([], p) (xs, q) e)
  lines_read (suc n) p xs q e =
      let a = bind_ok (r p) (λ x. times n r >>= λ ys. give (x ∷ ys)) (xs, q) e in
      let b = bind_ok (times n r a.0.1) (λ ys. give (a.0.0 ∷ ys)) (xs, q) a.2 in
      let there : skip_lines (suc n) p ≡ Ok (tt, b.0.1) = rw (line_read p a.0.0 a.0.1 a.1, lines_read n a.0.1 b.0.0 b.0.1 b.1) refl in
      there ∙ ap (λ (z : List X × Place). Ok (tt, z.1)) (ok_is (a.0.0 ∷ b.0.0, b.0.1) (xs, q) b.2)

-- lemma lines that are read are gone past
pub lemmas_read : (ranges : Ranges) → AreRanges ranges → (n : ℕ) (p : Place) (pieces : List Piece) (q : Place) → times n (lemma_line ranges) p ≡ Ok (pieces, q) → skip_lines n p ≡ Ok (tt, q)
lemmas_read ranges are = lines_read (lemma_line ranges) lemma_words (IsLemmaWithin ranges.most_cells) (takes_lemma ranges are) (cuts_lemma ranges are) (clean_lemma ranges are)

-- ---- so many lines

pub skip_split : (n k : ℕ) (p m : Place) → skip_lines n p ≡ Ok (tt, m) → skip_lines (n + k) p ≡ skip_lines k m
unfolding skip_lines
skip_split zero k p m e = ap (λ j. skip_lines j p) (let none : 0 + k ≡ k = omega arith in none) ∙ ap (λ (z : Unit {0} × Place). skip_lines k z.1) (ok_is (tt, p) (tt, m) e)
skip_split (suc n) k p m e =
    let a = bind_ok (skip_line p) (λ _. skip_lines n) (tt, m) e in
    let more : suc n + k ≡ suc (n + k) = omega arith in
    ap (λ j. skip_lines j p) more ∙ rw a.1 (skip_split n k a.0.1 m a.2)

-- no line
pub none_past : (p : Place) → skip_lines 0 p ≡ Ok (tt, p)
unfolding skip_lines
none_past p = refl

-- one line more
pub skip_more : (n : ℕ) (p m q : Place) → skip_lines n p ≡ Ok (tt, m) → skip_line m ≡ Ok (tt, q) → skip_lines (n + 1) p ≡ Ok (tt, q)
unfolding skip_lines
skip_more n p m q so_far e = skip_split n 1 p m so_far ∙ rw e refl

-- a line is missing
pub skip_ends : (n most : ℕ) (p m q : Place) (fault : TextFault) → n < most → skip_lines n p ≡ Ok (tt, m) → skip_line m ≡ Err fault → skip_lines most p ≡ Ok (tt, q) → ⊥
unfolding skip_lines
skip_ends n most p m q fault lt so_far e whole =
    let more : most ≡ n + suc (most - suc n) = omega (arith, lt) in
    let fails : skip_lines most p ≡ Err fault = ap (λ j. skip_lines j p) more ∙ skip_split n (suc (most - suc n)) p m so_far ∙ rw e refl in
    absurd (clash (skip_lines most p) whole fails)
  where
    clash : (read : Result (Unit {0} × Place) TextFault) → read ≡ Ok (tt, q) → read ≡ Err fault → ⊥
    clash read is not = absurd cc

-- ---- what a call that goes past a line returned

pub skip_failed : (result : Result (Unit {0}) TextFault) (m q : Place) → true ≡ is_err result → Gives (λ _. tt) result q (skip_line m) → (fault : TextFault) × (skip_line m ≡ Err fault)
skip_failed (Ok x) m q is gives = absurd cc
skip_failed (Err fault) m q is gives = (fault, gives)

pub skip_passed : (result : Result (Unit {0}) TextFault) (m q : Place) → false ≡ is_err result → Gives (λ _. tt) result q (skip_line m) → skip_line m ≡ Ok (tt, q)
skip_passed (Ok x) m q is gives = gives
skip_passed (Err fault) m q is gives = absurd cc

-- a place behind so many lines is the only one
pub one_place : (n : ℕ) (p m q : Place) → skip_lines n p ≡ Ok (tt, m) → skip_lines n p ≡ Ok (tt, q) → q ≡ m
one_place n p m q there here = ap (λ (z : Unit {0} × Place). z.1) (ok_is (tt, q) (tt, m) (sym here ∙ there))
