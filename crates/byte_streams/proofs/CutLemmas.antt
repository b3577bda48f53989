-- Going on to the next line of a document.
use Rattle.std.proofs.Common.{◌≡◌, ℕ, ◌+◌, ◌<◌, ◌≤◌, Bool, true, false, cond, eqb, List, [], ◌∷◌, ◌++◌, length, take, drop, refl, sym, ap, ◌∙◌, append_assoc, arith, All, codes}
use Rattle.std.specs.Str.{bytes_eq}
use Rattle.std.proofs.lemmas.List.{append-nil, length-append, take_at, drop_at}
use Rattle.std.proofs.lemmas.List.Splits.{slice_split_none, slice_split_at, join_with_byte-slice_split, length-slice_split}
use Rattle.byte_streams.specs.Documents.{pieces_of, behind, cut_pieces, cut_document}

-- a line of its own, and the text after it
pieces_line : (line rest : List ℕ) → All (λ b. eqb b 10 ≡ false) line → pieces_of (line ++ 10 ∷ rest) ≡ line ∷ pieces_of rest
pieces_line line rest none = slice_split_at (λ b. eqb b 10) line 10 rest none refl

after_line : (line : List ℕ) (pieces : List (List ℕ)) → 0 < length pieces → (t : Bool) → bytes_eq line (codes "end") ≡ t
    → cut_pieces (line ∷ pieces) ≡ cond t (line ++ 10 ∷ [], pieces) (behind (line ++ 10 ∷ []) (cut_pieces pieces))
after_line line [] some t is = absurd (omega arith)
after_line line (piece ∷ pieces) some t is = rw is refl

pub ends_here : (line rest : List ℕ) → All (λ b. eqb b 10 ≡ false) line → bytes_eq line (codes "end") ≡ true → cut_document (line ++ 10 ∷ rest) ≡ (line ++ 10 ∷ [], rest)
unfolding cut_document
ends_here line rest none is =
    let some : 0 < length (pieces_of rest) = omega (arith, length-slice_split (λ b. eqb b 10) rest) in
    rw (pieces_line line rest none, after_line line (pieces_of rest) some true is, join_with_byte-slice_split 10 rest) refl

pub goes_on : (line rest : List ℕ) → All (λ b. eqb b 10 ≡ false) line → bytes_eq line (codes "end") ≡ false
    → cut_document (line ++ 10 ∷ rest) ≡ ((line ++ 10 ∷ []) ++ (cut_document rest).0, (cut_document rest).1)
unfolding cut_document
goes_on line rest none is =
    let some : 0 < length (pieces_of rest) = omega (arith, length-slice_split (λ b. eqb b 10) rest) in
    rw (pieces_line line rest none, after_line line (pieces_of rest) some false is) refl

pub no_line : (text : List ℕ) → All (λ b. eqb b 10 ≡ false) text → cut_document text ≡ (text, [])
unfolding cut_document
no_line text none = rw (slice_split_none (λ b. eqb b 10) text none) refl

-- ---- as far as the lines were looked at

pub record Behind (text front rest : List ℕ) (at : ℕ) : Type 0 where
  pub whole : text ≡ front ++ rest
  pub counted : length front ≡ at
  pub cut : cut_document text ≡ (front ++ (cut_document rest).0, (cut_document rest).1)

next_front : (front line after : List ℕ) → front ++ (line ++ 10 ∷ after) ≡ (front ++ (line ++ 10 ∷ [])) ++ after
next_front front line after = ap (λ t. front ++ t) (sym (append_assoc line (10 ∷ []) after)) ∙ sym (append_assoc front (line ++ 10 ∷ []) after)

next_count : (front line : List ℕ) (at : ℕ) → length front ≡ at → length (front ++ (line ++ 10 ∷ [])) ≡ at + (length line + 1)
next_count front line at e = simp length-append (omega (arith, e))

pub behind_next : (text front rest : List ℕ) (at : ℕ) (line after : List ℕ) → Behind text front rest at → rest ≡ line ++ 10 ∷ after → All (λ b. eqb b 10 ≡ false) line → bytes_eq line (codes "end") ≡ false
    → Behind text (front ++ (line ++ 10 ∷ [])) after (at + (length line + 1))
behind_next text front rest at line after h parts none is =
    let on : cut_document rest ≡ ((line ++ 10 ∷ []) ++ (cut_document after).0, (cut_document after).1) = rw parts (goes_on line after none is) in
    record {
      whole = h.whole ∙ ap (λ t. front ++ t) parts ∙ next_front front line after;
      counted = next_count front line at h.counted;
      cut = h.cut ∙ ap (λ (z : List ℕ × List ℕ). (front ++ z.0, z.1)) on ∙ ap (λ t. (t, (cut_document after).1)) (sym (append_assoc front (line ++ 10 ∷ []) (cut_document after).0));
    }

at_count : (text front rest : List ℕ) (at : ℕ) → text ≡ front ++ rest → length front ≡ at → ◌≡◌ {A = List ℕ × List ℕ} (front, rest) (take at text, drop at text)
at_count text front rest at e len = rw (e, take_at front rest at len, drop_at front rest at len) refl

pub behind_end : (text front rest : List ℕ) (at : ℕ) (line after : List ℕ) → Behind text front rest at → rest ≡ line ++ 10 ∷ after → All (λ b. eqb b 10 ≡ false) line → bytes_eq line (codes "end") ≡ true
    → cut_document text ≡ (take (at + (length line + 1)) text, drop (at + (length line + 1)) text)
behind_end text front rest at line after h parts none is =
    let on : cut_document rest ≡ (line ++ 10 ∷ [], after) = rw parts (ends_here line after none is) in
    h.cut ∙ ap (λ (z : List ℕ × List ℕ). (front ++ z.0, z.1)) on
    ∙ at_count text (front ++ (line ++ 10 ∷ [])) after (at + (length line + 1)) (h.whole ∙ ap (λ t. front ++ t) parts ∙ next_front front line after) (next_count front line at h.counted)

pub behind_all : (text front rest : List ℕ) (at : ℕ) → Behind text front rest at → All (λ b. eqb b 10 ≡ false) rest → cut_document text ≡ (take (length text) text, drop (length text) text)
behind_all text front rest at h none =
    h.cut ∙ ap (λ (z : List ℕ × List ℕ). (front ++ z.0, z.1)) (no_line rest none) ∙ ap (λ t. (t, [])) (sym h.whole) ∙ at_count text text [] (length text) (sym (append-nil text)) refl

pub behind_within : (text front rest : List ℕ) (at : ℕ) (line after : List ℕ) → Behind text front rest at → rest ≡ line ++ 10 ∷ after → at + (length line + 1) ≤ length text
behind_within text front rest at line after h parts =
    let whole = ap length (h.whole ∙ ap (λ t. front ++ t) parts) in
    omega (arith, h.counted, simp length-append at whole)
