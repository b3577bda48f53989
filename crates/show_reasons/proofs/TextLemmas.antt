-- Texts that grow piece by piece.
use Rattle.std.proofs.Common.{◌≡◌, ◌≤◌, ◌++◌, ℕ, List, length, min, take, ap, sym, ◌∙◌, append_assoc, arith, ⊎_elim}
use Rattle.std.proofs.lemmas.List.{take_all}
use Rattle.match_limits.proofs.Listings.{lt_or_le}

pub two_pieces : (t a b : List ℕ) {t1 t2 : List ℕ} → t1 ≡ t ++ a → t2 ≡ t1 ++ b → t2 ≡ t ++ (a ++ b)
two_pieces t a b {t1} {t2} e1 e2 = e2 ∙ ap (λ x. x ++ b) e1 ∙ append_assoc t a b

pub four_pieces : (t a b c d : List ℕ) {t1 t2 t3 t4 : List ℕ} → t1 ≡ t ++ a → t2 ≡ t1 ++ b → t3 ≡ t2 ++ c → t4 ≡ t3 ++ d → t4 ≡ t ++ (((a ++ b) ++ c) ++ d)
four_pieces t a b c d {t1} {t2} {t3} {t4} e1 e2 e3 e4 =
    two_pieces t ((a ++ b) ++ c) d (two_pieces t (a ++ b) c (two_pieces t a b e1 e2) e3) e4

pub five_pieces : (t a b c d e : List ℕ) {t1 t2 t3 t4 t5 : List ℕ} → t1 ≡ t ++ a → t2 ≡ t1 ++ b → t3 ≡ t2 ++ c → t4 ≡ t3 ++ d → t5 ≡ t4 ++ e → t5 ≡ t ++ ((((a ++ b) ++ c) ++ d) ++ e)
five_pieces t a b c d e {t1} {t2} {t3} {t4} {t5} e1 e2 e3 e4 e5 = two_pieces t (((a ++ b) ++ c) ++ d) e (four_pieces t a b c d e1 e2 e3 e4) e5

-- the first few of a list, or all of it
pub first_few : {X : Type 0} (xs : List X) (few named : ℕ) → named ≡ min (length xs) few → take named xs ≡ take few xs
first_few xs few named is =
    ⊎_elim
    (λ lt. ap (λ n. take n xs) (let e : named ≡ few = omega (arith, is, lt) in e))
    (λ le. take_all named xs (let e : length xs ≤ named = omega (arith, is, le) in e) ∙ sym (take_all few xs le))
    (lt_or_le few (length xs))
