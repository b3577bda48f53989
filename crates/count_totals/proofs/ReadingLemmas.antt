-- Numbers and words of lines are found where they stand.
use Rattle.std.proofs.Common.{◌≡◌, ◌∙◌, ◌<◌, ◌^◌, ◌++◌, ◌∷◌, ℕ, List, Option, Result, Ok, Some, None, true, codes, decimal, arith, ap, sym, subst, append_assoc}
use Rattle.std.specs.Str.{IsUtf8}
use Rattle.std.specs.Str.Parse.{ParsesUnsigned}
use Rattle.std.proofs.lemmas.Fmt.{IsAscii-decimal, decimal_injective, parse-decimal}
use Rattle.std.proofs.lemmas.Str.{IsUtf8-from_ascii}
use Rattle.text_words.specs.Bytes.{cut_at}
use Rattle.text_words.proofs.WordEndLemmas.{has_no-append}
use Rattle.text_words.proofs.WordLemmas.{cut_dot, cut_parts, decimal_lacks, has_no, some_is}
use Rattle.count_totals.specs.Lines.{part_words}

pub number_is_text : (n : ℕ) (text : List ℕ) → n < 2 ^ 64 → text ≡ decimal n → IsUtf8 text
number_is_text n text lt is = subst IsUtf8 (sym is) (IsUtf8-from_ascii (decimal n) (IsAscii-decimal n lt))

pub parsed_is : {E : Type 0} (n : ℕ) (text digits : List ℕ) (r : Result ℕ E) → n < 2 ^ 64 → text ≡ decimal n → digits ≡ text → ParsesUnsigned 64 10 digits r → r ≡ Ok n
parsed_is n text digits r lt is same parses = parse-decimal 64 n digits r lt lt (same ∙ is) parses

-- what a cut gives of a text in which a word stands before the byte, and a rest behind it
pub parted : (c : ℕ) (text first second word rest : List ℕ) → has_no c word ≡ true → Some (first, second) ≡ cut_at c text → text ≡ word ++ c ∷ rest → (first ≡ word) × (second ≡ rest)
parted c text first second word rest lacks cut is =
    let same : (first, second) ≡ (word, rest) = some_is (first, second) (word, rest) (cut ∙ ap (cut_at c) is ∙ cut_dot c word rest lacks) in
    (ap (λ (z : List ℕ × List ℕ). z.0) same, ap (λ (z : List ℕ × List ℕ). z.1) same)

abbrev nothing : Option (List ℕ × List ℕ)
nothing = None

none_is_some : (parts : List ℕ × List ℕ) → nothing ≡ Some parts → ⊥
none_is_some parts e = absurd cc

pub unparted : (c : ℕ) (text word rest : List ℕ) → has_no c word ≡ true → None ≡ cut_at c text → text ≡ word ++ c ∷ rest → ⊥
unparted c text word rest lacks cut is =
    none_is_some (word, rest) (cut ∙ ap (cut_at c) is ∙ cut_dot c word rest lacks)

pub joined : (c : ℕ) (text first second : List ℕ) → Some (first, second) ≡ cut_at c text → text ≡ first ++ c ∷ second
joined c text first second cut = cut_parts c text (first, second) (sym cut)

-- ---- the words of a part

pub fraction_lacks : (m n : ℕ) → m < 2 ^ 64 → n < 2 ^ 64 → has_no 32 (decimal m ++ 47 ∷ decimal n) ≡ true
fraction_lacks m n m_lt n_lt = has_no-append 32 (decimal m) (47 ∷ decimal n) (decimal_lacks 32 m (omega arith) m_lt) (decimal_lacks 32 n (omega arith) n_lt)

pub part_words-is : (number parts count : ℕ) → part_words (record { number = number; parts = parts; count = count }) ≡ (decimal number ++ 47 ∷ decimal parts) ++ 32 ∷ (codes "arrangements " ++ decimal count)
part_words-is number parts count = simp append_assoc

pub fraction_is : (word : List ℕ) (a b m n : ℕ) → a < 2 ^ 64 → b < 2 ^ 64 → m < 2 ^ 64 → n < 2 ^ 64 → word ≡ decimal a ++ 47 ∷ decimal b → word ≡ decimal m ++ 47 ∷ decimal n → (a ≡ m) × (b ≡ n)
fraction_is word a b m n a_lt b_lt m_lt n_lt is same =
    let found = parted 47 word (decimal a) (decimal b) (decimal m) (decimal n) (decimal_lacks 47 m (omega arith) m_lt) (sym (cut_dot 47 (decimal a) (decimal b) (decimal_lacks 47 a (omega arith) a_lt)) ∙ ap (cut_at 47) (sym is)) same in
    (decimal_injective a m a_lt m_lt found.0, decimal_injective b n b_lt n_lt found.1)
