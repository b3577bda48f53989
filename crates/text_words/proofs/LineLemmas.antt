-- A line that is read is the line that was written, and what was written is read again.
use Rattle.std.proofs.Common.{◌≡◌, ◌≢◌, ℕ, zero, suc, ◌+◌, ◌<◌, ◌≤◌, true, false, eqb, not, ◌&&◌, List, [], ◌∷◌, ◌++◌, length, map, Option, Some, None, Result, Ok, Err, refl, sym, ap, subst, ◌∙◌, append_assoc, arith, codes, ◌^◌, All}
use Rattle.std.specs.Fmt.{decimal}
use Rattle.std.specs.List.{flat_map, join_with_byte, AllByRecursion}
use Rattle.std.proofs.lemmas.List.Splits.{slice_split_none, slice_split_at, join_with_byte-slice_split}
use Rattle.std.proofs.lemmas.List.{append-nil}
use Rattle.text_words.specs.declared.faults.TextFault.{TextFault}
use Rattle.text_words.specs.declared.faults.TextKind.{TextKind}
use Rattle.text_words.specs.Bytes.{cut_at, words_of}
use Rattle.text_words.specs.PlainWords.{fixed_in, version_in, number_in}
use Rattle.text_words.specs.Words.{entries_in}
use Rattle.match_limits.specs.Ranges.{IsVersion}
use Rattle.text_words.proofs.WordLemmas.{is_clean, are_clean, clean-decimal, clean-version, Spells, spells_fixed, spells_version, spells_number, after_word, both, not_so, judged_ok_is, judged_bind, cut_parts}
use Rattle.text_words.specs.Place.{Place, Read, ◌>>=◌, give, line_from, next_line, judged, word_from, word_by, end_from, end_of_line, line_of, some_word_from, some_word, entries_from, entries, some_entries, times, opening, counted, closing, end_of_text, value_of}
use Rattle.text_words.specs.Spelling.{line_text, text_of, first_words, count_words, end_lines}
use Rattle.text_words.proofs.CutLemmas.{place, bind_ok, ok_is, end_is_reached}
use Rattle.text_words.proofs.WritingLemmas.{text_of-append}

-- ---- words with no space and no LF

no_space : (word : List ℕ) → is_clean word ≡ true → All (λ b. eqb b 32 ≡ false) word
no_space [] e k d lt = absurd (omega arith)
no_space (b ∷ word) e zero d lt = not_so (eqb b 32) (both (not (eqb b 32)) (not (eqb b 10)) (both (not (eqb b 32) && not (eqb b 10)) (is_clean word) e).0).0
no_space (b ∷ word) e (suc k) d lt = no_space word (both (not (eqb b 32) && not (eqb b 10)) (is_clean word) e).1 k d (omega arith)

pub words_of-join : (words : List (List ℕ)) → are_clean words ≡ true → words_of (join_with_byte 32 words) ≡ words
unfolding words_of
words_of-join [] e = absurd cc
words_of-join (word ∷ []) e = slice_split_none (λ b. eqb b 32) word (no_space word e)
words_of-join (word ∷ w ∷ words) e =
    let parts = both (is_clean word) (are_clean (w ∷ words)) e in
    slice_split_at (λ b. eqb b 32) word 32 (join_with_byte 32 (w ∷ words)) (no_space word parts.0) refl ∙ ap (λ ws. word ∷ ws) (words_of-join (w ∷ words) parts.1)

pub join-words_of : (line : List ℕ) → join_with_byte 32 (words_of line) ≡ line
unfolding words_of
join-words_of line = join_with_byte-slice_split 32 line

-- ---- lines

cut_word : (word more : List ℕ) → is_clean word ≡ true → (parts : List ℕ × List ℕ) → cut_at 10 more ≡ Some parts → cut_at 10 (word ++ more) ≡ Some (word ++ parts.0, parts.1)
cut_word [] more e parts is = is
cut_word (b ∷ word) more e parts is =
    let h = both (not (eqb b 32) && not (eqb b 10)) (is_clean word) e in
    let no : eqb b 10 ≡ false = not_so (eqb b 10) (both (not (eqb b 32)) (not (eqb b 10)) h.0).1 in
    rw (no, cut_word word more h.1 parts is) refl

pub cut_join : (words : List (List ℕ)) (rest : List ℕ) → are_clean words ≡ true → cut_at 10 (join_with_byte 32 words ++ 10 ∷ rest) ≡ Some (join_with_byte 32 words, rest)
cut_join [] rest e = absurd cc
cut_join (word ∷ []) rest e = cut_word word (10 ∷ rest) e ([], rest) refl ∙ ap (λ w. Some (w, rest)) (append-nil word)
cut_join (word ∷ w ∷ words) rest e =
    let parts = both (is_clean word) (are_clean (w ∷ words)) e in
    let more = 32 ∷ join_with_byte 32 (w ∷ words) in
    let later : cut_at 10 (more ++ 10 ∷ rest) ≡ Some (more, rest) = rw (cut_join (w ∷ words) rest parts.1) refl in
    rw append_assoc (cut_word word (more ++ 10 ∷ rest) parts.0 (more, rest) later)

-- ---- what a reader takes of a line

-- the words of a value, with others behind them
pub record TakesWords {X : Type 0} (r : Read X) (words_of : X → List (List ℕ)) (Fits : X → Type 0) : Type 0 where
  pub is : (p : Place) (x : X) (q : Place) → r p ≡ Ok (x, q) → (p.words ≡ words_of x ++ q.words) × (p.ahead ≡ q.ahead) × Fits x
  pub passes : (x : X) → Fits x → (line : ℕ) (others : List (List ℕ)) (ahead : List ℕ) → r (place line (words_of x ++ others) ahead) ≡ Ok (x, place line others ahead)

-- the words of a value, as all that is left of the line
pub record TakesRest {X : Type 0} (r : Read X) (words_of : X → List (List ℕ)) (Fits : X → Type 0) : Type 0 where
  pub is : (p : Place) (x : X) (q : Place) → r p ≡ Ok (x, q) → q.words ≡ [] → (p.words ≡ words_of x) × (p.ahead ≡ q.ahead) × Fits x
  pub passes : (x : X) → Fits x → (line : ℕ) (ahead : List ℕ) → r (place line (words_of x) ahead) ≡ Ok (x, place line [] ahead)

-- the lines of a value
pub record TakesLines {X : Type 0} (r : Read X) (lines_of : X → List (List (List ℕ))) (Fits : X → Type 0) : Type 0 where
  pub is : (p : Place) (x : X) (q : Place) → r p ≡ Ok (x, q) → (p.ahead ≡ text_of (lines_of x) ++ q.ahead) × Fits x
  pub passes : (x : X) → Fits x → (line : ℕ) (words : List (List ℕ)) (rest : List ℕ) → (end : ℕ) × (r (place line words (text_of (lines_of x) ++ rest)) ≡ Ok (x, place end [] rest))

judged_is : {X : Type 0} (test : List ℕ → Result X TextKind) (word_of : X → List ℕ) (Fits : X → Type 0) → Spells test word_of Fits → (p : Place) (word : List ℕ) (others : List (List ℕ)) (judgement : Result X TextKind)
    → test word ≡ judgement → (x : X) (q : Place) → judged p others judgement ≡ Ok (x, q) → (word ∷ others ≡ word_of x ∷ q.words) × (p.ahead ≡ q.ahead) × Fits x
judged_is {X} test word_of Fits spells p word others (Ok y) is x q e =
    let same = ok_is (y, place p.line others p.ahead) (x, q) e in
    let h = spells.is word y is in
    subst (λ (z : X × Place). (word ∷ others ≡ word_of z.0 ∷ z.1.words) × (p.ahead ≡ z.1.ahead) × Fits z.0) same (ap (λ w. w ∷ others) h.0, refl, h.1)
judged_is test word_of Fits spells p word others (Err k) is x q e = absurd cc

word_is : {X : Type 0} (test : List ℕ → Result X TextKind) (word_of : X → List ℕ) (Fits : X → Type 0) → Spells test word_of Fits → (p : Place) (words : List (List ℕ)) (x : X) (q : Place)
    → word_from test p words ≡ Ok (x, q) → (words ≡ word_of x ∷ q.words) × (p.ahead ≡ q.ahead) × Fits x
word_is test word_of Fits spells p [] x q e = absurd cc
word_is test word_of Fits spells p (word ∷ others) x q e = judged_is test word_of Fits spells p word others (test word) refl x q e

pub takes_word : {X : Type 0} (test : List ℕ → Result X TextKind) (word_of : X → List ℕ) (Fits : X → Type 0) → Spells test word_of Fits → TakesWords (word_by test) (λ x. word_of x ∷ []) Fits
unfolding word_by
takes_word test word_of Fits spells = record {
  is = λ p x q e. word_is test word_of Fits spells p p.words x q e;
  passes = λ x fits line others ahead. rw (spells.passes x fits) refl;
}

-- a word that is fixed, and what follows it
pub takes_then : {X : Type 0} (r : Read (Unit {0})) (front : List (List ℕ)) (f : Read X) (words_of : X → List (List ℕ)) (Fits : X → Type 0)
    → TakesWords r (λ _. front) (λ _. Unit {0}) → TakesWords f words_of Fits → TakesWords (r >>= λ _. f) (λ x. front ++ words_of x) Fits
takes_then r front f words_of Fits first others = record {
  is = λ p x q e.
      let b = bind_ok (r p) (λ _. f) (x, q) e in
      let one = first.is p b.0.0 b.0.1 b.1 in
      let two = others.is b.0.1 x q b.2 in
      (one.0 ∙ ap (λ ws. front ++ ws) two.0 ∙ sym (append_assoc front (words_of x) q.words), one.1 ∙ two.1, two.2);
  passes = λ x fits line more ahead. rw (append_assoc front (words_of x) more, first.passes tt tt line (words_of x ++ more) ahead) (others.passes x fits line more ahead);
}

-- a word that is fixed, and the rest of the line
pub takes_then_rest : {X : Type 0} (r : Read (Unit {0})) (front : List (List ℕ)) (f : Read X) (words_of : X → List (List ℕ)) (Fits : X → Type 0)
    → TakesWords r (λ _. front) (λ _. Unit {0}) → TakesRest f words_of Fits → TakesRest (r >>= λ _. f) (λ x. front ++ words_of x) Fits
takes_then_rest r front f words_of Fits first others = record {
  is = λ p x q e none.
      let b = bind_ok (r p) (λ _. f) (x, q) e in
      let one = first.is p b.0.0 b.0.1 b.1 in
      let two = others.is b.0.1 x q b.2 none in
      (one.0 ∙ ap (λ ws. front ++ ws) two.0, one.1 ∙ two.1, two.2);
  passes = λ x fits line ahead. rw (first.passes tt tt line (words_of x) ahead) (others.passes x fits line ahead);
}

-- a value that is told by words, and the rest of the line that it decides on
pub takes_choice : {A X : Type 0} (r : Read A) (word_of : A → List (List ℕ)) (Known : A → Type 0) (f : A → Read X) (of : X → A) (words_of : X → List (List ℕ)) (Fits : X → Type 0)
    → TakesWords r word_of Known → ((x : X) → Fits x → Known (of x)) → ((a : A) → Known a → TakesRest (f a) words_of (λ x. (of x ≡ a) × Fits x)) → TakesRest (r >>= f) (λ x. word_of (of x) ++ words_of x) Fits
takes_choice r word_of Known f of words_of Fits first known others = record {
  is = λ p x q e none.
      let b = bind_ok (r p) f (x, q) e in
      let one = first.is p b.0.0 b.0.1 b.1 in
      let two = (others b.0.0 one.2).is b.0.1 x q b.2 none in
      (one.0 ∙ ap (λ ws. word_of b.0.0 ++ ws) two.0 ∙ ap (λ a. word_of a ++ words_of x) (sym two.2.0), one.1 ∙ two.1, two.2.1);
  passes = λ x fits line ahead. rw (first.passes (of x) (known x fits) line (words_of x) ahead) ((others (of x) (known x fits)).passes x (refl, fits) line ahead);
}

-- the same words by another name
pub takes_same : {X : Type 0} (r : Read X) (words_of others_of : X → List (List ℕ)) (Fits : X → Type 0) → ((x : X) → words_of x ≡ others_of x) → TakesRest r words_of Fits → TakesRest r others_of Fits
takes_same r words_of others_of Fits same takes = record {
  is = λ p x q e none. let h = takes.is p x q e none in (h.0 ∙ same x, h.1, h.2);
  passes = λ x fits line ahead. subst (λ (ws : List (List ℕ)). r (place line ws ahead) ≡ Ok (x, place line [] ahead)) (same x) (takes.passes x fits line ahead);
}

pub takes_all : {X : Type 0} (r : Read X) (words_of : X → List (List ℕ)) (Fits : X → Type 0) → TakesWords r words_of Fits → TakesRest r words_of Fits
takes_all r words_of Fits takes = record {
  is = λ p x q e none. let h = takes.is p x q e in (h.0 ∙ ap (λ ws. words_of x ++ ws) none ∙ append-nil (words_of x), h.1, h.2);
  passes = λ x fits line ahead. subst (λ (ws : List (List ℕ)). r (place line ws ahead) ≡ Ok (x, place line [] ahead)) (append-nil (words_of x)) (takes.passes x fits line [] ahead);
}

-- ---- a whole line

line_is : (p : Place) (o : Option (List ℕ × List ℕ)) → cut_at 10 p.ahead ≡ o → (x : Unit {0}) (m : Place) → line_from (p.line + 1) o ≡ Ok (x, m) → p.ahead ≡ line_text m.words ++ m.ahead
unfolding line_text
line_is p None is x m e = absurd cc
line_is p (Some parts) is x m e =
    let same = ok_is (tt, place (p.line + 1) (words_of parts.0) parts.1) (x, m) e in
    let whole : p.ahead ≡ line_text (words_of parts.0) ++ parts.1 = cut_parts 10 p.ahead parts is ∙ ap (λ l. l ++ 10 ∷ parts.1) (sym (join-words_of parts.0)) ∙ sym (append_assoc (join_with_byte 32 (words_of parts.0)) (10 ∷ []) parts.1) in
    subst (λ (z : Unit {0} × Place). p.ahead ≡ line_text z.1.words ++ z.1.ahead) same whole

next_line_is : (p : Place) (x : Unit {0}) (m : Place) → next_line p ≡ Ok (x, m) → p.ahead ≡ line_text m.words ++ m.ahead
unfolding next_line
next_line_is p x m e = line_is p (cut_at 10 p.ahead) refl x m e

next_line_again : (line : ℕ) (words ws : List (List ℕ)) (rest : List ℕ) → are_clean ws ≡ true → next_line (place line words (line_text ws ++ rest)) ≡ Ok (tt, place (line + 1) ws rest)
unfolding next_line line_text
next_line_again line words ws rest clean =
    let found : cut_at 10 (line_text ws ++ rest) ≡ Some (join_with_byte 32 ws, rest) = rw append_assoc (cut_join ws rest clean) in
    rw (found, words_of-join ws clean) refl

end_is_from : (p : Place) (words : List (List ℕ)) → p.words ≡ words → (x : Unit {0}) (q : Place) → end_from p words ≡ Ok (x, q) → (p.words ≡ []) × (p.ahead ≡ q.ahead)
end_is_from p [] is x q e = (is, ap (λ (z : Unit {0} × Place). z.1.ahead) (ok_is (tt, p) (x, q) e))
end_is_from p (w ∷ ws) is x q e = absurd cc

end_is : (p : Place) (x : Unit {0}) (q : Place) → end_of_line p ≡ Ok (x, q) → (p.words ≡ []) × (p.ahead ≡ q.ahead)
unfolding end_of_line
end_is p x q e = end_is_from p p.words refl x q e

end_again : (line : ℕ) (ahead : List ℕ) → end_of_line (place line [] ahead) ≡ Ok (tt, place line [] ahead)
unfolding end_of_line
end_again line ahead = refl

pub takes_line : {X : Type 0} (r : Read X) (words_of : X → List (List ℕ)) (Fits : X → Type 0) → TakesRest r words_of Fits → ((x : X) → Fits x → are_clean (words_of x) ≡ true)
    → TakesLines (line_of r) (λ x. words_of x ∷ []) Fits
unfolding text_of
takes_line {X} r words_of Fits takes clean = record {
  is = λ p x q e.
      let a = bind_ok (next_line p) (λ _. r >>= λ y. end_of_line >>= λ _. give y) (x, q) e in
      let b = bind_ok (r a.0.1) (λ y. end_of_line >>= λ _. give y) (x, q) a.2 in
      let c = bind_ok (end_of_line b.0.1) (λ _. give b.0.0) (x, q) b.2 in
      let last = ok_is (b.0.0, c.0.1) (x, q) c.2 in
      let ended = end_is b.0.1 c.0.0 c.0.1 c.1 in
      let inside = takes.is a.0.1 b.0.0 b.0.1 b.1 ended.0 in
      let whole : p.ahead ≡ (line_text (words_of b.0.0) ++ []) ++ c.0.1.ahead = next_line_is p a.0.0 a.0.1 a.1 ∙ ap (λ ws. line_text ws ++ a.0.1.ahead) inside.0 ∙ ap (λ rest. line_text (words_of b.0.0) ++ rest) (inside.1 ∙ ended.1)
      ∙ ap (λ t. t ++ c.0.1.ahead) (sym (append-nil (line_text (words_of b.0.0)))) in
      subst (λ (z : X × Place). (p.ahead ≡ (line_text (words_of z.0) ++ []) ++ z.1.ahead) × Fits z.0) last (whole, inside.2);
  passes = λ x fits line words rest.
      (line + 1, rw (append-nil (line_text (words_of x)), next_line_again line words (words_of x) rest (clean x fits), takes.passes x fits (line + 1) rest, end_again (line + 1) rest) refl);
}

-- ---- one line after the other

pub lines_then : (p : List ℕ) (a b : List (List (List ℕ))) (m q : List ℕ) → p ≡ text_of a ++ m → m ≡ text_of b ++ q → p ≡ text_of (a ++ b) ++ q
lines_then p a b m q one two = one ∙ ap (λ rest. text_of a ++ rest) two ∙ sym (append_assoc (text_of a) (text_of b) q) ∙ ap (λ t. t ++ q) (sym (text_of-append a b))

pub lines_apart : (a b : List (List (List ℕ))) (rest : List ℕ) → text_of (a ++ b) ++ rest ≡ text_of a ++ (text_of b ++ rest)
lines_apart a b rest = ap (λ t. t ++ rest) (text_of-append a b) ∙ append_assoc (text_of a) (text_of b) rest

-- the same, so many times
pub times_is : {X : Type 0} (r : Read X) (lines_of : X → List (List (List ℕ))) (Fits : X → Type 0) → TakesLines r lines_of Fits → (n : ℕ) (p : Place) (xs : List X) (q : Place) → times n r p ≡ Ok (xs, q)
    → (p.ahead ≡ text_of (flat_map lines_of xs) ++ q.ahead) × (length xs ≡ n) × AllByRecursion Fits xs
unfolding times text_of
times_is {X} r lines_of Fits takes zero p xs q e = subst (λ (z : List X × Place). (p.ahead ≡ text_of (flat_map lines_of z.0) ++ z.1.ahead) × (length z.0 ≡ 0) × AllByRecursion Fits z.0) (ok_is ([], p) (xs, q) e) (refl, refl, tt)
times_is {X} r lines_of Fits takes (suc n) p xs q e =
    let a = bind_ok (r p) (λ x. times n r >>= λ ys. give (x ∷ ys)) (xs, q) e in
    let b = bind_ok (times n r a.0.1) (λ ys. give (a.0.0 ∷ ys)) (xs, q) a.2 in
    let one = takes.is p a.0.0 a.0.1 a.1 in
    let others = times_is r lines_of Fits takes n a.0.1 b.0.0 b.0.1 b.1 in
    subst (λ (z : List X × Place). (p.ahead ≡ text_of (flat_map lines_of z.0) ++ z.1.ahead) × (length z.0 ≡ suc n) × AllByRecursion Fits z.0) (ok_is (a.0.0 ∷ b.0.0, b.0.1) (xs, q) b.2)
    (lines_then p.ahead (lines_of a.0.0) (flat_map lines_of b.0.0) a.0.1.ahead b.0.1.ahead one.0 others.0, ap suc others.1, (one.1, others.2))

pub times_again : {X : Type 0} (r : Read X) (lines_of : X → List (List (List ℕ))) (Fits : X → Type 0) → TakesLines r lines_of Fits → (xs : List X) → AllByRecursion Fits xs → (line : ℕ) (rest : List ℕ)
    → (end : ℕ) × (times (length xs) r (place line [] (text_of (flat_map lines_of xs) ++ rest)) ≡ Ok (xs, place end [] rest))
unfolding times text_of
times_again r lines_of Fits takes [] fits line rest = (line, refl)
times_again r lines_of Fits takes (x ∷ xs) fits line rest =
    let one = takes.passes x fits.0 line [] (text_of (flat_map lines_of xs) ++ rest) in
    let others = times_again r lines_of Fits takes xs fits.1 one.0 rest in
    (others.0, rw (lines_apart (lines_of x) (flat_map lines_of xs) rest, one.1, others.1) refl)

-- ---- entries

cons_is_some : (word : List ℕ) (others : List (List ℕ)) → word ∷ others ≡ [] → ⊥
cons_is_some word others e = cc

some_from_is : (p : Place) (words : List (List ℕ)) → words ≡ p.words → (x : Unit {0}) (q : Place) → some_word_from p words ≡ Ok (x, q) → (p ≡ q) × (p.words ≢ [])
some_from_is p [] is x q e = absurd cc
some_from_is p (word ∷ others) is x q e = (ap (λ (z : Unit {0} × Place). z.1) (ok_is (tt, p) (x, q) e), λ none. absurd (cons_is_some word others (is ∙ none)))

-- where a word stands, reading is where it was
some_is_there : (p : Place) (x : Unit {0}) (q : Place) → some_word p ≡ Ok (x, q) → (p ≡ q) × (p.words ≢ [])
unfolding some_word
some_is_there p x q e = some_from_is p p.words refl x q e

module _ {X : Type 0} (test : List ℕ → Result X TextKind) (word_of : X → List ℕ) (Fits : X → Type 0) (spells : Spells test word_of Fits) where
  pub entries_is : (room : ℕ) (words : List (List ℕ)) (xs : List X) → entries_in room test words ≡ Ok xs → (words ≡ map word_of xs) × (length xs ≤ room) × AllByRecursion Fits xs
  unfolding entries_in
  entries_is zero [] xs e = subst (λ (ys : List X). ([] ≡ map word_of ys) × (length ys ≤ 0) × AllByRecursion Fits ys) (judged_ok_is [] xs e) (refl, omega arith, tt)
  entries_is (suc room) [] xs e = subst (λ (ys : List X). ([] ≡ map word_of ys) × (length ys ≤ suc room) × AllByRecursion Fits ys) (judged_ok_is [] xs e) (refl, omega arith, tt)
  entries_is zero (word ∷ others) xs e = absurd cc
  entries_is (suc room) (word ∷ others) xs e =
      let a = judged_bind (test word) (λ x. after_word (entries_in room test others) (λ ys. Ok (x ∷ ys))) xs e in
      let b = judged_bind (entries_in room test others) (λ ys. Ok (a.0 ∷ ys)) xs a.2 in
      let one = spells.is word a.0 a.1 in
      let more = entries_is room others b.0 b.1 in
      let both_words : word ∷ others ≡ word_of a.0 ∷ map word_of b.0 = ap (λ v. v ∷ others) one.0 ∙ ap (λ vs. word_of a.0 ∷ vs) more.0 in
      let small : length (a.0 ∷ b.0) ≤ suc room = omega (arith, more.1) in
      subst (λ (ys : List X). (word ∷ others ≡ map word_of ys) × (length ys ≤ suc room) × AllByRecursion Fits ys) (judged_ok_is (a.0 ∷ b.0) xs b.2) (both_words, small, (one.1, more.2))

  pub entries_again : (room : ℕ) (xs : List X) → length xs ≤ room → AllByRecursion Fits xs → entries_in room test (map word_of xs) ≡ Ok xs
  unfolding entries_in
  entries_again zero [] le fits = refl
  entries_again (suc room) [] le fits = refl
  entries_again zero (x ∷ xs) le fits = absurd (omega (arith, le))
  entries_again (suc room) (x ∷ xs) le fits = rw (spells.passes x fits.0, entries_again room xs (omega (arith, le)) fits.1) refl

  -- one entry or more, up to so many
  abbrev pub AreEntries : ℕ → List X → Type 0
  AreEntries room xs = (0 < length xs) × (length xs ≤ room) × AllByRecursion Fits xs

  some_length : (words : List (List ℕ)) (xs : List X) → words ≢ [] → words ≡ map word_of xs → 0 < length xs
  some_length words [] some e = absurd (some e)
  some_length words (x ∷ xs) some e = omega arith

  entries_from_is : (room : ℕ) (p : Place) (outcome : Result (List X) TextKind) → entries_in room test p.words ≡ outcome → (xs : List X) (q : Place) → entries_from p outcome ≡ Ok (xs, q) → p.words ≢ []
      → (p.words ≡ map word_of xs) × (p.ahead ≡ q.ahead) × AreEntries room xs
  entries_from_is room p (Ok ys) is xs q e some =
      let same = ok_is (ys, place p.line [] p.ahead) (xs, q) e in
      let h = entries_is room p.words ys is in
      subst (λ (z : List X × Place). (p.words ≡ map word_of z.0) × (p.ahead ≡ z.1.ahead) × AreEntries room z.0) same (h.0, refl, (some_length p.words ys some h.0, h.1, h.2))
  entries_from_is room p (Err k) is xs q e some = absurd cc

  all_entries_is : (room : ℕ) (p : Place) (xs : List X) (q : Place) → entries room test p ≡ Ok (xs, q) → p.words ≢ [] → (p.words ≡ map word_of xs) × (p.ahead ≡ q.ahead) × AreEntries room xs
  unfolding entries
  all_entries_is room p xs q e some = entries_from_is room p (entries_in room test p.words) refl xs q e some

  all_entries_again : (room : ℕ) (xs : List X) → AreEntries room xs → (line : ℕ) (ahead : List ℕ) → entries room test (place line (map word_of xs) ahead) ≡ Ok (xs, place line [] ahead)
  unfolding entries
  all_entries_again room xs fits line ahead = rw (entries_again room xs fits.1 fits.2) refl

  some_again : (xs : List X) → 0 < length xs → (line : ℕ) (ahead : List ℕ) → some_word (place line (map word_of xs) ahead) ≡ Ok (tt, place line (map word_of xs) ahead)
  unfolding some_word
  some_again [] lt line ahead = absurd (omega (arith, lt))
  some_again (x ∷ xs) lt line ahead = refl

  pub takes_entries : (room : ℕ) → TakesRest (some_entries room test) (map word_of) (AreEntries room)
  unfolding some_entries
  takes_entries room = record {
    is = λ p xs q e none.
        let a = bind_ok (some_word p) (λ _. entries room test) (xs, q) e in
        let some = some_is_there p a.0.0 a.0.1 a.1 in
        let at = all_entries_is room a.0.1 xs q a.2 in
        subst (λ (z : Place). z.words ≢ [] → (z.words ≡ map word_of xs) × (z.ahead ≡ q.ahead) × AreEntries room xs) (sym some.0) at some.1;
    passes = λ xs fits line ahead. rw (some_again xs fits.0 line ahead) (all_entries_again room xs fits line ahead);
  }

-- the rest of a line as entries, up to so many, or none
module _ {X : Type 0} (test : List ℕ → Result X TextKind) (word_of : X → List ℕ) (Fits : X → Type 0) (spells : Spells test word_of Fits) where
  any_from_is : (room : ℕ) (p : Place) (outcome : Result (List X) TextKind) → entries_in room test p.words ≡ outcome → (xs : List X) (q : Place) → entries_from p outcome ≡ Ok (xs, q)
      → (p.words ≡ map word_of xs) × (p.ahead ≡ q.ahead) × (length xs ≤ room) × AllByRecursion Fits xs
  any_from_is room p (Ok ys) is xs q e =
      let h = entries_is test word_of Fits spells room p.words ys is in
      subst (λ (z : List X × Place). (p.words ≡ map word_of z.0) × (p.ahead ≡ z.1.ahead) × (length z.0 ≤ room) × AllByRecursion Fits z.0) (ok_is (ys, place p.line [] p.ahead) (xs, q) e) (h.0, refl, h.1, h.2)
  any_from_is room p (Err k) is xs q e = absurd cc

  pub takes_any_entries : (room : ℕ) → TakesRest (entries room test) (map word_of) (λ xs. (length xs ≤ room) × AllByRecursion Fits xs)
  unfolding entries
  takes_any_entries room = record {
    is = λ p xs q e none. let h = any_from_is room p (entries_in room test p.words) refl xs q e in (h.0, h.1, (h.2, h.3));
    passes = λ xs fits line ahead. rw (entries_again test word_of Fits spells room xs fits.0 fits.1) refl;
  }

-- ---- lines that texts have in common

-- a line of a word and one that spells a value
pub takes_two_words : {X : Type 0} (name : List ℕ) (test : List ℕ → Result X TextKind) (word_of : X → List ℕ) (Fits : X → Type 0) → is_clean name ≡ true → Spells test word_of Fits → ((x : X) → Fits x → is_clean (word_of x) ≡ true)
    → TakesLines (line_of (word_by (fixed_in name) >>= λ _. word_by test)) (λ x. (name ∷ word_of x ∷ []) ∷ []) Fits
takes_two_words name test word_of Fits clean spells cleans =
    takes_line (word_by (fixed_in name) >>= λ _. word_by test) (λ x. name ∷ word_of x ∷ []) Fits
    (takes_all (word_by (fixed_in name) >>= λ _. word_by test) (λ x. name ∷ word_of x ∷ []) Fits
    (takes_then (word_by (fixed_in name)) (name ∷ []) (word_by test) (λ x. word_of x ∷ []) Fits
    (takes_word (fixed_in name) (λ _. name) (λ _. Unit {0}) (spells_fixed name)) (takes_word test word_of Fits spells)))
    (λ x fits. rw (clean, cleans x fits) refl)

pub takes_opening : (name : List ℕ) → is_clean name ≡ true → TakesLines (opening name) (λ version. first_words name version ∷ []) IsVersion
unfolding opening
takes_opening name clean = takes_two_words name version_in decimal IsVersion clean spells_version clean-version

pub takes_counted : (name : List ℕ) (least most : ℕ) → is_clean name ≡ true → most < 2 ^ 64 → TakesLines (counted name least most) (λ n. count_words name n ∷ []) (λ n. (least ≤ n) × (n ≤ most))
unfolding counted
takes_counted name least most clean small =
    takes_two_words name (number_in least most) decimal (λ n. (least ≤ n) × (n ≤ most)) clean (spells_number least most small) (λ n fits. clean-decimal n (omega (arith, small, fits.1)))

takes_end : TakesLines (line_of (word_by (fixed_in (codes "end")))) (λ _. end_lines) (λ _. Unit {0})
takes_end =
    takes_line (word_by (fixed_in (codes "end"))) (λ _. codes "end" ∷ []) (λ _. Unit {0})
    (takes_all (word_by (fixed_in (codes "end"))) (λ _. codes "end" ∷ []) (λ _. Unit {0}) (takes_word (fixed_in (codes "end")) (λ _. codes "end") (λ _. Unit {0}) (spells_fixed (codes "end"))))
    (λ x fits. refl)

pub closing_is : (p : Place) (x : Unit {0} × Place) → closing p ≡ Ok x → p.ahead ≡ text_of end_lines
unfolding closing
closing_is p x e =
    let b = bind_ok (line_of (word_by (fixed_in (codes "end"))) p) (λ _. end_of_text) x e in
    (takes_end.is p b.0.0 b.0.1 b.1).0 ∙ ap (λ rest. text_of end_lines ++ rest) (end_is_reached b.0.1 x b.2) ∙ append-nil (text_of end_lines)

pub closing_again : (line : ℕ) (words : List (List ℕ)) → (end : ℕ) × (closing (place line words (text_of end_lines)) ≡ Ok (tt, place end [] []))
unfolding closing end_of_text
closing_again line words =
    let one = takes_end.passes tt tt line words [] in
    let at : line_of (word_by (fixed_in (codes "end"))) (place line words (text_of end_lines)) ≡ Ok (tt, place one.0 [] []) =
    subst (λ (t : List ℕ). line_of (word_by (fixed_in (codes "end"))) (place line words t) ≡ Ok (tt, place one.0 [] [])) (append-nil (text_of end_lines)) one.1 in
    (one.0, rw at refl)

-- ---- the value alone

pub value_ok : {X : Type 0} (r : Result (X × Place) TextFault) (v : X) → value_of r ≡ Ok v → (q : Place) × (r ≡ Ok (v, q))
value_ok (Ok x) v e = (x.1, ap (λ w. Ok (w, x.1)) (ok_is x.0 v e))
value_ok (Err f) v e = absurd cc
