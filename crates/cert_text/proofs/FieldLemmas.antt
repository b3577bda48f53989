-- What a reader takes of a line, field by field.
use Rattle.std.proofs.Common.{◌≡◌, ℕ, zero, suc, ◌≤◌, Bool, true, false, cond, List, [], ◌∷◌, ◌++◌, length, map, Result, Ok, Err, refl, sym, ap, subst, ◌∙◌, append_assoc, arith}
use Rattle.std.specs.List.{AllByRecursion, flat_map}
use Rattle.std.specs.Str.{bytes_eq}
use Rattle.std.proofs.lemmas.Slice.Eq.{bytes_eq-Decides}
use Rattle.text_words.specs.declared.faults.TextKind.{TextKind}
use Rattle.text_words.specs.declared.faults.TextKind.TheVariants.{Limit}
use Rattle.text_words.specs.PlainWords.{fixed_in}
use Rattle.text_words.specs.Words.{entries_in}
use Rattle.text_words.specs.Place.{Place, Read, ◌>>=◌, give, word_by, entries_from, entries, times}
use Rattle.text_words.proofs.CutLemmas.{LineOnly, CutsShort, place, bind_ok, ok_is, cuts_line_only}
use Rattle.text_words.proofs.WordLemmas.{Spells, spells_fixed, judged_ok_is, judged_bind, after_word}
use Rattle.text_words.proofs.LineLemmas.{TakesWords, TakesRest, takes_word, entries_is, entries_again}
use Rattle.cert_text.specs.Entries.{entries_before_in, before_from, entries_before}

-- ---- the end, and the fields before it

-- a field, and what follows it
pub takes_field : {A X : Type 0} (r : Read A) (words_of : A → List (List ℕ)) (Fits : A → Type 0) (f : A → Read X) (of : X → A) (others_of : X → List (List ℕ)) (FitsWith : A → X → Type 0)
    → TakesWords r words_of Fits → ((a : A) → TakesWords (f a) others_of (FitsWith a)) → ((a : A) (x : X) → FitsWith a x → of x ≡ a)
    → TakesWords (r >>= f) (λ x. words_of (of x) ++ others_of x) (λ x. Fits (of x) × FitsWith (of x) x)
takes_field r words_of Fits f of others_of FitsWith first others is_field = record {
  is = λ p x q e.
      let b = bind_ok (r p) f (x, q) e in
      let one = first.is p b.0.0 b.0.1 b.1 in
      let two = (others b.0.0).is b.0.1 x q b.2 in
      let same : b.0.0 ≡ of x = sym (is_field b.0.0 x two.2) in
      let words : p.words ≡ words_of (of x) ++ (others_of x ++ q.words) = one.0 ∙ ap (λ ws. words_of b.0.0 ++ ws) two.0 ∙ ap (λ a. words_of a ++ (others_of x ++ q.words)) same in
      (words ∙ sym (append_assoc (words_of (of x)) (others_of x) q.words), one.1 ∙ two.1, (subst Fits same one.2, subst (λ a. FitsWith a x) same two.2));
  passes = λ x fits line more ahead.
      rw (append_assoc (words_of (of x)) (others_of x) more, first.passes (of x) fits.0 line (others_of x ++ more) ahead) ((others (of x)).passes x fits.1 line more ahead);
}

-- the same where the rest of the line follows
pub takes_field_rest : {A X : Type 0} (r : Read A) (words_of : A → List (List ℕ)) (Fits : A → Type 0) (f : A → Read X) (of : X → A) (others_of : X → List (List ℕ)) (FitsWith : A → X → Type 0)
    → TakesWords r words_of Fits → ((a : A) → TakesRest (f a) others_of (FitsWith a)) → ((a : A) (x : X) → FitsWith a x → of x ≡ a)
    → TakesRest (r >>= f) (λ x. words_of (of x) ++ others_of x) (λ x. Fits (of x) × FitsWith (of x) x)
takes_field_rest r words_of Fits f of others_of FitsWith first others is_field = record {
  is = λ p x q e none.
      let b = bind_ok (r p) f (x, q) e in
      let one = first.is p b.0.0 b.0.1 b.1 in
      let two = (others b.0.0).is b.0.1 x q b.2 none in
      let same : b.0.0 ≡ of x = sym (is_field b.0.0 x two.2) in
      (one.0 ∙ ap (λ ws. words_of b.0.0 ++ ws) two.0 ∙ ap (λ a. words_of a ++ others_of x) same, one.1 ∙ two.1, (subst Fits same one.2, subst (λ a. FitsWith a x) same two.2));
  passes = λ x fits line ahead. rw (first.passes (of x) fits.0 line (others_of x) ahead) ((others (of x)).passes x fits.1 line ahead);
}

-- the rest of the line is the last field
pub takes_last : {A X : Type 0} (r : Read A) (words_of : A → List (List ℕ)) (Fits : A → Type 0) (make : A → X) (of : X → A) → TakesRest r words_of Fits → ((a : A) → of (make a) ≡ a)
    → TakesRest (r >>= λ a. give (make a)) (λ x. words_of (of x)) (λ x. Fits (of x) × (x ≡ make (of x)))
takes_last {A} {X} r words_of Fits make of takes is_field = record {
  is = λ p x q e none.
      let b = bind_ok (r p) (λ a. give (make a)) (x, q) e in
      let same = ok_is (make b.0.0, b.0.1) (x, q) b.2 in
      let value : make b.0.0 ≡ x = ap (λ (z : X × Place). z.0) same in
      let field : b.0.0 ≡ of x = sym (is_field b.0.0) ∙ ap of value in
      let one = takes.is p b.0.0 b.0.1 b.1 (ap (λ (z : X × Place). z.1.words) same ∙ none) in
      (one.0 ∙ ap words_of field, one.1 ∙ ap (λ (z : X × Place). z.1.ahead) same, (subst Fits field one.2, sym value ∙ ap make field));
  passes = λ x fits line ahead. rw (takes.passes (of x) fits.0 line ahead) (ap (λ y. Ok (y, place line [] ahead)) (sym fits.1));
}

-- the same words, and the same values, by other names
pub takes_as : {X : Type 0} (r : Read X) (words_of others_of : X → List (List ℕ)) (Fits Also : X → Type 0) → ((x : X) → words_of x ≡ others_of x) → ((x : X) → Fits x → Also x) → ((x : X) → Also x → Fits x)
    → TakesWords r words_of Fits → TakesWords r others_of Also
takes_as r words_of others_of Fits Also words on back takes = record {
  is = λ p x q e. let h = takes.is p x q e in (h.0 ∙ ap (λ ws. ws ++ q.words) (words x), h.1, on x h.2);
  passes = λ x fits line others ahead. subst (λ (ws : List (List ℕ)). r (place line (ws ++ others) ahead) ≡ Ok (x, place line others ahead)) (words x) (takes.passes x (back x fits) line others ahead);
}

pub takes_rest_as : {X : Type 0} (r : Read X) (words_of others_of : X → List (List ℕ)) (Fits Also : X → Type 0) → ((x : X) → words_of x ≡ others_of x) → ((x : X) → Fits x → Also x) → ((x : X) → Also x → Fits x)
    → TakesRest r words_of Fits → TakesRest r others_of Also
takes_rest_as r words_of others_of Fits Also words on back takes = record {
  is = λ p x q e none. let h = takes.is p x q e none in (h.0 ∙ words x, h.1, on x h.2);
  passes = λ x fits line ahead. subst (λ (ws : List (List ℕ)). r (place line ws ahead) ≡ Ok (x, place line [] ahead)) (words x) (takes.passes x (back x fits) line ahead);
}

pub takes_fixed : (wanted : List ℕ) → TakesWords (word_by (fixed_in wanted)) (λ _. wanted ∷ []) (λ _. Unit {0})
takes_fixed wanted = takes_word (fixed_in wanted) (λ _. wanted) (λ _. Unit {0}) (spells_fixed wanted)

-- ---- entries as all that is left of a line, maybe none

module _ {X : Type 0} (test : List ℕ → Result X TextKind) (word_of : X → List ℕ) (Fits : X → Type 0) (spells : Spells test word_of Fits) where
  -- so many entries at most
  abbrev pub AreFew : ℕ → List X → Type 0
  AreFew room xs = (length xs ≤ room) × AllByRecursion Fits xs

  from_is : (room : ℕ) (p : Place) (outcome : Result (List X) TextKind) → entries_in room test p.words ≡ outcome → (xs : List X) (q : Place) → entries_from p outcome ≡ Ok (xs, q)
      → (p.words ≡ map word_of xs) × (p.ahead ≡ q.ahead) × AreFew room xs
  from_is room p (Ok ys) is xs q e =
      let same = ok_is (ys, place p.line [] p.ahead) (xs, q) e in
      let h = entries_is test word_of Fits spells room p.words ys is in
      subst (λ (z : List X × Place). (p.words ≡ map word_of z.0) × (p.ahead ≡ z.1.ahead) × AreFew room z.0) same (h.0, refl, (h.1, h.2))
  from_is room p (Err k) is xs q e = absurd cc

  pub takes_few : (room : ℕ) → TakesRest (entries room test) (map word_of) (AreFew room)
  unfolding entries
  takes_few room = record {
    is = λ p xs q e none. from_is room p (entries_in room test p.words) refl xs q e;
    passes = λ xs fits line ahead. rw (entries_again test word_of Fits spells room xs fits.0 fits.1) refl;
  }

  -- ---- entries up to a word

  module _ (stop : List ℕ) (apart : (x : X) → Fits x → bytes_eq (word_of x) stop ≡ false) where
    before_is : (room : ℕ) (words : List (List ℕ)) (found : List X × List (List ℕ)) → entries_before_in stop room test words ≡ Ok found → (words ≡ map word_of found.0 ++ found.1) × AreFew room found.0
    unfolding entries_before_in
    before_is room [] found e = subst (λ (z : List X × List (List ℕ)). ([] ≡ map word_of z.0 ++ z.1) × AreFew room z.0) (judged_ok_is ([], []) found e) (refl, (omega arith, tt))
    before_is zero (word ∷ others) found e = at_stop (bytes_eq word stop) e
      where
        at_stop : (b : Bool) → cond b (Ok ([], word ∷ others)) (Err Limit) ≡ Ok found → (word ∷ others ≡ map word_of found.0 ++ found.1) × AreFew 0 found.0
        at_stop true e = subst (λ (z : List X × List (List ℕ)). (word ∷ others ≡ map word_of z.0 ++ z.1) × AreFew 0 z.0) (judged_ok_is ([], word ∷ others) found e) (refl, (omega arith, tt))
        at_stop false e = absurd cc
    before_is (suc room) (word ∷ others) found e = at_stop (bytes_eq word stop) e (before_is room others)
      where
        at_stop : (b : Bool) → cond b (Ok ([], word ∷ others)) (after_word (test word) (λ x. after_word (entries_before_in stop room test others) (λ more. Ok (x ∷ more.0, more.1)))) ≡ Ok found
            → ((more : List X × List (List ℕ)) → entries_before_in stop room test others ≡ Ok more → (others ≡ map word_of more.0 ++ more.1) × AreFew room more.0)
            → (word ∷ others ≡ map word_of found.0 ++ found.1) × AreFew (suc room) found.0
        at_stop true e so = subst (λ (z : List X × List (List ℕ)). (word ∷ others ≡ map word_of z.0 ++ z.1) × AreFew (suc room) z.0) (judged_ok_is ([], word ∷ others) found e) (refl, (omega arith, tt))
        at_stop false e so =
            let a = judged_bind (test word) (λ x. after_word (entries_before_in stop room test others) (λ more. Ok (x ∷ more.0, more.1))) found e in
            let b = judged_bind (entries_before_in stop room test others) (λ more. Ok (a.0 ∷ more.0, more.1)) found a.2 in
            let one = spells.is word a.0 a.1 in
            let later = so b.0 b.1 in
            let words : word ∷ others ≡ word_of a.0 ∷ (map word_of b.0.0 ++ b.0.1) = ap (λ w. w ∷ others) one.0 ∙ ap (λ ws. word_of a.0 ∷ ws) later.0 in
            let few : length (a.0 ∷ b.0.0) ≤ suc room = omega (arith, later.1.0) in
            subst (λ (z : List X × List (List ℕ)). (word ∷ others ≡ map word_of z.0 ++ z.1) × AreFew (suc room) z.0) (judged_ok_is (a.0 ∷ b.0.0, b.0.1) found b.2) (words, (few, (one.1, later.1.1)))

    same_stop : bytes_eq stop stop ≡ true
    same_stop = (bytes_eq-Decides stop stop).1 refl

    before_again : (room : ℕ) (xs : List X) → AreFew room xs → (others : List (List ℕ)) → entries_before_in stop room test (map word_of xs ++ stop ∷ others) ≡ Ok (xs, stop ∷ others)
    unfolding entries_before_in
    before_again zero [] fits others = rw same_stop refl
    before_again (suc room) [] fits others = rw same_stop refl
    before_again zero (x ∷ xs) fits others = absurd (omega (arith, fits.0))
    before_again (suc room) (x ∷ xs) fits others = rw (apart x fits.1.0, spells.passes x fits.1.0, before_again room xs (omega (arith, fits.0), fits.1.1) others) refl

    found_is : (room : ℕ) (p : Place) (outcome : Result (List X × List (List ℕ)) TextKind) → entries_before_in stop room test p.words ≡ outcome → (xs : List X) (q : Place) → before_from p outcome ≡ Ok (xs, q)
        → (p.words ≡ map word_of xs ++ q.words) × (p.ahead ≡ q.ahead) × AreFew room xs
    found_is room p (Ok found) is xs q e =
        let same = ok_is (found.0, place p.line found.1 p.ahead) (xs, q) e in
        let h = before_is room p.words found is in
        subst (λ (z : List X × Place). (p.words ≡ map word_of z.0 ++ z.1.words) × (p.ahead ≡ z.1.ahead) × AreFew room z.0) same (h.0, refl, h.1)
    found_is room p (Err k) is xs q e = absurd cc

    all_before_is : (room : ℕ) (p : Place) (xs : List X) (q : Place) → entries_before stop room test p ≡ Ok (xs, q) → (p.words ≡ map word_of xs ++ q.words) × (p.ahead ≡ q.ahead) × AreFew room xs
    unfolding entries_before
    all_before_is room p xs q e = found_is room p (entries_before_in stop room test p.words) refl xs q e

    all_before_again : (room : ℕ) (xs : List X) → AreFew room xs → (line : ℕ) (others : List (List ℕ)) (ahead : List ℕ)
        → entries_before stop room test (place line (map word_of xs ++ stop ∷ others) ahead) ≡ Ok (xs, place line (stop ∷ others) ahead)
    unfolding entries_before
    all_before_again room xs fits line others ahead = rw (before_again room xs fits others) refl

    -- a field of entries up to a word, that word, and the rest of the line
    pub takes_until : {Y : Type 0} (room : ℕ) (f : List X → Read Y) (of : Y → List X) (others_of : Y → List (List ℕ)) (FitsWith : List X → Y → Type 0)
        → ((xs : List X) → TakesRest (f xs) others_of (FitsWith xs)) → ((xs : List X) (y : Y) → FitsWith xs y → of y ≡ xs)
        → TakesRest (entries_before stop room test >>= λ xs. word_by (fixed_in stop) >>= λ _. f xs) (λ y. map word_of (of y) ++ (stop ∷ others_of y)) (λ y. AreFew room (of y) × FitsWith (of y) y)
    takes_until room f of others_of FitsWith others is_field = record {
      is = λ p y q e none.
          let a = bind_ok (entries_before stop room test p) (λ xs. word_by (fixed_in stop) >>= λ _. f xs) (y, q) e in
          let b = bind_ok (word_by (fixed_in stop) a.0.1) (λ _. f a.0.0) (y, q) a.2 in
          let one = all_before_is room p a.0.0 a.0.1 a.1 in
          let two = (takes_fixed stop).is a.0.1 b.0.0 b.0.1 b.1 in
          let three = (others a.0.0).is b.0.1 y q b.2 none in
          let same : a.0.0 ≡ of y = sym (is_field a.0.0 y three.2) in
          let words : p.words ≡ map word_of (of y) ++ (stop ∷ others_of y) = one.0 ∙ ap (λ ws. map word_of a.0.0 ++ ws) (two.0 ∙ ap (λ ws. stop ∷ ws) three.0) ∙ ap (λ xs. map word_of xs ++ (stop ∷ others_of y)) same in
          (words, one.1 ∙ two.1 ∙ three.1, (subst (AreFew room) same one.2, subst (λ xs. FitsWith xs y) same three.2));
      passes = λ y fits line ahead.
          rw (all_before_again room (of y) fits.0 line (others_of y) ahead, (takes_fixed stop).passes tt tt line (others_of y) ahead) ((others (of y)).passes y fits.1 line ahead);
    }

-- ---- readers that look at the line alone

module _ {X : Type 0} where
  before_only_from : (found : Result (List X × List (List ℕ)) TextKind) → LineOnly {X = List X} (λ p. before_from p found)
  before_only_from (Ok found) line words = (Ok found, λ ahead. refl)
  before_only_from (Err k) line words = (Err (record { line = line; kind = k }), λ ahead. refl)

  before_only : (stop : List ℕ) (room : ℕ) (test : List ℕ → Result X TextKind) → LineOnly (entries_before stop room test)
  unfolding entries_before
  before_only stop room test line words = before_only_from (entries_before_in stop room test words) line words

  pub cuts_before : (stop : List ℕ) (room : ℕ) (test : List ℕ → Result X TextKind) → CutsShort (entries_before stop room test)
  cuts_before stop room test = cuts_line_only (entries_before stop room test) (before_only stop room test)

-- ---- the same within a line, so many times

pub times_words_is : {X : Type 0} (r : Read X) (words_of : X → List (List ℕ)) (Fits : X → Type 0) → TakesWords r words_of Fits → (n : ℕ) (p : Place) (xs : List X) (q : Place) → times n r p ≡ Ok (xs, q)
    → (p.words ≡ flat_map words_of xs ++ q.words) × (p.ahead ≡ q.ahead) × (length xs ≡ n) × AllByRecursion Fits xs
unfolding times
times_words_is {X} r words_of Fits takes zero p xs q e =
    subst (λ (z : List X × Place). (p.words ≡ flat_map words_of z.0 ++ z.1.words) × (p.ahead ≡ z.1.ahead) × (length z.0 ≡ 0) × AllByRecursion Fits z.0) (ok_is ([], p) (xs, q) e) (refl, refl, refl, tt)
times_words_is {X} r words_of Fits takes (suc n) p xs q e =
    let a = bind_ok (r p) (λ x. times n r >>= λ ys. give (x ∷ ys)) (xs, q) e in
    let b = bind_ok (times n r a.0.1) (λ ys. give (a.0.0 ∷ ys)) (xs, q) a.2 in
    let one = takes.is p a.0.0 a.0.1 a.1 in
    let others = times_words_is r words_of Fits takes n a.0.1 b.0.0 b.0.1 b.1 in
    let words : p.words ≡ (words_of a.0.0 ++ flat_map words_of b.0.0) ++ b.0.1.words = one.0 ∙ ap (λ ws. words_of a.0.0 ++ ws) others.0 ∙ sym (append_assoc (words_of a.0.0) (flat_map words_of b.0.0) b.0.1.words) in
    subst (λ (z : List X × Place). (p.words ≡ flat_map words_of z.0 ++ z.1.words) × (p.ahead ≡ z.1.ahead) × (length z.0 ≡ suc n) × AllByRecursion Fits z.0) (ok_is (a.0.0 ∷ b.0.0, b.0.1) (xs, q) b.2)
    (words, one.1 ∙ others.1, ap suc others.2, (one.2, others.3))
