-- Reading entries one after the other, as a loop does.
use Rattle.std.proofs.Common.{◌≡◌, ◌≢◌, ℕ, zero, suc, ◌+◌, ◌-◌, ◌<◌, ◌≤◌, List, [], ◌∷◌, ◌++◌, length, Result, Ok, Err, refl, sym, ap, subst, ◌∙◌, append_assoc, arith}
use Rattle.std.proofs.lemmas.List.{append-nil, length-append}
use Rattle.text_words.specs.declared.faults.TextFault.{TextFault}
use Rattle.text_words.specs.declared.faults.TextKind.{TextKind}
use Rattle.text_words.specs.declared.faults.TextKind.TheVariants.{Limit}
use Rattle.text_words.specs.declared.faults.ReadFault.{ReadFault}
use Rattle.text_words.specs.declared.faults.ReadFault.TheVariants as faults
use Rattle.text_words.specs.PlainWords.{◌>>=◌}
use Rattle.text_words.specs.Words.{entries_in}
use Rattle.text_words.specs.Place.{Place, Read, go_on, give, fail, judged, word_from, word_by, Fails, entries_from, entries, times}
use Rattle.text_words.proofs.CutLemmas.{ok_is}

-- what was read before, and what is still read
abbrev pub with_front : {X : Type 0} → List X → Result (List X × Place) TextFault → Result (List X × Place) TextFault
with_front front (Ok x) = Ok (front ++ x.0, x.1)
with_front front (Err e) = Err e

pub with_front-nil : {X : Type 0} (r : Result (List X × Place) TextFault) → with_front [] r ≡ r
with_front-nil (Ok x) = refl
with_front-nil (Err e) = refl

pub with_front-one : {X : Type 0} (front : List X) (x : X) (r : Result (List X × Place) TextFault) → with_front front (with_front (x ∷ []) r) ≡ with_front (front ++ x ∷ []) r
with_front-one front x (Ok y) = ap (λ xs. Ok (xs, y.1)) (sym (append_assoc front (x ∷ []) y.0))
with_front-one front x (Err e) = refl

abbrev pub failed : {A : Type 0} → TextFault → Result A TextFault
failed f = Err f

pub err_is : {A : Type 0} (f g : TextFault) → failed {A = A} f ≡ failed g → f ≡ g
err_is f g e = cc

-- ---- entries, while there are more

-- Entries are read while a place has more, each by the test of its word, and at most so many.
pub record ReadsEntries {X : Type 0} (test : List ℕ → Result X TextKind) (HasMore HasNone : Place → Type 0) (all : ℕ → Read (List X)) : Type 0 where
  pub one : (room : ℕ) (p q : Place) (x : X) → HasMore p → word_by test p ≡ Ok (x, q) → all (suc room) p ≡ with_front (x ∷ []) (all room q)
  pub fault : (room : ℕ) (p : Place) (f : TextFault) → HasMore p → word_by test p ≡ Err f → all (suc room) p ≡ Err f
  pub limit : (p : Place) → HasMore p → all 0 p ≡ fail p.line Limit
  pub none : (room : ℕ) (p : Place) → HasNone p → all room p ≡ Ok ([], p)

-- These entries were read from a place on, and those that are still read are the others.
pub record AreRead {X : Type 0} (most : ℕ) (all : ℕ → Read (List X)) (begin : Place) (front : List X) (p : Place) : Type 0 where
  pub room : length front ≤ most
  pub so_far : with_front front (all (most - length front) p) ≡ all most begin

pub none_read : {X : Type 0} (most : ℕ) (all : ℕ → Read (List X)) (begin : Place) → AreRead most all begin [] begin
none_read most all begin =
    let whole : most - 0 ≡ most = omega arith in
    record { room = omega arith; so_far = with_front-nil (all (most - 0) begin) ∙ ap (λ n. all n begin) whole }

module _ {X : Type 0} {test : List ℕ → Result X TextKind} {HasMore HasNone : Place → Type 0} {all : ℕ → Read (List X)} (reads : ReadsEntries test HasMore HasNone all) {most : ℕ} {begin : Place} where
  pub one_read : (p q : Place) (front longer : List X) (x : X) → length front < most → longer ≡ front ++ x ∷ [] → HasMore p → word_by test p ≡ Ok (x, q) → AreRead most all begin front p → AreRead most all begin longer q
  one_read p q front longer x lt e more h before =
      let long : length longer ≡ length front + 1 = ap length e ∙ length-append front (x ∷ []) in
      let room : most - length front ≡ suc (most - length longer) = omega (arith, lt, long) in
      let rest = all (most - length longer) q in
      let one : with_front front (all (most - length front) p) ≡ with_front longer rest =
      ap (λ n. with_front front (all n p)) room ∙ ap (with_front front) (reads.one (most - length longer) p q x more h) ∙ with_front-one front x rest ∙ ap (λ xs. with_front xs rest) (sym e) in
      record { room = omega (arith, lt, long); so_far = sym one ∙ before.so_far }

  pub entry_fails : (p : Place) (front : List X) (e : ReadFault) → length front < most → HasMore p → Fails e (word_by test p) → AreRead most all begin front p → Fails e (all most begin)
  entry_fails p front faults.Memory lt more h before = tt
  entry_fails p front (faults.Text f) lt more h before =
      let room : most - length front ≡ suc (most - (length front + 1)) = omega (arith, lt) in
      sym before.so_far ∙ ap (λ n. with_front front (all n p)) room ∙ ap (with_front front) (reads.fault (most - (length front + 1)) p f more h)

  pub too_many : (p : Place) (front : List X) → most ≤ length front → HasMore p → AreRead most all begin front p → all most begin ≡ fail p.line Limit
  too_many p front le more before =
      let room : most - length front ≡ 0 = omega (arith, le) in
      sym before.so_far ∙ ap (λ n. with_front front (all n p)) room ∙ ap (with_front front) (reads.limit p more)

  pub all_read : (p : Place) (front : List X) → HasNone p → AreRead most all begin front p → all most begin ≡ Ok (front, p)
  all_read p front none before = sym before.so_far ∙ ap (with_front front) (reads.none (most - length front) p none) ∙ ap (λ xs. Ok (xs, p)) (append-nil front)

-- ---- entries up to the end of a line

module _ {X : Type 0} (test : List ℕ → Result X TextKind) where
  one_more : (p : Place) (others : List (List ℕ)) (x : X) (r : Result (List X) TextKind) → entries_from p (r >>= λ xs. Ok (x ∷ xs)) ≡ with_front (x ∷ []) (entries_from (record { line = p.line; words = others; ahead = p.ahead }) r)
  one_more p others x (Ok xs) = refl
  one_more p others x (Err k) = refl

  after_judged : (p : Place) (room : ℕ) (others : List (List ℕ)) (judgement : Result X TextKind) (x : X) (q : Place) → judged p others judgement ≡ Ok (x, q)
      → entries_from p (judgement >>= λ y. entries_in room test others >>= λ xs. Ok (y ∷ xs)) ≡ with_front (x ∷ []) (entries_from q (entries_in room test q.words))
  after_judged p room others (Ok y) x q e =
      subst (λ (z : X × Place). entries_from p (entries_in room test others >>= λ xs. Ok (y ∷ xs)) ≡ with_front (z.0 ∷ []) (entries_from z.1 (entries_in room test z.1.words)))
      (ok_is (y, record { line = p.line; words = others; ahead = p.ahead }) (x, q) e)
      (one_more p others y (entries_in room test others))
  after_judged p room others (Err k) x q e = absurd cc

  entries-step : (p : Place) (room : ℕ) (words : List (List ℕ)) (x : X) (q : Place) → word_from test p words ≡ Ok (x, q) → entries_from p (entries_in (suc room) test words) ≡ with_front (x ∷ []) (entries_from q (entries_in room test q.words))
  unfolding entries_in
  entries-step p room [] x q e = absurd cc
  entries-step p room (word ∷ others) x q e = after_judged p room others (test word) x q e

  fault_after : (p : Place) (room : ℕ) (others : List (List ℕ)) (judgement : Result X TextKind) (f : TextFault) → judged p others judgement ≡ Err f
      → entries_from p (judgement >>= λ y. entries_in room test others >>= λ xs. Ok (y ∷ xs)) ≡ Err f
  fault_after p room others (Ok y) f e = absurd cc
  fault_after p room others (Err k) f e = ap (λ g. Err g) (err_is {A = X × Place} (record { line = p.line; kind = k }) f e)

  fault_on : (p : Place) (room : ℕ) (words : List (List ℕ)) (f : TextFault) → words ≢ [] → word_from test p words ≡ Err f → entries_from p (entries_in (suc room) test words) ≡ Err f
  unfolding entries_in
  fault_on p room [] f some e = absurd (some refl)
  fault_on p room (word ∷ others) f some e = fault_after p room others (test word) f e

  limit_on : (p : Place) (words : List (List ℕ)) → words ≢ [] → entries_from p (entries_in 0 test words) ≡ fail p.line Limit
  unfolding entries_in
  limit_on p [] some = absurd (some refl)
  limit_on p (word ∷ others) some = refl

  none_in : (room : ℕ) → entries_in room test [] ≡ Ok []
  unfolding entries_in
  none_in zero = refl
  none_in (suc room) = refl

  done_on : (p : Place) (room : ℕ) (words : List (List ℕ)) → words ≡ [] → entries_from p (entries_in room test words) ≡ Ok ([], record { line = p.line; words = words; ahead = p.ahead })
  done_on p room words none = rw (none, none_in room) refl

  pub reads_rest : ReadsEntries test (λ p. p.words ≢ []) (λ p. p.words ≡ []) (λ room. entries room test)
  unfolding entries word_by
  reads_rest = record {
    one = λ room p q x more h. entries-step p room p.words x q h;
    fault = λ room p f more h. fault_on p room p.words f more h;
    limit = λ p more. limit_on p p.words more;
    none = λ room p none. done_on p room p.words none;
  }

  shorter_after : (p : Place) (words : List (List ℕ)) (others : List (List ℕ)) (judgement : Result X TextKind) (x : X) (q : Place) → words ≡ others → judged p others judgement ≡ Ok (x, q) → length q.words < length words + 1
  shorter_after p words others (Ok y) x q same e =
      let is = ok_is (y, record { line = p.line; words = others; ahead = p.ahead }) (x, q) e in
      let len : length others ≡ length q.words = ap (λ (z : X × Place). length z.1.words) is in
      let whole : length words ≡ length others = ap length same in
      omega arith
  shorter_after p words others (Err k) x q same e = absurd cc

  shorter_from : (p : Place) (words : List (List ℕ)) (x : X) (q : Place) → word_from test p words ≡ Ok (x, q) → length q.words < length words
  shorter_from p [] x q e = absurd cc
  shorter_from p (word ∷ others) x q e = omega (arith, shorter_after p others others (test word) x q refl e)

  pub word_shorter : (p q : Place) (x : X) → word_by test p ≡ Ok (x, q) → length q.words < length p.words
  unfolding word_by
  word_shorter p q x e = shorter_from p p.words x q e

-- ---- the same, so many times

module _ {X : Type 0} (r : Read X) where
  after_read : (n : ℕ) (x : X) (q : Place) (read : Result (List X × Place) TextFault) → go_on read (λ xs. give (x ∷ xs)) ≡ with_front (x ∷ []) read
  after_read n x q (Ok y) = refl
  after_read n x q (Err e) = refl

  pub times_goes_on : (p q : Place) (room after : ℕ) (front longer : List X) (x : X) (total : Result (List X × Place) TextFault) → room ≡ suc after → longer ≡ front ++ x ∷ [] → r p ≡ Ok (x, q)
      → with_front front (times room r p) ≡ total → with_front longer (times after r q) ≡ total
  unfolding times
  times_goes_on p q room after front longer x total k e h so_far =
      let one : with_front front (times room r p) ≡ with_front (front ++ x ∷ []) (times after r q) = rw (k, h, after_read after x q (times after r q)) (with_front-one front x (times after r q)) in
      ap (λ xs. with_front xs (times after r q)) e ∙ sym one ∙ so_far

  pub times_fail : (p : Place) (room after : ℕ) (front : List X) (e : ReadFault) (total : Result (List X × Place) TextFault) → room ≡ suc after → Fails e (r p)
      → with_front front (times room r p) ≡ total → Fails e total
  unfolding times
  times_fail p room after front faults.Memory total k h so_far = tt
  times_fail p room after front (faults.Text f) total k h so_far =
      let one : with_front front (times room r p) ≡ Err f = rw (k, h) refl in
      sym so_far ∙ one

  pub times_done : (p : Place) (room : ℕ) (front : List X) (total : Result (List X × Place) TextFault) → room ≡ 0
      → with_front front (times room r p) ≡ total → total ≡ Ok (front, p)
  unfolding times
  times_done p room front total k so_far =
      let one : with_front front (times room r p) ≡ Ok (front, p) = rw k (ap (λ xs. Ok (xs, p)) (append-nil front)) in
      sym so_far ∙ one
