-- Reading entries up to a word, one after the other, as a loop does.
use Rattle.std.proofs.Common.{◌≡◌, ℕ, zero, suc, Bool, true, false, not, List, [], ◌∷◌, Result, Ok, Err, refl, ap, subst}
use Rattle.std.specs.Str.{bytes_eq}
use Rattle.text_words.specs.declared.faults.TextFault.{TextFault}
use Rattle.text_words.specs.declared.faults.TextKind.{TextKind}
use Rattle.text_words.specs.declared.faults.TextKind.TheVariants.{Limit}
use Rattle.text_words.specs.PlainWords.{◌>>=◌}
use Rattle.text_words.specs.Place.{Place, fail, judged, word_from, word_by}
use Rattle.text_words.proofs.CutLemmas.{place, ok_is}
use Rattle.text_words.proofs.LoopLemmas.{with_front, err_is, ReadsEntries}
use Rattle.cert_text.specs.Entries.{goes_on, entries_before_in, before_from, entries_before}

module _ {X : Type 0} (stop : List ℕ) (test : List ℕ → Result X TextKind) where
  abbrev all_from : List (List ℕ) → ℕ → X → Result (List X × List (List ℕ)) TextKind
  all_from others room x = entries_before_in stop room test others >>= λ more. Ok (x ∷ more.0, more.1)

  one_more : (p : Place) (others : List (List ℕ)) (x : X) (r : Result (List X × List (List ℕ)) TextKind) → before_from p (r >>= λ more. Ok (x ∷ more.0, more.1)) ≡ with_front (x ∷ []) (before_from (place p.line others p.ahead) r)
  one_more p others x (Ok more) = refl
  one_more p others x (Err k) = refl

  after_judged : (p : Place) (room : ℕ) (others : List (List ℕ)) (judgement : Result X TextKind) (x : X) (q : Place) → judged p others judgement ≡ Ok (x, q)
      → before_from p (judgement >>= all_from others room) ≡ with_front (x ∷ []) (before_from q (entries_before_in stop room test q.words))
  after_judged p room others (Ok y) x q e =
      subst (λ (z : X × Place). before_from p (all_from others room y) ≡ with_front (z.0 ∷ []) (before_from z.1 (entries_before_in stop room test z.1.words)))
      (ok_is (y, place p.line others p.ahead) (x, q) e)
      (one_more p others y (entries_before_in stop room test others))
  after_judged p room others (Err k) x q e = absurd cc

  other_word : (b : Bool) → not b ≡ true → b ≡ false
  other_word true e = absurd cc
  other_word false e = refl

  step : (p : Place) (room : ℕ) (words : List (List ℕ)) (x : X) (q : Place) → goes_on stop words ≡ true → word_from test p words ≡ Ok (x, q)
      → before_from p (entries_before_in stop (suc room) test words) ≡ with_front (x ∷ []) (before_from q (entries_before_in stop room test q.words))
  unfolding entries_before_in
  step p room [] x q on e = absurd cc
  step p room (word ∷ others) x q on e = rw (other_word (bytes_eq word stop) on) (after_judged p room others (test word) x q e)

  fault_after : (p : Place) (room : ℕ) (others : List (List ℕ)) (judgement : Result X TextKind) (f : TextFault) → judged p others judgement ≡ Err f → before_from p (judgement >>= all_from others room) ≡ Err f
  fault_after p room others (Ok y) f e = absurd cc
  fault_after p room others (Err k) f e = ap (λ g. Err g) (err_is {A = X × Place} (record { line = p.line; kind = k }) f e)

  fault_on : (p : Place) (room : ℕ) (words : List (List ℕ)) (f : TextFault) → goes_on stop words ≡ true → word_from test p words ≡ Err f → before_from p (entries_before_in stop (suc room) test words) ≡ Err f
  unfolding entries_before_in
  fault_on p room [] f on e = absurd cc
  fault_on p room (word ∷ others) f on e = rw (other_word (bytes_eq word stop) on) (fault_after p room others (test word) f e)

  limit_on : (p : Place) (words : List (List ℕ)) → goes_on stop words ≡ true → before_from p (entries_before_in stop 0 test words) ≡ fail p.line Limit
  unfolding entries_before_in
  limit_on p [] on = absurd cc
  limit_on p (word ∷ others) on = rw (other_word (bytes_eq word stop) on) refl

  wanted_word : (b : Bool) → not b ≡ false → b ≡ true
  wanted_word true e = refl
  wanted_word false e = absurd cc

  none_in : (room : ℕ) (words : List (List ℕ)) → goes_on stop words ≡ false → entries_before_in stop room test words ≡ Ok ([], words)
  unfolding entries_before_in
  none_in zero [] off = refl
  none_in (suc room) [] off = refl
  none_in zero (word ∷ others) off = rw (wanted_word (bytes_eq word stop) off) refl
  none_in (suc room) (word ∷ others) off = rw (wanted_word (bytes_eq word stop) off) refl

  pub reads_before : ReadsEntries test (λ p. goes_on stop p.words ≡ true) (λ p. goes_on stop p.words ≡ false) (λ room. entries_before stop room test)
  unfolding entries_before word_by
  reads_before = record {
    one = λ room p q x on h. step p room p.words x q on h;
    fault = λ room p f on h. fault_on p room p.words f on h;
    limit = λ p on. limit_on p p.words on;
    none = λ room p off. ap (before_from p) (none_in room p.words off);
  }
