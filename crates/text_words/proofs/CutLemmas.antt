-- A text that is cut short ends at its last line.
use Rattle.std.proofs.Common.{◌≡◌, ℕ, zero, suc, ◌+◌, ◌<◌, Bool, true, false, cond, eqb, List, [], ◌∷◌, ◌++◌, length, take, drop, Option, Some, None, Result, Ok, Err, refl, sym, ap, subst, ◌∙◌, arith, codes, inl, inr, ◌⊎◌}
use Rattle.std.proofs.lemmas.List.{take-append-drop, length-append, length-drop}
use Rattle.text_words.specs.declared.faults.TextFault.{TextFault}
use Rattle.text_words.specs.declared.faults.TextKind.{TextKind}
use Rattle.text_words.specs.declared.faults.TextKind.TheVariants.{Ends, Word}
use Rattle.text_words.specs.Bytes.{onto, cut_at, words_of, line_ends}
use Rattle.text_words.specs.PlainWords.{fixed_in, version_in, number_in}
use Rattle.text_words.specs.Words.{entries_in}
use Rattle.text_words.specs.Place.{Place, Read, ◌>>=◌, go_on, give, fail, line_from, next_line, judged, word_by, end_of_line, text_end_from, end_of_text, line_of, some_word, some_entries, entries_from, entries, times, opening, counted, closing, start}

-- ---- the next line of a text that goes on

-- a line of the text is the line of the text with more behind it
abbrev pub KeepsLine : List ℕ → List ℕ → Option (List ℕ × List ℕ) → Type 0
KeepsLine text more None = line_ends text ≡ 0
KeepsLine text more (Some parts) = (cut_at 10 (text ++ more) ≡ Some (parts.0, parts.1 ++ more)) × (line_ends text ≡ line_ends parts.1 + 1)

one_byte : (b : ℕ) (text more : List ℕ) (t : Bool) → eqb b 10 ≡ t → (o : Option (List ℕ × List ℕ)) → KeepsLine text more o → KeepsLine (b ∷ text) more (cond t (Some ([], text)) (onto b o))
one_byte b text more true is o so = (rw is refl, rw is (omega arith))
one_byte b text more false is None so = rw is (omega (arith, so))
one_byte b text more false is (Some parts) so = (rw (is, so.0) refl, rw is (omega (arith, so.1)))

keeps_line : (text more : List ℕ) → KeepsLine text more (cut_at 10 text)
keeps_line [] more = refl
keeps_line (b ∷ text) more = one_byte b text more (eqb b 10) refl (cut_at 10 text) (keeps_line text more)

-- ---- reading a text that is cut short

abbrev pub place : ℕ → List (List ℕ) → List ℕ → Place
place line words ahead = record { line = line; words = words; ahead = ahead }

-- the text ends within what is read
abbrev pub runs_out : {X : Type 0} → ℕ → List ℕ → Result (X × Place) TextFault
runs_out line text = fail (line + line_ends text + 1) Ends

-- the same is read, and as much less is left
pub record SameRead {X : Type 0} (r : Read X) (line : ℕ) (words : List (List ℕ)) (text more : List ℕ) (x : X) (q : Place) (rest : List ℕ) : Type 0 where
  pub left : q.ahead ≡ rest ++ more
  pub same : r (place line words text) ≡ Ok (x, place q.line q.words rest)
  pub lines : q.line + line_ends rest ≡ line + line_ends text

-- What is read of a text with more behind it is read of the text alone, or the text ends within it.
abbrev pub CutsShort : {X : Type 0} → Read X → Type 0
CutsShort {X} r = (line : ℕ) (words : List (List ℕ)) (text more : List ℕ) (x : X) (q : Place) → r (place line words (text ++ more)) ≡ Ok (x, q)
    → ((rest : List ℕ) × SameRead r line words text more x q rest) ⊎ (r (place line words text) ≡ runs_out line text)

pub bind_ok : {A B : Type 0} (r : Result (A × Place) TextFault) (f : A → Read B) (y : B × Place) → go_on r f ≡ Ok y → (x : A × Place) × (r ≡ Ok x) × (f x.0 x.1 ≡ Ok y)
bind_ok (Ok x) f y e = (x, refl, e)
bind_ok (Err d) f y e = absurd cc

after_both : {A B : Type 0} (r : Read A) (f : A → Read B) (line : ℕ) (words : List (List ℕ)) (text more : List ℕ) (y : B) (q : Place) (x : A) (m : Place) (rest : List ℕ)
    → SameRead r line words text more x m rest
    → (((rest' : List ℕ) × SameRead (f x) m.line m.words rest more y q rest') ⊎ (f x (place m.line m.words rest) ≡ runs_out m.line rest))
    → (((rest' : List ℕ) × SameRead (r >>= f) line words text more y q rest') ⊎ ((r >>= f) (place line words text) ≡ runs_out line text))
after_both r f line words text more y q x m rest s (inl t) = inl (t.0, record { left = t.1.left; same = rw s.same t.1.same; lines = omega (arith, s.lines, t.1.lines) })
after_both r f line words text more y q x m rest s (inr h) =
    let same_line : m.line + line_ends rest + 1 ≡ line + line_ends text + 1 = omega (arith, s.lines) in
    inr (rw s.same (h ∙ ap (λ n. fail n Ends) same_line))

pub cuts_bind : {A B : Type 0} (r : Read A) (f : A → Read B) → CutsShort r → ((x : A) → CutsShort (f x)) → CutsShort (r >>= f)
cuts_bind r f first then line words text more y q e =
    let b = bind_ok (r (place line words (text ++ more))) f (y, q) e in
    elim (first line words text more b.0.0 b.0.1 b.1) [
      | inl s ↦ after_both r f line words text more y q b.0.0 b.0.1 s.0 s.1 (then b.0.0 b.0.1.line b.0.1.words s.0 more y q (subst (λ (ahead : List ℕ). f b.0.0 (place b.0.1.line b.0.1.words ahead) ≡ Ok (y, q)) s.1.left b.2))
      | inr h ↦ inr (rw h refl)
    ]

-- ---- what looks at the line alone

abbrev lined : {X : Type 0} → Result (X × List (List ℕ)) TextFault → ℕ → List ℕ → Result (X × Place) TextFault
lined (Ok p) line ahead = Ok (p.0, place line p.1 ahead)
lined (Err f) line ahead = Err f

-- what is read doesn't depend on what stands after the line, and leaves it
abbrev pub LineOnly : {X : Type 0} → Read X → Type 0
LineOnly {X} r = (line : ℕ) (words : List (List ℕ)) → (o : Result (X × List (List ℕ)) TextFault) × ((ahead : List ℕ) → r (place line words ahead) ≡ lined o line ahead)

abbrev done : {A : Type 0} → A → Result A TextFault
done x = Ok x

pub ok_is : {A : Type 0} (x y : A) → done x ≡ done y → x ≡ y
ok_is x y e = cc

lined_cuts : {X : Type 0} (r : Read X) (line : ℕ) (words : List (List ℕ)) (text more : List ℕ) (x : X) (q : Place) (o : Result (X × List (List ℕ)) TextFault)
    → ((ahead : List ℕ) → r (place line words ahead) ≡ lined o line ahead) → lined o line (text ++ more) ≡ Ok (x, q) → (rest : List ℕ) × SameRead r line words text more x q rest
lined_cuts {X} r line words text more x q (Ok p) is e =
    let same = ok_is (p.0, place line p.1 (text ++ more)) (x, q) e in (
      text,
      record {
        left = ap (λ (z : X × Place). z.1.ahead) (sym same);
        same = is text ∙ ap (λ (z : X × Place). done (z.0, place z.1.line z.1.words text)) same;
        lines = ap (λ (z : X × Place). z.1.line + line_ends text) (sym same);
      },
    )
lined_cuts r line words text more x q (Err f) is e = absurd cc

pub cuts_line_only : {X : Type 0} (r : Read X) → LineOnly r → CutsShort r
cuts_line_only r only line words text more x q e =
    let o = only line words in
    inl (lined_cuts r line words text more x q o.0 o.1 (sym (o.1 (text ++ more)) ∙ e))

pub cuts_give : {A : Type 0} (x : A) → CutsShort (give x)
cuts_give x = cuts_line_only (give x) (λ line words. (Ok (x, words), λ ahead. refl))

judged_only : {X : Type 0} (line : ℕ) (words others : List (List ℕ)) (judgement : Result X TextKind) → (o : Result (X × List (List ℕ)) TextFault) × ((ahead : List ℕ) → judged (place line words ahead) others judgement ≡ lined o line ahead)
judged_only line words others (Ok x) = (Ok (x, others), λ ahead. refl)
judged_only line words others (Err k) = (Err (record { line = line; kind = k }), λ ahead. refl)

word_only : {X : Type 0} (test : List ℕ → Result X TextKind) → LineOnly (word_by test)
unfolding word_by
word_only test line [] = (fail line Word, λ ahead. refl)
word_only test line (word ∷ others) = judged_only line (word ∷ others) others (test word)

pub cuts_word : {X : Type 0} (test : List ℕ → Result X TextKind) → CutsShort (word_by test)
cuts_word test = cuts_line_only (word_by test) (word_only test)

end_only : LineOnly end_of_line
unfolding end_of_line
end_only line [] = (Ok (tt, []), λ ahead. refl)
end_only line (word ∷ others) = (fail line Word, λ ahead. refl)

pub cuts_end_of_line : CutsShort end_of_line
cuts_end_of_line = cuts_line_only end_of_line end_only

entries_only_from : {X : Type 0} (line : ℕ) (words : List (List ℕ)) (xs : Result (List X) TextKind) → (o : Result (List X × List (List ℕ)) TextFault) × ((ahead : List ℕ) → entries_from (place line words ahead) xs ≡ lined o line ahead)
entries_only_from line words (Ok xs) = (Ok (xs, []), λ ahead. refl)
entries_only_from line words (Err k) = (Err (record { line = line; kind = k }), λ ahead. refl)

entries_only : {X : Type 0} (room : ℕ) (test : List ℕ → Result X TextKind) → LineOnly (entries room test)
unfolding entries
entries_only room test line words = entries_only_from line words (entries_in room test words)

pub cuts_entries : {X : Type 0} (room : ℕ) (test : List ℕ → Result X TextKind) → CutsShort (entries room test)
cuts_entries room test = cuts_line_only (entries room test) (entries_only room test)

-- ---- the next line, and the end

line_cuts : (line : ℕ) (words : List (List ℕ)) (text more : List ℕ) (x : Unit {0}) (q : Place) (o : Option (List ℕ × List ℕ)) → cut_at 10 text ≡ o → KeepsLine text more o
    → next_line (place line words (text ++ more)) ≡ Ok (x, q) → ((rest : List ℕ) × SameRead next_line line words text more x q rest) ⊎ (next_line (place line words text) ≡ runs_out line text)
unfolding next_line
line_cuts line words text more x q None is so e = inr (rw is (ap (λ n. fail n Ends) (omega (arith, so))))
line_cuts line words text more x q (Some parts) is so e =
    let same = ok_is (tt, place (line + 1) (words_of parts.0) (parts.1 ++ more)) (x, q) (ap (line_from (line + 1)) (sym so.0) ∙ e) in
    let at : line + 1 ≡ q.line = ap (λ (z : Unit {0} × Place). z.1.line) same in
    inl (
      parts.1,
      record {
        left = ap (λ (z : Unit {0} × Place). z.1.ahead) (sym same);
        same = rw is (ap (λ (z : Unit {0} × Place). done (z.0, place z.1.line z.1.words parts.1)) same);
        lines = omega (arith, so.1, at);
      },
    )

pub cuts_next_line : CutsShort next_line
cuts_next_line line words text more x q e = line_cuts line words text more x q (cut_at 10 text) refl (keeps_line text more) e

pub cuts_end_of_text : CutsShort end_of_text
unfolding end_of_text
cuts_end_of_text line words [] [] x q e =
    let same = ok_is (tt, place line words []) (x, q) e in
    inl (
      [],
      record {
        left = ap (λ (z : Unit {0} × Place). z.1.ahead) (sym same);
        same = ap (λ (z : Unit {0} × Place). done (z.0, place z.1.line z.1.words [])) same;
        lines = ap (λ (z : Unit {0} × Place). z.1.line + 0) (sym same);
      },
    )
cuts_end_of_text line words [] (b ∷ more) x q e = absurd cc
cuts_end_of_text line words (b ∷ text) more x q e = absurd cc

pub cuts_times : {X : Type 0} (n : ℕ) (r : Read X) → CutsShort r → CutsShort (times n r)
unfolding times
cuts_times zero r one = cuts_give []
cuts_times (suc n) r one = cuts_bind r (λ x. times n r >>= λ xs. give (x ∷ xs)) one (λ x. cuts_bind (times n r) (λ xs. give (x ∷ xs)) (cuts_times n r one) (λ xs. cuts_give (x ∷ xs)))

pub cuts_line : {X : Type 0} (r : Read X) → CutsShort r → CutsShort (line_of r)
cuts_line r inside = cuts_bind next_line (λ _. r >>= λ x. end_of_line >>= λ _. give x) cuts_next_line
    (λ _. cuts_bind r (λ x. end_of_line >>= λ _. give x) inside (λ x. cuts_bind end_of_line (λ _. give x) cuts_end_of_line (λ _. cuts_give x)))

some_only : LineOnly some_word
unfolding some_word
some_only line [] = (fail line Word, λ ahead. refl)
some_only line (word ∷ others) = (Ok (tt, word ∷ others), λ ahead. refl)

pub cuts_some_entries : {X : Type 0} (room : ℕ) (test : List ℕ → Result X TextKind) → CutsShort (some_entries room test)
unfolding some_entries
cuts_some_entries room test = cuts_bind some_word (λ _. entries room test) (cuts_line_only some_word some_only) (λ _. cuts_entries room test)

-- ---- lines that texts have in common

-- a line of a word and what follows it
pub cuts_word_line : {X : Type 0} (name : List ℕ) (r : Read X) → CutsShort r → CutsShort (line_of (word_by (fixed_in name) >>= λ _. r))
cuts_word_line name r inside = cuts_line (word_by (fixed_in name) >>= λ _. r) (cuts_bind (word_by (fixed_in name)) (λ _. r) (cuts_word (fixed_in name)) (λ _. inside))

pub cuts_opening : (name : List ℕ) → CutsShort (opening name)
unfolding opening
cuts_opening name = cuts_word_line name (word_by version_in) (cuts_word version_in)

pub cuts_counted : (name : List ℕ) (least most : ℕ) → CutsShort (counted name least most)
unfolding counted
cuts_counted name least most = cuts_word_line name (word_by (number_in least most)) (cuts_word (number_in least most))

pub cuts_closing : CutsShort closing
unfolding closing
cuts_closing = cuts_bind (line_of (word_by (fixed_in (codes "end")))) (λ _. end_of_text) (cuts_line (word_by (fixed_in (codes "end"))) (cuts_word (fixed_in (codes "end")))) (λ _. cuts_end_of_text)

-- ---- nothing is left of a text that is read

end_at : (p : Place) (ahead : List ℕ) (x : Unit {0} × Place) → ahead ≡ p.ahead → text_end_from p ahead ≡ Ok x → x.1.ahead ≡ []
end_at p [] x is e = ap (λ (z : Unit {0} × Place). z.1.ahead) (sym (ok_is (tt, p) x e)) ∙ sym is
end_at p (b ∷ bytes) x is e = absurd cc

pub end_leaves : (p : Place) (x : Unit {0} × Place) → end_of_text p ≡ Ok x → x.1.ahead ≡ []
unfolding end_of_text
end_leaves p x e = end_at p p.ahead x refl e

none_at : (p : Place) (ahead : List ℕ) (x : Unit {0} × Place) → text_end_from p ahead ≡ Ok x → ahead ≡ []
none_at p [] x e = refl
none_at p (b ∷ bytes) x e = absurd cc

pub end_is_reached : (p : Place) (x : Unit {0} × Place) → end_of_text p ≡ Ok x → p.ahead ≡ []
unfolding end_of_text
end_is_reached p x e = none_at p p.ahead x e

pub closing_leaves : (p : Place) (x : Unit {0} × Place) → closing p ≡ Ok x → x.1.ahead ≡ []
unfolding closing
closing_leaves p x e = let b = bind_ok (line_of (word_by (fixed_in (codes "end"))) p) (λ _. end_of_text) x e in end_leaves b.0.1 x b.2

-- nothing is left behind a reader that closes the text
abbrev pub LeavesNothing : {X : Type 0} → Read X → Type 0
LeavesNothing {X} r = (p : Place) (x : X × Place) → r p ≡ Ok x → x.1.ahead ≡ []

pub leaves_closing : {X : Type 0} (value : X) → LeavesNothing (closing >>= λ _. give value)
leaves_closing {X} value p x e =
    let c = bind_ok (closing p) (λ _. give value) x e in
    ap (λ (z : X × Place). z.1.ahead) (sym (ok_is (value, c.0.1) x c.2)) ∙ closing_leaves p c.0 c.1

pub leaves_after : {A B : Type 0} (r : Read A) (f : A → Read B) → ((a : A) → LeavesNothing (f a)) → LeavesNothing (r >>= f)
leaves_after r f leaves p x e = let b = bind_ok (r p) f x e in leaves b.0.0 b.0.1 x b.2

-- ---- the law, for any reader that leaves nothing

pub ends_early : {X : Type 0} (r : Read X) → CutsShort r → LeavesNothing r → (text : List ℕ) (x : X × Place) (k : ℕ)
    → r (start text) ≡ Ok x → k < length text → r (start (take k text)) ≡ runs_out 0 (take k text)
ends_early r cuts leaves text x k e lt =
    let whole : r (place 0 [] (take k text ++ drop k text)) ≡ Ok x = rw (take-append-drop k text) e in
    let whole_leaves = leaves (place 0 [] (take k text ++ drop k text)) x whole in
    elim (cuts 0 [] (take k text) (drop k text) x.0 x.1 whole) [
      | inl s ↦
          let none : length (s.0 ++ drop k text) ≡ 0 = ap length (sym s.1.left ∙ whole_leaves) in
          absurd (omega (arith, length-append s.0 (drop k text), length-drop k text))
      | inr h ↦ h
    ]
