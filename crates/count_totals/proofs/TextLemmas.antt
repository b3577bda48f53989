-- Lines of a text.
use Rattle.std.proofs.Common.{◌≡◌, ◌≢◌, ◌∙◌, ◌+◌, ◌++◌, ◌∷◌, [], ℕ, List, Option, Some, None, Bool, true, false, length, cond, eqb, ap, sym, subst, refl, ⊎_elim, append_assoc, eq-eqb}
use Rattle.text_words.specs.Bytes.{cut_at, onto}
use Rattle.text_words.proofs.WordLemmas.{some_is}
use Rattle.std.proofs.lemmas.List.Elements.{Contains-push_cases}
use Rattle.count_totals.specs.Lines.{AreInRange, AreLinesOf, IsInRange, line_text, text_of}
use Rattle.count_totals.specs.Tallies.{BeginsWith, BeginsWithNone}
use Rattle.count_totals.specs.Totals.{ClashesWith, FailsToTotal, GoTogether, HasClash, Lack}
use Rattle.count_totals.specs.declared.faults.Clash.{Clash}
use Rattle.count_totals.specs.declared.faults.PartsFault.{PartsFault}
use Rattle.count_totals.specs.declared.faults.PartsFault.TheVariants as faults
use Rattle.count_totals.specs.declared.lines.Line.{Line}

pub text_of-push : (lines : List Line) (line : Line) → text_of (lines ++ line ∷ []) ≡ text_of lines ++ (line_text line ++ 10 ∷ [])
text_of-push [] line = refl
text_of-push (l ∷ lines) line =
    ap (λ (t : List ℕ). line_text l ++ 10 ∷ t) (text_of-push lines line)
    ∙ sym (append_assoc (line_text l) (10 ∷ text_of lines) (line_text line ++ 10 ∷ []))

-- a further line
pub one_line_more : (text ahead after : List ℕ) (lines : List Line) (line : Line) → text ≡ text_of lines ++ ahead → ahead ≡ line_text line ++ 10 ∷ after → text ≡ text_of (lines ++ line ∷ []) ++ after
one_line_more text ahead after lines line is first =
    let here : text ≡ text_of lines ++ (line_text line ++ 10 ∷ after) = is ∙ ap (λ (t : List ℕ). text_of lines ++ t) first in
    here ∙ simp (text_of-push, append_assoc)

-- ---- where a text is cut

abbrev Cut : Type 0
Cut = Option (List ℕ × List ℕ)

abbrev uncut : Cut
uncut = None

abbrev cut_into : List ℕ → List ℕ → Cut
cut_into first second = Some (first, second)

some_cut : (first second : List ℕ) → uncut ≡ cut_into first second → ⊥
some_cut first second e = absurd cc

onto_none : (b : ℕ) (o : Cut) → uncut ≡ onto b o → uncut ≡ o
onto_none b None e = refl
onto_none b (Some parts) e = absurd (some_cut (b ∷ parts.0) parts.1 e)

pub never_ended : (c : ℕ) (line more : List ℕ) → uncut ≡ cut_at c (line ++ c ∷ more) → ⊥
never_ended c [] more e = some_cut [] more (rw (eq-eqb c c refl) at e)
never_ended c (b ∷ line) more e = by_byte (never_ended c line more) (eqb b c) e
  where
    by_byte : (uncut ≡ cut_at c (line ++ c ∷ more) → ⊥) → (t : Bool) → uncut ≡ cond t (cut_into [] (line ++ c ∷ more)) (onto b (cut_at c (line ++ c ∷ more))) → ⊥
    by_byte later true e = some_cut [] (line ++ c ∷ more) e
    by_byte later false e = later (onto_none b (cut_at c (line ++ c ∷ more)) e)

pub endless : (c : ℕ) (text : List ℕ) → uncut ≡ cut_at c text → (line more : List ℕ) → text ≡ line ++ c ∷ more → ⊥
endless c text none line more is = never_ended c line more (none ∙ ap (cut_at c) is)

no_byte : (c : ℕ) (line more : List ℕ) → [] ≡ line ++ c ∷ more → ⊥
no_byte c [] more e = absurd cc
no_byte c (b ∷ line) more e = absurd cc

true_is_false : true ≡ false → ⊥
true_is_false e = absurd cc

head_is : (x y : ℕ) (xs ys : List ℕ) → x ∷ xs ≡ y ∷ ys → x ≡ y
head_is x y xs ys e = cc

tail_is : (x y : ℕ) (xs ys : List ℕ) → x ∷ xs ≡ y ∷ ys → xs ≡ ys
tail_is x y xs ys e = cc

abbrev Later : ℕ → (text more : List ℕ) → Type 0
Later c text more = (rest others : List ℕ) → cut_at c text ≡ cut_into rest others → (l : List ℕ) → rest ≡ l ++ c ∷ more → ⊥

-- what stands before the cut has no such byte
pub whole_before : (c : ℕ) (text first second : List ℕ) → cut_at c text ≡ cut_into first second → (line more : List ℕ) → first ≡ line ++ c ∷ more → ⊥
whole_before c [] first second e line more is = absurd cc
whole_before c (b ∷ text) first second e line more is = by_byte (λ rest others cut l here. whole_before c text rest others cut l more here) (eqb b c) refl (cut_at c text) refl e
  where
    behind : Later c text more → eqb b c ≡ false → (rest others : List ℕ) → (cut_at c text ≡ cut_into rest others) → (l : List ℕ) → b ∷ rest ≡ l ++ c ∷ more → ⊥
    behind later other rest others cut [] is = true_is_false (sym (eq-eqb b c (head_is b c rest more is)) ∙ other)
    behind later other rest others cut (x ∷ l) is = later rest others cut l (tail_is b x rest (l ++ c ∷ more) is)

    by_byte : Later c text more → (t : Bool) → eqb b c ≡ t → (o : Cut) → cut_at c text ≡ o → cond t (cut_into [] text) (onto b o) ≡ cut_into first second → ⊥
    by_byte later true at o cut e = no_byte c line more (ap (λ (z : List ℕ × List ℕ). z.0) (some_is ([], text) (first, second) e) ∙ is)
    by_byte later false at None cut e = some_cut first second e
    by_byte later false at (Some parts) cut e =
        let same : b ∷ parts.0 ≡ first = ap (λ (z : List ℕ × List ℕ). z.0) (some_is (b ∷ parts.0, parts.1) (first, second) e) in
        behind later at parts.0 parts.1 cut line (same ∙ is)

-- ---- faults of lines

pub in_range_more : (lines : List Line) (line : Line) → AreInRange lines → IsInRange line → AreInRange (lines ++ line ∷ [])
in_range_more lines line all here = λ l has. ⊎_elim (λ h. all l h) (λ e. subst IsInRange e here) (Contains-push_cases lines line l has)

-- what a fault at the first line behind others says of the text
pub fails_behind : (text ahead : List ℕ) (lines : List Line) (number : ℕ) (fault : PartsFault) → text ≡ text_of lines ++ ahead → ahead ≢ [] → AreInRange lines → GoTogether lines → number ≡ length lines + 1 → BeginsWithNone ahead number fault → FailsToTotal text fault
fails_behind text ahead lines number (faults.Ends at) is some in_range together counted none =
    (lines, together, record { rest = ahead; is = is; in_range = in_range; some = some; endless = none.1 }, none.0 ∙ counted)
fails_behind text ahead lines number (faults.Unknown at) is some in_range together counted (at_is, here, rest, first, whole, unknown) =
    (lines, together, record { here = here; rest = rest; is = is ∙ ap (λ (t : List ℕ). text_of lines ++ t) first; in_range = in_range; whole = whole; unknown = unknown }, at_is ∙ counted)
fails_behind text ahead lines number (faults.Clashes at clash) is some in_range together counted none = absurd none
fails_behind text ahead lines number faults.NoPuzzle is some in_range together counted none = absurd none
fails_behind text ahead lines number faults.NoSplit is some in_range together counted none = absurd none
fails_behind text ahead lines number faults.NoPart is some in_range together counted none = absurd none
fails_behind text ahead lines number (faults.Missing part parts) is some in_range together counted none = absurd none
fails_behind text ahead lines number faults.Memory is some in_range together counted none = absurd none

pub clashes_behind : (text ahead after : List ℕ) (lines : List Line) (line : Line) (number : ℕ) (clash : Clash) → text ≡ text_of lines ++ ahead → BeginsWith ahead line after → AreInRange lines → GoTogether lines → number ≡ length lines + 1 → ClashesWith lines line clash → HasClash text number clash
clashes_behind text ahead after lines line number clash is begins in_range together counted clashes = record {
  before = lines;
  line = line;
  rest = after;
  is = one_line_more text ahead after lines line is begins.is;
  in_range = in_range_more lines line in_range begins.in_range;
  together = together;
  clashes = clashes;
  at = counted;
}

pub fails_at_end : (text : List ℕ) (lines : List Line) (fault : PartsFault) → AreLinesOf text lines → GoTogether lines → Lack lines fault → FailsToTotal text fault
fails_at_end text lines (faults.Ends at) all together lack = absurd lack
fails_at_end text lines (faults.Unknown at) all together lack = absurd lack
fails_at_end text lines (faults.Clashes at clash) all together lack = absurd lack
fails_at_end text lines faults.NoPuzzle all together lack = (lines, all, together, lack)
fails_at_end text lines faults.NoSplit all together lack = (lines, all, together, lack)
fails_at_end text lines faults.NoPart all together lack = (lines, all, together, lack)
fails_at_end text lines (faults.Missing part parts) all together lack = (lines, all, together, lack)
fails_at_end text lines faults.Memory all together lack = tt
