-- The lines of a puzzle: what is read is what was written, and what was written is read again.
use Rattle.std.proofs.Common.{inl, inr, sym, ⊎_elim, ◌≡◌, ◌≢◌, ◌⊎◌, ℕ, zero, suc, ◌<◌, ◌≤◌, Bool, true, false, cond, eqb, List, [], ◌∷◌, ◌++◌, length, map, Ok, Err, refl, ap, subst, ◌∙◌, arith, codes}
use Rattle.match_limits.specs.declared.TheConstants.{MOST_COLOURS, MOST_CELLS, LAST_CELL}
use Rattle.std.specs.Fmt.{decimal}
use Rattle.std.specs.List.{flat_map, AllByRecursion}
use Rattle.std.proofs.lemmas.Bool.{eqb-true, eq-eqb}
use Rattle.std.proofs.lemmas.Fmt.{decimal_digit}
use Rattle.std.proofs.lemmas.List.Concat.{flat_map_single}
use Rattle.std.specs.Str.{bytes_eq}
use Rattle.std.proofs.lemmas.Slice.Eq.{bytes_eq-Decides}
use Rattle.match_board.specs.Borders.{BorderRule, free, one, each}
use Rattle.text_words.specs.declared.faults.TextKind.TheVariants.{Word}
use Rattle.match_board.specs.Mates.{Mating, unmated, mating_of, IsOfVersion}
use Rattle.match_board.specs.Clues.{Clue}
use Rattle.match_limits.specs.declared.ranges.Ranges.{Ranges}
use Rattle.match_limits.specs.Ranges.{IsVersion}
use Rattle.match_text.specs.declared.puzzles.BorderKind.{BorderKind}
use Rattle.match_text.specs.declared.puzzles.BorderKind.TheVariants as kinds
use Rattle.text_words.specs.PlainWords.{fixed_in, number_in, version_in}
use Rattle.text_words.specs.Words.{colour_in, rule_in, tile_in, clue_in}
use Rattle.text_words.specs.Place.{Place, Read, ◌>>=◌, give, word_by, entries, some_entries, counted, times}
use Rattle.match_text.specs.Puzzles.{IsPuzzleVersion, puzzle_version_in, match_line, clue_line, counted_clues, clues_part, turns_in, turns_line, border_kind_in, border_rule, border_line, tile_line, mates_line, mated_part, mating_part}
use Rattle.text_words.specs.Spelling.{text_of, colour_word, rule_word, tile_word, asks_word, first_words, count_words}
use Rattle.match_text.specs.PuzzleSpelling.{clue_words, counted_lines, clues_lines, AreCluesWithin, turns_word, turns_words, border_words, tile_words, IsBorderWithin, IsMatingWithin, mates_words, mates_lines}
use Rattle.text_words.proofs.CutLemmas.{CutsShort, place, bind_ok, ok_is, cuts_bind, cuts_give, cuts_word, cuts_entries, cuts_some_entries, cuts_word_line, cuts_counted, cuts_times}
use Rattle.text_words.proofs.WordLemmas.{Spells, judged_ok, judged_ok_is, spells_fixed, spells_number, spells_version, clean-decimal, clean-words, is_clean, are_clean}
use Rattle.text_words.proofs.ColourLemmas.{spells_colour, spells_rule, spells_tile, spells_clue, word_of_clue, clean-colour, clean-rule, clean-tile, clean-asks}
use Rattle.text_words.proofs.LineLemmas.{TakesRest, TakesLines, takes_word, takes_then_rest, takes_choice, takes_all, takes_line, takes_same, takes_entries, takes_any_entries, takes_two_words, takes_counted, times_is, times_again, lines_then, lines_apart}
use Rattle.text_words.specs.Within.{IsRuleWithin, IsWordWithin, IsClueWithin}

-- ---- the first line

abbrev IsVersionWord : List ℕ → ℕ → Type 0
IsVersionWord word version = (word ≡ decimal version) × IsPuzzleVersion version

three_word : decimal 3 ≡ codes "3"
three_word = decimal_digit 3 (omega arith)

earlier : (version : ℕ) → IsVersion version → IsPuzzleVersion version
earlier version is = ⊎_elim (λ one. (omega (arith, one), omega (arith, one))) (λ two. (omega (arith, two), omega (arith, two))) is

version_first : (word : List ℕ) (version : ℕ) (t : Bool) → bytes_eq word (codes "3") ≡ t → cond t (judged_ok 3) (version_in word) ≡ judged_ok version → IsVersionWord word version
version_first word version true is e = subst (IsVersionWord word) (judged_ok_is 3 version e) ((bytes_eq-Decides word (codes "3")).0 is ∙ sym three_word, (omega arith, omega arith))
version_first word version false is e = let h = spells_version.is word version e in (h.0, earlier version h.1)

pub one_of_three : (version : ℕ) → IsPuzzleVersion version → (version ≡ 1) ⊎ (version ≡ 2) ⊎ (version ≡ 3)
one_of_three zero is = absurd (omega (arith, is.0))
one_of_three (suc zero) is = inl refl
one_of_three (suc (suc zero)) is = inr (inl refl)
one_of_three (suc (suc (suc zero))) is = inr (inr refl)
one_of_three (suc (suc (suc (suc n)))) is = absurd (omega (arith, is.1))

abbrev IsReadAsVersion : ℕ → Type 0
IsReadAsVersion version = puzzle_version_in (decimal version) ≡ judged_ok version

version_again : (version : ℕ) → IsPuzzleVersion version → IsReadAsVersion version
version_again version is =
    ⊎_elim (λ one. subst IsReadAsVersion (sym one) (rw (decimal_digit 1 (omega arith)) refl))
    (λ later. ⊎_elim (λ two. subst IsReadAsVersion (sym two) (rw (decimal_digit 2 (omega arith)) refl)) (λ three. subst IsReadAsVersion (sym three) (rw three_word refl)) later) (one_of_three version is)

spells_puzzle_version : Spells puzzle_version_in decimal IsPuzzleVersion
spells_puzzle_version = record { is = λ word version e. version_first word version (bytes_eq word (codes "3")) refl e; passes = version_again }

pub takes_match : TakesLines match_line (λ version. first_words (codes "match") version ∷ []) IsPuzzleVersion
unfolding match_line
takes_match = takes_two_words (codes "match") puzzle_version_in decimal IsPuzzleVersion refl spells_puzzle_version (λ version is. clean-decimal version (omega (arith, is.1)))

pub cuts_match : CutsShort match_line
unfolding match_line
cuts_match = cuts_word_line (codes "match") (word_by puzzle_version_in) (cuts_word puzzle_version_in)

-- ---- turns

turns_first : (word : List ℕ) (turns : Bool) (t u : Bool) → bytes_eq word (codes "yes") ≡ t → bytes_eq word (codes "no") ≡ u → cond t (judged_ok true) (cond u (judged_ok false) (Err Word)) ≡ judged_ok turns → word ≡ turns_word turns
turns_first word turns true u is is' e = (bytes_eq-Decides word (codes "yes")).0 is ∙ ap turns_word (judged_ok_is true turns e)
turns_first word turns false true is is' e = (bytes_eq-Decides word (codes "no")).0 is' ∙ ap turns_word (judged_ok_is false turns e)
turns_first word turns false false is is' e = absurd cc

turns_again : (turns : Bool) → turns_in (turns_word turns) ≡ Ok turns
turns_again true = refl
turns_again false = refl

clean-turns : (turns : Bool) → is_clean (turns_word turns) ≡ true
clean-turns true = refl
clean-turns false = refl

spells_turns : Spells turns_in turns_word (λ _. Unit {0})
spells_turns = record {
  is = λ word turns e. (turns_first word turns (bytes_eq word (codes "yes")) (bytes_eq word (codes "no")) refl refl e, tt);
  passes = λ turns fits. turns_again turns;
}

pub takes_turns : TakesLines turns_line (λ turns. turns_words turns ∷ []) (λ _. Unit {0})
unfolding turns_line
takes_turns = takes_two_words (codes "turns") turns_in turns_word (λ _. Unit {0}) refl spells_turns (λ turns fits. clean-turns turns)

pub cuts_turns : CutsShort turns_line
unfolding turns_line
cuts_turns = cuts_word_line (codes "turns") (word_by turns_in) (cuts_word turns_in)

-- ---- the border

border_kind_of : BorderRule → BorderKind
border_kind_of free = kinds.Free
border_kind_of (one colour) = kinds.One
border_kind_of (each rules) = kinds.Each

abbrev border_kind_word : BorderKind → List ℕ
border_kind_word kinds.Free = codes "free"
border_kind_word kinds.One = codes "one"
border_kind_word kinds.Each = codes "each"

abbrev border_kind_words : BorderKind → List (List ℕ)
border_kind_words kind = border_kind_word kind ∷ []

-- the words behind the kind
abbrev rest_words : BorderRule → List (List ℕ)
rest_words free = []
rest_words (one colour) = colour_word colour ∷ []
rest_words (each rules) = map rule_word rules

border_kind_first : (word : List ℕ) (kind : BorderKind) (t u v : Bool) → bytes_eq word (codes "free") ≡ t → bytes_eq word (codes "one") ≡ u → bytes_eq word (codes "each") ≡ v
    → cond t (judged_ok kinds.Free) (cond u (judged_ok kinds.One) (cond v (judged_ok kinds.Each) (Err Word))) ≡ judged_ok kind → word ≡ border_kind_word kind
border_kind_first word kind true u v is is' is'' e = (bytes_eq-Decides word (codes "free")).0 is ∙ ap border_kind_word (judged_ok_is kinds.Free kind e)
border_kind_first word kind false true v is is' is'' e = (bytes_eq-Decides word (codes "one")).0 is' ∙ ap border_kind_word (judged_ok_is kinds.One kind e)
border_kind_first word kind false false true is is' is'' e = (bytes_eq-Decides word (codes "each")).0 is'' ∙ ap border_kind_word (judged_ok_is kinds.Each kind e)
border_kind_first word kind false false false is is' is'' e = absurd cc

border_kind_again : (kind : BorderKind) → border_kind_in (border_kind_word kind) ≡ Ok kind
border_kind_again kinds.Free = refl
border_kind_again kinds.One = refl
border_kind_again kinds.Each = refl

spells_border_kind : Spells border_kind_in border_kind_word (λ _. Unit {0})
spells_border_kind = record {
  is = λ word kind e. (border_kind_first word kind (bytes_eq word (codes "free")) (bytes_eq word (codes "one")) (bytes_eq word (codes "each")) refl refl refl e, tt);
  passes = λ kind fits. border_kind_again kind;
}

abbrev IsBorderOfKind : Ranges → BorderKind → BorderRule → Type 0
IsBorderOfKind ranges kind border = (border_kind_of border ≡ kind) × IsBorderWithin ranges border

abbrev IsBorderRead : Ranges → BorderKind → Place → BorderRule × Place → Type 0
IsBorderRead ranges kind p z = (p.words ≡ rest_words z.0) × (p.ahead ≡ z.1.ahead) × IsBorderOfKind ranges kind z.0

takes_colour : TakesRest (word_by colour_in) (λ c. colour_word c ∷ []) (λ c. c < MOST_COLOURS)
takes_colour = takes_all (word_by colour_in) (λ c. colour_word c ∷ []) (λ c. c < MOST_COLOURS) (takes_word colour_in colour_word (λ c. c < MOST_COLOURS) spells_colour)

takes_rules : (most : ℕ) → TakesRest (some_entries most rule_in) (map rule_word) (λ rules. (0 < length rules) × (length rules ≤ most) × AllByRecursion IsRuleWithin rules)
takes_rules most = takes_entries rule_in rule_word IsRuleWithin spells_rule most

rule_is : (ranges : Ranges) (kind : BorderKind) (p : Place) (x : BorderRule) (q : Place) → border_rule ranges kind p ≡ Ok (x, q) → q.words ≡ [] → IsBorderRead ranges kind p (x, q)
unfolding border_rule border_kind_of
rule_is ranges kinds.Free p x q e none =
    let same = ok_is (free, p) (x, q) e in
    subst (IsBorderRead ranges kinds.Free p) same (ap (λ (z : BorderRule × Place). z.1.words) same ∙ none, refl, (refl, tt))
rule_is ranges kinds.One p x q e none =
    let a = bind_ok (word_by colour_in p) (λ colour. give (one colour)) (x, q) e in
    let same = ok_is (one a.0.0, a.0.1) (x, q) a.2 in
    let h = takes_colour.is p a.0.0 a.0.1 a.1 (ap (λ (z : BorderRule × Place). z.1.words) same ∙ none) in
    subst (IsBorderRead ranges kinds.One p) same (h.0, h.1, (refl, h.2))
rule_is ranges kinds.Each p x q e none =
    let a = bind_ok (some_entries ranges.most_rules rule_in p) (λ rules. give (each rules)) (x, q) e in
    let same = ok_is (each a.0.0, a.0.1) (x, q) a.2 in
    let h = (takes_rules ranges.most_rules).is p a.0.0 a.0.1 a.1 (ap (λ (z : BorderRule × Place). z.1.words) same ∙ none) in
    subst (IsBorderRead ranges kinds.Each p) same (h.0, h.1, (refl, h.2))

rule_again : (ranges : Ranges) (x : BorderRule) → IsBorderWithin ranges x → (line : ℕ) (ahead : List ℕ) → border_rule ranges (border_kind_of x) (place line (rest_words x) ahead) ≡ Ok (x, place line [] ahead)
unfolding border_rule border_kind_of
rule_again ranges free fits line ahead = refl
rule_again ranges (one colour) fits line ahead = rw (takes_colour.passes colour fits line ahead) refl
rule_again ranges (each rules) fits line ahead = rw ((takes_rules ranges.most_rules).passes rules fits line ahead) refl

takes_border_rule : (ranges : Ranges) (kind : BorderKind) → TakesRest (border_rule ranges kind) rest_words (IsBorderOfKind ranges kind)
takes_border_rule ranges kind = record {
  is = rule_is ranges kind;
  passes = λ x fits line ahead. subst (λ k. border_rule ranges k (place line (rest_words x) ahead) ≡ Ok (x, place line [] ahead)) fits.0 (rule_again ranges x fits.1 line ahead);
}

border_words_are : (x : BorderRule) → codes "border" ∷ (border_kind_words (border_kind_of x) ++ rest_words x) ≡ border_words x
unfolding border_kind_of
border_words_are free = refl
border_words_are (one colour) = refl
border_words_are (each rules) = refl

clean-behind : (a b : List ℕ) (words : List (List ℕ)) → is_clean a ≡ true → is_clean b ≡ true → are_clean words ≡ true → are_clean (a ∷ b ∷ words) ≡ true
clean-behind a b [] e f h = absurd cc
clean-behind a b (w ∷ words) e f h = rw (e, f, h) refl

clean-border : (ranges : Ranges) (x : BorderRule) → IsBorderWithin ranges x → are_clean (border_words x) ≡ true
clean-border ranges free fits = refl
clean-border ranges (one colour) fits = clean-behind (codes "border") (codes "one") (colour_word colour ∷ []) refl refl (clean-colour colour)
clean-border ranges (each rules) fits = clean-behind (codes "border") (codes "each") (map rule_word rules) refl refl (clean-words rule_word IsRuleWithin clean-rule rules fits.0 fits.2)

abbrev border_rest : Ranges → Read BorderRule
border_rest ranges = word_by border_kind_in >>= λ kind. border_rule ranges kind

pub takes_border : (ranges : Ranges) → TakesLines (border_line ranges) (λ x. border_words x ∷ []) (IsBorderWithin ranges)
unfolding border_line
takes_border ranges =
    let kind = takes_choice (word_by border_kind_in) border_kind_words (λ _. Unit {0}) (border_rule ranges) border_kind_of rest_words (IsBorderWithin ranges) (takes_word border_kind_in border_kind_word (λ _. Unit {0}) spells_border_kind) (λ x fits. tt) (λ kind known. takes_border_rule ranges kind) in
    let line = takes_then_rest (word_by (fixed_in (codes "border"))) (codes "border" ∷ []) (border_rest ranges) (λ x. border_kind_words (border_kind_of x) ++ rest_words x) (IsBorderWithin ranges) (takes_word (fixed_in (codes "border")) (λ _. codes "border") (λ _. Unit {0}) (spells_fixed (codes "border"))) kind in
    takes_line (word_by (fixed_in (codes "border")) >>= λ _. border_rest ranges) border_words (IsBorderWithin ranges)
    (takes_same (word_by (fixed_in (codes "border")) >>= λ _. border_rest ranges) (λ x. codes "border" ∷ (border_kind_words (border_kind_of x) ++ rest_words x)) border_words (IsBorderWithin ranges) border_words_are line) (clean-border ranges)

cuts_rule : (ranges : Ranges) (kind : BorderKind) → CutsShort (border_rule ranges kind)
unfolding border_rule
cuts_rule ranges kinds.Free = cuts_give free
cuts_rule ranges kinds.One = cuts_bind (word_by colour_in) (λ colour. give (one colour)) (cuts_word colour_in) (λ colour. cuts_give (one colour))
cuts_rule ranges kinds.Each = cuts_bind (some_entries ranges.most_rules rule_in) (λ rules. give (each rules)) (cuts_some_entries ranges.most_rules rule_in) (λ rules. cuts_give (each rules))

pub cuts_border : (ranges : Ranges) → CutsShort (border_line ranges)
unfolding border_line
cuts_border ranges = cuts_word_line (codes "border") (border_rest ranges) (cuts_bind (word_by border_kind_in) (border_rule ranges) (cuts_word border_kind_in) (cuts_rule ranges))

-- ---- mates

abbrev AreColoursWithin : List ℕ → Type 0
AreColoursWithin mates = (length mates ≤ MOST_COLOURS) × AllByRecursion (λ colour. colour < MOST_COLOURS) mates

clean-mates : (mates : List ℕ) → AreColoursWithin mates → are_clean (mates_words mates) ≡ true
clean-mates [] fits = refl
clean-mates (mate ∷ mates) fits = rw (clean-words colour_word (λ colour. colour < MOST_COLOURS) (λ colour few. clean-colour colour) (mate ∷ mates) (omega arith) fits.1) refl

takes_mates : TakesLines mates_line (λ mates. mates_words mates ∷ []) AreColoursWithin
unfolding mates_line
takes_mates =
    takes_line (word_by (fixed_in (codes "mates")) >>= λ _. entries MOST_COLOURS colour_in) mates_words AreColoursWithin
    (takes_then_rest (word_by (fixed_in (codes "mates"))) (codes "mates" ∷ []) (entries MOST_COLOURS colour_in) (map colour_word) AreColoursWithin
    (takes_word (fixed_in (codes "mates")) (λ _. codes "mates") (λ _. Unit {0}) (spells_fixed (codes "mates"))) (takes_any_entries colour_in colour_word (λ colour. colour < MOST_COLOURS) spells_colour MOST_COLOURS)) clean-mates

cuts_mates : CutsShort mates_line
unfolding mates_line
cuts_mates = cuts_word_line (codes "mates") (entries MOST_COLOURS colour_in) (cuts_entries MOST_COLOURS colour_in)

-- what the part of a version was read from
abbrev pub IsMatingRead : ℕ → Place → Mating × Place → Type 0
IsMatingRead version p z = (z.0.version ≡ version) × (p.ahead ≡ text_of (mates_lines z.0) ++ z.1.ahead) × IsMatingWithin z.0

no_mates_are : (p : Place) (m : Mating) (q : Place) → give unmated p ≡ Ok (m, q) → IsMatingRead 1 p (m, q)
unfolding text_of
no_mates_are p m q e = subst (IsMatingRead 1 p) (ok_is (unmated, p) (m, q) e) (refl, refl, (inl (refl, refl), omega arith, tt))

mates_are : (version : ℕ) → eqb version 1 ≡ false → ((mates : List ℕ) → IsOfVersion (mating_of version mates)) → (p : Place) (m : Mating) (q : Place) → mated_part version p ≡ Ok (m, q) → IsMatingRead version p (m, q)
mates_are version later of p m q e =
    let a = bind_ok (mates_line p) (λ mates. give (mating_of version mates)) (m, q) e in
    let h = takes_mates.is p a.0.0 a.0.1 a.1 in
    subst (IsMatingRead version p) (ok_is (mating_of version a.0.0, a.0.1) (m, q) a.2) (refl, rw later h.0, (of a.0.0, h.1.0, h.1.1))

first_part : mating_part 1 ≡ give unmated
unfolding mating_part
first_part = refl

later_part : (version : ℕ) → eqb version 1 ≡ false → mating_part version ≡ mated_part version
unfolding mating_part
later_part version later = rw later refl

-- what is read of the mates in a version
abbrev MatingIs : ℕ → Type 0
MatingIs version = (p : Place) (m : Mating) (q : Place) → mating_part version p ≡ Ok (m, q) → IsMatingRead version p (m, q)

later_is : (version : ℕ) → eqb version 1 ≡ false → ((mates : List ℕ) → IsOfVersion (mating_of version mates)) → MatingIs version
later_is version later of p m q e = mates_are version later of p m q (ap (λ (r : Read Mating). r p) (sym (later_part version later)) ∙ e)

pub mating_is : (version : ℕ) → IsPuzzleVersion version → MatingIs version
mating_is version is =
    ⊎_elim (λ one. subst MatingIs (sym one) (λ p m q e. no_mates_are p m q (ap (λ (r : Read Mating). r p) (sym first_part) ∙ e)))
    (λ others. ⊎_elim (λ two. subst MatingIs (sym two) (later_is 2 refl (λ mates. inr (inl refl)))) (λ three. subst MatingIs (sym three) (later_is 3 refl (λ mates. inr (inr refl)))) others) (one_of_three version is)

-- a mating by its version and mates
same_mating : (m n : Mating) → m.version ≡ n.version → m.mates ≡ n.mates → m ≡ n
same_mating m n e f = ap (λ k. mating_of k m.mates) e ∙ ap (λ ms. mating_of n.version ms) f

-- what is to be read of a version's part
abbrev pub IsReadAgain : Mating → ℕ → List ℕ → Type 0
IsReadAgain m line rest = (end : ℕ) × (mating_part m.version (place line [] (text_of (mates_lines m) ++ rest)) ≡ Ok (m, place end [] rest))

unmated_again : (line : ℕ) (rest : List ℕ) → IsReadAgain unmated line rest
unfolding mating_part text_of
unmated_again line rest = (line, refl)

later_again : (m : Mating) → eqb m.version 1 ≡ false → IsMatingWithin m → (line : ℕ) (rest : List ℕ) → IsReadAgain m line rest
unfolding mating_part
later_again m later fits line rest = let again = takes_mates.passes m.mates (fits.1, fits.2) line [] rest in (again.0, rw (later, again.1) refl)

pub mating_again : (m : Mating) → IsMatingWithin m → (line : ℕ) (rest : List ℕ) → IsReadAgain m line rest
mating_again m fits line rest =
    ⊎_elim
    (λ w. subst (λ n. IsReadAgain n line rest) (sym (same_mating m unmated w.0 w.1)) (unmated_again line rest))
    (λ later. later_again m (⊎_elim (λ two. rw two refl) (λ three. rw three refl) later) fits line rest)
    fits.0

cuts_chosen : (version : ℕ) (first : Bool) → CutsShort (cond first (give unmated) (mated_part version))
cuts_chosen version true = cuts_give unmated
cuts_chosen version false = cuts_bind mates_line (λ mates. give (mating_of version mates)) cuts_mates (λ mates. cuts_give (mating_of version mates))

pub cuts_mating : (version : ℕ) → CutsShort (mating_part version)
unfolding mating_part
cuts_mating version = cuts_chosen version (eqb version 1)

-- ---- clues

abbrev IsCell : ℕ → Type 0
IsCell n = (0 ≤ n) × (n ≤ LAST_CELL)

abbrev IsClueAt : ℕ → Clue → Type 0
IsClueAt cell c = (c.cell ≡ cell) × IsClueWithin c

abbrev cell_of : Clue → ℕ
cell_of c = c.cell

abbrev rest_of_clue : Clue → List (List ℕ)
rest_of_clue c = decimal c.cell ∷ asks_word c.asks ∷ []

abbrev asks_words : Clue → List (List ℕ)
asks_words c = asks_word c.asks ∷ []

spells_clue_at : (cell : ℕ) → IsCell cell → Spells (clue_in cell) word_of_clue (IsClueAt cell)
spells_clue_at cell known = record {
  is = λ word c e. let h = (spells_clue cell).is word c e in (h.0, (h.1.0, (omega (arith, known.1, h.1.0), h.1.1)));
  passes = λ c fits. (spells_clue cell).passes c (fits.0, fits.1.1);
}

takes_asks : (cell : ℕ) → IsCell cell → TakesRest (word_by (clue_in cell)) asks_words (IsClueAt cell)
takes_asks cell known = takes_all (word_by (clue_in cell)) asks_words (IsClueAt cell) (takes_word (clue_in cell) word_of_clue (IsClueAt cell) (spells_clue_at cell known))

abbrev clue_rest : Read Clue
clue_rest = word_by (number_in 0 LAST_CELL) >>= λ cell. word_by (clue_in cell)

clean-clue : (c : Clue) → IsClueWithin c → are_clean (clue_words c) ≡ true
clean-clue c fits = rw (clean-decimal c.cell (omega (arith, fits.0)), clean-asks c.asks fits.1.1) refl

takes_clue : TakesLines clue_line (λ c. clue_words c ∷ []) IsClueWithin
unfolding clue_line
takes_clue =
    let cell = takes_choice (word_by (number_in 0 LAST_CELL)) (λ n. decimal n ∷ []) IsCell (λ cell. word_by (clue_in cell)) cell_of asks_words IsClueWithin
    (takes_word (number_in 0 LAST_CELL) decimal IsCell (spells_number 0 LAST_CELL (omega arith))) (λ c fits. (omega arith, fits.0)) takes_asks in
    takes_line (word_by (fixed_in (codes "clue")) >>= λ _. clue_rest) clue_words IsClueWithin
    (takes_then_rest (word_by (fixed_in (codes "clue"))) (codes "clue" ∷ []) clue_rest rest_of_clue IsClueWithin
    (takes_word (fixed_in (codes "clue")) (λ _. codes "clue") (λ _. Unit {0}) (spells_fixed (codes "clue"))) cell) clean-clue

cuts_clue : CutsShort clue_line
unfolding clue_line
cuts_clue = cuts_word_line (codes "clue") clue_rest (cuts_bind (word_by (number_in 0 LAST_CELL)) (λ cell. word_by (clue_in cell)) (cuts_word (number_in 0 LAST_CELL)) (λ cell. cuts_word (clue_in cell)))

abbrev AreFewClues : List Clue → Type 0
AreFewClues clues = (length clues ≤ MOST_CELLS) × AllByRecursion IsClueWithin clues

abbrev clue_count : Read ℕ
clue_count = counted (codes "clues") 0 MOST_CELLS

abbrev count_lines : ℕ → List (List (List ℕ))
count_lines count = count_words (codes "clues") count ∷ []

counted_are : (clues : List Clue) → count_lines (length clues) ++ flat_map (λ c. clue_words c ∷ []) clues ≡ counted_lines clues
counted_are clues = ap (λ lines. count_lines (length clues) ++ lines) (flat_map_single clue_words clues)

takes_clue_count : TakesLines clue_count count_lines (λ n. (0 ≤ n) × (n ≤ MOST_CELLS))
takes_clue_count = takes_counted (codes "clues") 0 MOST_CELLS refl (omega arith)

counted_is : (p : Place) (clues : List Clue) (q : Place) → counted_clues p ≡ Ok (clues, q) → (p.ahead ≡ text_of (counted_lines clues) ++ q.ahead) × AreFewClues clues
unfolding counted_clues
counted_is p clues q e =
    let n = bind_ok (clue_count p) (λ count. times count clue_line) (clues, q) e in
    let one = takes_clue_count.is p n.0.0 n.0.1 n.1 in
    let two = times_is clue_line (λ c. clue_words c ∷ []) IsClueWithin takes_clue n.0.0 n.0.1 clues q n.2 in
    let head : p.ahead ≡ text_of (count_lines (length clues)) ++ n.0.1.ahead = subst (λ m. p.ahead ≡ text_of (count_lines m) ++ n.0.1.ahead) (sym two.1) one.0 in
    let whole = lines_then p.ahead (count_lines (length clues)) (flat_map (λ c. clue_words c ∷ []) clues) n.0.1.ahead q.ahead head two.0 in
    (whole ∙ ap (λ lines. text_of lines ++ q.ahead) (counted_are clues), (omega (arith, two.1, one.1.1), two.2))

counted_again : (clues : List Clue) → AreFewClues clues → (line : ℕ) (words : List (List ℕ)) (rest : List ℕ) → (end : ℕ) × (counted_clues (place line words (text_of (counted_lines clues) ++ rest)) ≡ Ok (clues, place end [] rest))
unfolding counted_clues
counted_again clues fits line words rest =
    let others = flat_map (λ c. clue_words c ∷ []) clues in
    let one = takes_clue_count.passes (length clues) (omega arith, fits.0) line words (text_of others ++ rest) in
    let two = times_again clue_line (λ c. clue_words c ∷ []) IsClueWithin takes_clue clues fits.1 one.0 rest in
    (two.0, rw (sym (counted_are clues), lines_apart (count_lines (length clues)) others rest, one.1, two.1) refl)

-- the lines of the clues, if this is the third version
abbrev chosen_lines : Bool → List Clue → List (List (List ℕ))
chosen_lines third clues = cond third (counted_lines clues) []

no_clues_are : (version : ℕ) (p : Place) (clues : List Clue) (q : Place) → give [] p ≡ Ok (clues, q) → (p.ahead ≡ text_of [] ++ q.ahead) × AreCluesWithin version clues
unfolding text_of
no_clues_are version p clues q e = subst (λ (z : List Clue × Place). (p.ahead ≡ text_of [] ++ z.1.ahead) × AreCluesWithin version z.0) (ok_is ([], p) (clues, q) e) (refl, ((λ other. refl), omega arith, tt))

no_clues_again : (clues : List Clue) → clues ≡ [] → (line : ℕ) (rest : List ℕ) → (end : ℕ) × (give [] (place line [] (text_of [] ++ rest)) ≡ Ok (clues, place end [] rest))
unfolding text_of
no_clues_again clues none line rest = (line, rw none refl)

true_false : true ≡ false → ⊥
true_false e = cc

not_third : (version : ℕ) → eqb version 3 ≡ false → version ≢ 3
not_third version other is = let same : eqb version 3 ≡ true = eq-eqb version 3 is in true_false (sym same ∙ other)

clues_is : (version : ℕ) (third : Bool) → eqb version 3 ≡ third → (p : Place) (clues : List Clue) (q : Place) → cond third counted_clues (give []) p ≡ Ok (clues, q)
    → (p.ahead ≡ text_of (chosen_lines third clues) ++ q.ahead) × AreCluesWithin version clues
clues_is version true is p clues q e = let h = counted_is p clues q e in (h.0, ((λ other. absurd (other (eqb-true version 3 is))), h.1.0, h.1.1))
clues_is version false is p clues q e = no_clues_are version p clues q e

clues_again : (version : ℕ) (third : Bool) → eqb version 3 ≡ third → (clues : List Clue) → AreCluesWithin version clues → (line : ℕ) (rest : List ℕ)
    → (end : ℕ) × (cond third counted_clues (give []) (place line [] (text_of (chosen_lines third clues) ++ rest)) ≡ Ok (clues, place end [] rest))
clues_again version true is clues fits line rest = counted_again clues (fits.1, fits.2) line [] rest
clues_again version false is clues fits line rest = no_clues_again clues (fits.0 (not_third version is)) line rest

pub clues_read : (version : ℕ) (p : Place) (clues : List Clue) (q : Place) → clues_part version p ≡ Ok (clues, q) → (p.ahead ≡ text_of (clues_lines version clues) ++ q.ahead) × AreCluesWithin version clues
unfolding clues_part
clues_read version p clues q e = clues_is version (eqb version 3) refl p clues q e

pub clues_read_again : (version : ℕ) (clues : List Clue) → AreCluesWithin version clues → (line : ℕ) (rest : List ℕ) → (end : ℕ) × (clues_part version (place line [] (text_of (clues_lines version clues) ++ rest)) ≡ Ok (clues, place end [] rest))
unfolding clues_part
clues_read_again version clues fits line rest = clues_again version (eqb version 3) refl clues fits line rest

cuts_chosen_clues : (third : Bool) → CutsShort (cond third counted_clues (give []))
unfolding counted_clues
cuts_chosen_clues true = cuts_bind clue_count (λ count. times count clue_line) (cuts_counted (codes "clues") 0 MOST_CELLS) (λ count. cuts_times count clue_line cuts_clue)
cuts_chosen_clues false = cuts_give []

pub cuts_clues : (version : ℕ) → CutsShort (clues_part version)
unfolding clues_part
cuts_clues version = cuts_chosen_clues (eqb version 3)

-- ---- the tiles

pub takes_tile : TakesLines tile_line (λ word. tile_words word ∷ []) IsWordWithin
unfolding tile_line
takes_tile = takes_two_words (codes "tile") tile_in tile_word IsWordWithin refl spells_tile (λ word fits. clean-tile word)

pub cuts_tile : CutsShort tile_line
unfolding tile_line
cuts_tile = cuts_word_line (codes "tile") (word_by tile_in) (cuts_word tile_in)
