-- Words of colours: a colour, a rule of the border, a tile, a clue.
use Rattle.std.proofs.Common.{◌≡◌, ◌⊎◌, ℕ, ◌+◌, ◌-◌, ◌<◌, ◌≤◌, Bool, true, false, cond, eqb, leb, ◌&&◌, ◌||◌, List, [], ◌∷◌, ◌++◌, length, Option, Some, None, Ok, refl, ap, subst, ◌∙◌, arith, codes, inl, inr}
use Rattle.match_limits.specs.declared.TheConstants.{MOST_COLOURS}
use Rattle.std.specs.List.{AllByRecursion}
use Rattle.std.specs.Str.{bytes_eq}
use Rattle.std.proofs.lemmas.Bool.{cases_lt, eqb-true, ne_eqb, lt-ltb, le-ltb, leb-true, le-leb, lt-leb}
use Rattle.std.proofs.lemmas.List.{length-map}
use Rattle.std.proofs.lemmas.Slice.Eq.{bytes_eq-Decides}
use Rattle.text_words.specs.declared.faults.TextKind.TheVariants.{Word}
use Rattle.text_words.specs.PlainWords.{or_word}
use Rattle.match_board.specs.Clues.{Clue}
use Rattle.text_words.specs.Words.{colour_of, colour_in, colours_in, rule_in, tile_in, asks_in, clue_with, clue_in}
use Rattle.text_words.specs.Spelling.{colour_character, colour_word, rule_word, tile_word, ask_character, asks_word}
use Rattle.text_words.proofs.WordLemmas.{Spells, judged_ok, judged_ok_is, judged_bind, or_word_is, if_ok, both, some, some_is, is_clean, after_word}
use Rattle.text_words.specs.Within.{IsRuleWithin, IsWordWithin, AreAsksWithin}

-- ---- a colour

colour_first : (b c : ℕ) (t u : Bool) → (leb 48 b && leb b 57) ≡ t → (leb 97 b && leb b 122) ≡ u → cond t (some (b - 48)) (cond u (some (b - 87)) None) ≡ some c → (b ≡ colour_character c) × (c < MOST_COLOURS)
colour_first b c true u is is' e =
    let range = both (leb 48 b) (leb b 57) is in
    let low : 48 ≤ b = leb-true 48 b range.0 in
    let high : b ≤ 57 = leb-true b 57 range.1 in
    let same : b - 48 ≡ c = some_is (b - 48) c e in
    let small : c < 10 = omega (arith, same, low, high) in
    (rw (lt-ltb c 10 small) (omega (arith, same, low, high)), omega (arith, small))
colour_first b c false true is is' e =
    let range = both (leb 97 b) (leb b 122) is' in
    let low : 97 ≤ b = leb-true 97 b range.0 in
    let high : b ≤ 122 = leb-true b 122 range.1 in
    let same : b - 87 ≡ c = some_is (b - 87) c e in
    let large : 10 ≤ c = omega (arith, same, low, high) in
    (rw (le-ltb c 10 large) (omega (arith, same, low, high)), omega (arith, same, low, high))
colour_first b c false false is is' e = absurd cc

colour_is : (b c : ℕ) → colour_of b ≡ some c → (b ≡ colour_character c) × (c < MOST_COLOURS)
colour_is b c e = colour_first b c (leb 48 b && leb b 57) (leb 97 b && leb b 122) refl refl e

colour_again : (c : ℕ) → c < MOST_COLOURS → colour_of (colour_character c) ≡ some c
colour_again c fits =
    elim (cases_lt c 10) [
      | inl lt ↦ rw (lt-ltb c 10 lt, le-leb 48 (c + 48) (omega arith), le-leb (c + 48) 57 (omega (arith, lt))) (ap some (omega arith))
      | inr ge ↦ rw (le-ltb c 10 ge, le-leb 48 (c + 87) (omega arith), lt-leb (c + 87) 57 (omega (arith, ge)), le-leb 97 (c + 87) (omega (arith, ge)), le-leb (c + 87) 122 (omega (arith, fits))) (ap some (omega arith))
    ]

character_low : (c : ℕ) → 48 ≤ colour_character c
character_low c =
    elim (cases_lt c 10) [
      | inl lt ↦ rw (lt-ltb c 10 lt) (omega arith)
      | inr ge ↦ rw (le-ltb c 10 ge) (omega arith)
    ]

character_other : (c other : ℕ) → other < 48 → eqb (colour_character c) other ≡ false
character_other c other lt = ne_eqb (colour_character c) other (omega (arith, lt, character_low c))

pub clean-colour : (c : ℕ) → is_clean (colour_word c) ≡ true
clean-colour c = rw (character_other c 32 (omega arith), character_other c 10 (omega arith)) refl

colour_in_is : (word : List ℕ) (c : ℕ) → colour_in word ≡ Ok c → (word ≡ colour_word c) × (c < MOST_COLOURS)
unfolding colour_in
colour_in_is [] c e = absurd cc
colour_in_is (b ∷ []) c e = let h = colour_is b c (or_word_is (colour_of b) c e) in (ap (λ x. x ∷ []) h.0, h.1)
colour_in_is (b ∷ d ∷ word) c e = absurd cc

colour_in_again : (c : ℕ) → c < MOST_COLOURS → colour_in (colour_word c) ≡ Ok c
unfolding colour_in
colour_in_again c fits = ap or_word (colour_again c fits)

pub spells_colour : Spells colour_in colour_word (λ c. c < MOST_COLOURS)
spells_colour = record { is = colour_in_is; passes = colour_in_again }

-- ---- a rule of the border

rule_first : (word : List ℕ) (rule : Option ℕ) (t : Bool) → bytes_eq word (codes "-") ≡ t → cond t (judged_ok None) (after_word (colour_in word) (λ c. judged_ok (Some c))) ≡ judged_ok rule → (word ≡ rule_word rule) × IsRuleWithin rule
rule_first word rule true is e = subst (λ (z : Option ℕ). (word ≡ rule_word z) × IsRuleWithin z) (judged_ok_is None rule e) ((bytes_eq-Decides word (codes "-")).0 is, tt)
rule_first word rule false is e =
    let b = judged_bind (colour_in word) (λ c. judged_ok (Some c)) rule e in
    subst (λ (z : Option ℕ). (word ≡ rule_word z) × IsRuleWithin z) (judged_ok_is (Some b.0) rule b.2) (colour_in_is word b.0 b.1)

rule_in_is : (word : List ℕ) (rule : Option ℕ) → rule_in word ≡ Ok rule → (word ≡ rule_word rule) × IsRuleWithin rule
unfolding rule_in
rule_in_is word rule e = rule_first word rule (bytes_eq word (codes "-")) refl e

rule_in_again : (rule : Option ℕ) → IsRuleWithin rule → rule_in (rule_word rule) ≡ Ok rule
unfolding rule_in
rule_in_again None fits = refl
rule_in_again (Some c) fits = rw (character_other c 45 (omega arith), colour_in_again c fits) refl

pub spells_rule : Spells rule_in rule_word IsRuleWithin
spells_rule = record { is = rule_in_is; passes = rule_in_again }

pub clean-rule : (rule : Option ℕ) → IsRuleWithin rule → is_clean (rule_word rule) ≡ true
clean-rule None fits = refl
clean-rule (Some c) fits = clean-colour c

-- ---- a tile

abbrev AreColours : List ℕ → Type 0
AreColours colours = AllByRecursion (λ c. c < MOST_COLOURS) colours

colours_in_is : (word colours : List ℕ) → colours_in word ≡ Ok colours → (word ≡ tile_word colours) × AreColours colours
colours_in_is [] colours e = subst (λ (z : List ℕ). ([] ≡ tile_word z) × AreColours z) (judged_ok_is [] colours e) (refl, tt)
colours_in_is (b ∷ word) colours e =
    let a = judged_bind (or_word (colour_of b)) (λ c. after_word (colours_in word) (λ cs. judged_ok (c ∷ cs))) colours e in
    let d = judged_bind (colours_in word) (λ cs. judged_ok (a.0 ∷ cs)) colours a.2 in
    let one = colour_is b a.0 (or_word_is (colour_of b) a.0 a.1) in
    let more = colours_in_is word d.0 d.1 in
    let whole : b ∷ word ≡ tile_word (a.0 ∷ d.0) = ap (λ x. x ∷ word) one.0 ∙ ap (λ xs. colour_character a.0 ∷ xs) more.0 in
    subst (λ (z : List ℕ). (b ∷ word ≡ tile_word z) × AreColours z) (judged_ok_is (a.0 ∷ d.0) colours d.2) (whole, (one.1, more.1))

colours_in_again : (colours : List ℕ) → AreColours colours → colours_in (tile_word colours) ≡ Ok colours
colours_in_again [] fits = refl
colours_in_again (c ∷ colours) fits = rw (colour_again c fits.0, colours_in_again colours fits.1) refl

three_or_four : (n : ℕ) (t : Bool) → eqb n 3 ≡ t → (t || eqb n 4) ≡ true → (n ≡ 3) ⊎ (n ≡ 4)
three_or_four n true is e = inl (eqb-true n 3 is)
three_or_four n false is e = inr (eqb-true n 4 e)

tile_test : (n : ℕ) → (n ≡ 3) ⊎ (n ≡ 4) → (eqb n 3 || eqb n 4) ≡ true
tile_test n (inl e) = rw e refl
tile_test n (inr e) = rw e refl

tile_in_is : (word colours : List ℕ) → tile_in word ≡ Ok colours → (word ≡ tile_word colours) × IsWordWithin colours
unfolding tile_in
tile_in_is word colours e =
    let a = if_ok (eqb (length word) 3 || eqb (length word) 4) (colours_in word) Word colours e in
    let h = colours_in_is word colours a.1 in
    let long : length word ≡ length colours = ap length h.0 ∙ length-map colours colour_character in
    (h.0, (subst (λ n. (n ≡ 3) ⊎ (n ≡ 4)) long (three_or_four (length word) (eqb (length word) 3) refl a.0), h.1))

tile_in_again : (colours : List ℕ) → IsWordWithin colours → tile_in (tile_word colours) ≡ Ok colours
unfolding tile_in
tile_in_again colours fits =
    let long : (eqb (length (tile_word colours)) 3 || eqb (length (tile_word colours)) 4) ≡ true = ap (λ n. eqb n 3 || eqb n 4) (length-map colours colour_character) ∙ tile_test (length colours) fits.0 in
    rw (long, colours_in_again colours fits.1) refl

pub spells_tile : Spells tile_in tile_word IsWordWithin
spells_tile = record { is = tile_in_is; passes = tile_in_again }

pub clean-tile : (colours : List ℕ) → is_clean (tile_word colours) ≡ true
clean-tile [] = refl
clean-tile (c ∷ colours) = rw (character_other c 32 (omega arith), character_other c 10 (omega arith), clean-tile colours) refl

-- ---- a clue

abbrev AreRules : List (Option ℕ) → Type 0
AreRules asks = AllByRecursion IsRuleWithin asks

one_ask : (rule : Option ℕ) → rule_word rule ≡ ask_character rule ∷ []
one_ask None = refl
one_ask (Some c) = refl

ask_again : (rule : Option ℕ) → IsRuleWithin rule → rule_in (ask_character rule ∷ []) ≡ Ok rule
ask_again rule fits = subst (λ (word : List ℕ). rule_in word ≡ Ok rule) (one_ask rule) (rule_in_again rule fits)

asks_in_is : (word : List ℕ) (asks : List (Option ℕ)) → asks_in word ≡ Ok asks → (word ≡ asks_word asks) × AreRules asks
asks_in_is [] asks e = subst (λ (z : List (Option ℕ)). ([] ≡ asks_word z) × AreRules z) (judged_ok_is [] asks e) (refl, tt)
asks_in_is (b ∷ word) asks e =
    let a = judged_bind (rule_in (b ∷ [])) (λ r. after_word (asks_in word) (λ rs. judged_ok (r ∷ rs))) asks e in
    let d = judged_bind (asks_in word) (λ rs. judged_ok (a.0 ∷ rs)) asks a.2 in
    let one = rule_in_is (b ∷ []) a.0 a.1 in
    let more = asks_in_is word d.0 d.1 in
    let first : b ∷ [] ≡ ask_character a.0 ∷ [] = one.0 ∙ one_ask a.0 in
    let whole : b ∷ word ≡ asks_word (a.0 ∷ d.0) = ap (λ x. x ++ word) first ∙ ap (λ xs. ask_character a.0 ∷ xs) more.0 in
    subst (λ (z : List (Option ℕ)). (b ∷ word ≡ asks_word z) × AreRules z) (judged_ok_is (a.0 ∷ d.0) asks d.2) (whole, (one.1, more.1))

asks_in_again : (asks : List (Option ℕ)) → AreRules asks → asks_in (asks_word asks) ≡ Ok asks
asks_in_again [] fits = refl
asks_in_again (rule ∷ asks) fits = rw (ask_again rule fits.0, asks_in_again asks fits.1) refl

-- a clue of the cell, with as many sides as there may be
abbrev pub IsClueOf : ℕ → Clue → Type 0
IsClueOf cell c = (c.cell ≡ cell) × AreAsksWithin c.asks

abbrev clue : ℕ → List (Option ℕ) → Clue
clue cell asks = record { cell = cell; asks = asks }

clue_in_is : (cell : ℕ) (word : List ℕ) (c : Clue) → clue_in cell word ≡ Ok c → (word ≡ asks_word c.asks) × IsClueOf cell c
unfolding clue_in clue_with
clue_in_is cell word c e =
    let a = if_ok (eqb (length word) 3 || eqb (length word) 4) (clue_with cell word) Word c e in
    let b = judged_bind (asks_in word) (λ asks. judged_ok (clue cell asks)) c a.1 in
    let h = asks_in_is word b.0 b.1 in
    let long : length word ≡ length b.0 = ap length h.0 ∙ length-map b.0 ask_character in
    let sides = subst (λ n. (n ≡ 3) ⊎ (n ≡ 4)) long (three_or_four (length word) (eqb (length word) 3) refl a.0) in
    subst (λ (z : Clue). (word ≡ asks_word z.asks) × IsClueOf cell z) (judged_ok_is (clue cell b.0) c b.2) (h.0, (refl, (sides, h.1)))

clue_again : (c : Clue) → AreAsksWithin c.asks → clue_in c.cell (asks_word c.asks) ≡ Ok c
unfolding clue_in clue_with
clue_again c fits =
    let long : (eqb (length (asks_word c.asks)) 3 || eqb (length (asks_word c.asks)) 4) ≡ true = ap (λ n. eqb n 3 || eqb n 4) (length-map c.asks ask_character) ∙ tile_test (length c.asks) fits.0 in
    rw (long, asks_in_again c.asks fits.1) refl

abbrev pub word_of_clue : Clue → List ℕ
word_of_clue c = asks_word c.asks

pub spells_clue : (cell : ℕ) → Spells (clue_in cell) word_of_clue (IsClueOf cell)
spells_clue cell = record {
  is = clue_in_is cell;
  passes = λ c fits. subst (λ n. clue_in n (asks_word c.asks) ≡ Ok c) fits.0 (clue_again c fits.1);
}

clean-rest : (rule : Option ℕ) (word : List ℕ) → IsRuleWithin rule → is_clean word ≡ true → is_clean (ask_character rule ∷ word) ≡ true
clean-rest None word fits clean = clean
clean-rest (Some c) word fits clean = rw (character_other c 32 (omega arith), character_other c 10 (omega arith), clean) refl

pub clean-asks : (asks : List (Option ℕ)) → AreRules asks → is_clean (asks_word asks) ≡ true
clean-asks [] fits = refl
clean-asks (rule ∷ asks) fits = clean-rest rule (asks_word asks) fits.0 (clean-asks asks fits.1)
