-- Writing words and lines one after the other.
use Rattle.std.proofs.Common.{◌≡◌, ℕ, ◌+◌, ◌<◌, ◌≤◌, List, [], ◌∷◌, ◌++◌, length, get_or, take, map, refl, sym, ap, ◌∙◌, append_assoc, arith, codes, Option, slice_index}
use Rattle.std.specs.List.{flat_map, join_with_byte}
use Rattle.std.proofs.lemmas.List.{append-nil, take_all, take_more, map-append, length-map, length-take}
use Rattle.std.proofs.lemmas.List.Concat.{flat_map-append}
use Rattle.text_words.specs.Spelling.{colour_word, line_text, text_of, spaced, space_before, rule_word, tile_word, colour_character, ask_character, asks_word}

-- one word more
join-push : (words : List (List ℕ)) (word : List ℕ) → join_with_byte 32 (words ++ word ∷ []) ≡ join_with_byte 32 words ++ (space_before (length words) ++ word)
join-push [] word = refl
join-push (w ∷ []) word = refl
join-push (w ∷ v ∷ words) word = ap (λ t. w ++ 32 ∷ t) (join-push (v ∷ words) word) ∙ sym (append_assoc w (32 ∷ join_with_byte 32 (v ∷ words)) (32 ∷ word))

module _ {X : Type 0} where
  -- one value more on a line
  pub words_more : (word_of : X → List ℕ) (xs : List X) (i : ℕ) (d : X) → i < length xs
      → join_with_byte 32 (map word_of (take (i + 1) xs)) ≡ join_with_byte 32 (map word_of (take i xs)) ++ (space_before i ++ word_of (get_or xs i d))
  words_more word_of xs i d lt =
      let len : length (map word_of (take i xs)) ≡ i = simp (length-map, length-take) (omega arith) in
      let words : map word_of (take (i + 1) xs) ≡ map word_of (take i xs) ++ word_of (get_or xs i d) ∷ [] =
      ap (map word_of) (take_more xs i d lt) ∙ map-append word_of (take i xs) (get_or xs i d ∷ []) in
      let one = join-push (map word_of (take i xs)) (word_of (get_or xs i d)) in
      ap (join_with_byte 32) words ∙ one ∙ ap (λ n. join_with_byte 32 (map word_of (take i xs)) ++ (space_before n ++ word_of (get_or xs i d))) len

  -- one value more, on a line of its own
  pub lines_more : (words_of : X → List (List ℕ)) (xs : List X) (i : ℕ) (d : X) → i < length xs
      → text_of (map words_of (take (i + 1) xs)) ≡ text_of (map words_of (take i xs)) ++ line_text (words_of (get_or xs i d))
  unfolding text_of
  lines_more words_of xs i d lt =
      let lines : map words_of (take (i + 1) xs) ≡ map words_of (take i xs) ++ words_of (get_or xs i d) ∷ [] =
      ap (map words_of) (take_more xs i d lt) ∙ map-append words_of (take i xs) (get_or xs i d ∷ []) in
      ap (flat_map line_text) lines ∙ flat_map-append line_text (map words_of (take i xs)) (words_of (get_or xs i d) ∷ [])
      ∙ ap (λ t. flat_map line_text (map words_of (take i xs)) ++ t) (append-nil (line_text (words_of (get_or xs i d))))

-- ---- a text, line by line

module _ {X : Type 0} (words_of : X → List (List ℕ)) (xs : List X) where
  -- the lines of the first i
  abbrev pub first_lines : ℕ → List ℕ
  first_lines i = text_of (map words_of (take i xs))

  -- none at first
  pub no_line : (text : List ℕ) → text ≡ text ++ first_lines 0
  unfolding text_of
  no_line text = sym (append-nil text)

  -- one line more
  pub one_line : (text before after : List ℕ) (i : ℕ) (x : X) → i < length xs → x ≡ get_or xs i x → before ≡ text ++ first_lines i → after ≡ before ++ line_text (words_of x) → after ≡ text ++ first_lines (i + 1)
  one_line text before after i x lt is so_far e =
      let line = line_text (words_of (get_or xs i x)) in
      e ∙ ap (λ y. before ++ line_text (words_of y)) is ∙ ap (λ t. t ++ line) so_far ∙ append_assoc text (first_lines i) line ∙ ap (λ t. text ++ t) (sym (lines_more words_of xs i x lt))

  -- all of them
  pub all_lines : (text : List ℕ) (i : ℕ) → length xs ≤ i → text ++ first_lines i ≡ text ++ text_of (map words_of xs)
  all_lines text i le = ap (λ ys. text ++ text_of (map words_of ys)) (take_all i xs le)

-- lines, and those behind them
pub text_of-append : (a b : List (List (List ℕ))) → text_of (a ++ b) ≡ text_of a ++ text_of b
unfolding text_of
text_of-append a b = flat_map-append line_text a b

-- a line by itself
pub line_alone : (words : List (List ℕ)) → text_of (words ∷ []) ≡ line_text words
unfolding text_of
line_alone words = append-nil (line_text words)

-- ---- words with a space before each

pub spaced-append : (words more : List (List ℕ)) → spaced (words ++ more) ≡ spaced words ++ spaced more
unfolding spaced
spaced-append words more = flat_map-append (λ word. 32 ∷ word) words more

-- words by the first
pub joined_spaced : (word : List ℕ) (words : List (List ℕ)) → join_with_byte 32 (word ∷ words) ≡ word ++ spaced words
unfolding spaced
joined_spaced word [] = sym (append-nil word)
joined_spaced word (next ∷ words) = ap (λ text. word ++ 32 ∷ text) (joined_spaced next words)

-- a line by its first word
pub line_text-cons : (word : List ℕ) (words : List (List ℕ)) → line_text (word ∷ words) ≡ (word ++ spaced words) ++ 10 ∷ []
unfolding line_text
line_text-cons word words = ap (λ text. text ++ 10 ∷ []) (joined_spaced word words)

-- ---- parts of a puzzle's text

-- one rule more behind the words of a border
pub rules_more : (rules : List (Option ℕ)) (i : ℕ) (d : Option ℕ) → i < length rules
    → join_with_byte 32 (codes "border" ∷ codes "each" ∷ map rule_word (take (i + 1) rules)) ≡ join_with_byte 32 (codes "border" ∷ codes "each" ∷ map rule_word (take i rules)) ++ (32 ∷ rule_word (get_or rules i d))
rules_more rules i d lt =
    let words : map rule_word (take (i + 1) rules) ≡ map rule_word (take i rules) ++ rule_word (get_or rules i d) ∷ [] =
    ap (map rule_word) (take_more rules i d lt) ∙ map-append rule_word (take i rules) (get_or rules i d ∷ []) in
    ap (λ ws. join_with_byte 32 (codes "border" ∷ codes "each" ∷ ws)) words ∙ join-push (codes "border" ∷ codes "each" ∷ map rule_word (take i rules)) (rule_word (get_or rules i d))

-- one mate more
pub mates_more : (mates : List ℕ) (i d : ℕ) → i < length mates → join_with_byte 32 (codes "mates" ∷ map colour_word (take (i + 1) mates)) ≡ join_with_byte 32 (codes "mates" ∷ map colour_word (take i mates)) ++ (32 ∷ colour_word (get_or mates i d))
mates_more mates i d lt =
    let words : map colour_word (take (i + 1) mates) ≡ map colour_word (take i mates) ++ colour_word (get_or mates i d) ∷ [] =
    ap (map colour_word) (take_more mates i d lt) ∙ map-append colour_word (take i mates) (get_or mates i d ∷ []) in
    ap (λ ws. join_with_byte 32 (codes "mates" ∷ ws)) words ∙ join-push (codes "mates" ∷ map colour_word (take i mates)) (colour_word (get_or mates i d))

-- one colour more
pub colours_more : (word : List ℕ) (side : ℕ) → side < length word → tile_word (take (side + 1) word) ≡ tile_word (take side word) ++ colour_character (slice_index word side) ∷ []
colours_more word side lt = ap tile_word (take_more word side 0 lt) ∙ map-append colour_character (take side word) (get_or word side 0 ∷ [])

-- one rule of a clue more
pub asks_more : (asks : List (Option ℕ)) (side : ℕ) (d : Option ℕ) → side < length asks → asks_word (take (side + 1) asks) ≡ asks_word (take side asks) ++ ask_character (get_or asks side d) ∷ []
asks_more asks side d lt = ap asks_word (take_more asks side d lt) ∙ map-append ask_character (take side asks) (get_or asks side d ∷ [])

-- the parts of a text, as they are written
pub nine_parts : (a b c d e f g h i : List ℕ) → a ++ (b ++ (c ++ (d ++ (e ++ (f ++ (g ++ (h ++ i))))))) ≡ (((((((a ++ b) ++ c) ++ d) ++ e) ++ f) ++ g) ++ h) ++ i
nine_parts a b c d e f g h i = simp append_assoc refl
