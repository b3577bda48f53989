-- Where lines of counted parts stand, by the words that name it.
use Rattle.std.proofs.Common.{◌≡◌, ◌∙◌, ◌||◌, zero, suc, Bool, true, false, List, [], ◌∷◌, Option, Some, None, Contains, inl, inr, refl, sym, ap, arith, codes, length, map}
use Rattle.std.specs.Prelude.{find}
use Rattle.std.specs.Borrow.{Bor}
use Rattle.std.specs.List.{list_any}
use Rattle.std.specs.Option.{option_map, option_map_or}
use Rattle.std.specs.Str.{bytes_eq}
use Rattle.std.proofs.lemmas.Slice.Eq.{bytes_eq-Decides}
use Rattle.clap.specs.Facts.{Entry}
use Rattle.clap.specs.Matches.{matched_of, raw_values}
use Rattle.clap.specs.Walk.{Row, Text, first_of, row_of, rows_of}
use Rattle.clap.specs.declared.parser.matches.Found.{Found}
use Rattle.clap.proofs.WalkLemmas.{find_row}
use Rattle.match_limits.proofs.ListLemmas.{contains_cons, contains_none}
use Rattle.command_words.specs.Orders.{AreNamedParts, IsOrderOf, values_of}
use Rattle.command_words.specs.Places.{input_name}
use Rattle.command_words.specs.declared.orders.Order.{Order}
use Rattle.command_words.specs.declared.orders.Order.TheVariants as orders
use Rattle.command_words.specs.declared.places.PartPlaces.{PartPlaces}
use Rattle.command_words.specs.declared.places.PartPlaces.TheVariants as parts
use Rattle.command_words.proofs.MisfitLemmas.{differ}
use Rattle.command_words.proofs.ProgramLemmas.{none_is_some, some_is}

-- ---- a word among words

first_is : (name word : Text) (names : List Text) → name ≡ word → Contains (name ∷ names) word
first_is name word names is = (zero, omega arith, is)

later_is : (name word : Text) (names : List Text) → Contains names word → Contains (name ∷ names) word
later_is name word names c = (suc c.0, omega (arith, c.1), c.2)

pub is_among : (names : List (Bor Text)) (word : Text) → list_any (λ name. bytes_eq name.now word) names ≡ true → Contains (map (λ name. name.now) names) word
is_among [] word e = absurd cc
is_among (name ∷ names) word e = go (bytes_eq name.now word) refl (is_among names word) e
  where
    go : (b : Bool) → bytes_eq name.now word ≡ b → (list_any (λ other. bytes_eq other.now word) names ≡ true → Contains (map (λ other. other.now) names) word)
        → (b || list_any (λ other. bytes_eq other.now word) names) ≡ true → Contains (map (λ other. other.now) (name ∷ names)) word
    go true is later any = first_is name.now word _ ((bytes_eq-Decides name.now word).0 is)
    go false is later any = later_is name.now word _ (later any)

pub is_found : (names : List (Bor Text)) (word : Text) → Contains (map (λ name. name.now) names) word → list_any (λ name. bytes_eq name.now word) names ≡ true
is_found [] word c = absurd (contains_none word c)
is_found (name ∷ names) word c = go (bytes_eq name.now word) refl (is_found names word)
  where
    go : (b : Bool) → bytes_eq name.now word ≡ b → (Contains (map (λ other. other.now) names) word → list_any (λ other. bytes_eq other.now word) names ≡ true)
        → (b || list_any (λ other. bytes_eq other.now word) names) ≡ true
    go true is later = refl
    go false is later = elim (contains_cons name.now (map (λ other. other.now) names) word c) [
      | inl same ↦ let found : bytes_eq name.now word ≡ true = (bytes_eq-Decides name.now word).1 same in absurd cc
      | inr behind ↦ later behind
    ]

-- ---- where lines stand

-- standard input alone
pub alone : (names : List Text) → length names ≡ 1 → Contains names input_name → names ≡ input_name ∷ []
alone [] one has = absurd (omega (arith, one))
alone (name ∷ []) one has = elim (contains_cons name [] input_name has) [
  | inl same ↦ ap (λ (n : Text). n ∷ []) same
  | inr later ↦ absurd (contains_none input_name later)
]
alone (name ∷ (other ∷ names)) one has = absurd (omega (arith, one))

-- nowhere, where standard input is named beside others
pub no_parts : (names : List Text) → (length names ≡ 1 → ⊥) → Contains names input_name → (any : PartPlaces) → AreNamedParts names any → ⊥
no_parts names many has parts.Input is = many (ap length is)
no_parts names many has (parts.Files files) is = is.1 has

-- none of a sum of lines that stand nowhere
pub no_total : (rows : List Row) → ((any : PartPlaces) → AreNamedParts (values_of (codes "FILE") rows) any → ⊥) → (order : Order) → IsOrderOf (Some (codes "total", rows)) order → ⊥
no_total rows nowhere orders.Joined is = is
no_total rows nowhere (orders.Check order) is = differ (codes "total") (codes "check") refl is.0
no_total rows nowhere (orders.Explain given) is = differ (codes "total") (codes "explain") refl is.0
no_total rows nowhere (orders.ExplainPuzzle puzzle) is = differ (codes "total") (codes "explain") refl is.0
no_total rows nowhere (orders.Find order) is = differ (codes "total") (codes "find") refl is.0
no_total rows nowhere (orders.Solve order) is = differ (codes "total") (codes "solve") refl is.0
no_total rows nowhere (orders.Expand order) is = differ (codes "total") (codes "expand") refl is.0
no_total rows nowhere (orders.Page order) is = differ (codes "total") (codes "page") refl is.0
no_total rows nowhere (orders.Count given) is = differ (codes "total") (codes "count") refl is.0
no_total rows nowhere (orders.Census order) is = differ (codes "total") (codes "count") refl is.0
no_total rows nowhere (orders.Total places) is = nowhere places is.1
no_total rows nowhere (orders.Generate order) is = differ (codes "total") (codes "generate") refl is.0
no_total rows nowhere (orders.Show subject) is = differ (codes "total") (codes "show") refl is.0
no_total rows nowhere (orders.Draw order) is = differ (codes "total") (codes "draw") refl is.0
no_total rows nowhere (orders.DrawAll order) is = differ (codes "total") (codes "draw") refl is.0
no_total rows nowhere (orders.Cut order) is = differ (codes "total") (codes "draw") refl is.0
no_total rows nowhere (orders.Symmetries puzzle) is = differ (codes "total") (codes "symmetries") refl is.0
no_total rows nowhere (orders.Tiles order) is = differ (codes "total") (codes "tiles") refl is.0

-- ---- all values of an argument

all_values : (f : Found) (id : Text) → option_map raw_values (matched_of f id) ≡ option_map (λ (r : Row). r.values) (find (λ r. bytes_eq r.id id) (rows_of f))
all_values f id = go (find (λ (e : Entry). bytes_eq e.0.now id) f.entries.items) ∙ ap (option_map (λ (r : Row). r.values)) (sym (find_row f.entries.items id))
  where
    go : (o : Option Entry) → option_map raw_values (option_map (λ e. e.1) o) ≡ option_map (λ (r : Row). r.values) (option_map row_of o)
    go None = refl
    go (Some e) = refl

pub values_are : (f : Found) (id : Text) (values : List Text) → option_map raw_values (matched_of f id) ≡ Some values → values_of id (rows_of f) ≡ values
values_are f id values is = go (find (λ r. bytes_eq r.id id) (rows_of f)) (sym (all_values f id) ∙ is)
  where
    go : (o : Option Row) → option_map (λ (r : Row). r.values) o ≡ Some values → option_map_or (λ (r : Row). r.values) o [] ≡ values
    go None e = absurd (none_is_some e)
    go (Some r) e = some_is e

-- an argument that has a text has values
pub has_values : (f : Found) (id : Text) (text : Text) → first_of id (rows_of f) ≡ Some text → option_map raw_values (matched_of f id) ≡ None → ⊥
has_values f id text has none = go (find (λ r. bytes_eq r.id id) (rows_of f)) refl (sym (all_values f id) ∙ none)
  where
    go : (o : Option Row) → find (λ r. bytes_eq r.id id) (rows_of f) ≡ o → option_map (λ (r : Row). r.values) o ≡ None → ⊥
    go None is e = let bad : first_of id (rows_of f) ≡ None = rw is refl in none_is_some (sym bad ∙ has)
    go (Some r) is e = none_is_some (sym e)
