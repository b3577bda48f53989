-- What the program's commands have, where they take words.
use Rattle.std.proofs.Common.{◌≡◌, ◌≢◌, ◌∙◌, ◌&&◌, ◌||◌, ℕ, Bool, true, false, not, cond, List, [], ◌∷◌, Option, Some, None, inl, inr, refl, sym, ap, ap₂, subst, codes, is_some, option_map}
use Rattle.std.specs.Prelude.{fold, find, slice_index_or, unwrap_or}
use Rattle.std.specs.List.{AllByRecursion, list_all}
use Rattle.std.specs.Option.{option_map_or}
use Rattle.std.specs.Str.{bytes_eq}
use Rattle.std.proofs.lemmas.Slice.Eq.{bytes_eq-Decides}
use Rattle.clap.specs.Facts.{parser_of_value}
use Rattle.clap.specs.ValueTests.{accepts}
use Rattle.clap.specs.Takes.{takes, value_passes}
use Rattle.clap.specs.Words.{IsUnsignedIn}
use Rattle.clap.specs.declared.builder.value_parser.ValueParser.{ValueParser}
use Rattle.clap.specs.Lexer.{long_of, short_of}
use Rattle.clap.specs.Walk.{Held, Names, Outcome, Row, Rule, Step, Text, Waiting, Walk, action_of, after_flag, after_step, answers_to, arg_by_id, arg_by_index, bundle, arg_by_long, done, first_of, idle, long_met, long_or_other, next, nothing_held, option, plain, plain_word, positional, refused, rows_after, short_or_plain, subcommand, subcommand_met, subcommand_or_other, to_positional, trailing, value, waits, walk, walk_from, walked, walked_from, word_met}
use Rattle.clap.specs.Simple.{App, HasMatchesOf, Shape, app_of, built, entered, is_simple, label_of, names_of, new_rule, new_shape, rows_at, subcommand_of, subcommand_rows}
use Rattle.clap.specs.Faults.{entered_fault, fault_of, is_simple_and_free, level_fault, other_fault, step_fault, turn_fault, walk_fault, word_fault}
use Rattle.clap.specs.Kinds.{HasKind, IsAmong, or_else}
use Rattle.clap.specs.Matches.{has_subcommand, subcommand_name_of}
use Rattle.clap.specs.declared.builder.command.Command.{Command}
use Rattle.clap.specs.declared.parser.matches.ArgMatches.{ArgMatches}
use Rattle.clap.specs.declared.parser.matches.ArgMatches.TheViews.{out-ArgMatches}
use Rattle.clap.specs.declared.builder.value_parser.ValueParser.TheVariants as parsers
use Rattle.clap.specs.Values.{bool_text, kind_of, read_as, reading_of}
use Rattle.clap.specs.declared.error.Error.{Error}
use Rattle.clap.specs.declared.error.kind.ErrorKind.TheVariants as kinds
use Rattle.clap.proofs.OnLiterals.{clap_on_literals}
use Rattle.clap.proofs.ValueTestLemmas.{accepts-Accepts}
use Rattle.command_words.specs.Commands.{whole_app}
use Rattle.command_words.specs.Orders.{HasFiles, HasFlag, HasNumber, HasText, IsFaultOf, IsMisfit, IsOrder, IsOrderOf, IsRefused, MayHaveNumber}
use Rattle.command_words.specs.declared.orders.Order.{Order}
use Rattle.command_words.specs.declared.orders.Order.TheVariants.{Joined}
use Rattle.command_words.specs.declared.faults.WordsFault.{WordsFault}
use Rattle.command_words.specs.declared.faults.WordsFault.TheVariants.{Words, Memory}
use Rattle.command_words.proofs.FaultlessWalk.{IsGiven, IsValued, always_given, first_passes, found_has, is_always_given, none_of_both, puts_values, wants_values}

pub some_is : {A : Type 0} {x y : A} → Some x ≡ Some y → x ≡ y
some_is e = cc

pub none_is_some : {A : Type 0} {x : A} → None ≡ Some x → ⊥
none_is_some e = absurd cc

-- ---- where the walk stops

-- the walk did not stop at `help`
abbrev pub StopsElsewhere : Option (Text × List Text) → Type 0
StopsElsewhere None = Unit {0}
StopsElsewhere (Some p) = bytes_eq p.0 (codes "help") ≡ false

-- the step does not enter `help`
abbrev EntersElsewhere : Step → Type 0
EntersElsewhere (subcommand name) = bytes_eq name (codes "help") ≡ false
EntersElsewhere step = Unit {0}

plain_enters : (c : List Rule) (waiting : Waiting) (word : Text) (h : Held) → EntersElsewhere (plain_word c waiting word h).1
plain_enters c idle word h = tt
plain_enters c positional word h = tt
plain_enters c (option id) word h = tt

flag_enters : (c : List Rule) (waiting : Waiting) (word : Text) (h : Held) (o : Outcome) → EntersElsewhere (after_flag c waiting word h o).1
flag_enters c waiting word h done = tt
flag_enters c waiting word h (waits id) = tt
flag_enters c waiting word h plain = plain_enters c waiting word h
flag_enters c waiting word h refused = plain_enters c waiting word h

other_enters : (c : List Rule) (waiting : Waiting) (word : Text) (o : Option (Text × Option Text)) (h : Held) → EntersElsewhere (long_or_other c waiting word o h).1
other_enters c waiting word (Some p) h =
    let met = long_met c (arg_by_long c p.0) p.1 h in
    flag_enters c waiting word met.0 met.1
other_enters c waiting word None h = go (short_of word)
  where
    go : (o : Option Text) → EntersElsewhere (short_or_plain c waiting word o h).1
    go None = plain_enters c waiting word h
    go (Some flags) =
        let met = bundle c flags h in
        flag_enters c waiting word met.0 met.1

module _ (s : Shape) (helps : s.disable_help_subcommand ≡ false) (names : Names) where
  no_help : (name : Text) → cond (bytes_eq name (codes "help") && not s.disable_help_subcommand) (kinds.DisplayHelp ∷ kinds.InvalidSubcommand ∷ []) [] ≡ [] → bytes_eq name (codes "help") ≡ false
  no_help name e = go (bytes_eq name (codes "help")) s.disable_help_subcommand helps e
    where
      go : (b disabled : Bool) → disabled ≡ false → cond (b && not disabled) (kinds.DisplayHelp ∷ kinds.InvalidSubcommand ∷ []) [] ≡ [] → b ≡ false
      go false disabled is e = refl
      go true false is e = absurd cc
      go true true is e = absurd cc

  word_enters : (is_trailing : Bool) (waiting : Waiting) (position : ℕ) (word : Text) (h : Held) → word_fault s names is_trailing waiting word h ≡ []
      → EntersElsewhere (word_met s.rules names is_trailing waiting position word h).1
  word_enters true waiting position word h e = tt
  word_enters false waiting position word h e = go (subcommand_met names waiting word) e
    where
      other : (b : Bool) → EntersElsewhere (cond b (h, trailing position) (long_or_other s.rules waiting word (long_of word) h)).1
      other true = tt
      other false = other_enters s.rules waiting word (long_of word) h

      go : (o : Option Text) → other_fault s o word h ≡ [] → EntersElsewhere (subcommand_or_other s.rules o waiting position word h).1
      go (Some name) none = no_help name none
      go None none = other (bytes_eq word (45 ∷ 45 ∷ []))

  step_stops : (word : Text) (w : Walk) (h : Held) (step : Step) → EntersElsewhere step → StopsElsewhere w.stopped → StopsElsewhere (after_step s.rules word w h step).stopped
  step_stops word w h (next waiting) enters stops = stops
  step_stops word w h (trailing position) enters stops = stops
  step_stops word w h (subcommand name) enters stops = enters
  step_stops word w h value enters stops = go (arg_by_index s.rules w.position)
    where
      go : (o : Option Rule) → StopsElsewhere (to_positional s.rules o word w h).stopped
      go None = stops
      go (Some a) = tt

  turn_stops : (w : Walk) (word : Text) → turn_fault s names w word ≡ [] → StopsElsewhere w.stopped → StopsElsewhere (walked s.rules names w word).stopped
  unfolding walked
  turn_stops w word e stops = go w.stopped e stops
    where
      met : Held × Step
      met = word_met s.rules names w.is_trailing w.waiting w.position word w.held

      go : (o : Option (Text × List Text)) → cond (is_some o) [] (or_else (word_fault s names w.is_trailing w.waiting word w.held) (step_fault s w.position met.0 met.1)) ≡ []
          → StopsElsewhere o → StopsElsewhere (walked_from s.rules names o w word).stopped
      go (Some p) none before = before
      go None none before =
          let parts = none_of_both (word_fault s names w.is_trailing w.waiting word w.held) _ none in
          step_stops word w met.0 met.1 (word_enters w.is_trailing w.waiting w.position word w.held parts.0) stops

  pub walk_stops : (w : Walk) (words : List Text) → walk_fault s names w words ≡ [] → StopsElsewhere w.stopped → StopsElsewhere (fold (walked s.rules names) w words).stopped
  unfolding walk_fault
  walk_stops w [] e stops = stops
  walk_stops w (word ∷ words) e stops =
      let parts = none_of_both (turn_fault s names w word) _ e in
      walk_stops (walked s.rules names w word) words parts.1 (turn_stops w word parts.0 stops)

-- ---- what is found by a name

-- the things have different names
abbrev pub names_differ : {X : Type 0} → (X → Text) → List X → Bool
names_differ name [] = true
names_differ name (x ∷ xs) = list_all (λ y. not (bytes_eq (name x) (name y))) xs && names_differ name xs

abbrev named : {X : Type 0} → (X → Text) → List X → Text → Option X
named name xs id = find (λ x. bytes_eq (name x) id) xs

both_true : (a b : Bool) → (a && b) ≡ true → (a ≡ true) × (b ≡ true)
both_true true b e = (refl, e)
both_true false b e = absurd cc

same_text : (t : Text) → bytes_eq t t ≡ true
same_text t = (bytes_eq-Decides t t).1 refl

found_behind : {X : Type 0} (name : X → Text) (x : X) (xs ys : List X) → list_all (λ y. not (bytes_eq (name x) (name y))) ys ≡ true
    → AllByRecursion (λ y. named name xs (name y) ≡ Some y) ys → AllByRecursion (λ y. named name (x ∷ xs) (name y) ≡ Some y) ys
found_behind name x xs [] differ found = tt
found_behind name x xs (y ∷ ys) differ found =
    let parts = both_true (not (bytes_eq (name x) (name y))) _ differ in
    (go (bytes_eq (name x) (name y)) parts.0, found_behind name x xs ys parts.1 found.1)
  where
    go : (b : Bool) → not b ≡ true → cond b (Some x) (named name xs (name y)) ≡ Some y
    go true e = absurd cc
    go false e = found.0

-- things of different names are found by their names
each_found : {X : Type 0} (name : X → Text) (xs : List X) → names_differ name xs ≡ true → AllByRecursion (λ x. named name xs (name x) ≡ Some x) xs
each_found name [] differ = tt
each_found name (x ∷ xs) differ =
    let parts = both_true (list_all (λ y. not (bytes_eq (name x) (name y))) xs) _ differ in
    (rw (same_text (name x)) refl, found_behind name x xs xs parts.0 (each_found name xs parts.1))

found_passes : {X : Type 0} (test : X → Bool) (xs : List X) (x : X) → find test xs ≡ Some x → test x ≡ true
found_passes test [] x e = absurd cc
found_passes test (y ∷ ys) x e = go (test y) refl (found_passes test ys x) e
  where
    go : (b : Bool) → test y ≡ b → (find test ys ≡ Some x → test x ≡ true) → cond b (Some y) (find test ys) ≡ Some x → test x ≡ true
    go true is later e = subst (λ z. test z ≡ true) (some_is e) is
    go false is later e = later e

-- ---- the commands

-- a use of the argument puts values in
abbrev takes_a_value : Rule → Bool
takes_a_value a = puts_values (action_of a) (wants_values a)

-- the command's arguments have different names and take values
abbrev is_ready : Shape → Bool
is_ready s = names_differ (λ a. a.id) s.rules && (list_all takes_a_value s.rules && not s.subcommand_negates_reqs)

abbrev is_none : List Text → Bool
is_none [] = true
is_none (alias ∷ aliases) = false

-- the command has one name alone, and is ready unless that is `help`
abbrev is_usual : Shape → Bool
is_usual s = is_none s.aliases && (bytes_eq s.name (codes "help") || is_ready s)

all_valued : (c rules : List Rule) → AllByRecursion (λ a. arg_by_id c a.id ≡ Some a) rules → list_all takes_a_value rules ≡ true → AllByRecursion (IsValued c) rules
all_valued c [] own puts = tt
all_valued c (a ∷ rules) own puts = let parts = both_true _ _ puts in (record { own = own.0; puts = parts.0 }, all_valued c rules own.1 parts.1)

-- Each word that a command needs, or has a default for, is given.
abbrev pub HasNeeded : Shape → List Row → Type 0
HasNeeded s rows = (a : Rule) → arg_by_id s.rules a.id ≡ Some a → is_always_given a ≡ true → IsGiven a rows

-- The first value of each argument passes its parser.
abbrev pub HasPassing : Shape → List Row → Type 0
HasPassing s rows = (a : Rule) → arg_by_id s.rules a.id ≡ Some a → (text : Text) → first_of a.id rows ≡ Some text → value_passes a text ≡ true

-- the command of this name
abbrev pub command_named : Text → Option Shape
command_named name = named (λ s. s.name) (built whole_app).subs name

-- The program has a command of this name other than `help`, and its matches have what it needs.
pub record IsEntered (name : Text) (rows : List Row) : Type 0 where
  pub shape : Shape
  pub is_named : command_named name ≡ Some shape
  pub no_help : name ≢ codes "help"
  pub needed : HasNeeded shape rows
  pub passing : HasPassing shape rows

-- a command that takes its words is entered
abbrev IsEnteredWhere : Shape → Type 0
IsEnteredWhere s = (word : Text) → answers_to word (label_of s) ≡ true → bytes_eq word (codes "help") ≡ false
    → (words : List Text) → level_fault s [] nothing_held words false [] ≡ [] → IsEntered s.name (rows_after s.rules [] words)

true_is_false : true ≡ false → ⊥
true_is_false e = absurd cc

strict : (b : Bool) → not b ≡ true → b ≡ false
strict true e = absurd cc
strict false e = refl

-- a word that a command with one name answers to is its name
own_name : (word name : Text) (aliases : List Text) → is_none aliases ≡ true → answers_to word (name, aliases) ≡ true → name ≡ word
own_name word name [] none answers = by (bytes_eq name word) refl answers
  where
    by : (b : Bool) → bytes_eq name word ≡ b → (b || false) ≡ true → name ≡ word
    by true is any = (bytes_eq-Decides name word).0 is
    by false is any = absurd cc
own_name word name (a ∷ aliases) none answers = absurd (true_is_false (sym none))

usual_has : (s : Shape) → command_named s.name ≡ Some s → is_usual s ≡ true → IsEnteredWhere s
usual_has s is usual word answers elsewhere words e = go (bytes_eq s.name (codes "help")) refl (both_true (is_none s.aliases) _ usual).1
  where
    named_so : s.name ≡ word
    named_so = own_name word s.name s.aliases (both_true (is_none s.aliases) _ usual).0 answers

    not_help : bytes_eq s.name (codes "help") ≡ false
    not_help = subst (λ w. bytes_eq w (codes "help") ≡ false) (sym named_so) elsewhere

    go : (b : Bool) → bytes_eq s.name (codes "help") ≡ b → (b || is_ready s) ≡ true → IsEntered s.name (rows_after s.rules [] words)
    go true help ready = absurd (true_is_false (sym help ∙ not_help))
    go false other ready =
        let parts = both_true (names_differ (λ a. a.id) s.rules) _ ready in
        let rest = both_true (list_all takes_a_value s.rules) _ parts.1 in
        let valued = all_valued s.rules s.rules (each_found (λ a. a.id) s.rules parts.0) rest.0 in
        record {
          shape = s;
          is_named = is;
          no_help = λ same. true_is_false (sym ((bytes_eq-Decides s.name (codes "help")).1 same) ∙ other);
          needed = λ a own always. always_given s valued (strict s.subcommand_negates_reqs rest.1) words e a own always;
          passing = first_passes s valued words e;
        }

each_usual : (all subs : List Shape) → AllByRecursion (λ s. named (λ t. t.name) all s.name ≡ Some s) subs → list_all is_usual subs ≡ true
    → ((s : Shape) → named (λ t. t.name) all s.name ≡ Some s → is_usual s ≡ true → IsEnteredWhere s) → AllByRecursion IsEnteredWhere subs
each_usual all [] found ready has = tt
each_usual all (s ∷ subs) found ready has = let parts = both_true (is_usual s) _ ready in (has s found.0 parts.0, each_usual all subs found.1 parts.1 has)

commands_differ : names_differ (λ s. s.name) (built whole_app).subs ≡ true
commands_differ = refl

commands_usual : list_all is_usual (built whole_app).subs ≡ true
commands_usual = refl

each_has : AllByRecursion IsEnteredWhere (built whole_app).subs
each_has = each_usual (built whole_app).subs (built whole_app).subs (each_found (λ s. s.name) (built whole_app).subs commands_differ) commands_usual usual_has

-- the command that a walk entered, where it takes its words
entered_has : (commands : App) → AllByRecursion IsEnteredWhere commands.subs → (stop : Option (Text × List Text)) → StopsElsewhere stop → entered_fault commands stop ≡ []
    → (name : Text) (rows : List Row) → entered commands stop ≡ Some (name, rows) → IsEntered name rows
entered_has commands each None elsewhere none name rows e = absurd cc
entered_has commands each (Some p) elsewhere none name rows e = go (find (λ s. answers_to p.0 (label_of s)) commands.subs) refl none e
  where
    go : (o : Option Shape) → find (λ s. answers_to p.0 (label_of s)) commands.subs ≡ o → option_map_or (λ s. level_fault s [] nothing_held p.1 false []) o [] ≡ []
        → option_map (λ s. rows_at s p.1) o ≡ Some (name, rows) → IsEntered name rows
    go None is none e = absurd cc
    go (Some s) is none e =
        let found = found_has IsEnteredWhere (λ s. answers_to p.0 (label_of s)) commands.subs each s is in
        let same : (s.name, rows_after s.rules [] p.1) ≡ (name, rows) = some_is e in
        subst (λ (w : Text × List Row). IsEntered w.0 w.1) same (found.0 p.0 found.1 elsewhere p.1 none)

-- a command that the program enters has what it needs, where the words are taken
pub program_has : (words : List Text) → fault_of whole_app words ≡ [] → (name : Text) (rows : List Row) → subcommand_of whole_app words ≡ Some (name, rows) → IsEntered name rows
program_has words none name rows e =
    let top = (built whole_app).top in
    let names = names_of (built whole_app) in
    let stop = (walk top.rules names nothing_held words).stopped in
    let level = none_of_both (walk_fault top names (walk_from nothing_held) words) _ none in
    let below = none_of_both (entered_fault (built whole_app) stop) _ level.1 in
    entered_has (built whole_app) each_has stop (walk_stops top refl names (walk_from nothing_held) words level.0 tt) below.0 name rows e

-- ---- a parse

whole_is_simple : is_simple_and_free whole_app ≡ true
unfolding clap_on_literals
whole_is_simple = refl

-- a name and rows by their parts
both_parts : {B : Type 0} (f : B → Text) (g : B → List Row) (o : Option B) (name : Text) (rows : List Row) → Some name ≡ option_map f o → Some rows ≡ option_map (λ (p : Text × List Row). p.1) (option_map {U = Text × List Row} (λ b. (f b, g b)) o)
    → option_map {U = Text × List Row} (λ b. (f b, g b)) o ≡ Some (name, rows)
both_parts f g None name rows e h = absurd cc
both_parts f g (Some b) name rows e h = ap₂ (λ n r. Some (n, r)) (sym (some_is e)) (sym (some_is h))

abbrev is_free : (command : Command) → app_of command ≡ whole_app → is_simple_and_free (app_of command) ≡ true
is_free command is = ap is_simple_and_free is ∙ whole_is_simple

-- what a parse entered is what the words name
pub parse_enters : (command : Command) (m : ArgMatches) (words : List Text) → app_of command ≡ whole_app → HasMatchesOf (app_of command) words m
    → (name : Text) (rows : List Row) → Some name ≡ subcommand_name_of m → Some rows ≡ option_map (λ p. p.1) (subcommand_rows (out-ArgMatches m).subcommand) → subcommand_of whole_app words ≡ Some (name, rows)
parse_enters command m words is matches name rows named rowed =
    let simple : is_simple (app_of command) ≡ true = and_left (is_simple (app_of command)) _ (is_free command is) in
    ap (λ (a : App). subcommand_of a words) (sym is) ∙ sym (matches simple).1 ∙ both_parts _ _ (out-ArgMatches m).subcommand name rows named rowed
  where
    and_left : (a b : Bool) → (a && b) ≡ true → a ≡ true
    and_left true b e = refl
    and_left false b e = absurd cc

simple_of : (a b : Bool) → (a && b) ≡ true → a ≡ true
simple_of true b e = refl
simple_of false b e = absurd cc

nothing_of : {B C : Type 0} (f : B → C) (o : Option B) → false ≡ is_some o → option_map f o ≡ None
nothing_of f None e = refl
nothing_of f (Some b) e = absurd cc

-- and where it entered nothing, they name nothing
pub enters_nothing : (command : Command) (m : ArgMatches) (words : List Text) → app_of command ≡ whole_app → HasMatchesOf (app_of command) words m
    → false ≡ has_subcommand m → subcommand_of whole_app words ≡ None
enters_nothing command m words is matches none =
    let simple : is_simple (app_of command) ≡ true = simple_of (is_simple (app_of command)) _ (is_free command is) in
    ap (λ (a : App). subcommand_of a words) (sym is) ∙ sym (matches simple).1 ∙ nothing_of _ (out-ArgMatches m).subcommand none

-- a parse that has no fault is one of words without a fault
pub faultless_of : (command : Command) (words : List Text) → app_of command ≡ whole_app → (is_simple_and_free (app_of command) ≡ true → fault_of (app_of command) words ≡ []) → fault_of whole_app words ≡ []
faultless_of command words is none = ap (λ (a : App). fault_of a words) (sym is) ∙ none (is_free command is)

-- words that name nothing order a check of what is joined
pub joined_of : (words : List Text) → subcommand_of whole_app words ≡ None → IsOrder words Joined
joined_of words none = subst (λ entered. IsOrderOf entered Joined) (sym none) tt

-- the order of the words, by what they enter
pub order_of : (words : List Text) (name : Text) (rows : List Row) (order : Order) → subcommand_of whole_app words ≡ Some (name, rows) → IsOrderOf (Some (name, rows)) order → IsOrder words order
order_of words name rows order enters is = subst (λ entered. IsOrderOf entered order) (sym enters) is

-- a fault of a parse is of its kinds, and that of words that aren't taken
pub parse_refuses : (command : Command) (words : List Text) (e : Error) (fault : WordsFault) → app_of command ≡ whole_app → (is_simple_and_free (app_of command) ≡ true → HasKind (fault_of (app_of command) words) e)
    → (takes (app_of command) words ≡ true → kind_of e ≡ kinds.OutOfMemory) → IsFaultOf e fault → IsRefused words fault
parse_refuses command words e Memory is has passes gives = tt
parse_refuses command words e (Words other) is has passes gives =
    inl (λ taken. gives.1 (passes (subst (λ (a : App). takes a words ≡ true) (sym is) taken)), of_kinds (subst (λ (a : App). HasKind (fault_of a words) e) is (has (is_free command is))))
  where
    of_kinds : HasKind (fault_of whole_app words) e → IsAmong (kind_of other) (fault_of whole_app words)
    of_kinds (inl memory) = absurd (gives.1 memory)
    of_kinds (inr among) = subst (λ x. IsAmong (kind_of x) (fault_of whole_app words)) (sym gives.0) among

-- ---- what a command has, by its name

-- the command of a name that is written out
abbrev pub command_at : Text → Shape
command_at name = unwrap_or (command_named name) (new_shape [])

pub needed_at : (at name : Text) (rows : List Row) → IsEntered name rows → name ≡ at → command_named at ≡ Some (command_at at) → HasNeeded (command_at at) rows
needed_at at name rows is same at_is = subst (λ s. HasNeeded s rows) (some_is (sym is.is_named ∙ ap command_named same ∙ at_is)) is.needed

abbrev pub rule_at : Shape → ℕ → Rule
rule_at s n = slice_index_or s.rules n (new_rule [])

-- a command needs the word, or has a default for it
abbrev pub needs : Shape → Text → Bool
needs s id = option_map_or is_always_given (arg_by_id s.rules id) false

pub has_text : (s : Shape) (rows : List Row) (id : Text) → HasNeeded s rows → needs s id ≡ true → HasText id rows
has_text s rows id has wants = go (arg_by_id s.rules id) refl wants
  where
    go : (o : Option Rule) → arg_by_id s.rules id ≡ o → option_map_or is_always_given o false ≡ true → HasText id rows
    go None is none = absurd cc
    go (Some a) is always =
        let same = (bytes_eq-Decides a.id id).0 (found_passes (λ b. bytes_eq b.id id) s.rules a is) in
        let given = has a (subst (λ t. arg_by_id s.rules t ≡ Some a) (sym same) is) always in
        (given.text, subst (λ t. first_of t rows ≡ Some given.text) same given.first)

pub passing_at : (at name : Text) (rows : List Row) → IsEntered name rows → name ≡ at → command_named at ≡ Some (command_at at) → HasPassing (command_at at) rows
passing_at at name rows is same at_is = subst (λ s. HasPassing s rows) (some_is (sym is.is_named ∙ ap command_named same ∙ at_is)) is.passing

-- a number that a command may have
pub may_have_number : (s : Shape) (rows : List Row) (a : Rule) (least most : ℕ) → HasPassing s rows → arg_by_id s.rules a.id ≡ Some a → a.parser ≡ Some (parsers.Unsigned least most) → MayHaveNumber a.id least most rows
may_have_number s rows a least most has own number text first = read a.ignore_case a.parser text number (has a own text first)
  where
    read : (ignores : Bool) (parser : Option ValueParser) (text : Text) → parser ≡ Some (parsers.Unsigned least most) → accepts ignores (parser_of_value parser) text ≡ true → IsUnsignedIn least most text
    read ignores parser text is passes = accepts-Accepts ignores (parsers.Unsigned least most) text (rw is at passes)

-- a number that a command needs, or has a default for
pub has_number : (s : Shape) (rows : List Row) (a : Rule) (least most : ℕ) → HasNeeded s rows → arg_by_id s.rules a.id ≡ Some a → is_always_given a ≡ true → a.parser ≡ Some (parsers.Unsigned least most) → HasNumber a.id least most rows
has_number s rows a least most has own always number =
    let given = has a own always in
    (given.text, given.first, read a.ignore_case a.parser given.text number given.passes)
  where
    read : (ignores : Bool) (parser : Option ValueParser) (text : Text) → parser ≡ Some (parsers.Unsigned least most) → accepts ignores (parser_of_value parser) text ≡ true → IsUnsignedIn least most text
    read ignores parser text is passes = accepts-Accepts ignores (parsers.Unsigned least most) text (rw is at passes)

-- a flag has a value, whether it is given or not
pub has_flag : (s : Shape) (rows : List Row) (a : Rule) → HasNeeded s rows → arg_by_id s.rules a.id ≡ Some a → is_always_given a ≡ true → a.parser ≡ Some parsers.Bool → HasFlag a.id rows
has_flag s rows a has own always flag =
    let given = has a own always in
    let word = either given.text (passes a.ignore_case a.parser given.text flag given.passes) in
    (word.0, given.read ∙ ap (λ p. Some (read_as (reading_of (parser_of_value p)) given.text)) flag ∙ ap Some word.1)
  where
    passes : (ignores : Bool) (parser : Option ValueParser) (text : Text) → parser ≡ Some parsers.Bool → accepts ignores (parser_of_value parser) text ≡ true → (bytes_eq text (codes "true") || bytes_eq text (codes "false")) ≡ true
    passes ignores parser text is accepted = rw is at accepted

    either : (text : Text) → (bytes_eq text (codes "true") || bytes_eq text (codes "false")) ≡ true → (given : Bool) × (text ≡ bool_text given)
    either text any = go (bytes_eq text (codes "true")) refl (bytes_eq text (codes "false")) refl any
      where
        go : (a : Bool) → bytes_eq text (codes "true") ≡ a → (b : Bool) → bytes_eq text (codes "false") ≡ b → (a || b) ≡ true → (given : Bool) × (text ≡ bool_text given)
        go true is b other any = (true, (bytes_eq-Decides text (codes "true")).0 is)
        go false is true other any = (false, (bytes_eq-Decides text (codes "false")).0 other)
        go false is false other any = absurd cc

pub has_files : (s : Shape) (rows : List Row) → HasNeeded s rows → needs s (codes "PUZZLE") ≡ true → needs s (codes "LIST") ≡ true → needs s (codes "CERTIFICATE") ≡ true → HasFiles rows
has_files s rows has puzzle list certificate = (has_text s rows _ has puzzle, has_text s rows _ has list, has_text s rows _ has certificate)

pub differs : (name other : Text) → name ≢ other → bytes_eq other name ≡ false
differs name other ne = go (bytes_eq other name) refl
  where
    go : (b : Bool) → bytes_eq other name ≡ b → b ≡ false
    go true is = absurd (ne (sym ((bytes_eq-Decides other name).0 is)))
    go false is = refl

-- ---- words that don't go together

-- a fault of what the words enter is one of the words
pub misfit_refused : (words : List Text) (name : Text) (rows : List Row) (fault : WordsFault) → subcommand_of whole_app words ≡ Some (name, rows) → IsMisfit (Some (name, rows)) fault → IsRefused words fault
misfit_refused words name rows Memory enters is = tt
misfit_refused words name rows (Words error) enters is = inr (subst (λ entered. IsMisfit entered (Words error)) (sym enters) is)
