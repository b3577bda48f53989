-- A parse that has no fault: each row has values, they pass the parser of their argument, and are read by it.
use Rattle.std.proofs.Common.{◌≡◌, ◌∙◌, ◌&&◌, ◌||◌, ◌<◌, ℕ, zero, suc, Bool, true, false, not, cond, List, [], ◌∷◌, ◌++◌, Option, Some, None, is_some, length, drop, refl, sym, ap, subst, arith}
use Rattle.std.specs.Prelude.{encode_utf8, slice_get, nat_lt, fold, find, option_and_then}
use Rattle.std.specs.List.{AllByRecursion, list_any}
use Rattle.std.specs.Option.{option_map, option_map_or}
use Rattle.std.specs.Str.{bytes_eq, chars}
use Rattle.std.proofs.lemmas.Bool.{ne_eqb, or_left, or_right}
use Rattle.std.proofs.lemmas.List.{length-append}
use Rattle.std.proofs.lemmas.List.Folds.{list_all-append}
use Rattle.std.proofs.lemmas.Slice.Eq.{bytes_eq-Decides}
use Rattle.clap.specs.Lexer.{long_of, short_of}
use Rattle.clap.specs.Facts.{explicit_source, parser_of_value, unwrap_or_range}
use Rattle.clap.specs.Walk.{Held, Names, Outcome, Row, Rule, Step, Text, Waiting, Walk, action_of, after_flag, after_step, arg_by_id, arg_by_index, arg_by_long, arg_by_short, attached_value, bundle, bundle_met, bundle_step, default_rows, done, first_of, flag_met, has_row, idle, is_empty, is_pending, long_met, long_or_other, most_values, more_values, next, nothing_held, one_of, option, option_met, option_word, plain, plain_word, positional, pushed, reacted, reading_by, refused, row_text, rows_after, settled, settled_rows, short_met, short_or_plain, subcommand, subcommand_met, subcommand_or_other, takes_several, takes_values, to_positional, trailing, used, used_as, used_by_id, value, values_or_missing, waits, walk, walk_from, walked, walked_from, with_default, with_values, without, word_met}
use Rattle.clap.specs.Simple.{Shape}
use Rattle.clap.specs.Values.{read_as}
use Rattle.clap.specs.Takes.{is_given, value_passes, values_pass}
use Rattle.clap.specs.Kinds.{Kinds, check_kinds, or_else, range_kinds, request_kinds, value_kinds}
use Rattle.clap.specs.Faults.{action_fault, bundle_fault, bundle_step_fault, check_fault, default_fault, defaults_fault, flag_word_fault, flags_fault, given_default_fault, level_fault, long_fault, option_fault, other_fault, positional_fault, react_fault, settle_fault, short_fault, step_fault, stray_fault, turn_fault, use_fault, values_fault, walk_fault, word_fault}
use Rattle.clap.specs.declared.builder.action.ArgAction.{ArgAction}
use Rattle.clap.specs.declared.builder.action.ArgAction.TheVariants as action
use Rattle.clap.specs.declared.builder.value_parser.Reading.{Reading}
use Rattle.clap.specs.declared.error.kind.ErrorKind.TheVariants as kinds
use Rattle.clap.specs.declared.parser.matches.ValueSource.{ValueSource}
use Rattle.clap.specs.declared.parser.matches.ValueSource.TheVariants.{CommandLine}

-- ---- kinds

pub none_of_both : (a b : Kinds) → or_else a b ≡ [] → (a ≡ []) × (b ≡ [])
none_of_both [] b e = (refl, e)
none_of_both (k ∷ ks) b e = absurd cc

-- ---- an argument by a test

pub found_has : {X : Type 0} (P : X → Type 0) (test : X → Bool) (xs : List X) → AllByRecursion P xs → (x : X) → find test xs ≡ Some x → P x × (test x ≡ true)
found_has P test [] all x e = absurd cc
found_has P test (y ∷ ys) all x e = go (test y) refl (found_has P test ys all.1 x) e
  where
    go : (b : Bool) → test y ≡ b → (find test ys ≡ Some x → P x × (test x ≡ true)) → cond b (Some y) (find test ys) ≡ Some x → P x × (test x ≡ true)
    go true is later e = let same : y ≡ x = cc in (subst P same all.0, subst (λ z. test z ≡ true) same is)
    go false is later e = later e

-- ---- values

values_pass_of : (a : Rule) (values : List Text) → values_fault a values ≡ [] → values_pass a values ≡ true
values_pass_of a [] e = refl
values_pass_of a (v ∷ vs) e =
    let both = none_of_both (value_kinds a.ignore_case (parser_of_value a.parser) v) (values_fault a vs) e in
    go (value_passes a v) refl both.0 (values_pass_of a vs both.1)
  where
    go : (b : Bool) → value_passes a v ≡ b → value_kinds a.ignore_case (parser_of_value a.parser) v ≡ [] → values_pass a vs ≡ true → (value_passes a v && values_pass a vs) ≡ true
    go true is none rest = rw (is, rest) refl
    go false is none rest = let bad = rw is at none in absurd cc

-- a use of the argument wants a value, or one stands for it
abbrev pub wants_values : Rule → Bool
wants_values a = nat_lt 0 (unwrap_or_range a.range).start_inclusive || not (is_empty a.missing)

-- a use has values where one is wanted, or stands for it
some_values : (a : Rule) (most : ℕ) (values : List Text) → wants_values a ≡ true → range_kinds (unwrap_or_range a.range).start_inclusive most (length values) ≡ [] → 0 < length (values_or_missing a values)
some_values a most (v ∷ vs) wants e = omega arith
some_values a most [] wants e = go (nat_lt 0 (unwrap_or_range a.range).start_inclusive) refl a.missing wants
  where
    go : (b : Bool) → nat_lt 0 (unwrap_or_range a.range).start_inclusive ≡ b → (missing : List Text) → (b || not (is_empty missing)) ≡ true → 0 < length missing
    go true is missing any = let bad = rw is at e in absurd cc
    go false is [] any = absurd cc
    go false is (v ∷ vs) any = omega arith

more_nonempty : (xs ys : List Text) → 0 < length ys → 0 < length (xs ++ ys)
more_nonempty xs ys lt = simp length-append (omega (arith, lt))

-- ---- rows

-- A use of the argument puts its values in, at least one, or asks for help.
abbrev pub puts_values : ArgAction → Bool → Bool
puts_values action.Set some = some
puts_values action.Append some = some
puts_values action.SetTrue some = some
puts_values action.SetFalse some = some
puts_values action.Help some = true
puts_values action.HelpShort some = true
puts_values action.HelpLong some = true
puts_values action.Version some = true
puts_values _ some = false

-- the arguments have ids of their own, and uses of this one put values in
pub record IsValued (c : List Rule) (a : Rule) : Type 0 where
  pub own : arg_by_id c a.id ≡ Some a
  pub puts : puts_values (action_of a) (wants_values a) ≡ true

-- a row has values, they pass the parser of its argument, and are read by it
pub record IsFull (c : List Rule) (r : Row) : Type 0 where
  pub some : 0 < length r.values
  pub pass : (a : Rule) → arg_by_id c r.id ≡ Some a → values_pass a r.values ≡ true
  pub read : (a : Rule) → arg_by_id c r.id ≡ Some a → r.reading ≡ reading_by a

module _ (c : List Rule) where
  abbrev pub AllFull : List Row → Type 0
  AllFull = AllByRecursion (IsFull c)

  new_full : (a : Rule) (s : ValueSource) (values : List Text) → arg_by_id c a.id ≡ Some a → 0 < length values → values_pass a values ≡ true
      → IsFull c (record { id = a.id; values = values; count = None; source = Some s; reading = reading_by a })
  new_full a s values own some pass = record {
    some = some;
    pass = λ b is. let same : a ≡ b = cc in subst (λ d. values_pass d values ≡ true) same pass;
    read = λ b is. let same : a ≡ b = cc in ap reading_by same;
  }

  more_full : (a : Rule) (r : Row) (values : List Text) (source : Option ValueSource) → arg_by_id c a.id ≡ Some a → r.id ≡ a.id → 0 < length values → values_pass a values ≡ true → IsFull c r
      → IsFull c (record r { values = r.values ++ values; source = source })
  more_full a r values source own same_id some pass full = record {
    some = more_nonempty r.values values some;
    pass = λ b is.
        let own_id : arg_by_id c r.id ≡ Some a = subst (λ id. arg_by_id c id ≡ Some a) (sym same_id) own in
        let same : a ≡ b = cc in
        list_all-append (value_passes b) r.values values ∙ rw (full.pass b is) (subst (λ d. values_pass d values ≡ true) same pass);
    read = full.read;
  }

  with_values_full : (a : Rule) (s : ValueSource) (values : List Text) → arg_by_id c a.id ≡ Some a → 0 < length values → values_pass a values ≡ true
      → (rows : List Row) → AllFull rows → AllFull (with_values a.id (reading_by a) s values rows)
  with_values_full a s values own some pass [] full = (new_full a s values own some pass, tt)
  with_values_full a s values own some pass (r ∷ rs) full = go (bytes_eq r.id a.id) refl (with_values_full a s values own some pass rs full.1)
    where
      go : (b : Bool) → bytes_eq r.id a.id ≡ b → AllFull (with_values a.id (reading_by a) s values rs)
          → AllFull (cond b (more_values s values r ++ rs) (r ∷ with_values a.id (reading_by a) s values rs))
      go true is later = (more_full a r values _ own ((bytes_eq-Decides r.id a.id).0 is) some pass full.0, full.1)
      go false is later = (full.0, later)

  without_full : (id : Text) (rows : List Row) → AllFull rows → AllFull (without id rows)
  without_full id [] full = tt
  without_full id (r ∷ rs) full = go (bytes_eq r.id id) (without_full id rs full.1)
    where
      go : (b : Bool) → AllFull (without id rs) → AllFull (cond b ([] ++ rs) (r ∷ without id rs))
      go true later = full.1
      go false later = (full.0, later)

  used_full : (again : Bool) (a : Rule) (values : List Text) (rows : List Row) → IsValued c a → use_fault again a values rows ≡ [] → AllFull rows → AllFull (used a values rows)
  used_full again a values rows valued e full = go (action_of a) valued.puts parts.1
    where
      given : List Text
      given = values_or_missing a values

      parts : (range_kinds (unwrap_or_range a.range).start_inclusive (most_values a) (length values) ≡ []) × (action_fault (action_of a) again a given rows ≡ [])
      parts = none_of_both _ _ e

      put : wants_values a ≡ true → (before : List Row) → AllFull before → values_fault a given ≡ [] → AllFull (with_values a.id (reading_by a) CommandLine given before)
      put is before held none =
          with_values_full a _ given valued.own (some_values a _ values is parts.0) (values_pass_of a given none) before held

      go : (x : ArgAction) → puts_values x (wants_values a) ≡ true → action_fault x again a given rows ≡ [] → AllFull (used_as x a.id (reading_by a) given rows)
      go action.Set is none = put is (without a.id rows) (without_full a.id rows full) (none_of_both _ _ none).1
      go action.Append is none = put is rows full none
      go action.Help is none = full
      go action.HelpShort is none = full
      go action.HelpLong is none = full
      go action.Version is none = full
      go action.SetTrue is none = put is (without a.id rows) (without_full a.id rows full) (none_of_both _ _ none).1
      go action.SetFalse is none = put is (without a.id rows) (without_full a.id rows full) (none_of_both _ _ none).1
      go action.Count is none = absurd cc

-- ---- the words

module _ (c : List Rule) (all : AllByRecursion (IsValued c) c) (again : Bool) where
  valued : (test : Rule → Bool) (a : Rule) → find test c ≡ Some a → IsValued c a
  valued test a is = (found_has (IsValued c) test c all a is).0

  settled_full : (h : Held) → settle_fault c again h ≡ [] → AllFull c h.rows → AllFull c (settled c h).rows
  settled_full h e full = go h.pending e
    where
      by_arg : (p : Text × List Text) (o : Option Rule) → arg_by_id c p.0 ≡ o → option_map_or (λ a. use_fault again a p.1 h.rows) o [] ≡ [] → AllFull c (used_by_id o p.1 h.rows)
      by_arg p None is none = full
      by_arg p (Some a) is none = used_full c again a p.1 h.rows (valued _ a is) none full

      go : (o : Option (Text × List Text)) → option_map_or (λ p. option_map_or (λ a. use_fault again a p.1 h.rows) (arg_by_id c p.0) []) o [] ≡ [] → AllFull c (settled_rows c o h.rows)
      go None none = full
      go (Some p) none = by_arg p (arg_by_id c p.0) refl none

  reacted_full : (a : Rule) (values : List Text) (h : Held) → IsValued c a → react_fault c again a values h ≡ [] → AllFull c h.rows → AllFull c (reacted c a values h).rows
  reacted_full a values h is e full =
      let parts = none_of_both (settle_fault c again h) _ e in
      used_full c again a values (settled c h).rows is parts.1 (settled_full h parts.0 full)

  option_full : (a : Rule) (v : Option Text) (h : Held) → IsValued c a → option_fault c again a v h ≡ [] → AllFull c h.rows → AllFull c (option_met c a v h).0.rows
  option_full a (Some v) h is e full = reacted_full a (v ∷ []) h is e full
  option_full a None h is e full = settled_full h e full

  long_full : (name : Text) (o : Option Rule) → arg_by_long c name ≡ o → (v : Option Text) (h : Held) → long_fault c again o v h ≡ [] → AllFull c h.rows → AllFull c (long_met c o v h).0.rows
  long_full name None is v h e full = full
  long_full name (Some a) is v h e full = go (takes_values a) e
    where
      flag : (v : Option Text) → cond (is_some v) (kinds.TooManyValues ∷ []) (react_fault c again a [] h) ≡ [] → AllFull c (flag_met c a v h).0.rows
      flag (Some w) none = full
      flag None none = reacted_full a [] h (valued _ a is) none full

      go : (b : Bool) → cond b (option_fault c again a v h) (cond (is_some v) (kinds.TooManyValues ∷ []) (react_fault c again a [] h)) ≡ []
          → AllFull c (cond b (option_met c a v h) (flag_met c a v h)).0.rows
      go true none = option_full a v h (valued _ a is) none full
      go false none = flag v none

  bundle_full : (k : ℕ) (flags : Text) (skip : ℕ) (so_far : Outcome) (h : Held) → flags_fault c again k flags skip h ≡ [] → AllFull c h.rows → AllFull c (bundle_met c k flags skip so_far h).0.rows
  unfolding flags_fault bundle_met
  bundle_full zero flags skip so_far h e full = full
  bundle_full (suc k) flags skip so_far h e full = go (slice_get (chars flags) 0) skip (bundle_full k) e
    where
      Kept : Type 0
      Kept = (flags : Text) (skip : ℕ) (so_far : Outcome) (h : Held) → flags_fault c again k flags skip h ≡ [] → AllFull c h.rows → AllFull c (bundle_met c k flags skip so_far h).0.rows

      flag : (a : Rule) (rest : Text) → IsValued c a → Kept → (b : Bool)
          → cond b (option_fault c again a (attached_value rest) h) (or_else (react_fault c again a [] h) (flags_fault c again k rest 0 (reacted c a [] h))) ≡ []
          → AllFull c (cond b (option_met c a (attached_value rest) h) (bundle_met c k rest 0 done (reacted c a [] h))).0.rows
      flag a rest is kept true none = option_full a (attached_value rest) h is none full
      flag a rest is kept false none =
          let parts = none_of_both (react_fault c again a [] h) _ none in
          kept rest 0 done (reacted c a [] h) parts.1 (reacted_full a [] h is parts.0 full)

      by_arg : (x : ℕ) (rest : Text) (o : Option Rule) → arg_by_short c x ≡ o → Kept → short_fault c again o rest h (flags_fault c again k rest 0) ≡ []
          → AllFull c (short_met c o rest h (bundle_met c k rest 0 done)).0.rows
      by_arg x rest None is kept none = full
      by_arg x rest (Some a) is kept none = flag a rest (valued _ a is) kept (takes_values a) none

      go : (o : Option ℕ) (skip : ℕ) → Kept → bundle_step_fault c again o flags skip h (flags_fault c again k) ≡ [] → AllFull c (bundle_step c o flags skip so_far h (bundle_met c k)).0.rows
      go None skip kept none = full
      go (Some x) zero kept none = by_arg x (drop (length (encode_utf8 x)) flags) (arg_by_short c x) refl kept none
      go (Some x) (suc skip) kept none = kept (drop (length (encode_utf8 x)) flags) skip so_far h none full

  plain_rows : (waiting : Waiting) (word : Text) (h : Held) → (plain_word c waiting word h).0.rows ≡ h.rows
  plain_rows idle word h = refl
  plain_rows positional word h = refl
  plain_rows (option id) word h = go (arg_by_id c id)
    where
      go : (o : Option Rule) → (option_word o id word h).0.rows ≡ h.rows
      go None = refl
      go (Some a) = refl

  after_flag_rows : (waiting : Waiting) (word : Text) (h : Held) (o : Outcome) → (after_flag c waiting word h o).0.rows ≡ h.rows
  after_flag_rows waiting word h done = refl
  after_flag_rows waiting word h (waits id) = refl
  after_flag_rows waiting word h plain = plain_rows waiting word h
  after_flag_rows waiting word h refused = plain_rows waiting word h

  flag_word_full : (waiting : Waiting) (word : Text) (o : Option (Text × Option Text)) (h : Held) → flag_word_fault c again o word h ≡ [] → AllFull c h.rows → AllFull c (long_or_other c waiting word o h).0.rows
  flag_word_full waiting word (Some p) h e full =
      let met = long_met c (arg_by_long c p.0) p.1 h in
      subst (AllFull c) (sym (after_flag_rows waiting word met.0 met.1)) (long_full p.0 (arg_by_long c p.0) refl p.1 h e full)
  flag_word_full waiting word None h e full = go (short_of word) e
    where
      go : (o : Option Text) → option_map_or (λ flags. bundle_fault c again flags h) o [] ≡ [] → AllFull c (short_or_plain c waiting word o h).0.rows
      go None none = subst (AllFull c) (sym (plain_rows waiting word h)) full
      go (Some flags) none =
          let met = bundle c flags h in
          subst (AllFull c) (sym (after_flag_rows waiting word met.0 met.1)) (bundle_full (length flags) flags h.skip plain (record h { skip = 0 }) none full)

-- ---- the walk

module _ (s : Shape) (all : AllByRecursion (IsValued s.rules) s.rules) (names : Names) where
  met_full : (waiting : Waiting) (is_trailing : Bool) (position : ℕ) (word : Text) (h : Held) → word_fault s names is_trailing waiting word h ≡ [] → AllFull s.rules h.rows
      → AllFull s.rules (word_met s.rules names is_trailing waiting position word h).0.rows
  met_full waiting true position word h e full = full
  met_full waiting false position word h e full = go (subcommand_met names waiting word) e
    where
      other : (b : Bool) → cond b [] (flag_word_fault s.rules s.args_override_self (long_of word) word h) ≡ []
          → AllFull s.rules (cond b (h, trailing position) (long_or_other s.rules waiting word (long_of word) h)).0.rows
      other true none = full
      other false none = flag_word_full s.rules all s.args_override_self waiting word (long_of word) h none full

      go : (o : Option Text) → other_fault s o word h ≡ [] → AllFull s.rules (subcommand_or_other s.rules o waiting position word h).0.rows
      go (Some name) none = full
      go None none = other (bytes_eq word (45 ∷ 45 ∷ [])) none

  step_full : (word : Text) (w : Walk) (h : Held) (step : Step) → step_fault s w.position h step ≡ [] → AllFull s.rules h.rows → AllFull s.rules (after_step s.rules word w h step).held.rows
  step_full word w h (next waiting) e full = full
  step_full word w h (trailing position) e full = full
  step_full word w h (subcommand name) e full = full
  step_full word w h value e full = go (arg_by_index s.rules w.position) e
    where
      held : (a : Rule) (b : Bool) → cond b [] (settle_fault s.rules s.args_override_self h) ≡ [] → AllFull s.rules (pushed a.id word (cond b h (settled s.rules h))).rows
      held a true none = full
      held a false none = settled_full s.rules all s.args_override_self h none full

      go : (o : Option Rule) → option_map_or (λ a. positional_fault s.rules s.args_override_self a h) o (stray_fault s) ≡ [] → AllFull s.rules (to_positional s.rules o word w h).held.rows
      go None none = full
      go (Some a) none = held a (is_pending a h.pending && takes_several a) none

  turn_full : (w : Walk) (word : Text) → turn_fault s names w word ≡ [] → AllFull s.rules w.held.rows → AllFull s.rules (walked s.rules names w word).held.rows
  unfolding walked
  turn_full w word e full = go w.stopped e
    where
      met : Held × Step
      met = word_met s.rules names w.is_trailing w.waiting w.position word w.held

      go : (o : Option (Text × List Text)) → cond (is_some o) [] (or_else (word_fault s names w.is_trailing w.waiting word w.held) (step_fault s w.position met.0 met.1)) ≡ []
          → AllFull s.rules (walked_from s.rules names o w word).held.rows
      go (Some p) none = full
      go None none =
          let parts = none_of_both (word_fault s names w.is_trailing w.waiting word w.held) _ none in
          step_full word w met.0 met.1 parts.1 (met_full w.waiting w.is_trailing w.position word w.held parts.0 full)

  walk_full : (w : Walk) (words : List Text) → walk_fault s names w words ≡ [] → AllFull s.rules w.held.rows → AllFull s.rules (fold (walked s.rules names) w words).held.rows
  unfolding walk_fault
  walk_full w [] e full = full
  walk_full w (word ∷ words) e full =
      let parts = none_of_both (turn_fault s names w word) _ e in
      walk_full (walked s.rules names w word) words parts.1 (turn_full w word parts.0 full)

  defaults_full : (rules : List Rule) (rows : List Row) → AllByRecursion (IsValued s.rules) rules → defaults_fault rows rules ≡ [] → AllFull s.rules rows → AllFull s.rules (fold with_default rows rules)
  unfolding defaults_fault
  defaults_full [] rows valued e full = full
  defaults_full (a ∷ rules) rows valued e full =
      let parts = none_of_both (default_fault rows a) _ e in
      defaults_full rules (with_default rows a) valued.1 parts.1 (go (has_row a.id rows) a.defaults parts.0)
    where
      go : (b : Bool) (values : List Text) → cond (b || is_empty values) [] (given_default_fault a values) ≡ [] → AllFull s.rules (cond b rows (default_rows a.id (reading_by a) values rows))
      go true values none = full
      go false [] none = full
      go false (v ∷ vs) none =
          let some : is_empty (v ∷ vs) ≡ false = ne_eqb _ _ (λ e. omega (arith, e)) in
          let given : given_default_fault a (v ∷ vs) ≡ [] = rw some at none in
          let pass = values_pass_of a (v ∷ vs) (none_of_both (request_kinds (action_of a)) _ given).1 in
          with_values_full s.rules a _ (v ∷ vs) valued.0.own (omega arith) pass rows full

  -- ---- the end of a level

  level_full : (words : List Text) (has : Bool) (below : Kinds) → level_fault s names nothing_held words has below ≡ []
      → AllFull s.rules (rows_after s.rules names words) × (check_fault s (rows_after s.rules names words) has ≡ [])
  level_full words has below e =
      let end = (walk s.rules names nothing_held words).held in
      let walked_well = none_of_both (walk_fault s names (walk_from nothing_held) words) _ e in
      let after = none_of_both below _ walked_well.1 in
      let settled_well = none_of_both (settle_fault s.rules s.args_override_self end) _ after.1 in
      let filled = none_of_both (defaults_fault (settled s.rules end).rows s.rules) _ settled_well.1 in
      let rows = walk_full (walk_from nothing_held) words walked_well.0 tt in
      (defaults_full s.rules (settled s.rules end).rows all filled.0 (settled_full s.rules all s.args_override_self end settled_well.0 rows), filled.1)

-- ---- what is required

none_missing : (a b c : Bool) → check_kinds a b c ≡ [] → c ≡ false
none_missing true b c e = absurd cc
none_missing false true c e = absurd cc
none_missing false false true e = absurd cc
none_missing false false false e = refl

-- what no element has, an element that is found has not
found_not : {X : Type 0} (p test : X → Bool) (xs : List X) → list_any p xs ≡ false → (x : X) → find test xs ≡ Some x → p x ≡ false
found_not p test [] none x e = absurd cc
found_not {X} p test (y ∷ ys) none x e = go (test y) (p y) refl none (found_not p test ys) e
  where
    go : (b q : Bool) → p y ≡ q → (q || list_any p ys) ≡ false → (list_any p ys ≡ false → (x : X) → find test ys ≡ Some x → p x ≡ false) → cond b (Some y) (find test ys) ≡ Some x → p x ≡ false
    go b true is none later e = absurd cc
    go true false is none later e = let same : y ≡ x = cc in subst (λ z. p z ≡ false) same is
    go false false is none later e = later none x e

given_when : (required given : Bool) → required ≡ true → (required && not given) ≡ false → given ≡ true
given_when true true is none = refl
given_when true false is none = absurd cc
given_when false given is none = absurd cc

-- ---- what has a row

module _ (id : Text) where
  has_row_found : (rows : List Row) → has_row id rows ≡ true → (r : Row) × (find (λ r. bytes_eq r.id id) rows ≡ Some r)
  has_row_found [] e = absurd cc
  has_row_found (r ∷ rs) e = go (bytes_eq r.id id) e (has_row_found rs)
    where
      go : (b : Bool) → (b || has_row id rs) ≡ true → (has_row id rs ≡ true → (x : Row) × (find (λ r. bytes_eq r.id id) rs ≡ Some x)) → (x : Row) × (cond b (Some r) (find (λ r. bytes_eq r.id id) rs) ≡ Some x)
      go true e later = (r, refl)
      go false e later = later e

  given_has_row : (rows : List Row) → is_given id rows ≡ true → has_row id rows ≡ true
  given_has_row [] e = absurd cc
  given_has_row (r ∷ rs) e = go (bytes_eq r.id id) e (given_has_row rs)
    where
      go : (b : Bool) → option_map_or (λ (x : Row). explicit_source x.source) (cond b (Some r) (find (λ r. bytes_eq r.id id) rs)) false ≡ true → (is_given id rs ≡ true → has_row id rs ≡ true) → (b || has_row id rs) ≡ true
      go true e later = refl
      go false e later = later e

  or_later : (b x y : Bool) → (b || x) ≡ true → (x ≡ true → y ≡ true) → (b || y) ≡ true
  or_later true x y e later = refl
  or_later false x y e later = later e

  with_values_keeps : (other : Text) (how : Reading) (s : ValueSource) (values : List Text) (rows : List Row) → has_row id rows ≡ true → has_row id (with_values other how s values rows) ≡ true
  with_values_keeps other how s values [] e = absurd cc
  with_values_keeps other how s values (r ∷ rs) e = go (bytes_eq r.id other) (with_values_keeps other how s values rs)
    where
      go : (b : Bool) → (has_row id rs ≡ true → has_row id (with_values other how s values rs) ≡ true) → has_row id (cond b (more_values s values r ++ rs) (r ∷ with_values other how s values rs)) ≡ true
      go true later = e
      go false later = or_later (bytes_eq r.id id) (has_row id rs) _ e later

  with_values_own : (how : Reading) (s : ValueSource) (values : List Text) (rows : List Row) → has_row id (with_values id how s values rows) ≡ true
  with_values_own how s values [] = or_left _ _ ((bytes_eq-Decides id id).1 refl)
  with_values_own how s values (r ∷ rs) = go (bytes_eq r.id id) refl (with_values_own how s values rs)
    where
      go : (b : Bool) → bytes_eq r.id id ≡ b → has_row id (with_values id how s values rs) ≡ true → has_row id (cond b (more_values s values r ++ rs) (r ∷ with_values id how s values rs)) ≡ true
      go true is later = or_left _ _ is
      go false is later = or_right _ _ later

  default_keeps : (a : Rule) (rows : List Row) → has_row id rows ≡ true → has_row id (with_default rows a) ≡ true
  default_keeps a rows e = go (has_row a.id rows) a.defaults
    where
      go : (b : Bool) (values : List Text) → has_row id (cond b rows (default_rows a.id (reading_by a) values rows)) ≡ true
      go true values = e
      go false [] = e
      go false (v ∷ vs) = with_values_keeps a.id _ _ (v ∷ vs) rows e

  defaults_keep : (rules : List Rule) (rows : List Row) → has_row id rows ≡ true → has_row id (fold with_default rows rules) ≡ true
  defaults_keep [] rows e = e
  defaults_keep (a ∷ rules) rows e = defaults_keep rules (with_default rows a) (default_keeps a rows e)

default_own : (a : Rule) (rows : List Row) → is_empty a.defaults ≡ false → has_row a.id (with_default rows a) ≡ true
default_own a rows some = go (has_row a.id rows) refl a.defaults some
  where
    go : (b : Bool) → has_row a.id rows ≡ b → (values : List Text) → is_empty values ≡ false → has_row a.id (cond b rows (default_rows a.id (reading_by a) values rows)) ≡ true
    go true is values some = is
    go false is [] some = absurd cc
    go false is (v ∷ vs) some = with_values_own a.id _ _ (v ∷ vs) rows

-- an argument with a default has a row in the end
defaults_own : (a : Rule) → is_empty a.defaults ≡ false → (rules : List Rule) (rows : List Row) → arg_by_id rules a.id ≡ Some a → has_row a.id (fold with_default rows rules) ≡ true
defaults_own a some [] rows e = absurd cc
defaults_own a some (b ∷ rules) rows e = go (bytes_eq b.id a.id) e (defaults_own a some rules (with_default rows b))
  where
    Has : Type 0
    Has = has_row a.id (fold with_default (with_default rows b) rules) ≡ true

    go : (t : Bool) → cond t (Some b) (arg_by_id rules a.id) ≡ Some a → (arg_by_id rules a.id ≡ Some a → Has) → Has
    go true e later =
        let same : a ≡ b = cc in
        defaults_keep a.id rules (with_default rows b) (subst (λ r. has_row a.id (with_default rows r) ≡ true) same (default_own a rows some))
    go false e later = later e

-- the argument is required, or has a default
abbrev pub is_always_given : Rule → Bool
is_always_given a = a.required || not (is_empty a.defaults)

-- the rows have a first value for the argument, which passes its parser, and is read by it
pub record IsGiven (a : Rule) (rows : List Row) : Type 0 where
  pub text : Text
  pub first : first_of a.id rows ≡ Some text
  pub passes : value_passes a text ≡ true
  pub read : one_of a.id rows ≡ Some (read_as (reading_by a) text)

-- an argument of a leaf that is required, or has a default, is given
pub always_given : (s : Shape) → AllByRecursion (IsValued s.rules) s.rules → s.subcommand_negates_reqs ≡ false → (words : List Text) → level_fault s [] nothing_held words false [] ≡ []
    → (a : Rule) → arg_by_id s.rules a.id ≡ Some a → is_always_given a ≡ true → IsGiven a (rows_after s.rules [] words)
always_given s all strict words e a own always = let found = has_row_found a.id rows stands in go found.0 found.1
  where
    rows : List Row
    rows = rows_after s.rules [] words

    ends : AllFull s.rules rows × (check_fault s rows false ≡ [])
    ends = level_full s all [] words false [] e

    strictly : {missing : Bool} → (negates : Bool) → negates ≡ false → (not (negates && false) && missing) ≡ false → missing ≡ false
    strictly true strict none = absurd cc
    strictly false strict none = none

    given : a.required ≡ true → is_given a.id rows ≡ true
    given required =
        let missing : list_any (λ b. b.required && not (is_given b.id rows)) s.rules ≡ false = strictly s.subcommand_negates_reqs strict (none_missing _ _ _ ends.1) in
        given_when a.required (is_given a.id rows) required (found_not (λ b. b.required && not (is_given b.id rows)) _ s.rules missing a own)

    stands : has_row a.id rows ≡ true
    stands = by a.required refl (is_empty a.defaults) refl always
      where
        by : (required : Bool) → a.required ≡ required → (empty : Bool) → is_empty a.defaults ≡ empty → (required || not empty) ≡ true → has_row a.id rows ≡ true
        by true is empty none any = given_has_row a.id rows (given is)
        by false is false some any = defaults_own a some s.rules _ own
        by false is true none any = absurd cc

    first : (values : List Text) → values_pass a values ≡ true → 0 < length values → (text : Text) × (slice_get values 0 ≡ Some text) × (value_passes a text ≡ true)
    first [] pass some = absurd (omega arith)
    first (v ∷ vs) pass some = (v, refl, both (value_passes a v) pass)
      where
        both : (b : Bool) → (b && values_pass a vs) ≡ true → b ≡ true
        both true e = refl
        both false e = absurd cc

    go : (r : Row) → find (λ r. bytes_eq r.id a.id) rows ≡ Some r → IsGiven a rows
    go r is =
        let found = found_has (IsFull s.rules) (λ r. bytes_eq r.id a.id) rows ends.0 r is in
        let same : r.id ≡ a.id = (bytes_eq-Decides r.id a.id).0 found.1 in
        let own_row : arg_by_id s.rules r.id ≡ Some a = subst (λ id. arg_by_id s.rules id ≡ Some a) (sym same) own in
        let value = first r.values (found.0.pass a own_row) found.0.some in
        record {
          text = value.0;
          first = ap (option_and_then (λ (r : Row). slice_get r.values 0)) is ∙ value.1;
          passes = value.2;
          read = ap (option_and_then row_text) is ∙ ap (option_map (read_as r.reading)) value.1 ∙ ap (λ how. Some (read_as how value.0)) (found.0.read a own_row);
        }

-- the first value of an argument of a leaf passes its parser
pub first_passes : (s : Shape) → AllByRecursion (IsValued s.rules) s.rules → (words : List Text) → level_fault s [] nothing_held words false [] ≡ []
    → (a : Rule) → arg_by_id s.rules a.id ≡ Some a → (text : Text) → first_of a.id (rows_after s.rules [] words) ≡ Some text → value_passes a text ≡ true
first_passes s all words e a own text first = go (find (λ r. bytes_eq r.id a.id) rows) refl first
  where
    rows : List Row
    rows = rows_after s.rules [] words

    full : AllFull s.rules rows
    full = (level_full s all [] words false [] e).0

    both : (b c : Bool) → (b && c) ≡ true → b ≡ true
    both true c e = refl
    both false c e = absurd cc

    first_value : (values : List Text) → values_pass a values ≡ true → slice_get values 0 ≡ Some text → value_passes a text ≡ true
    first_value [] pass at = absurd cc
    first_value (v ∷ vs) pass at = let same : v ≡ text = cc in subst (λ t. value_passes a t ≡ true) same (both (value_passes a v) (values_pass a vs) pass)

    go : (o : Option Row) → find (λ r. bytes_eq r.id a.id) rows ≡ o → option_and_then (λ (r : Row). slice_get r.values 0) o ≡ Some text → value_passes a text ≡ true
    go None is at = absurd cc
    go (Some r) is at =
        let found = found_has (IsFull s.rules) (λ r. bytes_eq r.id a.id) rows full r is in
        let same : r.id ≡ a.id = (bytes_eq-Decides r.id a.id).0 found.1 in
        first_value r.values (found.0.pass a (subst (λ id. arg_by_id s.rules id ≡ Some a) (sym same) own)) at
