-- Files of counted parts that are read one after the other.
use Rattle.std.proofs.Common.{◌≡◌, ◌∙◌, ◌+◌, ◌-◌, ◌<◌, ◌≤◌, ◌++◌, ◌∷◌, [], ℕ, List, ap, arith, inl, inr, length, map, refl, subst, sym, take, drop}
use Rattle.std.specs.Prelude.{slice_get, Some}
use Rattle.std.proofs.lemmas.Grind.{flat_map-append}
use Rattle.std.proofs.lemmas.List.{append-nil, append_assoc, map-append, take-append-drop}
use Rattle.match_limits.proofs.ListLemmas.{taken_more}
use Rattle.match_limits.specs.declared.TheConstants.{MOST_BYTES}
use Rattle.byte_streams.specs.Moves.{Gives, ReadFails}
use Rattle.byte_streams.specs.declared.faults.Document.TheVariants as documents
use Rattle.byte_streams.specs.declared.faults.InputFault.{InputFault}
use Rattle.byte_streams.specs.declared.faults.InputFault.TheVariants as inputs
use Rattle.byte_streams.specs.declared.files.FileSystem.{Ghosts as FileMembers}
use Rattle.byte_streams.specs.declared.sources.Source.{Ghosts as SourceMembers}
use Rattle.command_orders.specs.FileOrigins.{Opened, read_from}
use Rattle.command_orders.specs.PartFiles.{AreTextsOf, IsTextOf, StopsAtFile, StopsAtOne, StopsInFiles, joined}

-- texts with one more behind them
pub joined_more : (texts : List (List ℕ)) (text : List ℕ) → joined (texts ++ text ∷ []) ≡ joined texts ++ text
joined_more texts text = flat_map-append (λ t. t) texts (text ∷ []) ∙ ap (λ t. joined texts ++ t) (append-nil text)

-- names, cut at one of them
pub parted : {X : Type 0} (f : X → List ℕ) (names : List X) (n : ℕ) (x : X) → slice_get names n ≡ Some x → map f names ≡ map f (take n names) ++ f x ∷ map f (drop (n + 1) names)
parted f names n x at =
    ap (map f) (sym (take-append-drop (n + 1) names) ∙ ap (λ ns. ns ++ drop (n + 1) names) (taken_more names n x at))
    ∙ map-append f (take n names ++ x ∷ []) (drop (n + 1) names)
    ∙ ap (λ ns. ns ++ map f (drop (n + 1) names)) (map-append f (take n names) (x ∷ []))
    ∙ append_assoc (map f (take n names)) (f x ∷ []) (map f (drop (n + 1) names))

module _ {S R W : Type 0} (system : FileMembers S R W) (source : SourceMembers R) (at : S) where
  pub texts_more : (names texts : List (List ℕ)) (name text : List ℕ) → AreTextsOf system source at names texts → IsTextOf system source at name text
      → AreTextsOf system source at (names ++ name ∷ []) (texts ++ text ∷ [])
  texts_more [] [] name text all one = (one, tt)
  texts_more [] (t ∷ texts) name text all one = absurd all
  texts_more (n ∷ names) [] name text all one = absurd all
  texts_more (n ∷ names) (t ∷ texts) name text all one = (all.0, texts_more names texts name text all.1 one)

  -- files that gave their texts, and one more
  pub read_more : {X : Type 0} (f : X → List ℕ) (names : List X) (n : ℕ) (x : X) (texts : List (List ℕ)) (more : List ℕ) → slice_get names n ≡ Some x
      → AreTextsOf system source at (map f (take n names)) texts → IsTextOf system source at (f x) more → AreTextsOf system source at (map f (take (n + 1) names)) (texts ++ more ∷ [])
  read_more f names n x texts more here are is =
      subst (λ ns. AreTextsOf system source at (map f ns) (texts ++ more ∷ [])) (sym (taken_more names n x here))
      (subst (λ ns. AreTextsOf system source at ns (texts ++ more ∷ [])) (sym (map-append f (take n names) (x ∷ []))) (texts_more (map f (take n names)) texts (f x) more are is))

  -- a fault of the file behind those that gave their texts
  pub stops_at : (names : List (List ℕ)) (before : List (List ℕ)) (name : List ℕ) (behind : List (List ℕ)) (texts : List (List ℕ)) (read : ℕ) (fault : InputFault)
      → names ≡ before ++ name ∷ behind → AreTextsOf system source at before texts → read ≡ length (joined texts) → StopsAtFile system source at (MOST_BYTES - read) name fault
      → StopsInFiles system source at names fault
  stops_at names before name behind texts read fault are gave so stops = by_fault fault (record {
    before = before;
    name = name;
    behind = behind;
    are = are;
    texts = texts;
    gave = gave;
    stops = subst (λ (n : ℕ). StopsAtFile system source at (MOST_BYTES - n) name fault) so stops;
  })
    where
      by_fault : (f : InputFault) → StopsAtOne system source at names f → StopsInFiles system source at names f
      by_fault (inputs.Read of) one = one
      by_fault (inputs.TooLong of) one = one
      by_fault inputs.Memory one = inr one

  -- what a fault of reading the file of a name says of it
  pub read_stops : (bound : ℕ) (name : List ℕ) (file : Opened system source at name) (fault : InputFault) → ReadFails bound documents.Parts (read_from system source at name file) fault → StopsAtFile system source at bound name fault
  read_stops bound name file (inputs.Read of) fails = (fails.0, inr (file, fails.1))
  read_stops bound name file (inputs.TooLong of) fails = (fails.0, file, fails.1)
  read_stops bound name file inputs.Memory fails = (file, fails)

  -- a file that gave its text, and for which memory was refused then
  pub refused_memory : (bound : ℕ) (name : List ℕ) (file : Opened system source at name) (text : List ℕ) → Gives bound (read_from system source at name file) text → StopsAtFile system source at bound name inputs.Memory
  refused_memory bound name file text gives = (file, ((text, gives.whole.0, gives.short), gives.without_error))

  pub gave_text : (bound : ℕ) (name : List ℕ) (file : Opened system source at name) (text : List ℕ) → bound ≤ MOST_BYTES → Gives bound (read_from system source at name file) text → IsTextOf system source at name text
  gave_text bound name file text below gives = record {
    file = file;
    gives = record { whole = gives.whole; short = omega (arith, below, gives.short); without_error = gives.without_error };
  }
