-- Words of a command that give no order.
use Rattle.std.proofs.Common.{◌≡◌, ◌∙◌, ℕ, true, false, List, Option, Some, None, inl, inr, refl, sym, subst, codes}
use Rattle.std.specs.Str.{bytes_eq}
use Rattle.std.proofs.lemmas.Slice.Eq.{bytes_eq-Decides}
use Rattle.clap.specs.Words.{Row, Text, first_of}
use Rattle.command_words.specs.Asked.{AreAskedFor, IsAsked, MayStandAt}
use Rattle.command_words.specs.Orders.{ArePlaces, AreWantedRules, AreWritable, AskFor, AskForCut, AskForOrbits, AskForWorkers, AsksForNoSearch, HasWorkers, IsDraft, IsExtent, IsFlagged, IsGiven, IsMisfit, IsOrderOf, IsPlace, IsSubject, NameFiles, NamesPuzzle, TellsOfMisfit}
use Rattle.command_words.specs.Places.{AreTwoOnInput}
use Rattle.command_words.specs.declared.faults.WordsFault.{WordsFault}
use Rattle.command_words.specs.declared.faults.WordsFault.TheVariants.{Words, Memory}
use Rattle.command_words.specs.declared.orders.Extent.{Extent}
use Rattle.command_words.specs.declared.orders.Extent.TheVariants as extents
use Rattle.command_words.specs.declared.orders.Order.{Order}
use Rattle.command_words.specs.declared.orders.Order.TheVariants as orders
use Rattle.command_words.specs.declared.orders.Subject.{Subject}
use Rattle.command_words.specs.declared.orders.WantedRules.{WantedRules}
use Rattle.command_words.specs.declared.orders.WantedWorkers.{WantedWorkers}
use Rattle.puzzle_drafts.specs.declared.drafts.Draft.{Draft}
use Rattle.command_words.specs.declared.orders.Subject.TheVariants.{Board, Listed}
use Rattle.command_words.specs.declared.places.Files.{Files}
use Rattle.command_words.specs.declared.places.Given.{Given}
use Rattle.command_words.specs.declared.places.Given.TheVariants.{Joined, Apart}
use Rattle.command_words.specs.declared.places.Place.{Place}
use Rattle.command_words.specs.declared.places.Place.TheVariants.{File, Input}
use Rattle.command_words.specs.declared.places.Places.{Places}
use Rattle.command_words.specs.declared.readings.Asked.{Asked}
use Rattle.command_words.specs.declared.readings.Asked.TheVariants as asked
use Rattle.match_symmetry.specs.declared.choices.Suggested.{Suggested}
use Rattle.command_words.proofs.ProgramLemmas.{none_is_some, some_is}

pub true_is_false : true ≡ false → ⊥
true_is_false e = absurd cc

pub differ : (name other : Text) → bytes_eq name other ≡ false → name ≡ other → ⊥
differ name other differs_so is = true_is_false (sym ((bytes_eq-Decides name other).1 is) ∙ differs_so)

-- ---- orders of a command

-- none where there is no count by a list, and none by a search
pub no_count : (rows : List Row) → ((given : Given) → IsGiven rows given → IsExtent rows extents.All → HasWorkers rows → ⊥)
    → ((puzzle : Place) (extent : Extent) → NamesPuzzle rows puzzle → IsExtent rows extent → HasWorkers rows → ⊥)
    → (order : Order) → IsOrderOf (Some (codes "count", rows)) order → ⊥
no_count rows listed searched orders.Joined is = is
no_count rows listed searched (orders.Check order) is = differ (codes "count") (codes "check") refl is.0
no_count rows listed searched (orders.Explain given) is = differ (codes "count") (codes "explain") refl is.0
no_count rows listed searched (orders.ExplainPuzzle puzzle) is = differ (codes "count") (codes "explain") refl is.0
no_count rows listed searched (orders.Find order) is = differ (codes "count") (codes "find") refl is.0
no_count rows listed searched (orders.Solve order) is = differ (codes "count") (codes "solve") refl is.0
no_count rows listed searched (orders.Expand order) is = differ (codes "count") (codes "expand") refl is.0
no_count rows listed searched (orders.Page order) is = differ (codes "count") (codes "page") refl is.0
no_count rows listed searched (orders.Count given) is = listed given is.1 is.2 is.3
no_count rows listed searched (orders.Census order) is = searched order.puzzle order.extent is.1 is.2 (order.workers, is.3)
no_count rows listed searched (orders.Total parts) is = differ (codes "count") (codes "total") refl is.0
no_count rows listed searched (orders.Generate order) is = differ (codes "count") (codes "generate") refl is.0
no_count rows listed searched (orders.Show subject) is = differ (codes "count") (codes "show") refl is.0
no_count rows listed searched (orders.Draw order) is = differ (codes "count") (codes "draw") refl is.0
no_count rows listed searched (orders.DrawAll order) is = differ (codes "count") (codes "draw") refl is.0
no_count rows listed searched (orders.Cut order) is = differ (codes "count") (codes "draw") refl is.0
no_count rows listed searched (orders.Symmetries puzzle) is = differ (codes "count") (codes "symmetries") refl is.0
no_count rows listed searched (orders.Tiles order) is = differ (codes "count") (codes "tiles") refl is.0

-- none of a check that asks for no workers
pub no_check : (rows : List Row) → (HasWorkers rows → ⊥) → (order : Order) → IsOrderOf (Some (codes "check", rows)) order → ⊥
no_check rows none orders.Joined is = is
no_check rows none (orders.Check order) is = none (order.workers, is.2)
no_check rows none (orders.Explain given) is = differ (codes "check") (codes "explain") refl is.0
no_check rows none (orders.ExplainPuzzle puzzle) is = differ (codes "check") (codes "explain") refl is.0
no_check rows none (orders.Find order) is = differ (codes "check") (codes "find") refl is.0
no_check rows none (orders.Solve order) is = differ (codes "check") (codes "solve") refl is.0
no_check rows none (orders.Expand order) is = differ (codes "check") (codes "expand") refl is.0
no_check rows none (orders.Page order) is = differ (codes "check") (codes "page") refl is.0
no_check rows none (orders.Count given) is = differ (codes "check") (codes "count") refl is.0
no_check rows none (orders.Census order) is = differ (codes "check") (codes "count") refl is.0
no_check rows none (orders.Total parts) is = differ (codes "check") (codes "total") refl is.0
no_check rows none (orders.Generate order) is = differ (codes "check") (codes "generate") refl is.0
no_check rows none (orders.Show subject) is = differ (codes "check") (codes "show") refl is.0
no_check rows none (orders.Draw order) is = differ (codes "check") (codes "draw") refl is.0
no_check rows none (orders.DrawAll order) is = differ (codes "check") (codes "draw") refl is.0
no_check rows none (orders.Cut order) is = differ (codes "check") (codes "draw") refl is.0
no_check rows none (orders.Symmetries puzzle) is = differ (codes "check") (codes "symmetries") refl is.0
no_check rows none (orders.Tiles order) is = differ (codes "check") (codes "tiles") refl is.0

-- none of a count that asks for no workers
pub counted_by_nobody : (rows : List Row) → (HasWorkers rows → ⊥) → (order : Order) → IsOrderOf (Some (codes "count", rows)) order → ⊥
counted_by_nobody rows none = no_count rows (λ given is all has. none has) (λ puzzle extent alone is has. none has)

-- none where there is no solve
no_solve : (rows : List Row)
    → ((files : Files) → NameFiles rows files → AreWritable files → (AsksForNoSearch rows → ⊥) → ⊥)
    → (order : Order) → IsOrderOf (Some (codes "solve", rows)) order → ⊥
no_solve rows none orders.Joined is = is
no_solve rows none (orders.Check order) is = differ (codes "solve") (codes "check") refl is.0
no_solve rows none (orders.Explain given) is = differ (codes "solve") (codes "explain") refl is.0
no_solve rows none (orders.ExplainPuzzle puzzle) is = differ (codes "solve") (codes "explain") refl is.0
no_solve rows none (orders.Find order) is = differ (codes "solve") (codes "find") refl is.0
no_solve rows none (orders.Solve order) is =
    none order.files is.1 is.2 (λ nothing. nothing order.depth order.workers order.symmetries is.3 is.5 is.6)
no_solve rows none (orders.Expand order) is = differ (codes "solve") (codes "expand") refl is.0
no_solve rows none (orders.Page order) is = differ (codes "solve") (codes "page") refl is.0
no_solve rows none (orders.Count given) is = differ (codes "solve") (codes "count") refl is.0
no_solve rows none (orders.Census order) is = differ (codes "solve") (codes "count") refl is.0
no_solve rows none (orders.Total parts) is = differ (codes "solve") (codes "total") refl is.0
no_solve rows none (orders.Generate order) is = differ (codes "solve") (codes "generate") refl is.0
no_solve rows none (orders.Show subject) is = differ (codes "solve") (codes "show") refl is.0
no_solve rows none (orders.Draw order) is = differ (codes "solve") (codes "draw") refl is.0
no_solve rows none (orders.DrawAll order) is = differ (codes "solve") (codes "draw") refl is.0
no_solve rows none (orders.Cut order) is = differ (codes "solve") (codes "draw") refl is.0
no_solve rows none (orders.Symmetries puzzle) is = differ (codes "solve") (codes "symmetries") refl is.0
no_solve rows none (orders.Tiles order) is = differ (codes "solve") (codes "tiles") refl is.0

-- none of a solve whose list or certificate has the name of standard input
pub not_writable : (rows : List Row) (files : Files) → NameFiles rows files → (AreWritable files → ⊥) → (order : Order) → IsOrderOf (Some (codes "solve", rows)) order → ⊥
not_writable rows files named not = no_solve rows (λ other names writable asked. not (record {
  list = λ same. writable.list (some_is (sym names.list ∙ named.list) ∙ same);
  certificate = λ same. writable.certificate (some_is (sym names.certificate ∙ named.certificate) ∙ same);
}))

-- none of a solve that asks for no search
pub not_searched : (rows : List Row) → AsksForNoSearch rows → (order : Order) → IsOrderOf (Some (codes "solve", rows)) order → ⊥
not_searched rows none = no_solve rows (λ files names writable asked. asked none)

-- none of a find that doesn't say by which orbits it goes, or by how many workers
pub no_find : (rows : List Row) → ((orbits : Option Suggested) → AskForOrbits rows orbits → HasWorkers rows → ⊥) → (order : Order) → IsOrderOf (Some (codes "find", rows)) order → ⊥
no_find rows none orders.Joined is = is
no_find rows none (orders.Check order) is = differ (codes "find") (codes "check") refl is.0
no_find rows none (orders.Explain given) is = differ (codes "find") (codes "explain") refl is.0
no_find rows none (orders.ExplainPuzzle puzzle) is = differ (codes "find") (codes "explain") refl is.0
no_find rows none (orders.Find order) is = none order.orbits is.3 (order.workers, is.5)
no_find rows none (orders.Solve order) is = differ (codes "find") (codes "solve") refl is.0
no_find rows none (orders.Expand order) is = differ (codes "find") (codes "expand") refl is.0
no_find rows none (orders.Page order) is = differ (codes "find") (codes "page") refl is.0
no_find rows none (orders.Count given) is = differ (codes "find") (codes "count") refl is.0
no_find rows none (orders.Census order) is = differ (codes "find") (codes "count") refl is.0
no_find rows none (orders.Total parts) is = differ (codes "find") (codes "total") refl is.0
no_find rows none (orders.Generate order) is = differ (codes "find") (codes "generate") refl is.0
no_find rows none (orders.Show subject) is = differ (codes "find") (codes "show") refl is.0
no_find rows none (orders.Draw order) is = differ (codes "find") (codes "draw") refl is.0
no_find rows none (orders.DrawAll order) is = differ (codes "find") (codes "draw") refl is.0
no_find rows none (orders.Cut order) is = differ (codes "find") (codes "draw") refl is.0
no_find rows none (orders.Symmetries puzzle) is = differ (codes "find") (codes "symmetries") refl is.0
no_find rows none (orders.Tiles order) is = differ (codes "find") (codes "tiles") refl is.0

-- none where no rules and draft go together
pub no_generate : (rows : List Row) → ((rules : WantedRules) (draft : Draft) → AreWantedRules rows rules → IsDraft rows draft → ⊥) → (order : Order) → IsOrderOf (Some (codes "generate", rows)) order → ⊥
no_generate rows none orders.Joined is = is
no_generate rows none (orders.Check order) is = differ (codes "generate") (codes "check") refl is.0
no_generate rows none (orders.Explain given) is = differ (codes "generate") (codes "explain") refl is.0
no_generate rows none (orders.ExplainPuzzle puzzle) is = differ (codes "generate") (codes "explain") refl is.0
no_generate rows none (orders.Find order) is = differ (codes "generate") (codes "find") refl is.0
no_generate rows none (orders.Solve order) is = differ (codes "generate") (codes "solve") refl is.0
no_generate rows none (orders.Expand order) is = differ (codes "generate") (codes "expand") refl is.0
no_generate rows none (orders.Page order) is = differ (codes "generate") (codes "page") refl is.0
no_generate rows none (orders.Count given) is = differ (codes "generate") (codes "count") refl is.0
no_generate rows none (orders.Census order) is = differ (codes "generate") (codes "count") refl is.0
no_generate rows none (orders.Total parts) is = differ (codes "generate") (codes "total") refl is.0
no_generate rows none (orders.Generate order) is = none order.rules order.draft is.1 is.2
no_generate rows none (orders.Show subject) is = differ (codes "generate") (codes "show") refl is.0
no_generate rows none (orders.Draw order) is = differ (codes "generate") (codes "draw") refl is.0
no_generate rows none (orders.DrawAll order) is = differ (codes "generate") (codes "draw") refl is.0
no_generate rows none (orders.Cut order) is = differ (codes "generate") (codes "draw") refl is.0
no_generate rows none (orders.Symmetries puzzle) is = differ (codes "generate") (codes "symmetries") refl is.0
no_generate rows none (orders.Tiles order) is = differ (codes "generate") (codes "tiles") refl is.0

-- none of a drawing whose words don't say whether tiles are cut out
pub no_draw : (rows : List Row) → ((size : Option ℕ) → AskForCut rows size → ⊥) → (order : Order) → IsOrderOf (Some (codes "draw", rows)) order → ⊥
no_draw rows none orders.Joined is = is
no_draw rows none (orders.Check order) is = differ (codes "draw") (codes "check") refl is.0
no_draw rows none (orders.Explain given) is = differ (codes "draw") (codes "explain") refl is.0
no_draw rows none (orders.ExplainPuzzle puzzle) is = differ (codes "draw") (codes "explain") refl is.0
no_draw rows none (orders.Find order) is = differ (codes "draw") (codes "find") refl is.0
no_draw rows none (orders.Solve order) is = differ (codes "draw") (codes "solve") refl is.0
no_draw rows none (orders.Expand order) is = differ (codes "draw") (codes "expand") refl is.0
no_draw rows none (orders.Page order) is = differ (codes "draw") (codes "page") refl is.0
no_draw rows none (orders.Count given) is = differ (codes "draw") (codes "count") refl is.0
no_draw rows none (orders.Census order) is = differ (codes "draw") (codes "count") refl is.0
no_draw rows none (orders.Total parts) is = differ (codes "draw") (codes "total") refl is.0
no_draw rows none (orders.Generate order) is = differ (codes "draw") (codes "generate") refl is.0
no_draw rows none (orders.Show subject) is = differ (codes "draw") (codes "show") refl is.0
no_draw rows none (orders.Draw order) is = none None is.2
no_draw rows none (orders.DrawAll order) is = none None is.2
no_draw rows none (orders.Cut order) is = none (Some order.size) is.2
no_draw rows none (orders.Symmetries puzzle) is = differ (codes "draw") (codes "symmetries") refl is.0
no_draw rows none (orders.Tiles order) is = differ (codes "draw") (codes "tiles") refl is.0

-- a flag isn't both given and left out
pub flagged_once : (rows : List Row) (id : Text) → IsFlagged id rows true → IsFlagged id rows false → ⊥
flagged_once rows id given left_out = differ (codes "true") (codes "false") refl (some_is (sym given ∙ left_out))

-- orbits by a word that names no symmetries
pub orbits_of_none : (rows : List Row) (word : Text) → IsFlagged (codes "orbits") rows true → first_of (codes "symmetries") rows ≡ Some word
    → ((symmetries : Suggested) → AskFor rows symmetries → ⊥) → (orbits : Option Suggested) → AskForOrbits rows orbits → ⊥
orbits_of_none rows word given named none None is = flagged_once rows (codes "orbits") given is.0
orbits_of_none rows word given named none (Some symmetries) (flag, inl asks) = none symmetries asks
orbits_of_none rows word given named none (Some symmetries) (flag, inr left_out) = none_is_some (sym left_out.0 ∙ named)

-- symmetries without orbits
pub symmetries_alone : (rows : List Row) (word : Text) → IsFlagged (codes "orbits") rows false → first_of (codes "symmetries") rows ≡ Some word
    → (orbits : Option Suggested) → AskForOrbits rows orbits → ⊥
symmetries_alone rows word left_out named None is = none_is_some (sym is.1 ∙ named)
symmetries_alone rows word left_out named (Some symmetries) is = flagged_once rows (codes "orbits") is.0 left_out

pub named_at : (rows : List Row) (id : Text) (text : Text) → first_of id rows ≡ Some text → first_of id rows ≡ None → ⊥
named_at rows id text is none = none_is_some (sym none ∙ is)

-- what is told of words of a command that give no order
pub misfits : (name : Text) (rows : List Row) (fault : WordsFault) → TellsOfMisfit fault → ((order : Order) → IsOrderOf (Some (name, rows)) order → ⊥) → IsMisfit (Some (name, rows)) fault
misfits name rows (Words error) tells none = (none, tells)
misfits name rows Memory tells none = tt

-- no workers are asked for by a word that asks for none
pub no_workers : (rows : List Row) → ((workers : WantedWorkers) → AskForWorkers rows workers → ⊥) → HasWorkers rows → ⊥
no_workers rows none has = none has.0 has.1

-- ---- places

file_is_input : {name : _} → File name ≡ Input → ⊥
file_is_input e = absurd cc

module _ (rows : List Row) where
  named : (id : Text) (place : Place) → IsPlace id rows place → first_of id rows ≡ None → ⊥
  named id Input is none = none_is_some (sym none ∙ is)
  named id (File name) is none = none_is_some (sym none ∙ is.0)

  on_input : (id : Text) (place other : Place) → IsPlace id rows place → IsPlace id rows other → place ≡ Input → other ≡ Input
  on_input id Input Input is so e = refl
  on_input id Input (File name) is so e = absurd (so.1 (some_is (sym so.0 ∙ is)))
  on_input id (File name) other is so e = absurd (file_is_input e)

  pub no_subject : (puzzle list : Place) → IsPlace (codes "PUZZLE") rows puzzle → IsPlace (codes "LIST") rows list → puzzle ≡ Input → list ≡ Input
      → (subject : Subject) → IsSubject rows subject → ⊥
  no_subject puzzle list first second one other (Board place) is = named (codes "LIST") list second is.1
  no_subject puzzle list first second one other (Listed places number) is =
      places.once (on_input (codes "PUZZLE") puzzle places.puzzle first is.0 one, on_input (codes "LIST") list places.list second is.1 other)

  module _ (puzzle list certificate : Place) (first : IsPlace (codes "PUZZLE") rows puzzle) (second : IsPlace (codes "LIST") rows list) (third : IsPlace (codes "CERTIFICATE") rows certificate) where
    at_puzzle : (places : Places) → ArePlaces rows places → puzzle ≡ Input → places.puzzle ≡ Input
    at_puzzle places is = on_input (codes "PUZZLE") puzzle places.puzzle first is.puzzle

    at_list : (places : Places) → ArePlaces rows places → list ≡ Input → places.list ≡ Input
    at_list places is = on_input (codes "LIST") list places.list second is.list

    at_certificate : (places : Places) → ArePlaces rows places → certificate ≡ Input → places.certificate ≡ Input
    at_certificate places is = on_input (codes "CERTIFICATE") certificate places.certificate third is.certificate

    twice : AreTwoOnInput puzzle list certificate → (given : Given) → IsGiven rows given → ⊥
    twice both Joined is = named (codes "PUZZLE") puzzle first is.no_puzzle
    twice (inl both) (Apart places) is = places.once (inl (at_puzzle places is both.0, at_list places is both.1))
    twice (inr (inl both)) (Apart places) is = places.once (inr (inl (at_puzzle places is both.0, at_certificate places is both.1)))
    twice (inr (inr both)) (Apart places) is = places.once (inr (inr (at_list places is both.0, at_certificate places is both.1)))

  -- what is named, and is not there, or is there, and is not named
  unlisted : (puzzle list certificate : Option Place) → MayStandAt (codes "PUZZLE") rows puzzle → MayStandAt (codes "LIST") rows list → MayStandAt (codes "CERTIFICATE") rows certificate
      → (reason : _) → AreAskedFor puzzle list certificate (asked.Nothing reason) → IsAsked rows (asked.Nothing reason)
  unlisted None None None first second third reason is = absurd is
  unlisted (Some puzzle) None None first second third reason is = absurd is
  unlisted (Some puzzle) (Some list) (Some certificate) first second third reason is =
      (twice puzzle list certificate first second third is, λ place alone. named (codes "LIST") list second alone.no_list)
  unlisted (Some puzzle) (Some list) None first second third reason is = (given, λ place alone. named (codes "LIST") list second alone.no_list)
    where
      given : (any : Given) → IsGiven rows any → ⊥
      given Joined is = named (codes "LIST") list second is.no_list
      given (Apart places) is = named (codes "CERTIFICATE") places.certificate is.certificate third
  unlisted (Some puzzle) None (Some certificate) first second third reason is = (given, λ place alone. named (codes "CERTIFICATE") certificate third alone.no_certificate)
    where
      given : (any : Given) → IsGiven rows any → ⊥
      given Joined is = named (codes "CERTIFICATE") certificate third is.no_certificate
      given (Apart places) is = named (codes "LIST") places.list is.list second
  unlisted None (Some list) certificate first second third reason is = (given, λ place alone. named (codes "LIST") list second alone.no_list)
    where
      given : (any : Given) → IsGiven rows any → ⊥
      given Joined is = named (codes "LIST") list second is.no_list
      given (Apart places) is = named (codes "PUZZLE") places.puzzle is.puzzle first
  unlisted None None (Some certificate) first second third reason is = (given, λ place alone. named (codes "CERTIFICATE") certificate third alone.no_certificate)
    where
      given : (any : Given) → IsGiven rows any → ⊥
      given Joined is = named (codes "CERTIFICATE") certificate third is.no_certificate
      given (Apart places) is = named (codes "PUZZLE") places.puzzle is.puzzle first

  pub asked_in : (puzzle list certificate : Option Place) → MayStandAt (codes "PUZZLE") rows puzzle → MayStandAt (codes "LIST") rows list → MayStandAt (codes "CERTIFICATE") rows certificate
      → (what : Asked) → AreAskedFor puzzle list certificate what → IsAsked rows what
  asked_in puzzle list certificate first second third (asked.Nothing reason) is = unlisted puzzle list certificate first second third reason is
  asked_in None None None first second third (asked.Given Joined) is = record { no_puzzle = first; no_list = second; no_certificate = third }
  asked_in (Some puzzle) None None first second third (asked.Puzzle place) is = record { at = subst (IsPlace (codes "PUZZLE") rows) (sym is) first; no_list = second; no_certificate = third }
  asked_in (Some puzzle) (Some list) (Some certificate) first second third (asked.Given (Apart places)) is = record {
    puzzle = subst (IsPlace (codes "PUZZLE") rows) (sym is.0) first;
    list = subst (IsPlace (codes "LIST") rows) (sym is.1) second;
    certificate = subst (IsPlace (codes "CERTIFICATE") rows) (sym is.2) third;
  }
  asked_in None None None first second third (asked.Given (Apart places)) is = absurd is
  asked_in None None None first second third (asked.Puzzle place) is = absurd is
  asked_in None None (Some certificate) first second third (asked.Given Joined) is = absurd is
  asked_in None None (Some certificate) first second third (asked.Given (Apart places)) is = absurd is
  asked_in None None (Some certificate) first second third (asked.Puzzle place) is = absurd is
  asked_in None (Some list) None first second third (asked.Given Joined) is = absurd is
  asked_in None (Some list) None first second third (asked.Given (Apart places)) is = absurd is
  asked_in None (Some list) None first second third (asked.Puzzle place) is = absurd is
  asked_in None (Some list) (Some certificate) first second third (asked.Given Joined) is = absurd is
  asked_in None (Some list) (Some certificate) first second third (asked.Given (Apart places)) is = absurd is
  asked_in None (Some list) (Some certificate) first second third (asked.Puzzle place) is = absurd is
  asked_in (Some puzzle) None None first second third (asked.Given Joined) is = absurd is
  asked_in (Some puzzle) None None first second third (asked.Given (Apart places)) is = absurd is
  asked_in (Some puzzle) None (Some certificate) first second third (asked.Given Joined) is = absurd is
  asked_in (Some puzzle) None (Some certificate) first second third (asked.Given (Apart places)) is = absurd is
  asked_in (Some puzzle) None (Some certificate) first second third (asked.Puzzle place) is = absurd is
  asked_in (Some puzzle) (Some list) None first second third (asked.Given Joined) is = absurd is
  asked_in (Some puzzle) (Some list) None first second third (asked.Given (Apart places)) is = absurd is
  asked_in (Some puzzle) (Some list) None first second third (asked.Puzzle place) is = absurd is
  asked_in (Some puzzle) (Some list) (Some certificate) first second third (asked.Given Joined) is = absurd is
  asked_in (Some puzzle) (Some list) (Some certificate) first second third (asked.Puzzle place) is = absurd is

  -- ---- a count by a list, of which a search is asked something

  pub no_search : (given : Given) (extent : Extent) → IsGiven rows given → IsExtent rows extent → (IsExtent rows extents.All → ⊥) → (order : Order) → IsOrderOf (Some (codes "count", rows)) order → ⊥
  no_search Joined extent is asks some = no_count rows (λ other so all has. some all) (λ place more alone so has. named (codes "PUZZLE") place alone.at is.no_puzzle)
  no_search (Apart places) extent is asks some = no_count rows (λ other so all has. some all) (λ place more alone so has. named (codes "LIST") places.list is.list alone.no_list)
