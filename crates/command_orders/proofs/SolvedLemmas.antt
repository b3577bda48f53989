-- What a solve comes to, by the run that it makes and what is done to its files.
use Rattle.std.proofs.Common.{◌≡◌, ◌⊎◌, ◌++◌, ◌∷◌, [], ℕ, List, Option, Result, Ok, Err, inl, inr, refl, subst, zero-le}
use Rattle.std.specs.Prelude.{OnOk}
use Rattle.std.specs.Io.KnownBytes.{Appends}
use Rattle.std.proofs.KnownBytes.{Consumes-nil}
use Rattle.byte_streams.specs.Deeds.{Deed, Did}
use Rattle.byte_streams.specs.MadeFiles.{AreMade, AreWritten, PutsNoneOrHalf, Settles, SettlesWhole, Undid, both_made, both_removed}
use Rattle.byte_streams.specs.Moves.{FrontOf, Takes, Writing, reading_of}
use Rattle.byte_streams.specs.Origins.{Origin, one_source}
use Rattle.byte_streams.specs.Targets.{StopsWriting, Target, filled, products_to, three_sinks}
use Rattle.byte_streams.specs.declared.faults.Document.TheVariants as documents
use Rattle.byte_streams.specs.declared.faults.InputFault.{InputFault}
use Rattle.byte_streams.specs.declared.faults.InputFault.TheVariants as inputs
use Rattle.byte_streams.specs.declared.files.FileSystem.{Ghosts as FileMembers}
use Rattle.byte_streams.specs.declared.made_files.MadeFiles.{MadeFiles}
use Rattle.byte_streams.specs.declared.made_files.NotPut.{NotPut}
use Rattle.byte_streams.specs.declared.made_files.ProductNames.{ProductNames}
use Rattle.byte_streams.specs.declared.made_files.Unsettled.{Unsettled}
use Rattle.byte_streams.specs.declared.made_files.Unsettled.TheVariants as unsettled
use Rattle.byte_streams.specs.declared.outputs.Products.{Products}
use Rattle.byte_streams.specs.declared.sources.Source.{Ghosts as SourceMembers}
use Rattle.command_words.specs.declared.places.Files.{Files}
use Rattle.command_orders.specs.OrderRuns.{SolveOf, ThenDone}
use Rattle.command_runs.specs.Runs.{Runs, unhinted}
use Rattle.command_runs.specs.declared.hints.HintedFault.{HintedFault}
use Rattle.command_orders.specs.SolvedFiles.{certificate_name, half_put, list_name, solved_files}
use Rattle.command_orders.specs.SolvedFiles.{both_made as files_made}
use Rattle.command_runs.specs.Solving.{SolveFailsOf, SolveGivesOf}
use Rattle.command_runs.specs.declared.solve_runs.SolvePlan.{SolvePlan}
use Rattle.command_orders.specs.declared.exits.Exit.{Exit}
use Rattle.command_orders.specs.declared.exits.Exit.TheVariants.{Done}
use Rattle.command_runs.specs.declared.faults.RunFault.{RunFault}
use Rattle.command_runs.specs.declared.faults.RunFault.TheVariants as runs
use Rattle.command_runs.proofs.RunningLemmas.{stopped_over}
use Rattle.command_orders.proofs.OrderLemmas.{over_origin}

-- ---- deeds

module _ {S : Type 0} (does : S → Deed → S → Type 0) where
  -- deeds, and then others
  pub did_then : (old now new : S) (deeds others : List Deed) → Did does old deeds now → Did does now others new → Did does old (deeds ++ others) new
  did_then old now new [] others same did = subst (λ (s : S). Did does s others new) same did
  did_then old now new (deed ∷ deeds) others first did = (first.0, first.1, did_then first.0 now new deeds others first.2 did)

  -- what was made was removed
  pub undone : (list certificate : List ℕ) (old now new : S) → Did does old (both_made list certificate) now → Did does now (both_removed list certificate) new → Undid list certificate does old new
  undone list certificate old now new made removed =
      (both_made list certificate ++ both_removed list certificate, inr (inr refl), did_then old now new (both_made list certificate) (both_removed list certificate) made removed)

-- under two names that are the same
pub named : (A : (list certificate : List ℕ) → Type 0) (l m k n : List ℕ) → l ≡ m → k ≡ n → A l k → A m n
named A l m k n same_list same_certificate holds = subst (λ x. A x n) same_list (subst (λ y. A l y) same_certificate holds)

-- files that were made took what went to their writers since
pub are_written : {S W : Type 0} (makes : S → List ℕ → W → Type 0) (written : W → Option (List ℕ)) (list_name certificate_name : List ℕ) (begun later : MadeFiles W) (texts : Products)
    → AreMade makes list_name certificate_name begun → Appends (written begun.list) (written later.list) texts.list → Appends (written begun.certificate) (written later.certificate) texts.certificate
    → AreWritten makes written list_name certificate_name later texts
are_written makes written l k begun later texts made list certificate = record {
  list = record { at = made.at; begun = begun.list; made = made.list; took = list };
  certificate = record { at = made.later; begun = begun.certificate; made = made.certificate; took = certificate };
}

-- ---- runs

-- a failed writing of three texts says of the last sink that nothing went out, or a front, or all
third_stops : (report : Writing) (made : Products) → StopsWriting (filled report made.report ∷ []) → report.Untouched ⊎ (FrontOf report made.report ⊎ Takes report made.report)
third_stops report made (inl stops) = inr (inl stops.0)
third_stops report made (inr none) = absurd none.1

second_stops : (certificate report : Writing) (made : Products) → StopsWriting (filled certificate made.certificate ∷ filled report made.report ∷ [])
    → report.Untouched ⊎ (FrontOf report made.report ⊎ Takes report made.report)
second_stops certificate report made (inl stops) = inl stops.1.0
second_stops certificate report made (inr later) = third_stops report made later.1

reports_some : (list certificate report : Writing) (made : Products) → StopsWriting (products_to list certificate report made)
    → report.Untouched ⊎ (FrontOf report made.report ⊎ Takes report made.report)
reports_some list certificate report made (inl stops) = inl stops.1.1.0
reports_some list certificate report made (inr later) = second_stops certificate report made later.1

module _ (plan : SolvePlan) (from : Origin (List ℕ)) (to : Target Products) (Put : Products → Type 0) where
  -- the run that a solve makes stopped, and what was made was removed
  pub solve_stopped : (list certificate report : Writing) (Undone : Type 0) → Undone
      → ((made : Products) → Undone × (report.Untouched ⊎ (FrontOf report made.report ⊎ Takes report made.report)) → to.Stopped made) → (Undone × report.Untouched → to.Untouched)
      → (fault : RunFault)
      → Runs from (SolveGivesOf plan) (SolveFailsOf plan) (three_sinks list certificate report) (Err fault)
      → SolveOf plan from to Put (Err fault)
  solve_stopped list certificate report Undone undone stopped untouched fault run =
      inl (stopped_over from from (SolveGivesOf plan) (ThenDone (SolveGivesOf plan)) (SolveFailsOf plan)
      (three_sinks list certificate report) to (λ t gave. gave) (λ f stops. stops) (λ t m e g. (Done, (g, refl)))
      (λ m stops. stopped m (undone, reports_some list certificate report m stops)) (λ u. untouched (undone, u.2)) fault run)

  -- it is not begun, since a file could not be made
  pub not_begun : from.Stopped inputs.Memory → (fault : RunFault) → (fault ≡ runs.Write) ⊎ (fault ≡ runs.Memory) → to.Untouched → SolveOf plan from to Put (Err fault)
  not_begun unread fault (inl write) untouched = rw write (inr (inl (refl, untouched)))
  not_begun unread fault (inr memory) untouched = rw memory (inl (unread, untouched))

  -- what it comes to by what else is said of where its text comes from
  pub solve_over : (from' : Origin (List ℕ)) → ((t : List ℕ) → from.Gave t → from'.Gave t) → ((f : InputFault) → from.Stopped f → from'.Stopped f)
      → (result : Result Exit RunFault) → SolveOf plan from to Put result → SolveOf plan from' to Put result
  solve_over from' gave stopped result (inl run) = inl (over_origin from from' (ThenDone (SolveGivesOf plan)) (SolveFailsOf plan) to gave stopped result run)
  solve_over from' gave stopped result (inr (inl unbegun)) = inr (inl unbegun)
  solve_over from' gave stopped result (inr (inr other)) = inr (inr (other.0, other.1, other.2, gave other.1 other.3, other.4, other.5))

-- a source that isn't read has no fault
pub unread : {P : Type 0} (source : SourceMembers P) (at : P) → (one_source documents.Puzzle (reading_of source at at)).Stopped inputs.Memory
unread source at = ((([], Consumes-nil (source.left at), zero-le), refl), tt)

-- all was written, and a file could not be put in its place
pub put_stopped : {S : Type 0} (does : S → Deed → S → Type 0) (leads : S → List ℕ → List ℕ → Type 0) (files : Files) (old now new : S) (report : Writing) (made : Products) → Did does old (files_made files) now
    → PutsNoneOrHalf (list_name files) (certificate_name files) does now new made → Takes report made.report → (solved_files files does leads old new report).Stopped made
put_stopped does leads files old now new report made both (inl removed) takes = inl (undone does (list_name files) (certificate_name files) old now new both removed, inr (inr takes))
put_stopped does leads files old now new report made both (inr half) takes = inr (did_then does old now new (files_made files) (half_put files made) both half, takes)

-- ---- what files are settled by

module _ {S R W E : Type 0} (system : FileMembers S R W) (written : W → Option (List ℕ)) (names : ProductNames) (made : MadeFiles W) (old new : S) where
  -- they are put only where all was written
  pub put_if_written : (writes : Result Unit E) (settled : Result Unit (Unsettled E)) → settled ≡ Ok tt → Settles system written names made old new writes settled
      → (writes ≡ Ok tt) × SettlesWhole system written names made old new {E = E} (Ok tt)
  put_if_written (Ok done) (Ok put) is settles = (refl, settles)
  put_if_written (Ok done) (Err u) is settles = absurd cc
  put_if_written (Err fault) settled is settles = let back = settles.0 in absurd cc

  pub tried_if_written : (writes : Result Unit E) (settled : Result Unit (Unsettled E)) (refused : NotPut) → settled ≡ Err (unsettled.NotPut refused)
      → Settles system written names made old new writes settled → (writes ≡ Ok tt) × SettlesWhole system written names made old new {E = E} (Err (unsettled.NotPut refused))
  tried_if_written (Ok done) (Ok put) refused is settles = absurd cc
  tried_if_written (Ok done) (Err (unsettled.NotPut other)) refused is settles = (refl, settles)
  tried_if_written (Ok done) (Err (unsettled.Replaced name)) refused is settles = absurd cc
  tried_if_written (Ok done) (Err (unsettled.Stopped fault)) refused is settles = absurd settles
  tried_if_written (Err fault) settled refused is settles = let back = settles.0 in absurd cc

  pub replaced_if_written : (writes : Result Unit E) (settled : Result Unit (Unsettled E)) (name : _) → settled ≡ Err (unsettled.Replaced name)
      → Settles system written names made old new writes settled → (writes ≡ Ok tt) × SettlesWhole system written names made old new {E = E} (Err (unsettled.Replaced name))
  replaced_if_written (Ok done) (Ok put) name is settles = absurd cc
  replaced_if_written (Ok done) (Err (unsettled.NotPut refused)) name is settles = absurd cc
  replaced_if_written (Ok done) (Err (unsettled.Replaced other)) name is settles = (refl, settles)
  replaced_if_written (Ok done) (Err (unsettled.Stopped fault)) name is settles = absurd settles
  replaced_if_written (Err fault) settled name is settles = let back = settles.0 in absurd cc

  -- the fault that stopped is the one that comes back, and both are removed
  pub stopped_by : (writes : Result Unit E) (settled : Result Unit (Unsettled E)) (fault : E) → settled ≡ Err (unsettled.Stopped fault) → Settles system written names made old new writes settled
      → (writes ≡ Err fault) × Did system.does old (both_removed names.list.now names.certificate.now) new
  stopped_by (Ok done) (Ok put) fault is settles = absurd cc
  stopped_by (Ok done) (Err (unsettled.NotPut refused)) fault is settles = absurd cc
  stopped_by (Ok done) (Err (unsettled.Replaced name)) fault is settles = absurd cc
  stopped_by (Ok done) (Err (unsettled.Stopped f)) fault is settles = absurd settles
  stopped_by (Err f) settled fault is settles = (let back = settles.0 in cc, settles.1)

-- what holds after a run that ended well
pub after_run : {T M A : Type 0} (from : Origin T) (gives : T → M → Unit {0} → Type 0) (fails : T → RunFault → Type 0) (to : Target M) (told : Result Unit HintedFault)
    → Runs from gives fails to (unhinted told) → ((made : M) → to.Took made → A) → OnOk told A
after_run from gives fails to (Ok done) run follows = follows run.1 run.4
after_run from gives fails to (Err hinted) run follows = tt
