-- What a count by a search comes to.
use Rattle.std.proofs.Common.{◌≡◌, ◌∙◌, ◌<◌, ◌≤◌, ◌+◌, ◌++◌, ◌∷◌, [], List, ℕ, Ok, None, Some, length, get_or, drop, slice_get, ap, append_assoc, arith, refl, subst, sym, ⊎_elim}
use Rattle.std.proofs.lemmas.List.{drop_more}
use Rattle.std.proofs.lemmas.Option.{slice_get_past}
use Rattle.match_limits.proofs.ListLemmas.{pushed_place}
use Rattle.count_totals.specs.Lines.{line_text, text_of}
use Rattle.count_totals.specs.declared.lines.Line.{Line}
use Rattle.count_totals.specs.declared.lines.Line.TheVariants as lines
use Rattle.match_puzzle.specs.Arrangement.{HasArrangements}
use Rattle.match_puzzle.specs.Puzzle.{Task}
use Rattle.match_text.specs.Puzzles.{PuzzleReads}
use Rattle.xcc_form.specs.Options.{Compiled, HasTooManyEntries, IsCompiled}
use Rattle.xcc_form.specs.declared.faults.CompileFault.{CompileFault}
use Rattle.xcc_form.specs.declared.faults.CompileFault.TheVariants as compiles
use Rattle.count_search.specs.Branches.{WeightedBranch, HaveTogether, IsSplit}
use Rattle.solver.specs.declared.faults.SolveFault.TheVariants as solves
use Rattle.command_words.specs.declared.orders.Parts.{Parts}
use Rattle.command_words.specs.declared.orders.Extent.{Extent}
use Rattle.command_words.specs.declared.orders.Extent.TheVariants as extents
use Rattle.command_runs.specs.Census.{AreNotCounted, AreTooManyToCount, CensusFails, HaveTooMany, IsNotCounted, part_lines, part_of}
use Rattle.command_runs.specs.FaultText.{run_of_compile}
use Rattle.command_runs.specs.Runs.{IsOfTexts}
use Rattle.command_runs.specs.declared.faults.RunFault.{RunFault}
use Rattle.command_runs.specs.declared.faults.RunFault.TheVariants as runs

-- why the puzzle that a text spells isn't counted is what a fault says of the text
pub not_counted : (extent : Extent) (text : List ℕ) (p : Task) → PuzzleReads text (Ok p) → (fault : RunFault) → IsNotCounted extent p fault → CensusFails extent text fault × IsOfTexts fault
not_counted extent text p reads (runs.Solve fault) is = ((p, reads, is), tt)
not_counted extent text p reads runs.Memory is = (tt, tt)
not_counted extent text p reads _ is = absurd is

-- a puzzle that can't be compiled isn't counted
pub compile_fails : (extent : Extent) (p : Task) (fault : CompileFault) → (fault ≡ compiles.TooMany → HasTooManyEntries p) → IsNotCounted extent p (run_of_compile fault)
compile_fails extent p compiles.TooMany many = many refl
compile_fails extent p compiles.Memory many = tt

-- what the branches of a split have together is how many arrangements the puzzle has
pub split_counts : (x : Compiled) (p : Task) (branches : List WeightedBranch) (count : ℕ) → x.puzzle ≡ p → IsSplit x branches → HaveTogether x branches count → HasArrangements p count
split_counts x p branches count of split have = subst (λ (t : Task). HasArrangements t count) of (split count have)

-- two lines that were put one after the other, and others behind them
pub lines_then : (first second : Line) (others : List Line) (empty one two all : List ℕ) → empty ≡ [] → one ≡ empty ++ (line_text first ++ 10 ∷ []) → two ≡ one ++ (line_text second ++ 10 ∷ []) → all ≡ two ++ text_of others
    → all ≡ text_of (first ∷ second ∷ others)
lines_then first second others empty one two all none put_first put_second put_others =
    put_others ∙ ap (λ (t : List ℕ). t ++ text_of others) (put_second ∙ ap (λ (t : List ℕ). t ++ (line_text second ++ 10 ∷ [])) (put_first ∙ ap (λ (t : List ℕ). t ++ (line_text first ++ 10 ∷ [])) none))
    ∙ simp append_assoc

-- a line that was put, and others that are still to be
pub line_then : (line : Line) (others : List Line) (before after : List ℕ) → after ≡ before ++ (line_text line ++ 10 ∷ []) → after ++ text_of others ≡ before ++ text_of (line ∷ others)
line_then line others before after put = ap (λ (t : List ℕ). t ++ text_of others) put ∙ simp append_assoc

-- the line of the part that is next, and those behind it
pub part_line_next : (parts number : ℕ) (counts : List ℕ) (next : ℕ) → next < length counts
    → part_lines parts number (drop next counts) ≡ lines.Part (record { number = number; parts = parts; count = get_or counts next 0 }) ∷ part_lines parts (number + 1) (drop (next + 1) counts)
part_line_next parts number counts next lt = ap (part_lines parts number) (drop_more counts next 0 lt)

module _ (x : Compiled) (branches : List WeightedBranch) (parts : Parts) where
  -- each number so far is what its part has
  abbrev pub HaveEach : (counts : List ℕ) → Type 0
  HaveEach counts = (later count : ℕ) → slice_get counts later ≡ Some count → HaveTogether x (part_of parts later branches) count

  pub have_none : (counts : List ℕ) → counts ≡ [] → HaveEach counts
  have_none counts none later count at =
      let long = ap length none in
      let gone : None ≡ Some count = sym (slice_get_past counts later (omega (arith, long))) ∙ at in
      cc

  pub have_more : (counts more : List ℕ) (count : ℕ) → more ≡ counts ++ count ∷ [] → HaveEach counts → HaveTogether x (part_of parts (length counts) branches) count → HaveEach more
  have_more counts more count pushed each have later n at =
      ⊎_elim (λ old. each later n old)
      (λ last. subst (HaveTogether x (part_of parts later branches)) last.1 (subst (λ (k : ℕ). HaveTogether x (part_of parts k branches) count) (sym last.0) have))
      (pushed_place counts count later n (subst (λ (xs : List ℕ). slice_get xs later ≡ Some n) pushed at))

  -- a part that has too many is why the parts aren't counted
  pub part_fails : (later : ℕ) → later ≤ parts.more → (fault : RunFault) → AreNotCounted extents.All x (part_of parts later branches) fault → AreNotCounted (extents.Parts parts) x branches fault
  part_fails later within (runs.Solve solves.Full) many = (later, within, many)
  part_fails later within runs.Memory is = tt
  part_fails later within _ is = absurd is

-- why the branches of a split aren't counted is why the puzzle isn't
module _ (x : Compiled) (p : Task) (branches : List WeightedBranch) (compiled : IsCompiled x) (of : x.puzzle ≡ p) (split : IsSplit x branches) where
  too_many : (extent : Extent) → HaveTooMany extent x branches → AreTooManyToCount extent p
  too_many extent many = record { compiled = x; is_compiled = compiled; of = of; branches = branches; split = split; many = many }

  pub all_fail : (fault : RunFault) → AreNotCounted extents.All x branches fault → IsNotCounted extents.All p fault
  all_fail (runs.Solve solves.Full) many = too_many extents.All many
  all_fail runs.Memory is = tt
  all_fail _ is = absurd is

  pub parts_fail : (parts : Parts) (fault : RunFault) → AreNotCounted (extents.Parts parts) x branches fault → IsNotCounted (extents.Parts parts) p fault
  parts_fail parts (runs.Solve solves.Full) many = too_many (extents.Parts parts) many
  parts_fail parts runs.Memory is = tt
  parts_fail parts _ is = absurd is
