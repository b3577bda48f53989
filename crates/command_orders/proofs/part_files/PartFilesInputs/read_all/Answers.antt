use Rattle.std.proofs.Common.{◌≡◌, ◌∙◌, ◌+◌, ◌-◌, ◌++◌, ◌∷◌, [], ℕ, List, Some, ap, drop, length, map, rules, subst, sym, take}
use Rattle.std.specs.Prelude.{slice_get}
use Rattle.std.specs.String.{string_bytes}
use Rattle.std.proofs.lemmas.Option.{slice_get-get_or}
use Rattle.std.proofs.lemmas.Result.{err_from_is_err_and}
use Rattle.match_limits.specs.declared.TheConstants.{MOST_BYTES}
use Rattle.command_orders.specs.PartFiles.{IsTextOf, StopsAtFile, joined}
use Rattle.command_orders.proofs.PartLemmas.{joined_more, parted, read_more, stops_at}
use Rattle.command_orders.proofs.part_files.PartFilesInputs.read_all.Goals as goal

pub returns-in_err-read_on-clause-stopped : goal.returns-in_err-read_on-clause-stopped
returns-in_err-read_on-clause-stopped g c =
    let w = err_from_is_err_and c.from_residual.result c.from_residual.ensures.1 in
    let names = c.args.self.now.names.now in
    let n = c.loop-name.name-index in
    let name = c.name-item.result in
    let here : slice_get names n ≡ Some name = slice_get-get_or names n name c.loop-name-test.true ∙ ap Some (sym c.name-item.is) in
    let (texts, are, is, short, same, all) = c.loop-name.invariant in
    let fault = c.in_err-read_on.field-0.0 in
    let stops = subst (λ system. StopsAtFile g.S.FileSystem g.S.Reader.Source system.now (MOST_BYTES - length c.loop-name.text.items) (string_bytes name) fault) same c.in_err-read_on.ensures.stopped in
    rw (w.1, w.2) (stops_at g.S.FileSystem g.S.Reader.Source c.args.self.now.system.now (map string_bytes names) (map string_bytes (take n names)) (string_bytes name) (map string_bytes (drop (n + 1) names)) texts (length c.loop-name.text.items) fault
    (parted string_bytes names n name here) are (ap length is) stops)

pub loop-name-preserved : goal.loop-name-preserved
loop-name-preserved g c =
    let names = c.args.self.now.names.now in
    let n = c.loop-name.name-index in
    let name = c.name-item.result in
    let here : slice_get names n ≡ Some name = slice_get-get_or names n name c.loop-name-test.true ∙ ap Some (sym c.name-item.is) in
    let (texts, are, is, short, same, all) = c.loop-name.invariant in
    let (more, gave, behind) = c.in_ok-read_on.ensures.read in
    let text = subst (λ system. IsTextOf g.S.FileSystem g.S.Reader.Source system.now (string_bytes name) more) same gave in (
      texts ++ more ∷ [],
      read_more g.S.FileSystem g.S.Reader.Source c.args.self.now.system.now string_bytes names n name texts more here are text,
      behind ∙ ap (λ (t : List ℕ). t ++ more) is ∙ sym (joined_more texts more),
      c.in_ok-read_on.ensures.short,
      c.in_ok-read_on.ensures.same.0 ∙ same,
      c.in_ok-read_on.ensures.same.1 ∙ all,
    )
