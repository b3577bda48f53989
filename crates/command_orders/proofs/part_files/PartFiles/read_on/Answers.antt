use Rattle.std.proofs.Common.{◌≡◌, ◌∙◌, ◌-◌, ◌≤◌, ◌++◌, ℕ, List, ap, arith, length, rules, subst}
use Rattle.std.specs.String.{string_bytes}
use Rattle.std.specs.Vec.{vec_len}
use Rattle.std.proofs.lemmas.Result.{err_from_is_err_and}
use Rattle.match_limits.specs.declared.TheConstants.{MOST_BYTES}
use Rattle.byte_streams.specs.Moves.{Gives, ReadFails}
use Rattle.byte_streams.specs.declared.faults.Document.TheVariants as documents
use Rattle.command_orders.specs.FileOrigins.{Opened, read_from}
use Rattle.command_orders.proofs.OrderLemmas.{opened_as}
use Rattle.command_orders.proofs.PartLemmas.{gave_text, read_stops, refused_memory}
use Rattle.command_orders.proofs.part_files.PartFiles.read_on.Goals.{After-read_whole}
use Rattle.command_orders.proofs.part_files.PartFiles.read_on.Goals as goal

-- the file of the name, as it was opened and as it is once it was read
abbrev file : (g : _) (c : After-read_whole g) → Opened g.S.FileSystem g.S.Reader.Source c.args.self.now.system.now (string_bytes c.args.name.now)
file g c =
    opened_as g.S.FileSystem g.S.Reader.Source c.args.self.now.system.now (string_bytes c.args.name.now) c.deref.result.now c.in-Ok.file c.read_whole.new.reader c.deref.ensures c.in-Ok.ensures.opened

pub returns-in_err-extend_from_slice-in-Ok-read_whole-clause-stopped : goal.returns-in_err-extend_from_slice-in-Ok-read_whole-clause-stopped
returns-in_err-extend_from_slice-in-Ok-read_whole-clause-stopped g c =
    let w = err_from_is_err_and c.from_residual.result c.from_residual.ensures.1 in
    let left = MOST_BYTES - length c.args.text.now.items in
    let whole : vec_len c.args.text.now ≡ length c.args.text.now.items = search rules in
    let long = c.len.ensures ∙ whole in
    let here = file g ((goal.at.returns-in_err-extend_from_slice-in-Ok-read_whole-clause-stopped g c).After-read_whole) in
    let gives = subst (λ (n : ℕ). Gives (MOST_BYTES - n) (read_from g.S.FileSystem g.S.Reader.Source c.args.self.now.system.now (string_bytes c.args.name.now) here) c.in-Ok-read_whole.more.items) long c.in-Ok-read_whole.ensures.came in
    rw (w.1, w.2) (refused_memory g.S.FileSystem g.S.Reader.Source c.args.self.now.system.now left (string_bytes c.args.name.now) here c.in-Ok-read_whole.more.items gives)

pub returns-in_err-note-in-Ok-read_whole-clause-stopped : goal.returns-in_err-note-in-Ok-read_whole-clause-stopped
returns-in_err-note-in-Ok-read_whole-clause-stopped g c =
    let w = err_from_is_err_and c.from_residual-in_err-note-in-Ok-read_whole.result c.from_residual-in_err-note-in-Ok-read_whole.ensures.1 in
    let left = MOST_BYTES - length c.args.text.now.items in
    let whole : vec_len c.args.text.now ≡ length c.args.text.now.items = search rules in
    let long = c.len.ensures ∙ whole in
    let here = file g ((goal.at.returns-in_err-note-in-Ok-read_whole-clause-stopped g c).After-read_whole) in
    let gives = subst (λ (n : ℕ). Gives (MOST_BYTES - n) (read_from g.S.FileSystem g.S.Reader.Source c.args.self.now.system.now (string_bytes c.args.name.now) here) c.in-Ok-read_whole.more.items) long c.in-Ok-read_whole.ensures.came in
    rw (w.1, w.2) (refused_memory g.S.FileSystem g.S.Reader.Source c.args.self.now.system.now left (string_bytes c.args.name.now) here c.in-Ok-read_whole.more.items gives)

pub returns-in-Ok-read_whole-clause-read : goal.returns-in-Ok-read_whole-clause-read
returns-in-Ok-read_whole-clause-read g c =
    let left = MOST_BYTES - length c.args.text.now.items in
    let whole : vec_len c.args.text.now ≡ length c.args.text.now.items = search rules in
    let long = c.len.ensures ∙ whole in
    let here = file g ((goal.at.returns-in-Ok-read_whole-clause-read g c).After-read_whole) in
    let gives = subst (λ (n : ℕ). Gives (MOST_BYTES - n) (read_from g.S.FileSystem g.S.Reader.Source c.args.self.now.system.now (string_bytes c.args.name.now) here) c.in-Ok-read_whole.more.items) long c.in-Ok-read_whole.ensures.came in (
      c.in-Ok-read_whole.more.items,
      gave_text g.S.FileSystem g.S.Reader.Source c.args.self.now.system.now left (string_bytes c.args.name.now) here c.in-Ok-read_whole.more.items (omega arith) gives,
      c.in_ok-extend_from_slice-in-Ok-read_whole.ensures.items ∙ ap (λ (t : List ℕ). c.args.text.now.items ++ t) c.deref-in-Ok-read_whole.ensures.value,
    )

pub returns-clause-stopped : goal.returns-clause-stopped
returns-clause-stopped g c =
    let left = MOST_BYTES - length c.args.text.now.items in
    let whole : vec_len c.args.text.now ≡ length c.args.text.now.items = search rules in
    let long = c.len.ensures ∙ whole in
    let here = file g ((goal.at.returns-clause-stopped g c).After-read_whole) in
    let fails = subst (λ (n : ℕ). ReadFails (MOST_BYTES - n) documents.Parts (read_from g.S.FileSystem g.S.Reader.Source c.args.self.now.system.now (string_bytes c.args.name.now) here) c.in-Err-read_whole.fault) long c.in-Err-read_whole.ensures.stopped in
    read_stops g.S.FileSystem g.S.Reader.Source c.args.self.now.system.now left (string_bytes c.args.name.now) here c.in-Err-read_whole.fault fails
