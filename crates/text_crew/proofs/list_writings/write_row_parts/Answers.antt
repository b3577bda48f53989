use Rattle.std.proofs.Common.{◌-◌, arith}
use Rattle.text_crew.proofs.RowPartLemmas.{parts_of}
use Rattle.text_crew.proofs.list_writings.write_row_parts.Goals as goal

pub returns : goal.returns
returns g c =
    let starts = c.in_ok-starts.starts in
    let are = c.in_ok-starts.ensures in
    let some = are.some in
    parts_of c.args.list.now starts.items (c.len.result - 1) c.run_from_last.result are (omega (arith, some, c.len.ensures, starts.ok.0)) c.run_from_last.ensures.many c.run_from_last.ensures.each
