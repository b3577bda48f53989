use Rattle.std.proofs.Common.{◌≡◌, ap, ◌∙◌}
use Rattle.match_text.specs.Lists.{list_of}
use Rattle.match_text.specs.ListSpelling.{list_spelling}
use Rattle.match_text.specs.RowLines.{whole_text}
use Rattle.match_text.proofs.ListLemmas.{rows_only}
use Rattle.match_text.proofs.RowLineLemmas.{is_one, is_spelled, is_two, is_whole}
use Rattle.match_text.proofs.row_lines.list_front.Goals as goal

-- the whole text
spelled : (c : goal.In_ok-front) → whole_text c.in_ok-front.front.items c.args.parts.now ≡ list_spelling c.version_of.result c.args.list.now
spelled c =
    ap (λ t. whole_text t c.args.parts.now) c.in_ok-front.ensures
    ∙ is_whole c.version_of.result c.args.list.now c.args.parts.now c.requires.parts c.version_of.ensures c.requires.within

pub returns-clause-text : goal.returns-clause-text
returns-clause-text c = record {
  first = λ first. spelled c ∙ ap (λ v. list_spelling v c.args.list.now) (is_one c.version_of.result c.args.list.now c.args.parts.now c.requires.parts c.version_of.ensures c.requires.within first);
  second = λ not. spelled c ∙ ap (λ v. list_spelling v c.args.list.now) (is_two c.version_of.result c.args.list.now c.args.parts.now c.requires.parts c.version_of.ensures c.requires.within not);
}

pub returns-clause-reads : goal.returns-clause-reads
returns-clause-reads c =
    ap list_of (spelled c) ∙ rows_only c.version_of.result c.args.list.now (is_spelled c.version_of.result c.args.list.now c.args.parts.now c.requires.parts c.version_of.ensures c.requires.within)
