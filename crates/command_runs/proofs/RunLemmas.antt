-- What the parts of a run read.
use Rattle.std.proofs.Common.{◌≡◌, ℕ, List, Result, Ok, Err, refl, ap, sym, subst}
use Rattle.cert_tree.specs.declared.faults.AssembleFault.{AssembleFault}
use Rattle.text_words.specs.declared.faults.TextFault.{TextFault}
use Rattle.text_words.specs.declared.faults.ReadFault.{ReadFault}
use Rattle.text_words.specs.declared.faults.ReadFault.TheVariants as lists
use Rattle.text_crew.specs.Texts.{IsListRead}
use Rattle.cert_tree.specs.Certificate.{Contents}
use Rattle.cert_text.specs.CertificateText.{Said, Makes, CertificateGives, certificate_of}
use Rattle.cert_text.specs.declared.faults.CertTextFault.{CertTextFault}
use Rattle.cert_text.specs.declared.faults.CertTextFault.TheVariants as certificates
use Rattle.cert_text.specs.declared.faults.CertTextFault.TheVariants.{Text, Assemble}
use Rattle.cert_check.specs.Setting.{Question, question_of}
use Rattle.match_puzzle.specs.Puzzle.{Task}
use Rattle.match_puzzle.specs.declared.placements.Placement.{Placement}
use Rattle.match_text.specs.Lists.{list_of}
use Rattle.match_text.specs.Puzzles.{PuzzleReads}
use Rattle.command_runs.specs.FaultText.{run_of_certificate, run_of_list}
use Rattle.byte_streams.specs.Documents.{Texts}
use Rattle.command_runs.specs.Checking.{CheckFails, Spells}
use Rattle.command_runs.specs.Pages.{IsPagePrinted, PageGives}
use Rattle.command_runs.specs.Printing.{IsPrinted, PrintingFails, PrintingGives, QuestionFails}
use Rattle.command_runs.specs.Runs.{IsOfTexts, MadeOf}
use Rattle.match_report.specs.declared.statuses.Status.{Status}
use Rattle.command_runs.specs.declared.faults.RunFault.{RunFault}
use Rattle.command_runs.specs.declared.faults.RunFault.TheVariants as runs
use Rattle.command_runs.specs.declared.page_runs.PagePlan.{PagePlan}
use Rattle.command_runs.specs.declared.printing_runs.Printing.{Printing}
use Rattle.command_runs.specs.declared.printing_runs.Printing.TheVariants as printings

-- where a certificate is given, the text says what it is made of
pub certificate_said : (c : Contents) (outcome : Result Said TextFault) → CertificateGives (Ok c) outcome → (said : Said) × (outcome ≡ Ok said) × Makes said (Ok c)
certificate_said c (Ok said) makes = (said, refl, makes)
certificate_said c (Err fault) gives = absurd gives

-- where a fault of the text is given, the text has it
pub text_fails : (fault : TextFault) (outcome : Result Said TextFault) → CertificateGives (Err (Text fault)) outcome → outcome ≡ Err fault
text_fails fault (Ok said) gives = absurd gives
text_fails fault (Err other) same = ap Err (sym same)

-- where a fault of the lemmas is given, the text says lemmas that have it
pub lemmas_fail : (fault : AssembleFault) (outcome : Result Said TextFault) → CertificateGives (Err (Assemble fault)) outcome → (said : Said) × (outcome ≡ Ok said) × Makes said (Err (Assemble fault))
lemmas_fail fault (Ok said) makes = (said, refl, makes)
lemmas_fail fault (Err other) gives = absurd gives

-- a list that has a fault, behind a puzzle
pub list_fails : (ts : Texts) (e : ReadFault) (fault : RunFault) (p : Task) → PuzzleReads ts.puzzle (Ok p) → IsListRead ts.list (Err e) → fault ≡ run_of_list e → CheckFails ts fault
list_fails ts (lists.Text f) fault p reads read is = subst (CheckFails ts) (sym is) (p, reads, read.0)
list_fails ts lists.Memory fault p reads read is = subst (CheckFails ts) (sym is) tt

-- a certificate that has a fault, behind a puzzle and a list
pub certificate_fails : (ts : Texts) (e : CertTextFault) (fault : RunFault) (p : Task) (listed : List (List Placement)) → PuzzleReads ts.puzzle (Ok p) → list_of ts.list ≡ Ok listed
    → CertificateGives (Err e) (certificate_of ts.certificate) → fault ≡ run_of_certificate e → CheckFails ts fault
certificate_fails ts (Text f) fault p listed reads lists gives is = subst (CheckFails ts) (sym is) (p, listed, reads, lists, text_fails f (certificate_of ts.certificate) gives)
certificate_fails ts (Assemble f) fault p listed reads lists gives is = let w = lemmas_fail f (certificate_of ts.certificate) gives in subst (CheckFails ts) (sym is) (p, listed, reads, lists, (w.0, w.1, w.2.0, w.2.1))
certificate_fails ts certificates.Memory fault p listed reads lists gives is = subst (CheckFails ts) (sym is) tt

-- the question that was read
pub question_spelled : (ts : Texts) (p : Task) (listed : List (List Placement)) (c : Contents) → PuzzleReads ts.puzzle (Ok p) → list_of ts.list ≡ Ok listed
    → CertificateGives (Ok c) (certificate_of ts.certificate) → Spells ts (question_of p listed c)
question_spelled ts p listed c reads lists gives =
    let made = certificate_said c (certificate_of ts.certificate) gives in
    record {
      puzzle_read = reads;
      list_read = lists;
      said = made.0;
      certificate_read = made.1;
      symmetries = made.2.0;
      assembled = made.2.1;
    }

-- ---- faults

-- a fault that a check has of documents is none of reading, and none of writing
pub check_kind : (texts : Texts) (fault : RunFault) → CheckFails texts fault → IsOfTexts fault
check_kind texts (runs.Read of) fails = fails
check_kind texts (runs.TooLong of) fails = fails
check_kind texts runs.Write fails = fails
check_kind texts runs.Replaced fails = fails
check_kind texts _ fails = tt

-- and no more is one that comes of what is printed
pub printing_kind : (printing : Printing) (texts : Texts) (fault : RunFault) → PrintingFails printing texts fault → IsOfTexts fault
printing_kind printing texts (runs.Read of) fails = fails
printing_kind printing texts (runs.TooLong of) fails = fails
printing_kind printing texts runs.Write fails = fails
printing_kind printing texts runs.Replaced fails = fails
printing_kind printing texts _ fails = tt

-- what a check has of documents, more that is printed has of them
pub printing_fails : (printing : Printing) (texts : Texts) (fault : RunFault) → CheckFails texts fault → PrintingFails printing texts fault
printing_fails printing texts runs.Expand fails = absurd fails
printing_fails printing texts (runs.NoArrangement number) fails = absurd fails
printing_fails printing texts _ fails = fails

-- a fault of the question that texts spell is one of theirs
pub question_fails : (printing : Printing) (texts : Texts) (question : Question) → Spells texts question → (fault : RunFault) → QuestionFails printing question fault → PrintingFails printing texts fault
question_fails printing texts question spelled runs.Expand fails = (question, spelled, fails.0, fails.1)
question_fails printing texts question spelled (runs.NoArrangement number) fails = (question, spelled, fails.0, fails.1)
question_fails printing texts question spelled runs.Memory fails = tt
question_fails printing texts question spelled _ fails = absurd fails

-- what is printed of the question that texts spell is printed of them
pub printed_of : (printing : Printing) (texts : Texts) (question : Question) → Spells texts question → (result : Result (List ℕ × Status) RunFault)
    → MadeOf (IsPrinted printing) (QuestionFails printing) question result → MadeOf (PrintingGives printing) (PrintingFails printing) texts result
printed_of printing texts question spelled (Ok made) printed = record {
  question = question;
  answer = printed.answer;
  spelled = spelled;
  answered = printed.answered;
  sound = printed.sound;
  is = printed.is;
  ends = printed.ends;
}
printed_of printing texts question spelled (Err fault) failed = (question_fails printing texts question spelled fault failed.0, failed.1)

-- a page of the question that texts spell is one of theirs
pub page_printed_of : (plan : PagePlan) (texts : Texts) (question : Question) → Spells texts question → (result : Result (List ℕ × Status) RunFault)
    → MadeOf (IsPagePrinted texts plan) (QuestionFails printings.Count) question result → MadeOf (PageGives plan) (PrintingFails printings.Count) texts result
page_printed_of plan texts question spelled (Ok made) printed = record {
  question = question;
  answer = printed.answer;
  spelled = spelled;
  answered = printed.answered;
  sound = printed.sound;
  is = printed.is;
  ends = printed.ends;
}
page_printed_of plan texts question spelled (Err fault) failed = (question_fails printings.Count texts question spelled fault failed.0, failed.1)
