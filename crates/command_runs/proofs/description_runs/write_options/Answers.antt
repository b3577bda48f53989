use Rattle.std.proofs.Common.{Result, Ok, Err, IfOk, ap, inr}
use Rattle.command_runs.proofs.description_runs.write_options.Goals as goal

-- what follows of what was made
made : {T E : Type 0} {P Q : T → Type 0} (result : Result T E) → ((x : T) → P x → Q x) → IfOk result P → IfOk result Q
made (Ok x) follows holds = follows x holds
made (Err e) follows holds = tt

pub returns-in-Err-TooMany : goal.returns-in-Err-TooMany
returns-in-Err-TooMany c = made c.from_slice.result (λ text is. inr (c.in-Err-TooMany.ensures.too_many (ap Err c.in-Err-TooMany.field-0-is), is)) c.from_slice.ensures.items
