-- What the bytes of a file go to.
use Rattle.std.specs.Prelude.{ℕ, List, Option}
use Rattle.system_files.specs.declared.targets.Target.{Target}
use Rattle.system_files.specs.declared.targets.Target.TheVariants as targets

-- the bytes that went to the file or the stream, where that tells them
abbrev pub contents_in : {F O E : Type 0} → (F → Option (List ℕ)) → (O → Option (List ℕ)) → (E → Option (List ℕ)) → Target F O E
    → Option (List ℕ)
contents_in file output errors (targets.File f) = file f
contents_in file output errors (targets.Output o) = output o
contents_in file output errors (targets.Errors e) = errors e
