use Rattle.std.proofs.Common.{◌≡◌, ◌≤◌, ℕ, List, length, map, take}
use Rattle.std.specs.String.{string_bytes}
use Rattle.match_limits.specs.declared.TheConstants.{MOST_BYTES}
use Rattle.command_orders.specs.PartFiles.{AreTextsOf, joined}
use Rattle.command_orders.proofs.part_files.PartFilesInputs.read_all.Given as goal

abbrev pub invariant-loop-name : goal.invariant-loop-name
invariant-loop-name g l =
    (texts : List (List ℕ)) × AreTextsOf g.S.FileSystem g.S.Reader.Source l.fn.self.system.now (map string_bytes (take l.name-index l.names)) texts
    × (l.text.items ≡ joined texts) × (length l.text.items ≤ MOST_BYTES)
    × (l.self.system ≡ l.fn.self.system) × (l.self.names ≡ l.fn.self.names)
