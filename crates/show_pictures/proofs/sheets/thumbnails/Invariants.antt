use Rattle.show_pictures.specs.Joined.{IsJoined}
use Rattle.show_pictures.specs.Pictures.{IsPictureAt}
use Rattle.show_pictures.proofs.sheets.thumbnails.Given as goal

abbrev pub invariant-loop-index : goal.invariant-loop-index
invariant-loop-index l = IsJoined (IsPictureAt l.puzzle l.arrangements) l.index l.text.items
