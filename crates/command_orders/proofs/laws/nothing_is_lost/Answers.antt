use Rattle.std.proofs.Common.{◌∷◌, [], ℕ, List, inl, inr, refl, subst, sym}
use Rattle.std.specs.String.{string_bytes}
use Rattle.byte_streams.specs.Deeds.{AllLeave, Deed, did_make, did_put}
use Rattle.byte_streams.specs.MadeFiles.{IsUndone}
use Rattle.byte_streams.specs.declared.outputs.Products.{Products}
use Rattle.command_words.specs.declared.places.Files.{Files}
use Rattle.command_orders.specs.Files.{HaveDifferentNames}
use Rattle.command_orders.specs.SolvedFiles.{FilesStand, certificate_name, list_name}
use Rattle.command_orders.proofs.laws.nothing_is_lost.Goals as goal

stand : (files : Files) → HaveDifferentNames files → (made : Products) → FilesStand files made
stand files names made =
    let l = string_bytes files.list in
    let k = string_bytes files.certificate in
    record {
      list = record {
        before = did_make l ∷ did_make k ∷ [];
        after = did_put k made.certificate ∷ [];
        whole = refl;
        left = (names.both, tt);
      };
      certificate = record {
        before = did_make l ∷ did_make k ∷ did_put l made.list ∷ [];
        after = [];
        whole = refl;
        left = tt;
      };
      puzzle = (tt, (tt, (names.list, (names.certificate, tt))));
    }

left : (files : Files) (deeds : List Deed) → IsUndone (list_name files) (certificate_name files) deeds → (name : List ℕ) → AllLeave name deeds
left files deeds (inl none) name = subst (AllLeave name) (sym none) tt
left files deeds (inr (inl list)) name = subst (AllLeave name) (sym list) (tt, (tt, tt))
left files deeds (inr (inr both)) name = subst (AllLeave name) (sym both) (tt, (tt, (tt, (tt, tt))))

pub returns : goal.returns
returns c = λ files. (stand files, left files)
