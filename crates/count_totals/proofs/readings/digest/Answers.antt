use Rattle.std.proofs.Common.{◌≡◌, ◌∙◌, Ok, ap, sym, true}
use Rattle.std.specs.Str.{bytes_eq}
use Rattle.std.proofs.lemmas.Slice.Eq.{bytes_eq-Decides}
use Rattle.hex.specs.Hex.{decode_sized, encode_lower}
use Rattle.hex.proofs.HexLemmas.{decode_sized-encode_lower}
use Rattle.count_totals.proofs.readings.digest.Goals as goal

pub returns-in_default : goal.returns-in_default
returns-in_default c = λ digest fits is.
    let made : c.from_hex.result ≡ Ok digest = c.from_hex.ensures ∙ ap (λ text. decode_sized text 32) is ∙ decode_sized-encode_lower digest 32 fits.0 fits.1 in
    cc

pub returns-else-eq : goal.returns-else-eq
returns-else-eq c = λ digest fits is.
    let made : c.from_hex.result ≡ Ok digest = c.from_hex.ensures ∙ ap (λ text. decode_sized text 32) is ∙ decode_sized-encode_lower digest 32 fits.0 fits.1 in
    let same : c.in-Ok.digest ≡ digest = cc in
    let written = c.in-Ok-encode_to_slice.ensures.written in
    let digits : c.as_slice-2.result.now ≡ encode_lower digest = c.as_slice-2.ensures ∙ written ∙ ap encode_lower (c.as_slice.ensures ∙ same) in
    let equal : bytes_eq c.args.text.now c.as_slice-2.result.now ≡ true = (bytes_eq-Decides c.args.text.now c.as_slice-2.result.now).1 (is ∙ sym digits) in
    let differs = c.eq.ensures in
    cc
