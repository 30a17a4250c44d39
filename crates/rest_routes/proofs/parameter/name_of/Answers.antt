use Rattle.std.proofs.Common.{◌≡◌, ◌∙◌, List, ℕ, true, Some, IsUtf8, ap, sym, subst}
use Rattle.percent_encoding.specs.Iter.{decoded_bytes}
use Rattle.percent_encoding.specs.Percent.{percent_decode}
use Rattle.rest_routes.specs.Parameter.{is_short, name_of}
use Rattle.rest_routes.proofs.Decoded.{is_text, not_text}
use Rattle.rest_routes.proofs.parameter.name_of.Goals as goal

pub returns-in-Err-Utf8 : goal.returns-in-Err-Utf8
unfolding name_of
returns-in-Err-Utf8 c =
    let same : decoded_bytes c.percent_decode.result ≡ percent_decode c.args.part.now = c.percent_decode.ensures.bytes ∙ ap percent_decode c.as_bytes.ensures.value in
    not_text (percent_decode c.args.part.now) (λ u. let e = c.in-Err-Utf8.ensures.utf8 (subst IsUtf8 (sym same) u) in cc)

pub returns-then-is_short : goal.returns-then-is_short
unfolding name_of
returns-then-is_short c =
    let same : decoded_bytes c.percent_decode.result ≡ percent_decode c.args.part.now = c.percent_decode.ensures.bytes ∙ ap percent_decode c.as_bytes.ensures.value in
    let bytes = c.in_ok-text-in-Ok.ensures.ok ∙ c.in-Ok.ensures.value ∙ same in
    let utf8 : IsUtf8 (percent_decode c.args.part.now) = subst IsUtf8 same c.in-Ok.ensures.ok_only_if_utf8 in
    let short : is_short (percent_decode c.args.part.now) ≡ true = sym (c.is_short.ensures ∙ ap is_short (c.as_str.ensures.value ∙ bytes)) ∙ c.if-is_short.true in
    ap (λ (l : List ℕ). Some l) (c.from_string.ensures ∙ bytes) ∙ is_text (percent_decode c.args.part.now) utf8 short
