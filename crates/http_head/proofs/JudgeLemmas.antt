-- A head of so few bytes has so few fields, and bytes that were refused are lost.
use Rattle.std.proofs.Common.{◌≡◌, ℕ, ◌+◌, ◌*◌, ◌≤◌, List, [], ◌∷◌, ◌++◌, length, ap, ◌∙◌, arith, length-append}
use Rattle.std.specs.Prelude.{All}
use Rattle.std.specs.List.{flat_map}
use Rattle.std.proofs.lemmas.List.{append-nil}
use Rattle.std.proofs.lemmas.List.Elements.{All-head, All-tail}
use Rattle.httparse.specs.Grammar.{LineEnd, crlf, lf, print_end, Field, IsField, print_field, print_section, RequestHead, IsRequestHead, print_request, print_blank, print_version}
use Rattle.httparse.specs.Spans.{RequestExceeds}
use Rattle.http_head.specs.Head.{max_head}
use Rattle.http_head.specs.Parts.{max_spans}

end_long : (e : LineEnd) → 1 ≤ length (print_end e)
end_long crlf = omega arith
end_long lf = omega arith

-- a field line has three bytes at least
field_long : (f : Field) → IsField f → 3 ≤ length (print_field f)
field_long f is =
    omega (arith, is.name.0, end_long f.end, length-append (f.name ++ 58 ∷ f.raw) (print_end f.end), length-append f.name (58 ∷ f.raw))

pub fields_long : (fields : List Field) → All IsField fields → 3 * length fields ≤ length (flat_map print_field fields)
fields_long [] are = omega arith
fields_long (f ∷ fields) are =
    omega (
      arith,
      field_long f (All-head IsField f fields are),
      fields_long fields (All-tail IsField f fields are),
      length-append (print_field f) (flat_map print_field fields),
    )

pub head_long : (h : RequestHead) → IsRequestHead h → 3 * length h.fields ≤ length (print_request h)
unfolding print_request
head_long h is =
    omega (
      arith,
      fields_long h.fields is.fields,
      length-append (flat_map print_field h.fields) (print_end h.last),
      length-append (print_blank h.blank ++ h.method ++ 32 ∷ h.target ++ 32 ∷ print_version h.minor ++ print_end h.line_end) (print_section h.fields h.last),
    )

-- there is room for the fields of every head that fits
pub never_too_many : (buf : List ℕ) (room : ℕ) → length buf ≤ max_head → max_spans ≤ room → RequestExceeds room buf → ⊥
never_too_many buf room short fits over =
    let front : List ℕ = over.0 in
    let head : RequestHead = over.3 in
    let long = head_long head over.4.0 in
    let parts : length buf ≡ length front + length over.1 = ap length over.2 ∙ length-append front over.1 in
    let whole : length front + 1 ≡ length (print_request head) =
    omega (arith, length-append front (10 ∷ []), ap length over.4.1, ap length (append-nil (print_request head))) in
    omega (arith, long, over.5)
