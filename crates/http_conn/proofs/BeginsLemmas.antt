-- From the requests of bytes and what follows them to the requests of the bytes alone.
use Rattle.std.proofs.Common.{◌≡◌, ℕ, ◌+◌, List, [], ◌∷◌, ◌++◌, refl, ap, sym, subst, ◌∙◌, append_assoc}
use Rattle.httparse.specs.Grammar.{print_request}
use Rattle.body_read.proofs.BodyLaws.{body_cut}
use Rattle.http_conn.specs.declared.request.Request.{Request}
use Rattle.http_conn.specs.Stream.{Begins, IsRequest}

-- the same request stands in the bytes without those that are left
pub request_cut : (all : List ℕ) (r : Request) (h l : List ℕ) → IsRequest all r (h ++ l) → (got : List ℕ) × (all ≡ got ++ l) × IsRequest got r h
request_cut all r h l is =
    let whole = is.whole in
    let head : List ℕ = print_request whole.head in
    let body = body_cut whole.framing whole.after r.body h l whole.body in
    let got : List ℕ = head ++ body.0 in
    let parts : all ≡ got ++ l = whole.at.reads.1 ∙ (ap (λ m. head ++ m) body.1 ∙ sym (append_assoc head body.0 l)) in
    let same : IsRequest got r h = record {
      whole = record {
        head = whole.head;
        after = body.0;
        framing = whole.framing;
        at = record { reads = (whole.at.reads.0, refl); short = whole.at.short };
        told = whole.told;
        body = body.2;
      };
      asks = is.asks;
    } in
    (got, parts, same)

-- the same requests stand in the bytes without those that are left
pub begins_cut : (n : ℕ) (all : List ℕ) (rs : List Request) (h l : List ℕ) → Begins n all rs (h ++ l) → (got : List ℕ) × (all ≡ got ++ l) × Begins n got rs h
begins_cut n all [] h l begins = (h, begins, refl)
begins_cut n all (r ∷ rs) h l begins =
    let rest = begins_cut (n + 1) begins.1.0 rs h l begins.1.2 in
    let cut = request_cut all r rest.0 l (subst (λ (m : List ℕ). IsRequest all r m) rest.1 begins.1.1) in
    (cut.0, cut.1, (begins.0, (rest.0, cut.2, rest.2)))
