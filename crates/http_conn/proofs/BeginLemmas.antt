-- The requests that bytes begin with, one more of them, and those that stand in the front of the bytes.
use Rattle.std.proofs.Common.{◌≡◌, ℕ, ◌+◌, ◌<◌, false, List, [], ◌∷◌, ◌++◌, length, refl, sym, subst, arith}
use Rattle.std.proofs.lemmas.List.{append_cancel_right}
use Rattle.http_conn.proofs.BeginsLemmas.{request_cut}
use Rattle.http_conn.specs.Stream.{Begins, IsRequest, is_closed, max_requests}
use Rattle.http_conn.specs.declared.request.Request.{Request}

-- one more request behind those that were read, of which the last doesn't close
pub begins_push : (n : ℕ) (bytes : List ℕ) (rs : List Request) (mid : List ℕ) (r : Request) (rest : List ℕ)
    → Begins n bytes rs mid → n + length rs < max_requests → is_closed rs ≡ false → IsRequest mid r rest → Begins n bytes (rs ++ r ∷ []) rest
begins_push n bytes [] mid r rest begins few still is =
    ((omega arith, tt), (rest, subst (λ (l : List ℕ). IsRequest l r rest) (sym begins) is, refl))
begins_push n bytes (q ∷ []) mid r rest begins few still is =
    ((begins.0.0, still), (begins.1.0, begins.1.1, begins_push (n + 1) begins.1.0 [] mid r rest begins.1.2 (omega arith) refl is))
begins_push n bytes (q ∷ p ∷ qs) mid r rest begins few still is =
    ((begins.0.0, begins.0.1), (begins.1.0, begins.1.1, begins_push (n + 1) begins.1.0 (p ∷ qs) mid r rest begins.1.2 (omega (arith, length_is q (p ∷ qs))) still is))
  where
    length_is : (q : Request) (qs : List Request) → length (q ∷ qs) ≡ length qs + 1
    length_is q qs = omega arith

-- a request that ends before the tail stands in what is before the tail
request_front : (got held tail : List ℕ) (r : Request) → IsRequest (got ++ tail) r (held ++ tail) → IsRequest got r held
request_front got held tail r is =
    let cut = request_cut (got ++ tail) r held tail is in
    subst (λ (l : List ℕ). IsRequest l r held) (sym (append_cancel_right got cut.0 tail cut.1)) cut.2

-- what is behind the requests is behind their bytes
begins_tail : (n : ℕ) (bytes : List ℕ) (rs : List Request) (held tail : List ℕ) → Begins n bytes rs (held ++ tail) → (front : List ℕ) × (bytes ≡ front ++ tail)
begins_tail n bytes [] held tail begins = (held, begins)
begins_tail n bytes (r ∷ rs) held tail begins =
    let behind = begins_tail (n + 1) begins.1.0 rs held tail begins.1.2 in
    let cut = request_cut bytes r behind.0 tail (subst (λ (l : List ℕ). IsRequest bytes r l) behind.1 begins.1.1) in
    (cut.0, cut.1)

-- requests that end before the tail stand in what is before the tail
pub begins_front : (n : ℕ) (got : List ℕ) (rs : List Request) (held tail : List ℕ) → Begins n (got ++ tail) rs (held ++ tail) → Begins n got rs held
begins_front n got [] held tail begins = append_cancel_right got held tail begins
begins_front n got (r ∷ rs) held tail begins =
    let behind = begins_tail (n + 1) begins.1.0 rs held tail begins.1.2 in
    let is : IsRequest (got ++ tail) r (behind.0 ++ tail) = subst (λ (l : List ℕ). IsRequest (got ++ tail) r l) behind.1 begins.1.1 in
    let others : Begins (n + 1) (behind.0 ++ tail) rs (held ++ tail) = subst (λ (l : List ℕ). Begins (n + 1) l rs (held ++ tail)) behind.1 begins.1.2 in
    (begins.0, (behind.0, request_front got behind.0 tail r is, begins_front (n + 1) behind.0 rs held tail others))
