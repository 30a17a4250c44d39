-- A head ends in the end of a line, so none ends in bytes without one.
use Rattle.std.proofs.Common.{◌≡◌, ℕ, ◌+◌, ◌-◌, ◌<◌, ◌≤◌, Bool, true, false, List, [], ◌∷◌, ◌++◌, length, take, drop, refl, ap, sym, subst, ◌∙◌, arith, append_assoc, length-append, inl, inr}
use Rattle.std.specs.Prelude.{◌||◌, ◌⊎◌, flat_map}
use Rattle.std.specs.List.{list_any}
use Rattle.std.proofs.lemmas.List.{append-nil, append_cancel_left}
use Rattle.std.proofs.lemmas.List.Folds.{list_any-append}
use Rattle.std.proofs.lemmas.Bool.{cases_lt}
use Rattle.httparse.specs.Grammar.{LineEnd, RequestHead, print_blank, print_end, print_field, print_request, print_section, print_version}
use Rattle.httparse.specs.Grammar.LineEnd.{crlf, lf}
use Rattle.httparse.proofs.GrammarLemmas.{print_request-append}
use Rattle.http_head.specs.Head.{HasHead, HasNoHead}
use Rattle.http_head.proofs.HeadLemmas.{HasHead-front}
use Rattle.http_conn.specs.Next.{IsInLine, is_line_end}
use Rattle.http_conn.proofs.LawLemmas.{front_of}

-- the last byte is a line feed
abbrev EndsLine : List ℕ → Type 0
EndsLine bytes = (front : List ℕ) × (bytes ≡ front ++ 10 ∷ [])

ends_behind : (xs ys : List ℕ) → EndsLine ys → EndsLine (xs ++ ys)
ends_behind xs ys is = (xs ++ is.0, ap (λ (l : List ℕ). xs ++ l) is.1 ∙ sym (append_assoc xs is.0 (10 ∷ [])))

ends_cons : (x : ℕ) (ys : List ℕ) → EndsLine ys → EndsLine (x ∷ ys)
ends_cons x ys is = (x ∷ is.0, ap (λ (l : List ℕ). x ∷ l) is.1)

end_ends : (e : LineEnd) → EndsLine (print_end e)
end_ends crlf = (13 ∷ [], refl)
end_ends lf = ([], refl)

head_ends : (h : RequestHead) → EndsLine (print_request h)
head_ends h =
    let section : EndsLine (print_section h.fields h.last ++ []) =
    subst (λ (l : List ℕ). EndsLine l) (sym (append-nil (print_section h.fields h.last))) (ends_behind (flat_map print_field h.fields) (print_end h.last) (end_ends h.last)) in
    let version = ends_behind (print_version h.minor) _ (ends_behind (print_end h.line_end) _ section) in
    let all = ends_behind (print_blank h.blank) _ (ends_behind h.method _ (ends_cons 32 _ (ends_behind h.target _ (ends_cons 32 _ version)))) in
    subst (λ (l : List ℕ). EndsLine l) (sym (print_request-append h []) ∙ append-nil (print_request h)) all

not_neither : (b : Bool) → (b || true) ≡ false → ⊥
not_neither true is = absurd (cc is)
not_neither false is = absurd (cc is)

-- what ends a line behind the start isn't there
no_line_end : (start more p after : List ℕ) → EndsLine p → start ++ more ≡ p ++ after → length start < length p → list_any is_line_end more ≡ false → ⊥
no_line_end start more p after ends is longer none =
    let pre : List ℕ = ends.0 in
    let parts : start ++ more ≡ pre ++ 10 ∷ after = is ∙ ap (λ (l : List ℕ). l ++ after) ends.1 ∙ append_assoc pre (10 ∷ []) after in
    let fits : length start ≤ length pre = omega (arith, longer, ap (length {A = ℕ}) ends.1, length-append pre (10 ∷ [])) in
    let t : List ℕ = take (length pre - length start) more in
    let front : pre ≡ start ++ t = front_of pre (10 ∷ after) start more (sym parts) fits in
    let whole : start ++ more ≡ start ++ (t ++ 10 ∷ after) = parts ∙ ap (λ (l : List ℕ). l ++ 10 ∷ after) front ∙ append_assoc start t (10 ∷ after) in
    let rest : more ≡ t ++ 10 ∷ after = append_cancel_left start more (t ++ 10 ∷ after) whole in
    not_neither (list_any is_line_end t) (sym (list_any-append is_line_end t (10 ∷ after)) ∙ ap (list_any is_line_end) (sym rest) ∙ none)

pub no_head_in_line : (start held : List ℕ) (h : RequestHead) (after : List ℕ) → HasNoHead start → IsInLine start held → HasHead held h after → ⊥
no_head_in_line start held h after none line at =
    let there : HasHead (start ++ line.0) h after = subst (λ (l : List ℕ). HasHead l h after) line.1 at in
    elim (cases_lt (length start) (length (print_request h))) [
      | inl longer ↦ no_line_end start line.0 (print_request h) after (head_ends h) there.reads.1 longer line.2
      | inr fits ↦ none h (drop (length (print_request h)) start) (HasHead-front start line.0 h after there fits)
    ]
