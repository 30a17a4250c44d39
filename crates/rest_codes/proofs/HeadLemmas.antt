-- The pieces of a head, put one behind the other.
use Rattle.std.proofs.Common.{◌≡◌, ℕ, List, ◌++◌, ◌∙◌, append_assoc, codes, decimal, subst, ap, refl}
use Rattle.rest_codes.specs.Response.{reason_of, head_of}

regroup : (o a b c d e f g h i : List ℕ)
    → ((((((((o ++ a) ++ b) ++ c) ++ d) ++ e) ++ f) ++ g) ++ h) ++ i ≡ o ++ (a ++ (b ++ (c ++ (d ++ (e ++ (f ++ (g ++ (h ++ i))))))))
regroup o a b c d e f g h i = simp append_assoc

-- what the pieces behind `out` make
pub head_put : (out new : List ℕ) (status : ℕ) (reason media : List ℕ) (size : ℕ) → reason ≡ reason_of status
    → new ≡ ((((((((out ++ codes "HTTP/1.1 ") ++ decimal status) ++ codes " ") ++ reason) ++ codes "\r\nContent-Type: ") ++ media)
    ++ codes "\r\nContent-Length: ") ++ decimal size) ++ codes "\r\n"
    → new ≡ out ++ head_of status media size
unfolding head_of
head_put out new status reason media size is made =
    let whole = made ∙ regroup out (codes "HTTP/1.1 ") (decimal status) (codes " ") reason (codes "\r\nContent-Type: ") media
    (codes "\r\nContent-Length: ") (decimal size) (codes "\r\n") in
    subst (λ (r : List ℕ). new ≡ out ++ (codes "HTTP/1.1 " ++ (decimal status ++ (codes " " ++ (r ++ (codes "\r\nContent-Type: " ++ (media
    ++ (codes "\r\nContent-Length: " ++ (decimal size ++ codes "\r\n"))))))))) is whole

-- a piece behind what was put before
put : (old whole new piece text : List ℕ) → old ≡ whole → new ≡ old ++ piece → piece ≡ text → new ≡ whole ++ text
put old whole new piece text before made is = made ∙ ap (λ (l : List ℕ). l ++ piece) before ∙ ap (λ (l : List ℕ). whole ++ l) is

-- the nine pieces in turn
pub head_pieces : (o0 o1 o2 o3 o4 o5 o6 o7 o8 o9 first second : List ℕ) (status : ℕ) (reason word media text : List ℕ) (size : ℕ) → reason ≡ reason_of status
    → o1 ≡ o0 ++ codes "HTTP/1.1 " → o2 ≡ o1 ++ first → first ≡ decimal status → o3 ≡ o2 ++ codes " " → o4 ≡ o3 ++ word → word ≡ reason
    → o5 ≡ o4 ++ codes "\r\nContent-Type: " → o6 ≡ o5 ++ text → text ≡ media → o7 ≡ o6 ++ codes "\r\nContent-Length: " → o8 ≡ o7 ++ second → second ≡ decimal size
    → o9 ≡ o8 ++ codes "\r\n"
    → o9 ≡ o0 ++ head_of status media size
head_pieces o0 o1 o2 o3 o4 o5 o6 o7 o8 o9 first second status reason word media text size is e1 e2 d2 e3 e4 d4 e5 e6 d6 e7 e8 d8 e9 =
    head_put o0 o9 status reason media size is
    (put o8 _ o9 _ _ (put o7 _ o8 _ _ (put o6 _ o7 _ _ (put o5 _ o6 _ _ (put o4 _ o5 _ _ (put o3 _ o4 _ _ (put o2 _ o3 _ _ (put o1 _ o2 _ _ e1 e2 d2) e3 refl) e4 d4) e5 refl) e6 d6) e7 refl) e8 d8) e9 refl)
