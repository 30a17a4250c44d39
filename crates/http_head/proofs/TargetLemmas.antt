-- Bytes end inside a request target where the line behind the empty lines does.
use Rattle.std.proofs.Common.{◌≡◌, ℕ, ◌+◌, ◌<◌, Bool, true, false, List, [], ◌∷◌, ◌++◌, inl, inr, length, take, drop, get_or, refl, ap, sym, subst, ◌∙◌, arith, append_assoc, length-append}
use Rattle.std.specs.Prelude.{◌==◌, ◌&&◌, ◌⊎◌, nat_lt}
use Rattle.std.specs.List.{list_all}
use Rattle.std.proofs.lemmas.Bool.Decides.{nat_tests}
use Rattle.std.proofs.Math.Seq.{take-append_seam, drop-append-add, get_or-append_seam}
use Rattle.std.proofs.Math.ListN.{get_or-append}
use Rattle.std.proofs.lemmas.List.Sums.{position_or_len_is, split_at_first, passes_at_first, AllPass-from_list_all, list_all-from_AllPass}
use Rattle.httparse.specs.Grammar.{EndsInTarget, LineEnd, crlf, lf, print_blank, IsToken, is_token, is_token_byte, is_uri_byte, AllPass}
use Rattle.httparse.specs.Pieces.{Stops, is_newline}
use Rattle.httparse.proofs.PieceLemmas.{Stops_token, space_ends_token}
use Rattle.http_head.specs.Blank.{behind_blank, space_place, is_cut_line}

pub blank_lf : (rest : List ℕ) → behind_blank (10 ∷ rest) ≡ behind_blank rest
blank_lf [] = refl
blank_lf (b ∷ rest) = refl

-- a byte is a number or it isn't
pub is_or_not : (a n : ℕ) → ((a == n) ≡ true) ⊎ ((a == n) ≡ false)
is_or_not a n = bool_cases (a == n)
  where
    bool_cases : (b : Bool) → (b ≡ true) ⊎ (b ≡ false)
    bool_cases true = inl refl
    bool_cases false = inr refl

same_number : (a n : ℕ) → (a == n) ≡ true → a ≡ n
same_number a n is = grind (arith, nat_tests)

blank_lf_front : (a : ℕ) (rest : List ℕ) → a ≡ 10 → (blank : List LineEnd) × (rest ≡ print_blank blank ++ behind_blank rest)
    → (blank : List LineEnd) × (a ∷ rest ≡ print_blank blank ++ behind_blank (a ∷ rest))
blank_lf_front a rest is front =
    let e : a ∷ rest ≡ print_blank (lf ∷ front.0) ++ behind_blank (a ∷ rest) =
    subst (λ (v : ℕ). v ∷ rest ≡ print_blank (lf ∷ front.0) ++ behind_blank (v ∷ rest)) (sym is)
    (ap (λ (l : List ℕ). 10 ∷ l) (front.1 ∙ ap (λ (l : List ℕ). print_blank front.0 ++ l) (sym (blank_lf rest)))) in
    (lf ∷ front.0, e)

blank_crlf_front : (a b : ℕ) (rest : List ℕ) → a ≡ 13 → b ≡ 10 → (blank : List LineEnd) × (rest ≡ print_blank blank ++ behind_blank rest)
    → (blank : List LineEnd) × (a ∷ b ∷ rest ≡ print_blank blank ++ behind_blank (a ∷ b ∷ rest))
blank_crlf_front a b rest cr lf_is front =
    let P : ℕ → ℕ → Type 0 = λ v w. v ∷ w ∷ rest ≡ print_blank (crlf ∷ front.0) ++ behind_blank (v ∷ w ∷ rest) in
    let start : P 13 10 = ap (λ (l : List ℕ). 13 ∷ 10 ∷ l) front.1 in
    let second : P 13 b = subst (λ (w : ℕ). P 13 w) (sym lf_is) start in
    (crlf ∷ front.0, subst (λ (v : ℕ). P v b) (sym cr) second)

-- no line end begins these
no_blank_one : (a : ℕ) → (a == 10) ≡ false → behind_blank (a ∷ []) ≡ a ∷ []
no_blank_one a other = rw other refl

no_blank : (a b : ℕ) (rest : List ℕ) → (a == 10) ≡ false → ((a == 13) && (b == 10)) ≡ false → behind_blank (a ∷ b ∷ rest) ≡ a ∷ b ∷ rest
no_blank a b rest lf_no cr_no = rw (lf_no, cr_no) refl

-- the bytes are some line ends and those behind them
pub blank_front : (buf : List ℕ) → (blank : List LineEnd) × (buf ≡ print_blank blank ++ behind_blank buf)
blank_front [] = ([], refl)
blank_front (a ∷ []) =
    elim (is_or_not a 10) [
      | inl same ↦ blank_lf_front a [] (same_number a 10 same) ([], refl)
      | inr other ↦ ([], sym (no_blank_one a other))
    ]
blank_front (a ∷ b ∷ rest) =
    elim (is_or_not a 10) [
      | inl same ↦ blank_lf_front a (b ∷ rest) (same_number a 10 same) (blank_front (b ∷ rest))
      | inr other ↦
          elim (is_or_not a 13) [
            | inl cr ↦
                elim (is_or_not b 10) [
                  | inl same ↦ blank_crlf_front a b rest (same_number a 13 cr) (same_number b 10 same) (blank_front rest)
                  | inr not_lf ↦ ([], sym (no_blank a b rest other (rw (cr, not_lf) refl)))
                ]
            | inr not_cr ↦ ([], sym (no_blank a b rest other (rw not_cr refl)))
          ]
    ]

-- a line that begins with no line end is what is behind those before it
pub behind_stop : (line : List ℕ) → Stops is_newline line → behind_blank line ≡ line
behind_stop [] stops = refl
behind_stop (a ∷ []) stops = no_blank_one a (grind (arith, nat_tests))
behind_stop (a ∷ b ∷ rest) stops =
    let not_cr : (a == 13) ≡ false = grind (arith, nat_tests) in
    no_blank a b rest (grind (arith, nat_tests)) (rw not_cr refl)

pub behind_ends : (blank : List LineEnd) (line : List ℕ) → Stops is_newline line → behind_blank (print_blank blank ++ line) ≡ line
behind_ends [] line stops = behind_stop line stops
behind_ends (crlf ∷ ends) line stops = behind_ends ends line stops
behind_ends (lf ∷ ends) line stops = blank_lf (print_blank ends ++ line) ∙ behind_ends ends line stops

-- a byte of a token is no space
no_space : (b : ℕ) → is_token_byte b ≡ true → (b == 32) ≡ false
no_space b token = elim (is_or_not b 32) [
  | inl same ↦ let e : is_token_byte 32 ≡ true = subst (λ (v : ℕ). is_token_byte v ≡ true) (same_number b 32 same) token in let f = space_ends_token in absurd (cc f)
  | inr other ↦ other
]

-- the first space of a line is behind its method
pub space_behind : (method target : List ℕ) → AllPass is_token_byte method → space_place (method ++ 32 ∷ target) ≡ length method
space_behind method target token =
    position_or_len_is (λ b. b == 32) (method ++ 32 ∷ target) (length method) 0 (omega (arith, length-append method (32 ∷ target)))
    (λ k below. subst (λ (v : ℕ). (v == 32) ≡ false) (sym (get_or-append method (32 ∷ target) 0 k below)) (no_space (get_or method k 0) (token k 0 below)))
    (λ within. subst (λ (v : ℕ). (v == 32) ≡ true) (sym (get_or-append_seam method 32 target 0)) refl)

pub cut_line_is : (line : List ℕ) (place : ℕ) → place ≡ space_place line → place < length line
    → is_cut_line line ≡ (is_token (take place line) && list_all is_uri_byte (drop (place + 1) line))
unfolding is_cut_line
cut_line_is line place is below =
    let here : space_place line < length line = omega arith in
    let test : nat_lt (space_place line) (length line) ≡ true = grind (arith, nat_tests) in
    ap (λ (b : Bool). b && is_token (take (space_place line) line) && list_all is_uri_byte (drop (space_place line + 1) line)) test
    ∙ ap (λ (n : ℕ). is_token (take n line) && list_all is_uri_byte (drop (n + 1) line)) (sym is)

pub no_space_no_cut : (line : List ℕ) → space_place line ≡ length line → is_cut_line line ≡ false
unfolding is_cut_line
no_space_no_cut line is =
    let test : nat_lt (space_place line) (length line) ≡ false = grind (arith, nat_tests) in
    ap (λ (b : Bool). b && is_token (take (space_place line) line) && list_all is_uri_byte (drop (space_place line + 1) line)) test

-- both of two tests
pub and_parts : (a b : Bool) → (a && b) ≡ true → (a ≡ true) × (b ≡ true)
and_parts true b both = (refl, both)
and_parts false b both = absurd (cc)

-- what a line that is cut in its target has
pub cut_parts : (line : List ℕ) → is_cut_line line ≡ true
    → (space_place line < length line) × IsToken (take (space_place line) line) × AllPass is_uri_byte (drop (space_place line + 1) line)
unfolding is_cut_line
cut_parts line cut =
    let place : ℕ = space_place line in
    let outer = and_parts (nat_lt place (length line) && is_token (take place line)) (list_all is_uri_byte (drop (place + 1) line)) cut in
    let inner = and_parts (nat_lt place (length line)) (is_token (take place line)) outer.0 in
    let token = and_parts (nat_lt 0 (length (take place line))) (list_all is_token_byte (take place line)) inner.1 in
    let test : nat_lt place (length line) ≡ true = inner.0 in
    let some : nat_lt 0 (length (take place line)) ≡ true = token.0 in
    (grind (arith, nat_tests), (grind (arith, nat_tests), AllPass-from_list_all is_token_byte (take place line) token.1), AllPass-from_list_all is_uri_byte (drop (place + 1) line) outer.1)

pub cut_ends : (buf : List ℕ) → is_cut_line (behind_blank buf) ≡ true → EndsInTarget buf
cut_ends buf cut =
    let line : List ℕ = behind_blank buf in
    let place : ℕ = space_place line in
    let front = blank_front buf in
    let parts = cut_parts line cut in
    let byte : get_or line place 0 ≡ 32 = same_number (get_or line place 0) 32 (passes_at_first (λ b. b == 32) line 0 parts.0) in
    let split : line ≡ take place line ++ (get_or line place 0 ∷ drop (place + 1) line) = split_at_first (λ b. b == 32) line 0 parts.0 in
    let there : line ≡ take place line ++ 32 ∷ drop (place + 1) line = subst (λ (b : ℕ). line ≡ take place line ++ (b ∷ drop (place + 1) line)) byte split in (
      front.0,
      take place line,
      drop (place + 1) line,
      parts.1,
      parts.2,
      front.1 ∙ ap (λ (l : List ℕ). print_blank front.0 ++ l) there ∙ sym (append_assoc (print_blank front.0) (take place line) (32 ∷ drop (place + 1) line)),
    )

-- a method, a space and a target are a line that is cut in its target
pub method_cut : (method target : List ℕ) → IsToken method → AllPass is_uri_byte target → is_cut_line (method ++ 32 ∷ target) ≡ true
method_cut method target token uri =
    let line : List ℕ = method ++ 32 ∷ target in
    let place : space_place line ≡ length method = space_behind method target token.1 in
    let below : length method < length line = omega (arith, length-append method (32 ∷ target)) in
    let front : take (length method) line ≡ method = take-append_seam method (32 ∷ target) in
    let behind : drop (length method + 1) line ≡ target = drop-append-add method (32 ∷ target) 1 in
    let test : nat_lt 0 (length method) ≡ true = let h : 0 < length method = token.0 in grind (arith, nat_tests) in
    cut_line_is line (length method) (sym place) below
    ∙ ap (λ (l : List ℕ). is_token l && list_all is_uri_byte (drop (length method + 1) line)) front
    ∙ ap (λ (l : List ℕ). is_token method && list_all is_uri_byte l) behind
    ∙ ap (λ (b : Bool). b && list_all is_token_byte method && list_all is_uri_byte target) test
    ∙ ap (λ (b : Bool). b && list_all is_uri_byte target) (list_all-from_AllPass is_token_byte method token.1)
    ∙ list_all-from_AllPass is_uri_byte target uri

pub ends_cut : (buf : List ℕ) → EndsInTarget buf → is_cut_line (behind_blank buf) ≡ true
ends_cut buf ends =
    let blank = ends.0 in
    let method = ends.1 in
    let target = ends.2 in
    let line : List ℕ = method ++ 32 ∷ target in
    let whole : buf ≡ print_blank blank ++ line = ends.5 ∙ append_assoc (print_blank blank) method (32 ∷ target) in
    let behind : behind_blank buf ≡ line = ap behind_blank whole ∙ behind_ends blank line (Stops_token method (32 ∷ target) ends.3.0 ends.3.1) in
    ap is_cut_line behind ∙ method_cut method target ends.3 ends.4
