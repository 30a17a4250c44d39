-- From the tokens that a writer is given to the compact text that it prints, at the beginning and behind a value.
use Rattle.std.proofs.Common.{◌≡◌, ℕ, List, [], ◌∷◌, ◌++◌, true, false, refl, sym, ap, ◌∙◌, append_assoc}
use Rattle.std.specs.List.{flat_map}
use Rattle.std.proofs.lemmas.List.{append-nil}
use Rattle.std.proofs.lemmas.Grind.{flat_map-append}
use Rattle.json.specs.Token as token
use Rattle.json.specs.Token.{Token}
use Rattle.json.specs.Print.{print_from, print, escape}
use Rattle.json_span.specs.Json as json
use Rattle.json_token.specs.Tokens as json_tokens
use Rattle.json_span.specs.Json.{Json, Items, Members, tokens, item_tokens, more_item_tokens, member_tokens, more_member_tokens}
use Rattle.json_span.specs.Text.{compact}
use Rattle.json_token.specs.Tokens.{spelled}

-- the bytes of these tokens
abbrev spell : List json_tokens.Token → List ℕ
spell ts = flat_map spelled ts

-- the tokens print as the value, whatever comes behind them
pub record Prints (ts : List Token) (j : Json) : Type 0 where
  pub first : (rest : List Token) → print_from false (ts ++ rest) ≡ compact j ++ print_from true rest
  pub later : (rest : List Token) → print_from true (ts ++ rest) ≡ 44 ∷ (compact j ++ print_from true rest)

-- the tokens print as the items up to the closing bracket
pub record PrintsItems (ts : List Token) (js : Items) : Type 0 where
  pub first : (rest : List Token) → print_from false (ts ++ (token.end_array ∷ rest)) ≡ spell (item_tokens js) ++ print_from true rest
  pub later : (rest : List Token) → print_from true (ts ++ (token.end_array ∷ rest)) ≡ spell (more_item_tokens js) ++ print_from true rest

-- the tokens print as the members up to the closing bracket
pub record PrintsMembers (ts : List Token) (ms : Members) : Type 0 where
  pub first : (rest : List Token) → print_from false (ts ++ (token.end_object ∷ rest)) ≡ spell (member_tokens ms) ++ print_from true rest
  pub later : (rest : List Token) → print_from true (ts ++ (token.end_object ∷ rest)) ≡ spell (more_member_tokens ms) ++ print_from true rest

pub null_prints : Prints (token.null ∷ []) json.null
unfolding print_from
null_prints = record { first = λ rest. refl; later = λ rest. refl }

pub true_prints : Prints (token.boolean true ∷ []) (json.boolean true)
unfolding print_from
true_prints = record { first = λ rest. refl; later = λ rest. refl }

pub false_prints : Prints (token.boolean false ∷ []) (json.boolean false)
unfolding print_from
false_prints = record { first = λ rest. refl; later = λ rest. refl }

pub number_prints : (s : List ℕ) → Prints (token.number s ∷ []) (json.number s)
unfolding print_from
number_prints s =
    let alone : (rest : List Token) → s ++ print_from true rest ≡ (s ++ []) ++ print_from true rest = λ rest. ap (λ x. x ++ print_from true rest) (sym (append-nil s)) in
    record { first = alone; later = λ rest. ap (λ x. 44 ∷ x) (alone rest) }

pub text_prints : (s : List ℕ) → Prints (token.string s ∷ []) (json.text (escape s))
unfolding print_from
text_prints s =
    let quoted : List ℕ = 34 ∷ (escape s ++ (34 ∷ [])) in
    let alone : (rest : List Token) → quoted ++ print_from true rest ≡ (quoted ++ []) ++ print_from true rest = λ rest. ap (λ x. x ++ print_from true rest) (sym (append-nil quoted)) in
    record { first = alone; later = λ rest. ap (λ x. 44 ∷ x) (alone rest) }

-- ---- arrays

pub no_items_print : PrintsItems [] json.no_items
unfolding print_from
no_items_print = record { first = λ rest. refl; later = λ rest. refl }

-- what comes behind a value, in front of the rest
spell_behind : (j : Json) (more : List json_tokens.Token) (p q : List ℕ) → q ≡ spell more ++ p → compact j ++ q ≡ spell (tokens j ++ more) ++ p
spell_behind j more p q e = ap (λ x. compact j ++ x) e ∙ sym (append_assoc (compact j) (spell more) p) ∙ ap (λ x. x ++ p) (sym (flat_map-append spelled (tokens j) more))

pub item_prints : (ts us : List Token) (j : Json) (js : Items) → Prints ts j → PrintsItems us js → PrintsItems (ts ++ us) (json.item j js)
item_prints ts us j js one more =
    let behind : List Token → List Token = λ rest. us ++ (token.end_array ∷ rest) in
    let whole : (rest : List Token) → compact j ++ print_from true (behind rest) ≡ spell (tokens j ++ more_item_tokens js) ++ print_from true rest =
    λ rest. spell_behind j (more_item_tokens js) (print_from true rest) (print_from true (behind rest)) (more.later rest) in
    record {
      first = λ rest. ap (print_from false) (append_assoc ts us (token.end_array ∷ rest)) ∙ one.first (behind rest) ∙ whole rest;
      later = λ rest. ap (print_from true) (append_assoc ts us (token.end_array ∷ rest)) ∙ one.later (behind rest) ∙ ap (λ x. 44 ∷ x) (whole rest);
    }

pub array_prints : (ts : List Token) (js : Items) → PrintsItems ts js → Prints (token.begin_array ∷ (ts ++ (token.end_array ∷ []))) (json.array js)
unfolding print_from
array_prints ts js inner =
    let whole : (rest : List Token) → 91 ∷ print_from false ((ts ++ (token.end_array ∷ [])) ++ rest) ≡ compact (json.array js) ++ print_from true rest =
    λ rest. ap (λ x. 91 ∷ print_from false x) (append_assoc ts (token.end_array ∷ []) rest) ∙ ap (λ x. 91 ∷ x) (inner.first rest) in
    record { first = whole; later = λ rest. ap (λ x. 44 ∷ x) (whole rest) }

-- ---- objects

pub no_members_print : PrintsMembers [] json.no_members
unfolding print_from
no_members_print = record { first = λ rest. refl; later = λ rest. refl }

-- a name with its colon, in front of a value
named : (q x p : List ℕ) → (q ++ (58 ∷ [])) ++ (x ++ p) ≡ (q ++ (58 ∷ x)) ++ p
named q x p = append_assoc q (58 ∷ []) (x ++ p) ∙ sym (append_assoc q (58 ∷ x) p)

pub member_prints : (name : List ℕ) (ts us : List Token) (j : Json) (ms : Members) → Prints ts j → PrintsMembers us ms → PrintsMembers ((token.key name ∷ ts) ++ us) (json.member (escape name) j ms)
unfolding print_from
member_prints name ts us j ms one more =
    let behind : List Token → List Token = λ rest. us ++ (token.end_object ∷ rest) in
    let quoted : List ℕ = 34 ∷ (escape name ++ (34 ∷ [])) in
    let value : (rest : List Token) → print_from false ((ts ++ us) ++ (token.end_object ∷ rest)) ≡ spell (tokens j ++ more_member_tokens ms) ++ print_from true rest =
    λ rest. ap (print_from false) (append_assoc ts us (token.end_object ∷ rest)) ∙ one.first (behind rest) ∙ spell_behind j (more_member_tokens ms) (print_from true rest) (print_from true (behind rest)) (more.later rest) in
    let whole : (rest : List Token) → (quoted ++ (58 ∷ [])) ++ print_from false ((ts ++ us) ++ (token.end_object ∷ rest)) ≡ spell (member_tokens (json.member (escape name) j ms)) ++ print_from true rest =
    λ rest. ap (λ x. (quoted ++ (58 ∷ [])) ++ x) (value rest) ∙ named quoted (spell (tokens j ++ more_member_tokens ms)) (print_from true rest) in
    record { first = whole; later = λ rest. ap (λ x. 44 ∷ x) (whole rest) }

pub object_prints : (ts : List Token) (ms : Members) → PrintsMembers ts ms → Prints (token.begin_object ∷ (ts ++ (token.end_object ∷ []))) (json.object ms)
unfolding print_from
object_prints ts ms inner =
    let whole : (rest : List Token) → 123 ∷ print_from false ((ts ++ (token.end_object ∷ [])) ++ rest) ≡ compact (json.object ms) ++ print_from true rest =
    λ rest. ap (λ x. 123 ∷ print_from false x) (append_assoc ts (token.end_object ∷ []) rest) ∙ ap (λ x. 123 ∷ x) (inner.first rest) in
    record { first = whole; later = λ rest. ap (λ x. 44 ∷ x) (whole rest) }

-- all that is printed of a value's tokens
pub print_is : (ts : List Token) (j : Json) → Prints ts j → print ts ≡ compact j
unfolding print_from
print_is ts j p = ap (print_from false) (sym (append-nil ts)) ∙ p.first [] ∙ append-nil (compact j)
