-- Each token's step: from what may follow to what may follow behind it, and back.
use Rattle.std.proofs.Common.{◌≡◌, ℕ, suc, List, [], ◌∷◌, ◌++◌, true, false, ◌⊎◌, inl, inr, refl, sym, ap, ◌∙◌, subst, append_assoc}
use Rattle.json_span.specs.Json.{Json, Items, Members, null, boolean, number, text, array, object, no_items, item, no_members, member, tokens, item_tokens, more_item_tokens, member_tokens, more_member_tokens, IsWithin, ItemsWithin, MembersWithin}
use Rattle.json_token.specs.Tokens.{Token, begin_array, end_array, begin_object, end_object, comma, colon, null_name, true_name, false_name, numeral, quoted}
use Rattle.json_span.specs.Ahead.{Frame, in_array, in_object, join_items, join_members, After, Value, FirstItem, FirstName, NextName, Colon}

join_items-assoc : (front : Items) (j : Json) (js : Items) → join_items (join_items front (item j no_items)) js ≡ join_items front (item j js)
join_items-assoc no_items j js = refl
join_items-assoc (item a front) j js = ap (item a) (join_items-assoc front j js)

join_members-assoc : (front : Members) (s : List ℕ) (j : Json) (ms : Members) → join_members (join_members front (member s j no_members)) ms ≡ join_members front (member s j ms)
join_members-assoc no_members s j ms = refl
join_members-assoc (member r a front) s j ms = ap (member r a) (join_members-assoc front s j ms)

-- what each token leads to where a value comes next
abbrev pub ValueTokens : ℕ → List Frame → List Token → Json → Type 0
ValueTokens levels frames (begin_array ∷ ts) whole = (below : ℕ) × (levels ≡ suc below) × FirstItem below frames ts whole
ValueTokens levels frames (begin_object ∷ ts) whole = (below : ℕ) × (levels ≡ suc below) × FirstName below frames ts whole
ValueTokens levels frames (null_name ∷ ts) whole = After levels frames null ts whole
ValueTokens levels frames (true_name ∷ ts) whole = After levels frames (boolean true) ts whole
ValueTokens levels frames (false_name ∷ ts) whole = After levels frames (boolean false) ts whole
ValueTokens levels frames (numeral s ∷ ts) whole = After levels frames (number s) ts whole
ValueTokens levels frames (quoted s ∷ ts) whole = After levels frames (text s) ts whole
ValueTokens levels frames _ whole = ⊥

After-levels : (m n : ℕ) (frames : List Frame) (j : Json) (ts : List Token) (whole : Json) → m ≡ n → After m frames j ts whole → After n frames j ts whole
After-levels m n frames j ts whole e a = let P : ℕ → Type 0 = λ k. After k frames j ts whole in subst P e a

pub Value-tokens : (levels : ℕ) (frames : List Frame) (ts : List Token) (whole : Json) → Value levels frames ts whole → ValueTokens levels frames ts whole
Value-tokens levels frames ts whole v = let P : List Token → Type 0 = λ x. ValueTokens levels frames x whole in subst P (sym v.split) (from v.j v.rest v.inside v.after)
  where
    from : (j : Json) (rest : List Token) → IsWithin levels j → After levels frames j rest whole → ValueTokens levels frames (tokens j ++ rest) whole
    from null rest i a = a
    from (boolean true) rest i a = a
    from (boolean false) rest i a = a
    from (number s) rest i a = a
    from (text s) rest i a = a
    from (array js) rest i a = (i.0, i.1, record { js = js; rest = rest; inside = i.2; split = refl; after = After-levels levels (suc i.0) frames (array js) rest whole i.1 a })
    from (object ms) rest i a = (i.0, i.1, record { ms = ms; rest = rest; inside = i.2; split = refl; after = After-levels levels (suc i.0) frames (object ms) rest whole i.1 a })

pub tokens-Value : (levels : ℕ) (frames : List Frame) (ts : List Token) (whole : Json) → ValueTokens levels frames ts whole → Value levels frames ts whole
tokens-Value levels frames (begin_array ∷ ts) whole (below, e, v) =
    record { j = array v.js; rest = v.rest; inside = (below, e, v.inside); split = ap (λ (x : List Token). begin_array ∷ x) v.split; after = After-levels (suc below) levels frames (array v.js) v.rest whole (sym e) v.after }
tokens-Value levels frames (begin_object ∷ ts) whole (below, e, v) =
    record { j = object v.ms; rest = v.rest; inside = (below, e, v.inside); split = ap (λ (x : List Token). begin_object ∷ x) v.split; after = After-levels (suc below) levels frames (object v.ms) v.rest whole (sym e) v.after }
tokens-Value levels frames (null_name ∷ ts) whole a = record { j = null; rest = ts; inside = tt; split = refl; after = a }
tokens-Value levels frames (true_name ∷ ts) whole a = record { j = boolean true; rest = ts; inside = tt; split = refl; after = a }
tokens-Value levels frames (false_name ∷ ts) whole a = record { j = boolean false; rest = ts; inside = tt; split = refl; after = a }
tokens-Value levels frames (numeral s ∷ ts) whole a = record { j = number s; rest = ts; inside = tt; split = refl; after = a }
tokens-Value levels frames (quoted s ∷ ts) whole a = record { j = text s; rest = ts; inside = tt; split = refl; after = a }
tokens-Value levels frames [] whole a = absurd a
tokens-Value levels frames (end_array ∷ ts) whole a = absurd a
tokens-Value levels frames (end_object ∷ ts) whole a = absurd a
tokens-Value levels frames (comma ∷ ts) whole a = absurd a
tokens-Value levels frames (colon ∷ ts) whole a = absurd a

-- an array ends at once, or a value comes
abbrev pub EndOrItem : ℕ → List Frame → List Token → Json → Type 0
EndOrItem levels frames ts whole =
    ((rest : List Token) × (ts ≡ end_array ∷ rest) × After (suc levels) frames (array no_items) rest whole) ⊎ Value levels (in_array no_items ∷ frames) ts whole

pub FirstItem-cases : (levels : ℕ) (frames : List Frame) (ts : List Token) (whole : Json) → FirstItem levels frames ts whole → EndOrItem levels frames ts whole
FirstItem-cases levels frames ts whole v = from v.js v.inside v.split v.after
  where
    from : (js : Items) → ItemsWithin levels js → ts ≡ item_tokens js ++ v.rest → After (suc levels) frames (array js) v.rest whole → EndOrItem levels frames ts whole
    from no_items i e a = inl (v.rest, e, a)
    from (item j js) i e a = inr (record { j = j; rest = more_item_tokens js ++ v.rest; inside = i.0; split = e ∙ append_assoc (tokens j) (more_item_tokens js) v.rest; after = (js, v.rest, i.1, refl, a) })

pub end-FirstItem : (levels : ℕ) (frames : List Frame) (ts : List Token) (whole : Json) → After (suc levels) frames (array no_items) ts whole → FirstItem levels frames (end_array ∷ ts) whole
end-FirstItem levels frames ts whole a = record { js = no_items; rest = ts; inside = tt; split = refl; after = a }

pub item-FirstItem : (levels : ℕ) (frames : List Frame) (ts : List Token) (whole : Json) → Value levels (in_array no_items ∷ frames) ts whole → FirstItem levels frames ts whole
item-FirstItem levels frames ts whole v = let a = v.after in
    record { js = item v.j a.0; rest = a.1; inside = (v.inside, a.2); split = v.split ∙ ap (λ (x : List Token). tokens v.j ++ x) a.3 ∙ sym (append_assoc (tokens v.j) (more_item_tokens a.0) a.1); after = a.4 }

-- what each token leads to behind an item
abbrev pub ItemTokens : ℕ → List Frame → Items → Json → List Token → Json → Type 0
ItemTokens levels frames front j (comma ∷ ts) whole = Value levels (in_array (join_items front (item j no_items)) ∷ frames) ts whole
ItemTokens levels frames front j (end_array ∷ ts) whole = After (suc levels) frames (array (join_items front (item j no_items))) ts whole
ItemTokens levels frames front j _ whole = ⊥

After-array : (levels : ℕ) (frames : List Frame) (is js : Items) (ts : List Token) (whole : Json) → is ≡ js → After levels frames (array is) ts whole → After levels frames (array js) ts whole
After-array levels frames is js ts whole e a = let P : Items → Type 0 = λ k. After levels frames (array k) ts whole in subst P e a

pub Item-tokens : (levels : ℕ) (frames : List Frame) (front : Items) (j : Json) (ts : List Token) (whole : Json) → After levels (in_array front ∷ frames) j ts whole → ItemTokens levels frames front j ts whole
Item-tokens levels frames front j ts whole (js, rest, i, e, a) = let P : List Token → Type 0 = λ x. ItemTokens levels frames front j x whole in subst P (sym e) (from js i a)
  where
    from : (js : Items) → ItemsWithin levels js → After (suc levels) frames (array (join_items front (item j js))) rest whole → ItemTokens levels frames front j (more_item_tokens js ++ rest) whole
    from no_items i a = a
    from (item b js) i a = record { j = b; rest = more_item_tokens js ++ rest; inside = i.0; split = append_assoc (tokens b) (more_item_tokens js) rest; after = (js, rest, i.1, refl, After-array (suc levels) frames _ _ rest whole (sym (join_items-assoc front j (item b js))) a) }

pub tokens-Item : (levels : ℕ) (frames : List Frame) (front : Items) (j : Json) (ts : List Token) (whole : Json) → ItemTokens levels frames front j ts whole → After levels (in_array front ∷ frames) j ts whole
tokens-Item levels frames front j (comma ∷ ts) whole v = let a = v.after in
    (item v.j a.0, a.1, (v.inside, a.2), ap (λ (x : List Token). comma ∷ x) (v.split ∙ ap (λ (x : List Token). tokens v.j ++ x) a.3 ∙ sym (append_assoc (tokens v.j) (more_item_tokens a.0) a.1)), After-array (suc levels) frames _ _ a.1 whole (join_items-assoc front j (item v.j a.0)) a.4)
tokens-Item levels frames front j (end_array ∷ ts) whole a = (no_items, ts, tt, refl, a)
tokens-Item levels frames front j [] whole a = absurd a
tokens-Item levels frames front j (begin_array ∷ ts) whole a = absurd a
tokens-Item levels frames front j (begin_object ∷ ts) whole a = absurd a
tokens-Item levels frames front j (end_object ∷ ts) whole a = absurd a
tokens-Item levels frames front j (colon ∷ ts) whole a = absurd a
tokens-Item levels frames front j (null_name ∷ ts) whole a = absurd a
tokens-Item levels frames front j (true_name ∷ ts) whole a = absurd a
tokens-Item levels frames front j (false_name ∷ ts) whole a = absurd a
tokens-Item levels frames front j (numeral s ∷ ts) whole a = absurd a
tokens-Item levels frames front j (quoted s ∷ ts) whole a = absurd a

-- what each token leads to at the first name of an object
abbrev pub FirstNameTokens : ℕ → List Frame → List Token → Json → Type 0
FirstNameTokens levels frames (end_object ∷ ts) whole = After (suc levels) frames (object no_members) ts whole
FirstNameTokens levels frames (quoted s ∷ ts) whole = Colon levels frames no_members s ts whole
FirstNameTokens levels frames _ whole = ⊥

pub FirstName-tokens : (levels : ℕ) (frames : List Frame) (ts : List Token) (whole : Json) → FirstName levels frames ts whole → FirstNameTokens levels frames ts whole
FirstName-tokens levels frames ts whole v = let P : List Token → Type 0 = λ x. FirstNameTokens levels frames x whole in subst P (sym v.split) (from v.ms v.inside v.after)
  where
    from : (ms : Members) → MembersWithin levels ms → After (suc levels) frames (object ms) v.rest whole → FirstNameTokens levels frames (member_tokens ms ++ v.rest) whole
    from no_members i a = a
    from (member s j ms) i a = record { j = j; ms = ms; rest = v.rest; inside = i; split = ap (λ (x : List Token). colon ∷ x) (append_assoc (tokens j) (more_member_tokens ms) v.rest); after = a }

pub tokens-FirstName : (levels : ℕ) (frames : List Frame) (ts : List Token) (whole : Json) → FirstNameTokens levels frames ts whole → FirstName levels frames ts whole
tokens-FirstName levels frames (end_object ∷ ts) whole a = record { ms = no_members; rest = ts; inside = tt; split = refl; after = a }
tokens-FirstName levels frames (quoted s ∷ ts) whole v =
    record { ms = member s v.j v.ms; rest = v.rest; inside = v.inside; split = ap (λ (x : List Token). quoted s ∷ x) (v.split ∙ ap (λ (x : List Token). colon ∷ x) (sym (append_assoc (tokens v.j) (more_member_tokens v.ms) v.rest))); after = v.after }
tokens-FirstName levels frames [] whole a = absurd a
tokens-FirstName levels frames (begin_array ∷ ts) whole a = absurd a
tokens-FirstName levels frames (end_array ∷ ts) whole a = absurd a
tokens-FirstName levels frames (begin_object ∷ ts) whole a = absurd a
tokens-FirstName levels frames (comma ∷ ts) whole a = absurd a
tokens-FirstName levels frames (colon ∷ ts) whole a = absurd a
tokens-FirstName levels frames (null_name ∷ ts) whole a = absurd a
tokens-FirstName levels frames (true_name ∷ ts) whole a = absurd a
tokens-FirstName levels frames (false_name ∷ ts) whole a = absurd a
tokens-FirstName levels frames (numeral s ∷ ts) whole a = absurd a

-- what each token leads to where a name must come
abbrev pub NextNameTokens : ℕ → List Frame → Members → List Token → Json → Type 0
NextNameTokens levels frames front (quoted s ∷ ts) whole = Colon levels frames front s ts whole
NextNameTokens levels frames front _ whole = ⊥

pub NextName-tokens : (levels : ℕ) (frames : List Frame) (front : Members) (ts : List Token) (whole : Json) → NextName levels frames front ts whole → NextNameTokens levels frames front ts whole
NextName-tokens levels frames front ts whole v = let P : List Token → Type 0 = λ x. NextNameTokens levels frames front x whole in
    subst P (sym v.split) (record { j = v.j; ms = v.ms; rest = v.rest; inside = v.inside; split = refl; after = v.after })

pub name-NextName : (levels : ℕ) (frames : List Frame) (front : Members) (s : List ℕ) (ts : List Token) (whole : Json) → Colon levels frames front s ts whole → NextName levels frames front (quoted s ∷ ts) whole
name-NextName levels frames front s ts whole v = record { s = s; j = v.j; ms = v.ms; rest = v.rest; inside = v.inside; split = ap (λ (x : List Token). quoted s ∷ x) v.split; after = v.after }

-- what each token leads to where a colon must come
abbrev pub ColonTokens : ℕ → List Frame → Members → List ℕ → List Token → Json → Type 0
ColonTokens levels frames front s (colon ∷ ts) whole = Value levels (in_object front s ∷ frames) ts whole
ColonTokens levels frames front s _ whole = ⊥

pub Colon-tokens : (levels : ℕ) (frames : List Frame) (front : Members) (s : List ℕ) (ts : List Token) (whole : Json) → Colon levels frames front s ts whole → ColonTokens levels frames front s ts whole
Colon-tokens levels frames front s ts whole v = let P : List Token → Type 0 = λ x. ColonTokens levels frames front s x whole in
    subst P (sym v.split) (record { j = v.j; rest = more_member_tokens v.ms ++ v.rest; inside = v.inside.0; split = refl; after = (v.ms, v.rest, v.inside.1, refl, v.after) })

pub colon-Colon : (levels : ℕ) (frames : List Frame) (front : Members) (s : List ℕ) (ts : List Token) (whole : Json) → Value levels (in_object front s ∷ frames) ts whole → Colon levels frames front s (colon ∷ ts) whole
colon-Colon levels frames front s ts whole v = let a = v.after in
    record { j = v.j; ms = a.0; rest = a.1; inside = (v.inside, a.2); split = ap (λ (x : List Token). colon ∷ x) (v.split ∙ ap (λ (x : List Token). tokens v.j ++ x) a.3); after = a.4 }

-- what each token leads to behind a member
abbrev pub MemberTokens : ℕ → List Frame → Members → List ℕ → Json → List Token → Json → Type 0
MemberTokens levels frames front s j (comma ∷ ts) whole = NextName levels frames (join_members front (member s j no_members)) ts whole
MemberTokens levels frames front s j (end_object ∷ ts) whole = After (suc levels) frames (object (join_members front (member s j no_members))) ts whole
MemberTokens levels frames front s j _ whole = ⊥

After-object : (levels : ℕ) (frames : List Frame) (ls ms : Members) (ts : List Token) (whole : Json) → ls ≡ ms → After levels frames (object ls) ts whole → After levels frames (object ms) ts whole
After-object levels frames ls ms ts whole e a = let P : Members → Type 0 = λ k. After levels frames (object k) ts whole in subst P e a

pub Member-tokens : (levels : ℕ) (frames : List Frame) (front : Members) (s : List ℕ) (j : Json) (ts : List Token) (whole : Json) → After levels (in_object front s ∷ frames) j ts whole → MemberTokens levels frames front s j ts whole
Member-tokens levels frames front s j ts whole (ms, rest, i, e, a) = let P : List Token → Type 0 = λ x. MemberTokens levels frames front s j x whole in subst P (sym e) (from ms i a)
  where
    from : (ms : Members) → MembersWithin levels ms → After (suc levels) frames (object (join_members front (member s j ms))) rest whole → MemberTokens levels frames front s j (more_member_tokens ms ++ rest) whole
    from no_members i a = a
    from (member r b ms) i a =
        record { s = r; j = b; ms = ms; rest = rest; inside = i; split = ap (λ (x : List Token). quoted r ∷ (colon ∷ x)) (append_assoc (tokens b) (more_member_tokens ms) rest); after = After-object (suc levels) frames _ _ rest whole (sym (join_members-assoc front s j (member r b ms))) a }

pub tokens-Member : (levels : ℕ) (frames : List Frame) (front : Members) (s : List ℕ) (j : Json) (ts : List Token) (whole : Json) → MemberTokens levels frames front s j ts whole → After levels (in_object front s ∷ frames) j ts whole
tokens-Member levels frames front s j (comma ∷ ts) whole v =
    (member v.s v.j v.ms, v.rest, v.inside, ap (λ (x : List Token). comma ∷ x) (v.split ∙ ap (λ (x : List Token). quoted v.s ∷ (colon ∷ x)) (sym (append_assoc (tokens v.j) (more_member_tokens v.ms) v.rest))), After-object (suc levels) frames _ _ v.rest whole (join_members-assoc front s j (member v.s v.j v.ms)) v.after)
tokens-Member levels frames front s j (end_object ∷ ts) whole a = (no_members, ts, tt, refl, a)
tokens-Member levels frames front s j [] whole a = absurd a
tokens-Member levels frames front s j (begin_array ∷ ts) whole a = absurd a
tokens-Member levels frames front s j (end_array ∷ ts) whole a = absurd a
tokens-Member levels frames front s j (begin_object ∷ ts) whole a = absurd a
tokens-Member levels frames front s j (colon ∷ ts) whole a = absurd a
tokens-Member levels frames front s j (null_name ∷ ts) whole a = absurd a
tokens-Member levels frames front s j (true_name ∷ ts) whole a = absurd a
tokens-Member levels frames front s j (false_name ∷ ts) whole a = absurd a
tokens-Member levels frames front s j (numeral r ∷ ts) whole a = absurd a
tokens-Member levels frames front s j (quoted r ∷ ts) whole a = absurd a
