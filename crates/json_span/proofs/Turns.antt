-- Each turn of the reader: brackets, commas and names, with what the tree and the open arrays and objects hold.
use Rattle.std.proofs.Common.{◌≡◌, ℕ, suc, ◌+◌, ◌-◌, ◌<◌, ◌≤◌, inl, inr, List, [], ◌∷◌, ◌++◌, length, take, drop, get_or, Bool, true, false, cond, ◌==◌, ◌||◌, Some, Result, Ok, Err, refl, sym, ap, ◌∙◌, subst, append_assoc, arith}
use Rattle.std.specs.List.{flat_map, list_any, All}
use Rattle.std.proofs.lemmas.List.Elements.{All-cons}
use Rattle.json_span.proofs.Lookups.{node_inside}
use Rattle.std.proofs.lemmas.Bool.{false≢true}
use Rattle.std.proofs.lemmas.Bool.Decides.{nat_tests}
use Rattle.std.proofs.lemmas.List.{append-nil, take_at, length-append, drop-drop, same_from_push, take-append-drop}
use Rattle.std.proofs.Math.Seq.{set-append_seam, get_or-append_seam}
use Rattle.std.proofs.Math.ListN.{set}
use Rattle.std.proofs.lemmas.List.Concat.{flat_map-append}
use Rattle.json_span.specs.Json.{Json, Items, Members, null, boolean, number, text, array, object, no_items, item, no_members, member, tokens, item_tokens, more_item_tokens, member_tokens, more_member_tokens}
use Rattle.json_token.specs.Tokens.{Token, end_array, end_object, comma, quoted, is_blank, spelled, AreTokens}
use Rattle.json_span.specs.Text.{compact, IsText}
use Rattle.json_token.specs.Chars.{content, content_behind, backslash, IsChars}
use Rattle.json_span.specs.Refusals.{Refuses}
use Rattle.json_span.specs.Ahead.{Frame, in_array, in_object, join_items, join_members, AfterAt, Expect, FirstNameAt, NextNameAt, ColonAt}
use Rattle.json_span.specs.Reading.{ReadsTo}
use Rattle.json_span.specs.Tree.{IsRead, StandsIn, ItemsIn, MembersIn, IsNode, items_of, members_of}
use Rattle.json_span.specs.Steps.{Adds, At, then_after, WordStops, AtAny, AtValue, AtEnd, AtName, NamedTo, BehindItem, BehindMember, BehindOpen, AddsItem, PushesItem, Holds, HoldsOne, opened, listed, named, quote}
use Rattle.json_token.specs.TokenEnds.{WordTo, WordFails, begins_number, Skips, QuotedTo, QuotedFails}
use Rattle.json_span.specs.declared.tree.Node.{Node}
use Rattle.json_span.specs.declared.tree.Member.{Member}
use Rattle.json_span.specs.declared.tree.Form.{Form}
use Rattle.json_span.specs.declared.state.Open.{Open}
use Rattle.json_span.specs.declared.state.Open.TheVariants.{InArray, InObject}
use Rattle.json_token.specs.declared.error.JsonNo.{JsonNo}
use Rattle.json_token.specs.declared.error.JsonNo.TheVariants.{BadByte, Cut, TooDeep, Want}
use Rattle.json_span.proofs.AheadLemmas.{FirstName-tokens, tokens-FirstName, NextName-tokens, name-NextName}
use Rattle.std.specs.Result.{IfOk, IfErr}
use Rattle.json_span.specs.declared.state.Next.{Next}
use Rattle.json_span.proofs.BytesLemmas.{class}
use Rattle.json_span.proofs.States.{expect_values, open_array, open_object, deep_array, deep_object, close_empty_array, next_item, close_array, next_member, close_object, close_empty_object, after_colon, bad_value, bad_close, bad_item, bad_member, bad_end, bad_first_name, bad_next_name, bad_colon, cut_value, cut_item, cut_member, cut_first_name, cut_next_name, cut_colon, item_codes, member_codes, first_name_codes, value_codes, alive_first_name, alive_next_name, ReadsTo-start, whole_value, only_value}
use Rattle.json_token.proofs.TokenEndLemmas.{byte_first, no_bytes}
use Rattle.json_span.proofs.Lifts.{skipped, string_read, string_refused, Items-grown, Members-grown, Holds-grown, new_node}

-- ---- what the parts of a tree are made of

no_backslash : (x : ℕ) (s : List ℕ) → list_any (λ y. y == 92) (x ∷ s) ≡ false → ((x == 92) ≡ false) × (list_any (λ y. y == 92) s ≡ false)
no_backslash x s e = or_false (x == 92) (list_any (λ y. y == 92) s) e
  where
    or_false : (a b : Bool) → (a || b) ≡ false → (a ≡ false) × (b ≡ false)
    or_false false b h = (refl, h)
    or_false true b h = absurd (false≢true (sym h))

pub content_plain : (s : List ℕ) → list_any (λ y. y == 92) s ≡ false → content s ≡ s
unfolding content_behind
content_plain [] e = refl
content_plain (x ∷ s) e =
    let h = no_backslash x s e in
    ap (λ t. cond t (content_behind backslash s) (x ∷ content s)) h.0 ∙ ap (λ y. x ∷ y) (content_plain s h.1)

AreTokens-append : (xs ys : List Token) → AreTokens xs → AreTokens ys → AreTokens (xs ++ ys)
AreTokens-append [] ys h k = k
AreTokens-append (t ∷ xs) ys h k = (h.0, AreTokens-append xs ys h.1 k)

pub stands_valid : (nodes : List Node) (source : List ℕ) (k : ℕ) (j : Json) → StandsIn nodes source k j → AreTokens (tokens j)
stands_valid nodes source k null h = h.1.valid
stands_valid nodes source k (boolean b) h = h.1.valid
stands_valid nodes source k (number s) h = h.1.valid
stands_valid nodes source k (text s) h = h.1.valid
stands_valid nodes source k (array js) h = h.1.valid
stands_valid nodes source k (object ms) h = h.1.valid

more_items_valid : (nodes : List Node) (source : List ℕ) (ks : List ℕ) (js : Items) → ItemsIn nodes source ks js → AreTokens (more_item_tokens js)
more_items_valid nodes source ks no_items h = (tt, tt)
more_items_valid nodes source ks (item j js) h = (tt, AreTokens-append (tokens j) (more_item_tokens js) (stands_valid nodes source h.0 j h.3) (more_items_valid nodes source h.1 js h.4))

items_valid : (nodes : List Node) (source : List ℕ) (ks : List ℕ) (js : Items) → ItemsIn nodes source ks js → AreTokens (item_tokens js)
items_valid nodes source ks no_items h = (tt, tt)
items_valid nodes source ks (item j js) h = AreTokens-append (tokens j) (more_item_tokens js) (stands_valid nodes source h.0 j h.3) (more_items_valid nodes source h.1 js h.4)

more_members_valid : (nodes : List Node) (source : List ℕ) (vs : List Member) (ms : Members) → MembersIn nodes source vs ms → AreTokens (more_member_tokens ms)
more_members_valid nodes source vs no_members h = (tt, tt)
more_members_valid nodes source vs (member s j ms) h = (tt, (h.4, (tt, AreTokens-append (tokens j) (more_member_tokens ms) (stands_valid nodes source h.0.node j h.5) (more_members_valid nodes source h.1 ms h.6))))

members_valid : (nodes : List Node) (source : List ℕ) (vs : List Member) (ms : Members) → MembersIn nodes source vs ms → AreTokens (member_tokens ms)
members_valid nodes source vs no_members h = (tt, tt)
members_valid nodes source vs (member s j ms) h = (h.4, (tt, AreTokens-append (tokens j) (more_member_tokens ms) (stands_valid nodes source h.0.node j h.5) (more_members_valid nodes source h.1 ms h.6)))

items_push : (nodes : List Node) (source : List ℕ) (ks : List ℕ) (js : Items) (k : ℕ) (j : Json) → ItemsIn nodes source ks js → StandsIn nodes source k j → ItemsIn nodes source (ks ++ (k ∷ [])) (join_items js (item j no_items))
items_push nodes source ks no_items k j h s = (k, [], ap (λ x. x ++ (k ∷ [])) h, s, refl)
items_push nodes source ks (item i js) k j h s = (h.0, h.1 ++ (k ∷ []), ap (λ x. x ++ (k ∷ [])) h.2, h.3, items_push nodes source h.1 js k j h.4 s)

members_push : (nodes : List Node) (source : List ℕ) (vs : List Member) (ms : Members) (m : Member) (r : List ℕ) (j : Json) → MembersIn nodes source vs ms → m.name ≡ content r → IsChars r → StandsIn nodes source m.node j → MembersIn nodes source (vs ++ (m ∷ [])) (join_members ms (member r j no_members))
members_push nodes source vs no_members m r j h c v s = (m, [], ap (λ x. x ++ (m ∷ [])) h, c, v, s, refl)
members_push nodes source vs (member q i ms) m r j h c v s = (h.0, h.1 ++ (m ∷ []), ap (λ x. x ++ (m ∷ [])) h.2, h.3, h.4, h.5, members_push nodes source h.1 ms m r j h.6 c v s)

no_below : {X : Type 0} (P : X → Type 0) → All P []
no_below P = λ i d h. absurd (omega arith)

-- the nodes of the parts were made before
items_below : (nodes : List Node) (source : List ℕ) (ks : List ℕ) (js : Items) → ItemsIn nodes source ks js → All (λ c. c < length nodes) ks
items_below nodes source ks no_items h = let P : List ℕ → Type 0 = λ x. All (λ c. c < length nodes) x in subst P (sym h) (no_below (λ (c : ℕ). c < length nodes))
items_below nodes source ks (item j js) h = let P : List ℕ → Type 0 = λ x. All (λ c. c < length nodes) x in
    subst P (sym h.2) (All-cons (λ (c : ℕ). c < length nodes) h.0 h.1 (node_inside nodes source h.0 j h.3) (items_below nodes source h.1 js h.4))

members_below : (nodes : List Node) (source : List ℕ) (vs : List Member) (ms : Members) → MembersIn nodes source vs ms → All (λ m. m.node < length nodes) vs
members_below nodes source vs no_members h = let P : List Member → Type 0 = λ x. All (λ m. m.node < length nodes) x in subst P (sym h) (no_below (λ (m : Member). m.node < length nodes))
members_below nodes source vs (member s j ms) h = let P : List Member → Type 0 = λ x. All (λ m. m.node < length nodes) x in
    subst P (sym h.2) (All-cons (λ (m : Member). m.node < length nodes) h.0 h.1 (node_inside nodes source h.0.node j h.5) (members_below nodes source h.1 ms h.6))

-- ---- the source text of arrays and objects

listed-join : (front : Items) (v : Json) → listed (join_items front (item v no_items)) ≡ listed front ++ (compact v ++ (44 ∷ []))
listed-join no_items v = refl
listed-join (item a front) v = ap (λ x. compact a ++ (44 ∷ x)) (listed-join front v) ∙ sym (append_assoc (compact a) (44 ∷ listed front) (compact v ++ (44 ∷ [])))

more_items-join : (front : Items) (v : Json) → more_item_tokens (join_items front (item v no_items)) ≡ comma ∷ item_tokens (join_items front (item v no_items))
more_items-join no_items v = refl
more_items-join (item a front) v = refl

items_text : (front : Items) (v : Json) → flat_map spelled (item_tokens (join_items front (item v no_items))) ≡ listed front ++ (compact v ++ (93 ∷ []))
items_text no_items v = flat_map-append spelled (tokens v) (end_array ∷ [])
items_text (item a front) v =
    flat_map-append spelled (tokens a) (more_item_tokens (join_items front (item v no_items)))
    ∙ (ap (λ x. compact a ++ flat_map spelled x) (more_items-join front v)
    ∙ (ap (λ x. compact a ++ (44 ∷ x)) (items_text front v)
    ∙ sym (append_assoc (compact a) (44 ∷ listed front) (compact v ++ (93 ∷ [])))))

quote_front : (s x y : List ℕ) → (quote s ++ x) ++ y ≡ quote s ++ (x ++ y)
quote_front s x y = append_assoc (quote s) x y

named-join : (front : Members) (s : List ℕ) (v : Json) → named (join_members front (member s v no_members)) ≡ named front ++ (quote s ++ (58 ∷ (compact v ++ (44 ∷ []))))
named-join no_members s v = refl
named-join (member r a front) s v =
    ap (λ x. quote r ++ (58 ∷ (compact a ++ (44 ∷ x)))) (named-join front s v)
    ∙ (ap (λ x. quote r ++ (58 ∷ x)) (sym (append_assoc (compact a) (44 ∷ named front) (quote s ++ (58 ∷ (compact v ++ (44 ∷ []))))))
    ∙ sym (append_assoc (quote r) (58 ∷ (compact a ++ (44 ∷ named front))) (quote s ++ (58 ∷ (compact v ++ (44 ∷ []))))))

more_members-join : (front : Members) (s : List ℕ) (v : Json) → more_member_tokens (join_members front (member s v no_members)) ≡ comma ∷ member_tokens (join_members front (member s v no_members))
more_members-join no_members s v = refl
more_members-join (member r a front) s v = refl

members_text : (front : Members) (s : List ℕ) (v : Json) → flat_map spelled (member_tokens (join_members front (member s v no_members))) ≡ named front ++ (quote s ++ (58 ∷ (compact v ++ (125 ∷ []))))
members_text no_members s v = ap (λ x. quote s ++ (58 ∷ x)) (flat_map-append spelled (tokens v) (end_object ∷ []))
members_text (member r a front) s v =
    ap (λ x. quote r ++ (58 ∷ x)) (flat_map-append spelled (tokens a) (more_member_tokens (join_members front (member s v no_members)))
    ∙ (ap (λ x. compact a ++ flat_map spelled x) (more_members-join front s v)
    ∙ (ap (λ x. compact a ++ (44 ∷ x)) (members_text front s v)
    ∙ sym (append_assoc (compact a) (44 ∷ named front) (quote s ++ (58 ∷ (compact v ++ (125 ∷ []))))))))
    ∙ sym (append_assoc (quote r) (58 ∷ (compact a ++ (44 ∷ named front))) (quote s ++ (58 ∷ (compact v ++ (125 ∷ [])))))

-- ---- the open arrays and objects

pub holds_length : (nodes : List Node) (source : List ℕ) (opens : List Open) (frames : List Frame) → Holds nodes source opens frames → length opens ≡ length frames
holds_length nodes source opens [] h = ap length h
holds_length nodes source opens (f ∷ frames) h = ap length h.2 ∙ (length-append h.0 (h.1 ∷ []) ∙ (let n = holds_length nodes source h.0 frames h.4 in omega arith))

holds_source : (nodes : List Node) (opens : List Open) (frames : List Frame) (source now : List ℕ) (more : List ℕ) → now ≡ source ++ more → Holds nodes source opens frames → Holds nodes now opens frames
holds_source nodes opens frames source now more e h =
    let P : List ℕ → Type 0 = λ x. Holds nodes x opens frames in
    let Q : List Node → Type 0 = λ x. Holds x (source ++ more) opens frames in
    subst P (sym e) (subst Q (append-nil nodes) (Holds-grown nodes [] source more opens frames h))

items_source : (nodes : List Node) (ks : List ℕ) (js : Items) (source now more : List ℕ) → now ≡ source ++ more → ItemsIn nodes source ks js → ItemsIn nodes now ks js
items_source nodes ks js source now more e h =
    let P : List ℕ → Type 0 = λ x. ItemsIn nodes x ks js in
    let Q : List Node → Type 0 = λ x. ItemsIn x (source ++ more) ks js in
    subst P (sym e) (subst Q (append-nil nodes) (Items-grown nodes [] source more ks js h))

members_source : (nodes : List Node) (vs : List Member) (ms : Members) (source now more : List ℕ) → now ≡ source ++ more → MembersIn nodes source vs ms → MembersIn nodes now vs ms
members_source nodes vs ms source now more e h =
    let P : List ℕ → Type 0 = λ x. MembersIn nodes x vs ms in
    let Q : List Node → Type 0 = λ x. MembersIn x (source ++ more) vs ms in
    subst P (sym e) (subst Q (append-nil nodes) (Members-grown nodes [] source more vs ms h))

-- ---- an array begins

pub array_begins : (bytes : List ℕ) (place : ℕ) (nodes : List Node) (source now : List ℕ) (opens new : List Open) (o : Open) → AtAny bytes place nodes source opens → place < length bytes → get_or bytes place 0 ≡ 91 → length opens < 127
    → now ≡ source ++ (91 ∷ []) → new ≡ opens ++ (o ∷ []) → HoldsOne nodes now (length source) o (in_array no_items) → AtValue bytes (place + 1) true nodes now new
array_begins bytes place nodes source now opens new o a l b few e f h =
    let n = holds_length nodes source opens a.at.frames a.at.holds in
    let P : ℕ → Type 0 = λ x. HoldsOne nodes now x o (in_array no_items) in
    record {
      frames = in_array no_items ∷ a.at.frames;
      reads = open_array bytes place (Expect a.first a.at.frames) a.at.frames (drop (place + 1) bytes) a.at.reads (expect_values a.first a.at.frames) (omega arith) (byte_first bytes place 91 l b);
      holds = (opens, o, f, subst P (ap length a.at.source_is) h, holds_source nodes opens a.at.frames source now (91 ∷ []) e a.at.holds);
      source_is = e ∙ ap (λ x. x ++ (91 ∷ [])) a.at.source_is;
      few = omega arith;
      begun = λ _. (a.at.frames, refl);
    }

pub array_too_deep : (bytes : List ℕ) (place : ℕ) (nodes : List Node) (source : List ℕ) (opens : List Open) → AtAny bytes place nodes source opens → place < length bytes → get_or bytes place 0 ≡ 91 → 127 ≤ length opens → Refuses bytes TooDeep
array_too_deep bytes place nodes source opens a l b n =
    let m = holds_length nodes source opens a.at.frames a.at.holds in
    let few = a.at.few in
    (place, deep_array bytes place (Expect a.first a.at.frames) a.at.frames (drop (place + 1) bytes) a.at.reads (expect_values a.first a.at.frames) (omega arith) (byte_first bytes place 91 l b))

-- ---- an object begins

pub object_too_deep : (bytes : List ℕ) (place : ℕ) (nodes : List Node) (source : List ℕ) (opens : List Open) → AtAny bytes place nodes source opens → place < length bytes → get_or bytes place 0 ≡ 123 → 127 ≤ length opens → Refuses bytes TooDeep
object_too_deep bytes place nodes source opens a l b n =
    let m = holds_length nodes source opens a.at.frames a.at.holds in
    let few = a.at.few in
    (place, deep_object bytes place (Expect a.first a.at.frames) a.at.frames (drop (place + 1) bytes) a.at.reads (expect_values a.first a.at.frames) (omega arith) (byte_first bytes place 123 l b))

pub object_begins : (bytes : List ℕ) (place at : ℕ) (nodes : List Node) (source : List ℕ) (opens : List Open) → (a : AtAny bytes place nodes source opens) → place < length bytes → get_or bytes place 0 ≡ 123 → length opens < 127 → Skips bytes (place + 1) at → ReadsTo bytes at (FirstNameAt a.at.frames)
object_begins bytes place at nodes source opens a l b few s =
    let n = holds_length nodes source opens a.at.frames a.at.holds in
    skipped bytes (place + 1) at (FirstNameAt a.at.frames) (open_object bytes place (Expect a.first a.at.frames) a.at.frames (drop (place + 1) bytes) a.at.reads (expect_values a.first a.at.frames) (omega arith) (byte_first bytes place 123 l b)) s

pub object_cut : (bytes : List ℕ) (place at : ℕ) (nodes : List Node) (source : List ℕ) (opens : List Open) → AtAny bytes place nodes source opens → place < length bytes → get_or bytes place 0 ≡ 123 → length opens < 127 → Skips bytes (place + 1) at → at ≡ length bytes → Refuses bytes Cut
object_cut bytes place at nodes source opens a l b few s e = cut_first_name bytes at a.at.frames (object_begins bytes place at nodes source opens a l b few s) (no_bytes bytes at (omega arith))

first_name_class : (b : ℕ) → (b ≡ 34 → ⊥) → (b ≡ 125 → ⊥) → first_name_codes (class b) ≡ false
first_name_class b h k = grind (arith, nat_tests)

pub object_breaks : (bytes : List ℕ) (place at : ℕ) (nodes : List Node) (source : List ℕ) (opens : List Open) → AtAny bytes place nodes source opens → place < length bytes → get_or bytes place 0 ≡ 123 → length opens < 127 → (s : Skips bytes (place + 1) at) → at < length bytes → (get_or bytes at 0 ≡ 34 → ⊥) → (get_or bytes at 0 ≡ 125 → ⊥) → Refuses bytes (BadByte at)
object_breaks bytes place at nodes source opens a l b few s m h k =
    bad_first_name bytes at a.at.frames (get_or bytes at 0) (drop (at + 1) bytes) (object_begins bytes place at nodes source opens a l b few s) (byte_first bytes at (get_or bytes at 0) m refl) (s.stops m) (first_name_class (get_or bytes at 0) h k)

-- a name and its colon open a member
pub member_begins : (bytes : List ℕ) (end : ℕ) (nodes : List Node) (source now : List ℕ) (opens new : List Open) (o : Open) (frames : List Frame) (front : Members) (s : List ℕ) → ReadsTo bytes end (Expect false (in_object front s ∷ frames)) → Holds nodes source opens frames → length frames < 127
    → now ≡ source ++ (quote s ++ (58 ∷ [])) → source ≡ opened frames ++ (123 ∷ named front) → new ≡ opens ++ (o ∷ []) → HoldsOne nodes now (length (opened frames)) o (in_object front s) → AtValue bytes end false nodes now new
member_begins bytes end nodes source now opens new o frames front s r hs few e g f h = record {
  frames = in_object front s ∷ frames;
  reads = r;
  holds = (opens, o, f, h, holds_source nodes opens frames source now _ e hs);
  source_is = e ∙ (ap (λ x. x ++ (quote s ++ (58 ∷ []))) g ∙ append_assoc (opened frames) (123 ∷ named front) (quote s ++ (58 ∷ [])));
  few = omega arith;
  begun = λ z. absurd (false≢true z);
}

-- ---- names

pub named_to : (bytes : List ℕ) (place end at : ℕ) (name old new : List ℕ) → (q : QuotedTo bytes place end) → Skips bytes end at → at < length bytes → get_or bytes at 0 ≡ 58 → name ≡ content (take (end - 1 - (place + 1)) (drop (place + 1) bytes))
    → new ≡ (old ++ take (end - place) (drop place bytes)) ++ (58 ∷ []) → NamedTo bytes place (at + 1) name old new
named_to bytes place end at name old new q s l b c e =
    let n : length (quote q.s) ≡ end - place = omega (arith, q.moved, length-append q.s (34 ∷ [])) in
    let whole : drop place bytes ≡ quote q.s ++ drop end bytes = q.split ∙ ap (λ x. 34 ∷ x) (sym (append_assoc q.s (34 ∷ []) (drop end bytes))) in
    let same : take (end - place) (drop place bytes) ≡ quote q.s = ap (take (end - place)) whole ∙ take_at (quote q.s) (drop end bytes) (end - place) n in
    let m : length q.s ≡ end - 1 - (place + 1) = omega (arith, q.moved) in
    let tail : drop (place + 1) bytes ≡ q.s ++ (34 ∷ drop end bytes) = sym (drop-drop 1 place bytes) ∙ ap (drop 1) q.split in
    let inner : take (end - 1 - (place + 1)) (drop (place + 1) bytes) ≡ q.s = ap (take (end - 1 - (place + 1))) tail ∙ take_at q.s (34 ∷ drop end bytes) (end - 1 - (place + 1)) m in
    record {
      s = q.s;
      valid = q.valid;
      means = c ∙ ap content inner;
      source_is = e ∙ (ap (λ x. (old ++ x) ++ (58 ∷ [])) same ∙ append_assoc old (quote q.s) (58 ∷ []));
      reads = λ frames front a. after_colon bytes at frames front q.s (drop (at + 1) bytes) (skipped bytes end at (ColonAt frames front q.s) (name_read bytes place end frames front q a) s) (byte_first bytes at 58 l b);
      further = omega (arith, q.moved, s.moved);
    }
  where
    name_read : (bytes : List ℕ) (place end : ℕ) (frames : List Frame) (front : Members) (q : QuotedTo bytes place end) → AtName bytes place frames front → ReadsTo bytes end (ColonAt frames front q.s)
    name_read bytes place end frames front q (inl a) =
        let P : Members → Type 0 = λ x. ReadsTo bytes end (ColonAt frames x q.s) in
        subst P (sym a.1) (string_read bytes place end (FirstNameAt frames) (ColonAt frames no_members q.s) a.0 q (λ extra ts j x. FirstName-tokens (127 - suc (length frames) + extra) frames (quoted q.s ∷ ts) j x) (λ extra ts j x. tokens-FirstName (127 - suc (length frames) + extra) frames (quoted q.s ∷ ts) j x))
    name_read bytes place end frames front q (inr a) =
        string_read bytes place end (NextNameAt frames front) (ColonAt frames front q.s) a q (λ extra ts j x. NextName-tokens (127 - suc (length frames) + extra) frames front (quoted q.s ∷ ts) j x) (λ extra ts j x. name-NextName (127 - suc (length frames) + extra) frames front q.s ts j x)

colon_read : (bytes : List ℕ) (place end at : ℕ) (frames : List Frame) (front : Members) (q : QuotedTo bytes place end) → Skips bytes end at → AtName bytes place frames front → ReadsTo bytes at (ColonAt frames front q.s)
colon_read bytes place end at frames front q s (inl a) =
    let P : Members → Type 0 = λ x. ReadsTo bytes at (ColonAt frames x q.s) in
    subst P (sym a.1) (skipped bytes end at _ (string_read bytes place end (FirstNameAt frames) (ColonAt frames no_members q.s) a.0 q (λ extra ts j x. FirstName-tokens (127 - suc (length frames) + extra) frames (quoted q.s ∷ ts) j x) (λ extra ts j x. tokens-FirstName (127 - suc (length frames) + extra) frames (quoted q.s ∷ ts) j x)) s)
colon_read bytes place end at frames front q s (inr a) =
    skipped bytes end at _ (string_read bytes place end (NextNameAt frames front) (ColonAt frames front q.s) a q (λ extra ts j x. NextName-tokens (127 - suc (length frames) + extra) frames front (quoted q.s ∷ ts) j x) (λ extra ts j x. name-NextName (127 - suc (length frames) + extra) frames front q.s ts j x)) s

pub name_refused : (bytes : List ℕ) (place : ℕ) (frames : List Frame) (front : Members) (e : JsonNo) → AtName bytes place frames front → QuotedFails bytes place e → Refuses bytes e
name_refused bytes place frames front e (inl a) q = string_refused bytes place (FirstNameAt frames) e a.0 (alive_first_name (127 - suc (length frames) + 0) frames) q
name_refused bytes place frames front e (inr a) q = string_refused bytes place (NextNameAt frames front) e a (alive_next_name (127 - suc (length frames) + 0) frames front) q

pub colon_cut : (bytes : List ℕ) (place end at : ℕ) (frames : List Frame) (front : Members) → QuotedTo bytes place end → Skips bytes end at → at ≡ length bytes → AtName bytes place frames front → Refuses bytes Cut
colon_cut bytes place end at frames front q s e a = cut_colon bytes at frames front q.s (colon_read bytes place end at frames front q s a) (no_bytes bytes at (omega arith))

colon_class : (b : ℕ) → (b ≡ 58 → ⊥) → (class b == 58) ≡ false
colon_class b h = grind (arith, nat_tests)

pub colon_breaks : (bytes : List ℕ) (place end at : ℕ) (frames : List Frame) (front : Members) → QuotedTo bytes place end → (s : Skips bytes end at) → at < length bytes → (get_or bytes at 0 ≡ 58 → ⊥) → AtName bytes place frames front → Refuses bytes (BadByte at)
colon_breaks bytes place end at frames front q s l n a = bad_colon bytes at frames front q.s (get_or bytes at 0) (drop (at + 1) bytes) (colon_read bytes place end at frames front q s a) (byte_first bytes at (get_or bytes at 0) l refl) (s.stops l) (colon_class (get_or bytes at 0) n)

-- ---- a bracket closes

-- the node of an array or an object, whose source text began with its bracket
pub closed_end : (bytes : List ℕ) (to start end k : ℕ) (nodes new : List Node) (source now last : List ℕ) (opens : List Open) (frames : List Frame) (form : Form) (j : Json) → ReadsTo bytes to (AfterAt frames j) → Holds nodes source opens frames → length frames ≤ 127
    → now ≡ source ++ last → now ≡ opened frames ++ compact j → start ≡ length (opened frames) → end ≡ length now → new ≡ nodes ++ (record { start = start; end = end; form = form } ∷ []) → k ≡ length nodes → AreTokens (tokens j)
    → ((n : Node) → n.form ≡ form → IsNode new now k n j → StandsIn new now k j) → AtEnd bytes to k new now opens
closed_end bytes to start end k nodes new source now last opens frames form j r hs few e g b z f d v make =
    let n : Node = record { start = start; end = end; form = form } in
    let P : List Node → Type 0 = λ x. Holds x now opens frames in
    let Q : List ℕ → Type 0 = λ x. Holds (nodes ++ (n ∷ [])) x opens frames in
    let I : List Node → Type 0 = λ x. IsNode x now k n j in
    let K : ℕ → Type 0 = λ x. IsNode (nodes ++ (n ∷ [])) now x n j in
    record {
      frames = frames;
      value = j;
      reads = r;
      holds = subst P (sym f) (subst Q (sym e) (Holds-grown nodes (n ∷ []) source last opens frames hs));
      source_is = g;
      few = few;
      stands = make n refl (subst I (sym f) (subst K (sym d) (new_node nodes (opened frames) (compact j) now n j g b z refl v)));
    }

-- ---- behind an item

pub item_cut : (bytes : List ℕ) (place start at : ℕ) (items : List ℕ) (nodes : List Node) (source : List ℕ) (opens : List Open) → BehindItem bytes place start items nodes source opens → Skips bytes place at → at ≡ length bytes → Refuses bytes Cut
item_cut bytes place start at items nodes source opens b s e = cut_item bytes at b.frames b.front b.value (skipped bytes place at _ b.reads s) (no_bytes bytes at (omega arith))

item_class : (b : ℕ) → (b ≡ 44 → ⊥) → (b ≡ 93 → ⊥) → item_codes (class b) ≡ false
item_class b h k = grind (arith, nat_tests)

pub item_breaks : (bytes : List ℕ) (place start at : ℕ) (items : List ℕ) (nodes : List Node) (source : List ℕ) (opens : List Open) → BehindItem bytes place start items nodes source opens → (s : Skips bytes place at) → at < length bytes → (get_or bytes at 0 ≡ 44 → ⊥) → (get_or bytes at 0 ≡ 93 → ⊥) → Refuses bytes (BadByte at)
item_breaks bytes place start at items nodes source opens b s l h k = bad_item bytes at b.frames b.front b.value (get_or bytes at 0) (drop (at + 1) bytes) (skipped bytes place at _ b.reads s) (byte_first bytes at (get_or bytes at 0) l refl) (s.stops l) (item_class (get_or bytes at 0) h k)

pub item_follows : (bytes : List ℕ) (place start at : ℕ) (items : List ℕ) (nodes : List Node) (source now : List ℕ) (opens new : List Open) (o : Open) → (b : BehindItem bytes place start items nodes source opens) → Skips bytes place at → at < length bytes → get_or bytes at 0 ≡ 44
    → now ≡ source ++ (44 ∷ []) → new ≡ opens ++ (o ∷ []) → ((start ≡ length (opened b.frames)) → ItemsIn nodes now items (join_items b.front (item b.value no_items)) → HoldsOne nodes now (length (opened b.frames)) o (in_array (join_items b.front (item b.value no_items)))) → AtValue bytes (at + 1) false nodes now new
item_follows bytes place start at items nodes source now opens new o b s l c e f h = record {
  frames = in_array (join_items b.front (item b.value no_items)) ∷ b.frames;
  reads = next_item bytes at b.frames b.front b.value (drop (at + 1) bytes) (skipped bytes place at _ b.reads s) (byte_first bytes at 44 l c);
  holds = (opens, o, f, h b.begins (items_source nodes items _ source now (44 ∷ []) e b.items_in), holds_source nodes opens b.frames source now (44 ∷ []) e b.holds);
  source_is = e ∙ (ap (λ x. x ++ (44 ∷ [])) b.source_is
      ∙ (append_assoc (opened b.frames ++ (91 ∷ listed b.front)) (compact b.value) (44 ∷ [])
      ∙ (append_assoc (opened b.frames) (91 ∷ listed b.front) (compact b.value ++ (44 ∷ []))
      ∙ ap (λ x. opened b.frames ++ (91 ∷ x)) (sym (listed-join b.front b.value)))));
  few = b.few;
  begun = λ z. absurd (false≢true z);
}

pub array_closes : (bytes : List ℕ) (place start at k : ℕ) (items : List ℕ) (nodes new : List Node) (source now : List ℕ) (opens : List Open) (form : Form) → (b : BehindItem bytes place start items nodes source opens) → Skips bytes place at → at < length bytes → get_or bytes at 0 ≡ 93
    → now ≡ source ++ (93 ∷ []) → new ≡ nodes ++ (record { start = start; end = length source + 1; form = form } ∷ []) → k ≡ length nodes → items_of form ≡ Some items → AtEnd bytes (at + 1) k new now opens
array_closes bytes place start at k items nodes new source now opens form b s l c e f d o =
    let js = join_items b.front (item b.value no_items) in
    let text_is : now ≡ opened b.frames ++ compact (array js) = e ∙ (ap (λ x. x ++ (93 ∷ [])) b.source_is
    ∙ (append_assoc (opened b.frames ++ (91 ∷ listed b.front)) (compact b.value) (93 ∷ [])
    ∙ (append_assoc (opened b.frames) (91 ∷ listed b.front) (compact b.value ++ (93 ∷ []))
    ∙ ap (λ x. opened b.frames ++ (91 ∷ x)) (sym (items_text b.front b.value))))) in
    let end_is : length source + 1 ≡ length now = sym (ap length e ∙ length-append source (93 ∷ [])) in
    let N : Node = record { start = start; end = length source + 1; form = form } in
    let held : ItemsIn new now items js =
    let P : List Node → Type 0 = λ x. ItemsIn x now items js in
    let Q : List ℕ → Type 0 = λ x. ItemsIn (nodes ++ (N ∷ [])) x items js in
    subst P (sym f) (subst Q (sym e) (Items-grown nodes (N ∷ []) source (93 ∷ []) items js b.items_in)) in
    closed_end bytes (at + 1) start (length source + 1) k nodes new source now (93 ∷ []) opens b.frames form (array js)
    (close_array bytes at b.frames b.front b.value (drop (at + 1) bytes) (skipped bytes place at _ b.reads s) b.few (byte_first bytes at 93 l c)) b.holds (let few = b.few in omega arith)
    e text_is b.begins end_is f d (tt, items_valid nodes source items js b.items_in)
    (let B : ℕ → Type 0 = λ x. All (λ c. c < x) items in let low = subst B (sym d) (items_below nodes source items js b.items_in) in λ n g i. (n, i, items, ap items_of g ∙ o, low, held))

-- ---- behind a member

pub member_cut : (bytes : List ℕ) (place start at : ℕ) (members : List Member) (nodes : List Node) (source : List ℕ) (opens : List Open) → BehindMember bytes place start members nodes source opens → Skips bytes place at → at ≡ length bytes → Refuses bytes Cut
member_cut bytes place start at members nodes source opens b s e = cut_member bytes at b.frames b.front b.s b.value (skipped bytes place at _ b.reads s) (no_bytes bytes at (omega arith))

member_class : (b : ℕ) → (b ≡ 44 → ⊥) → (b ≡ 125 → ⊥) → member_codes (class b) ≡ false
member_class b h k = grind (arith, nat_tests)

pub member_breaks : (bytes : List ℕ) (place start at : ℕ) (members : List Member) (nodes : List Node) (source : List ℕ) (opens : List Open) → BehindMember bytes place start members nodes source opens → (s : Skips bytes place at) → at < length bytes → (get_or bytes at 0 ≡ 44 → ⊥) → (get_or bytes at 0 ≡ 125 → ⊥) → Refuses bytes (BadByte at)
member_breaks bytes place start at members nodes source opens b s l h k = bad_member bytes at b.frames b.front b.s b.value (get_or bytes at 0) (drop (at + 1) bytes) (skipped bytes place at _ b.reads s) (byte_first bytes at (get_or bytes at 0) l refl) (s.stops l) (member_class (get_or bytes at 0) h k)

pub member_moves : (bytes : List ℕ) (place start at : ℕ) (members : List Member) (nodes : List Node) (source : List ℕ) (opens : List Open) → BehindMember bytes place start members nodes source opens → Skips bytes place at → BehindMember bytes at start members nodes source opens
member_moves bytes place start at members nodes source opens b s = record {
  frames = b.frames;
  front = b.front;
  s = b.s;
  value = b.value;
  reads = skipped bytes place at _ b.reads s;
  begins = b.begins;
  members_in = b.members_in;
  holds = b.holds;
  source_is = b.source_is;
  few = b.few;
}

pub object_closes : (bytes : List ℕ) (place start at k : ℕ) (members : List Member) (nodes new : List Node) (source now : List ℕ) (opens : List Open) (form : Form) → (b : BehindMember bytes place start members nodes source opens) → Skips bytes place at → at < length bytes → get_or bytes at 0 ≡ 125
    → now ≡ source ++ (125 ∷ []) → new ≡ nodes ++ (record { start = start; end = length source + 1; form = form } ∷ []) → k ≡ length nodes → members_of form ≡ Some members → AtEnd bytes (at + 1) k new now opens
object_closes bytes place start at k members nodes new source now opens form b s l c e f d o =
    let ms = join_members b.front (member b.s b.value no_members) in
    let text_is : now ≡ opened b.frames ++ compact (object ms) = e ∙ (ap (λ x. x ++ (125 ∷ [])) b.source_is
    ∙ (append_assoc (opened b.frames ++ (123 ∷ (named b.front ++ (quote b.s ++ (58 ∷ []))))) (compact b.value) (125 ∷ [])
    ∙ (append_assoc (opened b.frames) (123 ∷ (named b.front ++ (quote b.s ++ (58 ∷ [])))) (compact b.value ++ (125 ∷ []))
    ∙ ap (λ x. opened b.frames ++ (123 ∷ x)) (append_assoc (named b.front) (quote b.s ++ (58 ∷ [])) (compact b.value ++ (125 ∷ []))
    ∙ (ap (λ x. named b.front ++ x) (append_assoc (quote b.s) (58 ∷ []) (compact b.value ++ (125 ∷ []))) ∙ sym (members_text b.front b.s b.value)))))) in
    let end_is : length source + 1 ≡ length now = sym (ap length e ∙ length-append source (125 ∷ [])) in
    let N : Node = record { start = start; end = length source + 1; form = form } in
    let held : MembersIn new now members ms =
    let P : List Node → Type 0 = λ x. MembersIn x now members ms in
    let Q : List ℕ → Type 0 = λ x. MembersIn (nodes ++ (N ∷ [])) x members ms in
    subst P (sym f) (subst Q (sym e) (Members-grown nodes (N ∷ []) source (125 ∷ []) members ms b.members_in)) in
    closed_end bytes (at + 1) start (length source + 1) k nodes new source now (125 ∷ []) opens b.frames form (object ms)
    (close_object bytes at b.frames b.front b.s b.value (drop (at + 1) bytes) (skipped bytes place at _ b.reads s) b.few (byte_first bytes at 125 l c)) b.holds (let few = b.few in omega arith)
    e text_is b.begins end_is f d (tt, members_valid nodes source members ms b.members_in)
    (let B : ℕ → Type 0 = λ x. All (λ m. m.node < x) members in let low = subst B (sym d) (members_below nodes source members ms b.members_in) in λ n g i. (n, i, members, ap members_of g ∙ o, low, held))

-- ---- a comma behind a member, and the name behind it

pub comma_read : (bytes : List ℕ) (place start at : ℕ) (members : List Member) (nodes : List Node) (source : List ℕ) (opens : List Open) → (b : BehindMember bytes place start members nodes source opens) → place < length bytes → get_or bytes place 0 ≡ 44 → Skips bytes (place + 1) at
    → ReadsTo bytes at (NextNameAt b.frames (join_members b.front (member b.s b.value no_members)))
comma_read bytes place start at members nodes source opens b l c s = skipped bytes (place + 1) at _ (next_member bytes place b.frames b.front b.s b.value (drop (place + 1) bytes) b.reads (byte_first bytes place 44 l c)) s

pub next_name_cut : (bytes : List ℕ) (place start at : ℕ) (members : List Member) (nodes : List Node) (source : List ℕ) (opens : List Open) → BehindMember bytes place start members nodes source opens → place < length bytes → get_or bytes place 0 ≡ 44 → Skips bytes (place + 1) at → at ≡ length bytes → Refuses bytes Cut
next_name_cut bytes place start at members nodes source opens b l c s e = cut_next_name bytes at b.frames _ (comma_read bytes place start at members nodes source opens b l c s) (no_bytes bytes at (omega arith))

next_name_class : (b : ℕ) → (b ≡ 34 → ⊥) → (class b == 34) ≡ false
next_name_class b h = grind (arith, nat_tests)

pub next_name_breaks : (bytes : List ℕ) (place start at : ℕ) (members : List Member) (nodes : List Node) (source : List ℕ) (opens : List Open) → BehindMember bytes place start members nodes source opens → place < length bytes → get_or bytes place 0 ≡ 44 → (s : Skips bytes (place + 1) at) → at < length bytes → (get_or bytes at 0 ≡ 34 → ⊥) → Refuses bytes (BadByte at)
next_name_breaks bytes place start at members nodes source opens b l c s m h =
    bad_next_name bytes at b.frames _ (get_or bytes at 0) (drop (at + 1) bytes) (comma_read bytes place start at members nodes source opens b l c s) (byte_first bytes at (get_or bytes at 0) m refl) (s.stops m) (next_name_class (get_or bytes at 0) h)

pub next_name_at : (bytes : List ℕ) (place start at : ℕ) (members : List Member) (nodes : List Node) (source : List ℕ) (opens : List Open) → (b : BehindMember bytes place start members nodes source opens) → place < length bytes → get_or bytes place 0 ≡ 44 → Skips bytes (place + 1) at
    → AtName bytes at b.frames (join_members b.front (member b.s b.value no_members))
next_name_at bytes place start at members nodes source opens b l c s = inr (comma_read bytes place start at members nodes source opens b l c s)

pub member_follows : (bytes : List ℕ) (place start at end : ℕ) (members : List Member) (nodes : List Node) (source mid now name : List ℕ) (opens new : List Open) (o : Open) → (b : BehindMember bytes place start members nodes source opens) → place < length bytes → get_or bytes place 0 ≡ 44 → Skips bytes (place + 1) at
    → mid ≡ source ++ (44 ∷ []) → (n : NamedTo bytes at end name mid now) → new ≡ opens ++ (o ∷ [])
    → ((start ≡ length (opened b.frames)) → MembersIn nodes now members (join_members b.front (member b.s b.value no_members)) → name ≡ content n.s → IsChars n.s → HoldsOne nodes now (length (opened b.frames)) o (in_object (join_members b.front (member b.s b.value no_members)) n.s)) → AtValue bytes end false nodes now new
member_follows bytes place start at end members nodes source mid now name opens new o b l c s e n f h =
    let ms = join_members b.front (member b.s b.value no_members) in
    let text_is : mid ≡ opened b.frames ++ (123 ∷ named ms) = e ∙ (ap (λ x. x ++ (44 ∷ [])) b.source_is
    ∙ (append_assoc (opened b.frames ++ (123 ∷ (named b.front ++ (quote b.s ++ (58 ∷ []))))) (compact b.value) (44 ∷ [])
    ∙ (append_assoc (opened b.frames) (123 ∷ (named b.front ++ (quote b.s ++ (58 ∷ [])))) (compact b.value ++ (44 ∷ []))
    ∙ ap (λ x. opened b.frames ++ (123 ∷ x)) (append_assoc (named b.front) (quote b.s ++ (58 ∷ [])) (compact b.value ++ (44 ∷ []))
    ∙ (ap (λ x. named b.front ++ x) (append_assoc (quote b.s) (58 ∷ []) (compact b.value ++ (44 ∷ []))) ∙ sym (named-join b.front b.s b.value)))))) in
    let held = members_source nodes members ms mid now (quote n.s ++ (58 ∷ [])) n.source_is (members_source nodes members ms source mid (44 ∷ []) e b.members_in) in
    member_begins bytes end nodes mid now opens new o b.frames ms n.s (n.reads b.frames ms (next_name_at bytes place start at members nodes source opens b l c s)) (holds_source nodes opens b.frames source mid (44 ∷ []) e b.holds) b.few n.source_is text_is f (h b.begins held n.means n.valid)

-- ---- the first name of an object, or its end

pub first_name_at : (bytes : List ℕ) (place at : ℕ) (nodes : List Node) (source : List ℕ) (opens : List Open) → (a : AtAny bytes place nodes source opens) → place < length bytes → get_or bytes place 0 ≡ 123 → length opens < 127 → Skips bytes (place + 1) at → AtName bytes at a.at.frames no_members
first_name_at bytes place at nodes source opens a l b few s = inl (object_begins bytes place at nodes source opens a l b few s, refl)

pub first_member : (bytes : List ℕ) (place at end : ℕ) (nodes : List Node) (source mid now name : List ℕ) (opens new : List Open) (o : Open) → (a : AtAny bytes place nodes source opens) → place < length bytes → get_or bytes place 0 ≡ 123 → length opens < 127 → Skips bytes (place + 1) at
    → mid ≡ source ++ (123 ∷ []) → (n : NamedTo bytes at end name mid now) → new ≡ opens ++ (o ∷ []) → (name ≡ content n.s → IsChars n.s → HoldsOne nodes now (length source) o (in_object no_members n.s)) → AtValue bytes end false nodes now new
first_member bytes place at end nodes source mid now name opens new o a l b few s e n f h =
    let k = holds_length nodes source opens a.at.frames a.at.holds in
    let P : ℕ → Type 0 = λ x. HoldsOne nodes now x o (in_object no_members n.s) in
    member_begins bytes end nodes mid now opens new o a.at.frames no_members n.s (n.reads a.at.frames no_members (first_name_at bytes place at nodes source opens a l b few s)) (holds_source nodes opens a.at.frames source mid (123 ∷ []) e a.at.holds) (omega arith) n.source_is
    (e ∙ ap (λ x. x ++ (123 ∷ [])) a.at.source_is) f (subst P (ap length a.at.source_is) (h n.means n.valid))

pub empty_object : (bytes : List ℕ) (place at start k : ℕ) (nodes new : List Node) (source mid now : List ℕ) (opens : List Open) (form : Form) → (a : AtAny bytes place nodes source opens) → place < length bytes → get_or bytes place 0 ≡ 123 → length opens < 127 → Skips bytes (place + 1) at → at < length bytes → get_or bytes at 0 ≡ 125
    → mid ≡ source ++ (123 ∷ []) → now ≡ mid ++ (125 ∷ []) → start ≡ length source → new ≡ nodes ++ (record { start = start; end = length mid + 1; form = form } ∷ []) → k ≡ length nodes → members_of form ≡ Some [] → AtEnd bytes (at + 1) k new now opens
empty_object bytes place at start k nodes new source mid now opens form a l b few s m c e g z f d o =
    let n = holds_length nodes source opens a.at.frames a.at.holds in
    let text_is : now ≡ opened a.at.frames ++ (123 ∷ (125 ∷ [])) = g ∙ (ap (λ x. x ++ (125 ∷ [])) e ∙ (append_assoc source (123 ∷ []) (125 ∷ []) ∙ ap (λ x. x ++ (123 ∷ (125 ∷ []))) a.at.source_is)) in
    let end_is : length mid + 1 ≡ length now = sym (ap length g ∙ length-append mid (125 ∷ [])) in
    closed_end bytes (at + 1) start (length mid + 1) k nodes new source now (123 ∷ (125 ∷ [])) opens a.at.frames form (object no_members)
    (close_empty_object bytes at a.at.frames (drop (at + 1) bytes) (object_begins bytes place at nodes source opens a l b few s) (omega arith) (byte_first bytes at 125 m c)) a.at.holds a.at.few
    (g ∙ (ap (λ x. x ++ (125 ∷ [])) e ∙ append_assoc source (123 ∷ []) (125 ∷ []))) text_is (z ∙ ap length a.at.source_is) end_is f d (tt, (tt, tt))
    (λ x y i. (x, i, [], ap members_of y ∙ o, no_below (λ (m : Member). m.node < k), refl))

-- ---- where a value comes

pub value_moves : (bytes : List ℕ) (place at : ℕ) (first : Bool) (nodes : List Node) (source : List ℕ) (opens : List Open) → AtValue bytes place first nodes source opens → Skips bytes place at → AtValue bytes at first nodes source opens
value_moves bytes place at first nodes source opens a s = record { frames = a.frames; reads = skipped bytes place at _ a.reads s; holds = a.holds; source_is = a.source_is; few = a.few; begun = a.begun }

pub value_cut : (bytes : List ℕ) (place at : ℕ) (first : Bool) (nodes : List Node) (source : List ℕ) (opens : List Open) → AtValue bytes place first nodes source opens → Skips bytes place at → at ≡ length bytes → Refuses bytes Cut
value_cut bytes place at first nodes source opens a s e = cut_value bytes at (Expect first a.frames) a.frames (skipped bytes place at _ a.reads s) (expect_values first a.frames) (no_bytes bytes at (omega arith))

pub value_closes : (bytes : List ℕ) (place at : ℕ) (first : Bool) (nodes : List Node) (source : List ℕ) (opens : List Open) → AtValue bytes place first nodes source opens → Skips bytes place at → at < length bytes → get_or bytes at 0 ≡ 93 → first ≡ false → Refuses bytes (BadByte at)
value_closes bytes place at first nodes source opens a s l b e =
    let P : Bool → Type 0 = λ f. ReadsTo bytes at (Expect f a.frames) in
    bad_close bytes at a.frames (drop (at + 1) bytes) (subst P e (skipped bytes place at _ a.reads s)) (byte_first bytes at 93 l b)

value_class : (b : ℕ) → (b ≡ 34 → ⊥) → begins_number b ≡ false → (b ≡ 123 → ⊥) → (b ≡ 91 → ⊥) → (b ≡ 116 → ⊥) → (b ≡ 102 → ⊥) → (b ≡ 110 → ⊥) → value_codes (class b) ≡ false
value_class b h n i j k l m = ap (λ t. value_codes (cond t 48 b)) n ∙ grind (arith, nat_tests)

close_class : (b : ℕ) → (b ≡ 93 → ⊥) → begins_number b ≡ false → (class b == 93) ≡ false
close_class b h n = ap (λ t. cond t 48 b == 93) n ∙ grind (arith, nat_tests)

pub value_breaks : (bytes : List ℕ) (place : ℕ) (nodes : List Node) (source : List ℕ) (opens : List Open) → AtAny bytes place nodes source opens → place < length bytes → is_blank (get_or bytes place 0) ≡ false → (get_or bytes place 0 ≡ 93 → ⊥) → (get_or bytes place 0 ≡ 34 → ⊥) → begins_number (get_or bytes place 0) ≡ false
    → (get_or bytes place 0 ≡ 123 → ⊥) → (get_or bytes place 0 ≡ 91 → ⊥) → (get_or bytes place 0 ≡ 116 → ⊥) → (get_or bytes place 0 ≡ 102 → ⊥) → (get_or bytes place 0 ≡ 110 → ⊥) → Refuses bytes (BadByte place)
value_breaks bytes place nodes source opens a l n x h d i j k m o =
    let b = get_or bytes place 0 in
    bad_value bytes place (Expect a.first a.at.frames) a.at.frames b (drop (place + 1) bytes) a.at.reads (expect_values a.first a.at.frames) (byte_first bytes place b l refl) n (close_class b x d) (value_class b h d i j k m o)

pub then_after_err : (bytes : List ℕ) (r : Result (ℕ × ℕ) JsonNo) (q : Result (Next × ℕ) JsonNo) → q ≡ then_after r → IfErr r (Refuses bytes) → IfErr q (Refuses bytes)
then_after_err bytes (Ok x) q e h = let P : Result (Next × ℕ) JsonNo → Type 0 = λ y. IfErr y (Refuses bytes) in subst P (sym e) tt
then_after_err bytes (Err x) q e h = let P : Result (Next × ℕ) JsonNo → Type 0 = λ y. IfErr y (Refuses bytes) in subst P (sym e) h

pub then_after_ok : (bytes : List ℕ) (nodes : List Node) (source : List ℕ) (opens : List Open) (r : Result (ℕ × ℕ) JsonNo) (q : Result (Next × ℕ) JsonNo) (P : ℕ × ℕ → Type 0) → q ≡ then_after r → IfOk r P → ((x : ℕ × ℕ) → P x → AtEnd bytes x.1 x.0 nodes source opens) → IfOk q (λ x. At bytes x.0 x.1 nodes source opens)
then_after_ok bytes nodes source opens (Ok x) q P e h f = let Q : Result (Next × ℕ) JsonNo → Type 0 = λ y. IfOk y (λ x. At bytes x.0 x.1 nodes source opens) in subst Q (sym e) (f x h)
then_after_ok bytes nodes source opens (Err x) q P e h f = let Q : Result (Next × ℕ) JsonNo → Type 0 = λ y. IfOk y (λ x. At bytes x.0 x.1 nodes source opens) in subst Q (sym e) tt

pub err_any : (bytes : List ℕ) (place : ℕ) (nodes : List Node) (source : List ℕ) (opens : List Open) (r : Result (ℕ × ℕ) JsonNo) → IfErr r (λ e. (o : List Open) → AtAny bytes place nodes source o → Refuses bytes e) → AtAny bytes place nodes source opens → IfErr r (Refuses bytes)
err_any bytes place nodes source opens (Ok x) h a = tt
err_any bytes place nodes source opens (Err e) h a = h opens a

pub word_ok : (bytes : List ℕ) (place : ℕ) (nodes new : List Node) (source now : List ℕ) (opens : List Open) (word : List ℕ) (form : Form) (r : Result (ℕ × ℕ) JsonNo) (q : Result (Next × ℕ) JsonNo) → q ≡ then_after r → IfOk r (λ x. WordTo bytes word place x.1 × Adds nodes new source word form now x.0)
    → ((to k : ℕ) → WordTo bytes word place to → Adds nodes new source word form now k → AtEnd bytes to k new now opens) → IfOk q (λ x. At bytes x.0 x.1 new now opens)
word_ok bytes place nodes new source now opens word form r q e h f = then_after_ok bytes new now opens r q (λ x. WordTo bytes word place x.1 × Adds nodes new source word form now x.0) e h (λ x y. f x.1 x.0 y.0 y.1)

pub word_err : (bytes : List ℕ) (place : ℕ) (word : List ℕ) (r : Result (ℕ × ℕ) JsonNo) (q : Result (Next × ℕ) JsonNo) → q ≡ then_after r → IfErr r (WordStops bytes word place) → ((e : JsonNo) → WordFails bytes word place e → Refuses bytes e) → IfErr q (Refuses bytes)
word_err bytes place word (Ok x) q e h f = then_after_err bytes (Ok x) q e tt
word_err bytes place word (Err x) q e h f = then_after_err bytes (Err x) q e (stops x h)
  where
    stops : (y : JsonNo) → WordStops bytes word place y → Refuses bytes y
    stops (BadByte at) w = f (BadByte at) w
    stops Cut w = f Cut w
    stops TooDeep w = absurd w
    stops Want w = tt

pub word_stops : (bytes word : List ℕ) (place : ℕ) (e : JsonNo) → WordFails bytes word place e → WordStops bytes word place e
word_stops bytes word place (BadByte at) w = w
word_stops bytes word place Cut w = w
word_stops bytes word place TooDeep w = absurd w
word_stops bytes word place Want w = tt

-- ---- the end of an array that has just begun

pub array_ends : (bytes : List ℕ) (place k : ℕ) (nodes new : List Node) (source now : List ℕ) (opens outer : List Open) (start : ℕ) (o : Open) (items : List ℕ) (form : Form) → AtValue bytes place true nodes source opens → place < length bytes → get_or bytes place 0 ≡ 93 → opens ≡ outer ++ (o ∷ [])
    → ((at : ℕ) → HoldsOne nodes source at o (in_array no_items) → (start ≡ at) × (items ≡ [])) → now ≡ source ++ (93 ∷ []) → new ≡ nodes ++ (record { start = start; end = length source + 1; form = form } ∷ []) → k ≡ length nodes → items_of form ≡ Some items → AtEnd bytes (place + 1) k new now outer
array_ends bytes place k nodes new source now opens outer start o items form a l b e h g f d m = from a.frames a.reads a.holds a.source_is a.few (a.begun refl)
  where
    from : (frames : List Frame) → ReadsTo bytes place (Expect true frames) → Holds nodes source opens frames → source ≡ opened frames → length frames ≤ 127 → (w : List Frame) × (frames ≡ in_array no_items ∷ w) → AtEnd bytes (place + 1) k new now outer
    from frames r hs t few (w, x) =
        let R : List Frame → Type 0 = λ y. ReadsTo bytes place (Expect true y) in
        let H : List Frame → Type 0 = λ y. Holds nodes source opens y in
        let held = let z : Holds nodes source opens (in_array no_items ∷ w) = subst H x hs in z in
        let same = same_from_push held.0 outer held.1 o (sym held.2 ∙ e) in
        let O : Open → Type 0 = λ y. HoldsOne nodes source (length (opened w)) y (in_array no_items) in
        let one = h (length (opened w)) (subst O same.1 held.3) in
        let P : List Open → Type 0 = λ y. Holds nodes source y w in
        let source_is : source ≡ opened w ++ (91 ∷ []) = t ∙ ap opened x in
        let text_is : now ≡ opened w ++ (91 ∷ (93 ∷ [])) = g ∙ (ap (λ y. y ++ (93 ∷ [])) source_is ∙ append_assoc (opened w) (91 ∷ []) (93 ∷ [])) in
        let end_is : length source + 1 ≡ length now = sym (ap length g ∙ length-append source (93 ∷ [])) in
        let n : length frames ≡ suc (length w) = ap length x in
        closed_end bytes (place + 1) start (length source + 1) k nodes new source now (93 ∷ []) outer w form (array no_items)
        (close_empty_array bytes place w (drop (place + 1) bytes) (subst R x r) (byte_first bytes place 93 l b)) (subst P same.0 held.4) (omega arith) g text_is one.0 end_is f d (tt, (tt, tt))
        (λ y z i. (y, i, [], ap items_of z ∙ (m ∙ ap Some one.1), no_below (λ (c : ℕ). c < k), refl))

-- ---- behind a value

pub end_pops : (bytes : List ℕ) (place node : ℕ) (nodes : List Node) (source : List ℕ) (opens outer : List Open) (o : Open) → AtEnd bytes place node nodes source opens → opens ≡ outer ++ (o ∷ []) → BehindOpen bytes place node nodes source outer o
end_pops bytes place node nodes source opens outer o a e = from a.frames a.reads a.holds a.source_is a.few
  where
    some : (xs : List Open) → [] ≡ xs ++ (o ∷ []) → ⊥
    some [] h = cc
    some (x ∷ xs) h = cc

    behind : (frames : List Frame) (f : Frame) (o : Open) → ReadsTo bytes place (AfterAt (f ∷ frames) a.value) → HoldsOne nodes source (length (opened frames)) o f → Holds nodes source outer frames → source ≡ opened (f ∷ frames) ++ compact a.value → length frames < 127 → BehindOpen bytes place node nodes source outer o
    behind frames (in_array front) (InArray begins v) r h hs t few = λ items d. record { frames = frames; front = front; value = a.value; reads = r; begins = h.0; items_in = (let P : List ℕ → Type 0 = λ x. ItemsIn nodes source x (join_items front (item a.value no_items)) in subst P (sym d) (items_push nodes source v.items front node a.value h.1 a.stands)); holds = hs; source_is = t; few = few }
    behind frames (in_object front s) (InObject begins v name) r h hs t few = λ members m x y d. record {
      frames = frames;
      front = front;
      s = s;
      value = a.value;
      reads = r;
      begins = h.0;
      members_in = (let P : List Member → Type 0 = λ z. MembersIn nodes source z (join_members front (member s a.value no_members)) in let K : ℕ → Type 0 = λ z. StandsIn nodes source z a.value in subst P (sym d) (members_push nodes source v.items front m s a.value h.1 (y ∙ h.2) h.3 (subst K (sym x) a.stands)));
      holds = hs;
      source_is = t;
      few = few;
    }
    behind frames (in_array front) (InObject begins v name) r h hs t few = absurd h
    behind frames (in_object front s) (InArray begins v) r h hs t few = absurd h

    from : (frames : List Frame) → ReadsTo bytes place (AfterAt frames a.value) → Holds nodes source opens frames → source ≡ opened frames ++ compact a.value → length frames ≤ 127 → BehindOpen bytes place node nodes source outer o
    from [] r hs t few = absurd (some outer (sym hs ∙ e))
    from (f ∷ frames) r hs t few =
        let same = same_from_push hs.0 outer hs.1 o (sym hs.2 ∙ e) in
        let O : Open → Type 0 = λ y. HoldsOne nodes source (length (opened frames)) y f in
        let P : List Open → Type 0 = λ y. Holds nodes source y frames in
        behind frames f o r (subst O same.1 hs.3) (subst P same.0 hs.4) t (omega arith)

-- ---- an item put in place

record Split (xs : List Open) : Type 0 where
  outer : List Open
  o : Open
  is : xs ≡ outer ++ (o ∷ [])

split_last : (x : Open) (xs : List Open) → Split (x ∷ xs)
split_last x [] = record { outer = []; o = x; is = refl }
split_last x (y ∷ ys) = let s = split_last y ys in record { outer = x ∷ s.outer; o = s.o; is = ap (λ z. x ∷ z) s.is }

split_some : (xs : List Open) → 0 < length xs → Split xs
split_some [] h = absurd (omega arith)
split_some (x ∷ xs) h = split_last x xs

pub pushed : (node n : ℕ) (opens : List Open) (top new : Open) (r : Result Bool JsonNo) → n ≡ length opens → 0 < n → top ≡ get_or opens (n - 1) top → IfOk r (AddsItem node top new) → IfOk r (PushesItem node opens (set opens (n - 1) new))
pushed node n opens top new (Err e) k l t h = tt
pushed node n opens top new (Ok done) k l t h = from done (split_some opens (omega arith)) h
  where
    from : (done : Bool) → Split opens → AddsItem node top new done → PushesItem node opens (set opens (n - 1) new) done
    from done s a =
        let size : n - 1 ≡ length s.outer = let z = ap length s.is ∙ length-append s.outer (s.o ∷ []) in omega arith in
        let last : top ≡ s.o = t ∙ ((λ i. get_or (s.is i) (size i) top) ∙ get_or-append_seam s.outer s.o [] top) in
        let after : (x : Open) → set opens (n - 1) x ≡ s.outer ++ (x ∷ []) = λ x. (λ i. set (s.is i) (size i) x) ∙ set-append_seam s.outer s.o [] x in
        pick done (s.is ∙ ap (λ x. s.outer ++ (x ∷ [])) (sym last)) after a
      where
        pick : (done : Bool) → opens ≡ s.outer ++ (top ∷ []) → ((x : Open) → set opens (n - 1) x ≡ s.outer ++ (x ∷ [])) → AddsItem node top new done → PushesItem node opens (set opens (n - 1) new) done
        pick true e f a = (s.outer, top, new, e, f new, a)
        pick false e f a = ap (λ x. set opens (n - 1) x) a ∙ (f top ∙ sym e)

-- nothing was done
pub end_same : (bytes : List ℕ) (place node : ℕ) (nodes : List Node) (source now : List ℕ) (opens new : List Open) → now ≡ source → new ≡ opens → AtEnd bytes place node nodes source opens → AtEnd bytes place node nodes now new
end_same bytes place node nodes source now opens new e f a =
    let P : List ℕ → Type 0 = λ x. AtEnd bytes place node nodes x new in
    let Q : List Open → Type 0 = λ x. AtEnd bytes place node nodes source x in
    subst P (sym e) (subst Q (sym f) a)

pub item_placed : (bytes : List ℕ) (place node at : ℕ) (nodes : List Node) (source now : List ℕ) (opens new : List Open) → Skips bytes place at → at < length bytes → get_or bytes at 0 ≡ 44 → now ≡ source ++ (44 ∷ []) → PushesItem node opens new true → AtEnd bytes place node nodes source opens → AtValue bytes (at + 1) false nodes now new
item_placed bytes place node at nodes source now opens new s l c e (outer, o, p, is, is_now, add) a = from o p is is_now add
  where
    from : (o p : Open) → opens ≡ outer ++ (o ∷ []) → new ≡ outer ++ (p ∷ []) → AddsItem node o p true → AtValue bytes (at + 1) false nodes now new
    from (InArray begins v) (InArray again w) i j d = item_follows bytes place begins at w.items nodes source now outer new (InArray again w) (end_pops bytes place node nodes source opens outer (InArray begins v) a i w.items d.1) s l c e j (λ x y. (d.0 ∙ x, y))
    from (InArray begins v) (InObject again w name) i j d = absurd d
    from (InObject begins v name) q i j d = absurd d

-- ---- the end of the text

pub start_at : (bytes : List ℕ) (nodes : List Node) (source : List ℕ) (opens : List Open) → source ≡ [] → opens ≡ [] → AtValue bytes 0 false nodes source opens
start_at bytes nodes source opens e f = record { frames = []; reads = ReadsTo-start bytes; holds = f; source_is = e; few = omega arith; begun = λ z. absurd (false≢true z) }

no_frames : (nodes : List Node) (source : List ℕ) (opens : List Open) (frames : List Frame) → Holds nodes source opens frames → opens ≡ [] → frames ≡ []
no_frames nodes source opens [] h e = refl
no_frames nodes source opens (f ∷ frames) h e = absurd (none h.0 (sym e ∙ h.2))
  where
    none : (xs : List Open) → [] ≡ xs ++ (h.1 ∷ []) → ⊥
    none [] h = cc
    none (x ∷ xs) h = cc

end_reads : (bytes : List ℕ) (place at node : ℕ) (nodes : List Node) (source : List ℕ) (opens : List Open) → (a : AtEnd bytes place node nodes source opens) → opens ≡ [] → Skips bytes place at → ReadsTo bytes at (AfterAt [] a.value)
end_reads bytes place at node nodes source opens a e s =
    let P : List Frame → Type 0 = λ x. ReadsTo bytes at (AfterAt x a.value) in
    subst P (no_frames nodes source opens a.frames a.holds e) (skipped bytes place at _ a.reads s)

pub end_breaks : (bytes : List ℕ) (place at node : ℕ) (nodes : List Node) (source : List ℕ) (opens : List Open) → AtEnd bytes place node nodes source opens → opens ≡ [] → (s : Skips bytes place at) → at < length bytes → Refuses bytes (BadByte at)
end_breaks bytes place at node nodes source opens a e s l = bad_end bytes at a.value (get_or bytes at 0) (drop (at + 1) bytes) (end_reads bytes place at node nodes source opens a e s) (byte_first bytes at (get_or bytes at 0) l refl) (s.stops l)

pub whole_end : (bytes : List ℕ) (place at node : ℕ) (nodes : List Node) (source : List ℕ) (opens : List Open) → AtEnd bytes place node nodes source opens → opens ≡ [] → Skips bytes place at → at ≡ length bytes → IsRead bytes nodes source node
whole_end bytes place at node nodes source opens a e s m =
    let r = end_reads bytes place at node nodes source opens a e s in
    let n = no_bytes bytes at (omega arith) in
    record { value = a.value; text = whole_value bytes at a.value r n; stands = a.stands; only = only_value bytes at a.value r n }

-- what is refused is no text
pub refused_text : (bytes : List ℕ) (e : JsonNo) (j : Json) → Refuses bytes e → IsText 127 bytes j → e ≡ Want
refused_text bytes (BadByte place) j q t = let P : List ℕ → Type 0 = λ x. IsText 127 x j in absurd (q.never 127 (drop (place + 1) bytes, j, subst P (sym (take-append-drop (place + 1) bytes)) t))
refused_text bytes Cut j q t = absurd (q.short 127 j t)
refused_text bytes TooDeep j q t = let P : List ℕ → Type 0 = λ x. IsText 127 x j in absurd (q.1.never (drop (q.0 + 1) bytes, j, subst P (sym (take-append-drop (q.0 + 1) bytes)) t))
refused_text bytes Want j q t = refl

-- between the quotes stand the characters
pub between_quotes : (bytes : List ℕ) (place end : ℕ) → QuotedTo bytes place end → IsChars (take (end - 1 - (place + 1)) (drop (place + 1) bytes))
between_quotes bytes place end q =
    let m : length q.s ≡ end - 1 - (place + 1) = omega (arith, q.moved) in
    let tail : drop (place + 1) bytes ≡ q.s ++ (34 ∷ drop end bytes) = sym (drop-drop 1 place bytes) ∙ ap (drop 1) q.split in
    let inner : take (end - 1 - (place + 1)) (drop (place + 1) bytes) ≡ q.s = ap (take (end - 1 - (place + 1))) tail ∙ take_at q.s (34 ∷ drop end bytes) (end - 1 - (place + 1)) m in
    let P : List ℕ → Type 0 = λ x. IsChars x in subst P (sym inner) q.valid
