-- The JSON text that a value is shown as is a JSON text of that value.
use Rattle.std.proofs.Common.{◌≡◌, ℕ, suc, ◌<◌, ℤ, List, [], ◌∷◌, ◌++◌, Bool, true, false, cond, Some, Ok, inl, inr, refl, sym, ap, ◌∙◌, subst, arith}
use Rattle.std.specs.Prelude.{FitsSigned}
use Rattle.std.specs.Int.{w64}
use Rattle.std.specs.Str.{is_utf8, chars, encode_utf8_all}
use Rattle.std.specs.Fmt.{signed_decimal}
use Rattle.std.specs.List.{AllByRecursion}
use Rattle.std.proofs.lemmas.List.{append-nil}
use Rattle.json.specs.Token as token
use Rattle.json.specs.Token.{Token}
use Rattle.json.specs.Print.{escape, print}
use Rattle.json_span.specs.Json as json
use Rattle.json_span.specs.Json.{Json, Items, Members, tokens, item_tokens, more_item_tokens, member_tokens, more_member_tokens, IsWithin, ItemsWithin, MembersWithin}
use Rattle.json_token.specs.Chars.{IsChars, content}
use Rattle.json_token.specs.Number.{IsNumber}
use Rattle.json_token.specs.Integer.{integer_of}
use Rattle.json_span.specs.Text.{IsText}
use Rattle.json_token.specs.Tokens.{AreTokens}
use Rattle.avro_schema.specs.Types as schema
use Rattle.avro_schema.specs.Types.{AvroType, Fields, resolved, branch_name}
use Rattle.avro_names.specs.NameList.{is_among}
use Rattle.avro_schema.specs.Distinct.{HasNames, FieldsHaveNames, AreDistinct, branch_names, field_names}
use Rattle.avro_schema.proofs.DistinctNames.{resolved_has_names}
use Rattle.avro_value.specs.Value.{Value, Values, Entries, null, boolean, int, long, bytes, string, fixed, symbol, branch, fields, items, entries, no_values, value, no_entries, entry, size_of, max_levels, IsTyped, AreTyped, EntriesTyped}
use Rattle.avro_value.specs.Judging.{is_null, is_boolean, is_bytes, branch_in, fields_in, items_in, number_of}
use Rattle.avro_value.specs.Encoding.{place_of, names_of, differ, IsJson, AreFields, AreItems, AreEntries}
use Rattle.avro_datum.specs.Shown.{Shown, behind, between, symbol_in, labelled, keys_of, values_in, shown, shown_fields, shown_items, shown_entries, tokens_of}
use Rattle.avro_datum.proofs.Printing.{Prints, PrintsItems, PrintsMembers, null_prints, true_prints, false_prints, number_prints, text_prints, no_items_print, item_prints, array_prints, no_members_print, member_prints, object_prints, print_is}
use Rattle.avro_datum.proofs.ShownParts.{invert, leaf_is, behind_is, between_is, node_is, named_is, and_first, and_second, null_is, boolean_is, int_is, long_is, bytes_is, string_is, fixed_is, symbol_is, IsBranch, branch_is, fields_are, array_is, values_are, fits_int, fits_long, int_is_long}
use Rattle.avro_datum.proofs.NamedParts.{place_is, name_utf8, branch_name_at, branch_has_names, first_named, fields_behind}
use Rattle.avro_schema.proofs.GoodReading.{within_more}
use Rattle.avro_datum.proofs.JsonParts.{within_above, both_tokens, compact_is_text}

-- how texts, numbers and bytes are spelled
pub record Glyphs : Type 0 where
  pub escape_is : (s : List ℕ) → is_utf8 s ≡ true → IsChars (escape s) × (content (escape s) ≡ s)
  pub number_is : (n : ℤ) → FitsSigned w64 n → IsNumber (signed_decimal n) × (integer_of (signed_decimal n) ≡ Some n)
  pub points_is : (bs : List ℕ) → AllByRecursion (λ c. c < 256) bs → (is_utf8 (encode_utf8_all bs) ≡ true) × (chars (encode_utf8_all bs) ≡ bs)

-- the tokens are those of a JSON value of the value, with so many levels
record Shows (whole : AvroType) (levels : ℕ) (t : AvroType) (v : Value) (ts : List Token) : Type 0 where
  j : Json
  is : IsJson whole t v j
  within : IsWithin levels j
  valid : AreTokens (tokens j)
  prints : Prints ts j

record ShowsItems (whole : AvroType) (levels : ℕ) (t : AvroType) (vs : Values) (ts : List Token) : Type 0 where
  js : Items
  are : AreItems whole t vs js
  within : ItemsWithin levels js
  valid : AreTokens (item_tokens js) × AreTokens (more_item_tokens js)
  prints : PrintsItems ts js

record ShowsFields (whole : AvroType) (levels : ℕ) (fs : Fields) (vs : Values) (ts : List Token) : Type 0 where
  ms : Members
  are : AreFields whole fs vs ms
  names : names_of ms ≡ field_names fs
  within : MembersWithin levels ms
  valid : AreTokens (member_tokens ms) × AreTokens (more_member_tokens ms)
  prints : PrintsMembers ts ms

record ShowsEntries (whole : AvroType) (levels : ℕ) (t : AvroType) (es : Entries) (ts : List Token) : Type 0 where
  ms : Members
  are : AreEntries whole t es ms
  names : names_of ms ≡ keys_of es
  within : MembersWithin levels ms
  valid : AreTokens (member_tokens ms) × AreTokens (more_member_tokens ms)
  prints : PrintsMembers ts ms

along : (whole : AvroType) (levels : ℕ) (t : AvroType) (v : Value) (ts us : List Token) → ts ≡ us → Shows whole levels t v ts → Shows whole levels t v us
along whole levels t v ts us e s = let P : List Token → Type 0 = λ x. Shows whole levels t v x in subst P e s

items_along : (whole : AvroType) (levels : ℕ) (t : AvroType) (vs : Values) (ts us : List Token) → ts ≡ us → ShowsItems whole levels t vs ts → ShowsItems whole levels t vs us
items_along whole levels t vs ts us e s = let P : List Token → Type 0 = λ x. ShowsItems whole levels t vs x in subst P e s

fields_along : (whole : AvroType) (levels : ℕ) (fs : Fields) (vs : Values) (ts us : List Token) → ts ≡ us → ShowsFields whole levels fs vs ts → ShowsFields whole levels fs vs us
fields_along whole levels fs vs ts us e s = let P : List Token → Type 0 = λ x. ShowsFields whole levels fs vs x in subst P e s

entries_along : (whole : AvroType) (levels : ℕ) (t : AvroType) (es : Entries) (ts us : List Token) → ts ≡ us → ShowsEntries whole levels t es ts → ShowsEntries whole levels t es us
entries_along whole levels t es ts us e s = let P : List Token → Type 0 = λ x. ShowsEntries whole levels t es x in subst P e s

members_along : (ts us : List Token) (ms : Members) → ts ≡ us → PrintsMembers ts ms → PrintsMembers us ms
members_along ts us ms e p = let P : List Token → Type 0 = λ x. PrintsMembers x ms in subst P e p

names_along : (t u : AvroType) → t ≡ u → HasNames t → HasNames u
names_along t u e h = subst HasNames e h

-- the tokens of a member behind those of its name, with the other members'
valid_member : (s : List ℕ) (j : Json) (ms : Members) → IsChars s → AreTokens (tokens j) → AreTokens (more_member_tokens ms) → AreTokens (member_tokens (json.member s j ms)) × AreTokens (more_member_tokens (json.member s j ms))
valid_member s j ms c v m =
    let rest : AreTokens (tokens j ++ more_member_tokens ms) = both_tokens (tokens j) (more_member_tokens ms) v m in
    ((c, (tt, rest)), (tt, (c, (tt, rest))))

valid_item : (j : Json) (js : Items) → AreTokens (tokens j) → AreTokens (more_item_tokens js) → AreTokens (item_tokens (json.item j js)) × AreTokens (more_item_tokens (json.item j js))
valid_item j js v m =
    let rest : AreTokens (tokens j ++ more_item_tokens js) = both_tokens (tokens j) (more_item_tokens js) v m in
    (rest, (tt, rest))

no_fields_left : (fs : Fields) → 0 ≡ number_of fs → fs ≡ schema.no_fields
no_fields_left schema.no_fields e = refl
no_fields_left (schema.field name t fs) e = absurd cc

module _ (g : Glyphs) (whole : AvroType) where
  -- the value of a branch, labelled
  labelled_shows : (levels below : ℕ) (t u : AvroType) (n : ℕ) (v : Value) (inner : Shown) (x : List Token × ℕ) (test : Bool) → levels ≡ suc below → IsBranch (resolved whole t) n u → HasNames (resolved whole t)
      → ((y : List Token × ℕ) → inner ≡ Ok y → Shows whole below u v y.0) → is_null u ≡ test
      → cond test inner (between token.begin_object token.end_object (behind (token.key (branch_name u) ∷ []) inner)) ≡ Ok x → Shows whole levels t (branch n v) x.0
  labelled_shows levels below t u n v inner x true level b names ih e h =
      let s = ih x h in
      let union = names_along (resolved whole t) (schema.union b.branches) b.union names in
      let place : place_of (branch_name u) (branch_names b.branches) ≡ Some n = place_is (branch_names b.branches) n (branch_name u) union.0 (branch_name_at b.branches n u b.at) in
      let at_null = ap (λ (y : AvroType). place_of (branch_name y) (branch_names b.branches)) (sym (null_is u e)) ∙ place in
      let W : ℕ → Type 0 = λ l. IsWithin l s.j in
      record {
        j = s.j;
        is = (b.branches, b.union, u, b.at, b.small, s.j, inl (e, at_null, refl), s.is);
        within = subst W (sym level) (within_more below s.j s.within);
        valid = s.valid;
        prints = s.prints;
      }
  labelled_shows levels below t u n v inner x false level b names ih e h =
      let object = between_is token.begin_object token.end_object (behind (token.key (branch_name u) ∷ []) inner) x h in
      let member = behind_is (token.key (branch_name u) ∷ []) inner object.y object.is in
      let s = ih member.y member.is in
      let union = names_along (resolved whole t) (schema.union b.branches) b.union names in
      let there = branch_name_at b.branches n u b.at in
      let place : place_of (branch_name u) (branch_names b.branches) ≡ Some n = place_is (branch_names b.branches) n (branch_name u) union.0 there in
      let name = g.escape_is (branch_name u) (name_utf8 (branch_names b.branches) n (branch_name u) union.0 there) in
      let ms : Members = json.member (escape (branch_name u)) s.j json.no_members in
      let place_again = ap (λ y. place_of y (branch_names b.branches)) name.1 ∙ place in
      let front : List Token = token.key (branch_name u) ∷ member.y.0 in
      let inside = members_along (front ++ []) object.y.0 ms (append-nil front ∙ member.tokens) (member_prints (branch_name u) member.y.0 [] s.j json.no_members s.prints no_members_print) in
      along whole levels t (branch n v) _ x.0 object.tokens
      (record {
        j = json.object ms;
        is = (b.branches, b.union, u, b.at, b.small, s.j, inr (e, escape (branch_name u), place_again, refl), s.is);
        within = (below, level, (s.within, tt));
        valid = (tt, (valid_member (escape (branch_name u)) s.j json.no_members name.0 s.valid (tt, tt)).0);
        prints = object_prints object.y.0 ms inside;
      })

  text_shows : (levels : ℕ) (t : AvroType) (v : Value) (s : List ℕ) (ts : List Token) → is_utf8 s ≡ true → IsJson whole t v (json.text (escape s)) → token.string s ∷ [] ≡ ts → Shows whole levels t v ts
  text_shows levels t v s ts utf8 is e =
      along whole levels t v (token.string s ∷ []) ts e (record { j = json.text (escape s); is = is; within = tt; valid = ((g.escape_is s utf8).0, tt); prints = text_prints s })

  number_shows : (levels : ℕ) (t : AvroType) (v : Value) (n : ℤ) (ts : List Token) → FitsSigned w64 n → IsJson whole t v (json.number (signed_decimal n)) → token.number (signed_decimal n) ∷ [] ≡ ts → Shows whole levels t v ts
  number_shows levels t v n ts fits is e =
      along whole levels t v (token.number (signed_decimal n) ∷ []) ts e (record { j = json.number (signed_decimal n); is = is; within = tt; valid = ((g.number_is n fits).0, tt); prints = number_prints (signed_decimal n) })

  module _ (w : HasNames whole) where
    mutual
      shows : (v : Value) (levels : ℕ) (t : AvroType) (k : ℕ) (x : List Token × ℕ) → IsTyped v → HasNames t → shown whole levels t k v ≡ Ok x → Shows whole levels t v x.0
      shows null levels t k x r names h =
          let e = leaf_is k (is_null (resolved whole t)) (token.null ∷ []) x h in
          along whole levels t null _ x.0 e.tokens (record { j = json.null; is = (null_is (resolved whole t) e.holds, refl); within = tt; valid = (tt, tt); prints = null_prints })
      shows (boolean true) levels t k x r names h =
          let e = leaf_is k (is_boolean (resolved whole t)) (token.boolean true ∷ []) x h in
          along whole levels t (boolean true) _ x.0 e.tokens (record { j = json.boolean true; is = (boolean_is (resolved whole t) e.holds, refl); within = tt; valid = (tt, tt); prints = true_prints })
      shows (boolean false) levels t k x r names h =
          let e = leaf_is k (is_boolean (resolved whole t)) (token.boolean false ∷ []) x h in
          along whole levels t (boolean false) _ x.0 e.tokens (record { j = json.boolean false; is = (boolean_is (resolved whole t) e.holds, refl); within = tt; valid = (tt, tt); prints = false_prints })
      shows (int n) levels t k x r names h =
          let e = leaf_is k _ (token.number (signed_decimal n) ∷ []) x h in
          let fits = fits_int n (and_second _ _ e.holds) in
          number_shows levels t (int n) n x.0 (int_is_long n fits) (int_is (resolved whole t) (and_first _ _ e.holds), signed_decimal n, refl, (g.number_is n (int_is_long n fits)).1, fits) e.tokens
      shows (long n) levels t k x r names h =
          let e = leaf_is k _ (token.number (signed_decimal n) ∷ []) x h in
          let fits = fits_long n (and_second _ _ e.holds) in
          number_shows levels t (long n) n x.0 fits (long_is (resolved whole t) (and_first _ _ e.holds), signed_decimal n, refl, (g.number_is n fits).1, fits) e.tokens
      shows (bytes bs) levels t k x r names h =
          let e = leaf_is k (is_bytes (resolved whole t)) (token.string (encode_utf8_all bs) ∷ []) x h in
          let p = g.points_is bs r in
          text_shows levels t (bytes bs) (encode_utf8_all bs) x.0 p.0
          (bytes_is (resolved whole t) e.holds, escape (encode_utf8_all bs), refl, record { points = ap chars (g.escape_is (encode_utf8_all bs) p.0).1 ∙ p.1; small = r }) e.tokens
      shows (string bs) levels t k x r names h =
          let e = leaf_is k _ (token.string bs ∷ []) x h in
          text_shows levels t (string bs) bs x.0 r (string_is (resolved whole t) e.holds, escape bs, refl, (g.escape_is bs r).1) e.tokens
      shows (fixed bs) levels t k x r names h =
          let e = leaf_is k _ (token.string (encode_utf8_all bs) ∷ []) x h in
          let p = g.points_is bs r in
          let type = fixed_is (resolved whole t) _ e.holds in
          text_shows levels t (fixed bs) (encode_utf8_all bs) x.0 p.0
          (type.0, type.1, escape (encode_utf8_all bs), refl, record { points = ap chars (g.escape_is (encode_utf8_all bs) p.0).1 ∙ p.1; small = r }) e.tokens
      shows (symbol n) levels t k x r names h =
          let e = named_is k (symbol_in (resolved whole t) n) x h in
          let type = symbol_is (resolved whole t) n e.name e.some in
          let distinct = names_along (resolved whole t) (schema.enum_ type.0 type.1) type.2 (resolved_has_names whole t w names) in
          let utf8 = name_utf8 type.1 n e.name distinct type.3 in
          let place = ap (λ y. place_of y type.1) (g.escape_is e.name utf8).1 ∙ place_is type.1 n e.name distinct type.3 in
          text_shows levels t (symbol n) e.name x.0 utf8 (type.0, type.1, type.2, escape e.name, refl, place, r) e.tokens
      shows (branch n v) levels t k x r names h =
          let e = node_is levels k (branch_in (resolved whole t) n) (λ below u. labelled u (shown whole below u (suc k) v)) x h in
          let b = branch_is (resolved whole t) n e.type e.some in
          let here = resolved_has_names whole t w names in
          let union = names_along (resolved whole t) (schema.union b.branches) b.union here in
          let inner_names = branch_has_names b.branches n e.type union.1 b.at in
          labelled_shows levels e.below t e.type n v (shown whole e.below e.type (suc k) v) x (is_null e.type) e.level b here (λ y i. shows v e.below e.type (suc k) y r inner_names i) refl e.is
      shows (fields vs) levels t k x r names h =
          let e = node_is levels k (fields_in (resolved whole t) (size_of vs)) (λ below ts. between token.begin_object token.end_object (shown_fields whole below ts (suc k) vs)) x h in
          let f = fields_are (resolved whole t) (size_of vs) e.type e.some in
          let here = names_along (resolved whole t) (schema.record_ f.name e.type) f.type (resolved_has_names whole t w names) in
          let object = between_is token.begin_object token.end_object (shown_fields whole e.below e.type (suc k) vs) x e.is in
          let s = shows_fields vs e.below e.type (suc k) object.y r here.1 here.0 f.number object.is in
          along whole levels t (fields vs) _ x.0 object.tokens
          (record { j = json.object s.ms; is = (f.name, e.type, f.type, s.ms, refl, s.are); within = (e.below, e.level, s.within); valid = (tt, s.valid.0); prints = object_prints object.y.0 s.ms s.prints })
      shows (items vs) levels t k x r names h =
          let e = node_is levels k (items_in (resolved whole t) (size_of vs)) (λ below u. between token.begin_array token.end_array (shown_items whole below u (suc k) vs)) x h in
          let type = array_is (resolved whole t) (size_of vs) e.type e.some in
          let here = names_along (resolved whole t) (schema.array e.type) type (resolved_has_names whole t w names) in
          let list = between_is token.begin_array token.end_array (shown_items whole e.below e.type (suc k) vs) x e.is in
          let s = shows_items vs e.below e.type (suc k) list.y r here list.is in
          along whole levels t (items vs) _ x.0 list.tokens
          (record { j = json.array s.js; is = (e.type, type, s.js, refl, s.are); within = (e.below, e.level, s.within); valid = (tt, s.valid.0); prints = array_prints list.y.0 s.js s.prints })
      shows (entries es) levels t k x r names h =
          let e = node_is levels k (values_in (resolved whole t) es) (λ below u. between token.begin_object token.end_object (shown_entries whole below u (suc k) es)) x h in
          let m = values_are (resolved whole t) es e.type e.some in
          let here = names_along (resolved whole t) (schema.map e.type) m.type (resolved_has_names whole t w names) in
          let object = between_is token.begin_object token.end_object (shown_entries whole e.below e.type (suc k) es) x e.is in
          let s = shows_entries es e.below e.type (suc k) object.y r here object.is in
          along whole levels t (entries es) _ x.0 object.tokens
          (record { j = json.object s.ms; is = (e.type, m.type, s.ms, refl, ap differ s.names ∙ m.differ, s.are); within = (e.below, e.level, s.within); valid = (tt, s.valid.0); prints = object_prints object.y.0 s.ms s.prints })

      shows_fields : (vs : Values) (levels : ℕ) (fs : Fields) (k : ℕ) (x : List Token × ℕ) → AreTyped vs → FieldsHaveNames fs → AreDistinct (field_names fs) → size_of vs ≡ number_of fs → shown_fields whole levels fs k vs ≡ Ok x → ShowsFields whole levels fs vs x.0
      shows_fields no_values levels fs k x r names distinct number h =
          let none = no_fields_left fs number in
          let nothing : [] ≡ x.0 = cc in
          fields_along whole levels fs no_values [] x.0 nothing (record { ms = json.no_members; are = none; names = sym (ap field_names none); within = tt; valid = ((tt, tt), (tt, tt)); prints = no_members_print })
      shows_fields (value v vs) levels schema.no_fields k x r names distinct number h = absurd cc
      shows_fields (value v vs) levels (schema.field name t more) k x r names distinct number h =
          let i = invert (behind (token.key name ∷ []) (shown whole levels t k v)) (λ y. behind y.0 (shown_fields whole levels more y.1 vs)) x h in
          let one = behind_is (token.key name ∷ []) (shown whole levels t k v) i.x i.is in
          let rest = behind_is i.x.0 (shown_fields whole levels more i.x.1 vs) x i.next in
          let s = shows v levels t k one.y r.0 names.0 one.is in
          let fewer : size_of vs ≡ number_of more = omega arith in
          let others = shows_fields vs levels more i.x.1 rest.y r.1 names.1 distinct.2 fewer rest.is in
          let spelled = g.escape_is name distinct.0 in
          let ms : Members = json.member (escape name) s.j others.ms in
          let alone : is_among name (names_of others.ms) ≡ false = ap (is_among name) others.names ∙ distinct.1 in
          let here = first_named name (escape name) s.j others.ms spelled.1 alone in
          fields_along whole levels (schema.field name t more) (value v vs) _ x.0 (ap (λ y. y ++ rest.y.0) one.tokens ∙ rest.tokens)
          (record {
            ms = ms;
            are = (name, t, more, refl, s.j, here, s.is, fields_behind whole more vs (escape name) s.j others.ms others.are);
            names = ap (λ y. y ∷ names_of others.ms) spelled.1 ∙ ap (λ y. name ∷ y) others.names;
            within = (s.within, others.within);
            valid = valid_member (escape name) s.j others.ms spelled.0 s.valid others.valid.1;
            prints = member_prints name one.y.0 rest.y.0 s.j others.ms s.prints others.prints;
          })

      shows_items : (vs : Values) (levels : ℕ) (t : AvroType) (k : ℕ) (x : List Token × ℕ) → AreTyped vs → HasNames t → shown_items whole levels t k vs ≡ Ok x → ShowsItems whole levels t vs x.0
      shows_items no_values levels t k x r names h =
          let nothing : [] ≡ x.0 = cc in
          items_along whole levels t no_values [] x.0 nothing (record { js = json.no_items; are = refl; within = tt; valid = ((tt, tt), (tt, tt)); prints = no_items_print })
      shows_items (value v vs) levels t k x r names h =
          let i = invert (shown whole levels t k v) (λ y. behind y.0 (shown_items whole levels t y.1 vs)) x h in
          let rest = behind_is i.x.0 (shown_items whole levels t i.x.1 vs) x i.next in
          let s = shows v levels t k i.x r.0 names i.is in
          let others = shows_items vs levels t i.x.1 rest.y r.1 names rest.is in
          items_along whole levels t (value v vs) _ x.0 rest.tokens
          (record {
            js = json.item s.j others.js;
            are = (s.j, others.js, refl, s.is, others.are);
            within = (s.within, others.within);
            valid = valid_item s.j others.js s.valid others.valid.1;
            prints = item_prints i.x.0 rest.y.0 s.j others.js s.prints others.prints;
          })

      shows_entries : (es : Entries) (levels : ℕ) (t : AvroType) (k : ℕ) (x : List Token × ℕ) → EntriesTyped es → HasNames t → shown_entries whole levels t k es ≡ Ok x → ShowsEntries whole levels t es x.0
      shows_entries no_entries levels t k x r names h =
          let nothing : [] ≡ x.0 = cc in
          entries_along whole levels t no_entries [] x.0 nothing (record { ms = json.no_members; are = refl; names = refl; within = tt; valid = ((tt, tt), (tt, tt)); prints = no_members_print })
      shows_entries (entry key v es) levels t k x r names h =
          let i = invert (behind (token.key key ∷ []) (shown whole levels t k v)) (λ y. behind y.0 (shown_entries whole levels t y.1 es)) x h in
          let one = behind_is (token.key key ∷ []) (shown whole levels t k v) i.x i.is in
          let rest = behind_is i.x.0 (shown_entries whole levels t i.x.1 es) x i.next in
          let s = shows v levels t k one.y r.1 names one.is in
          let others = shows_entries es levels t i.x.1 rest.y r.2 names rest.is in
          let spelled = g.escape_is key r.0 in
          entries_along whole levels t (entry key v es) _ x.0 (ap (λ y. y ++ rest.y.0) one.tokens ∙ rest.tokens)
          (record {
            ms = json.member (escape key) s.j others.ms;
            are = (escape key, s.j, others.ms, refl, spelled.1, s.is, others.are);
            names = ap (λ y. y ∷ names_of others.ms) spelled.1 ∙ ap (λ y. key ∷ y) others.names;
            within = (s.within, others.within);
            valid = valid_member (escape key) s.j others.ms spelled.0 s.valid others.valid.1;
            prints = member_prints key one.y.0 rest.y.0 s.j others.ms s.prints others.prints;
          })

-- the text that a datum is shown as is a JSON text of it
pub text_is : Glyphs → (whole : AvroType) → HasNames whole → (v : Value) → IsTyped v → (ts : List Token) → tokens_of whole v ≡ Ok ts → (j : Json) × IsText 127 (print ts) j × IsJson whole whole v j
unfolding tokens_of
text_is g whole w v r ts h =
    let i = invert (shown whole max_levels whole 0 v) (λ y. Ok y.0) ts h in
    let s = shows g whole w v max_levels whole 0 i.x r w i.is in
    let same : i.x.0 ≡ ts = cc in
    let P : List Token → Type 0 = λ y. Prints y s.j in
    (s.j, compact_is_text 127 (print ts) s.j (print_is ts s.j (subst P same s.prints)) (within_above 63 64 127 s.j refl s.within) s.valid, s.is)
