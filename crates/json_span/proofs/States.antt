-- From one byte to the next place of the reader: which bytes may stand at each, and what each leads to.
use Rattle.std.proofs.Common.{◌≡◌, ◌⊎◌, inl, inr, ℕ, suc, ◌+◌, ◌-◌, ◌<◌, ◌≤◌, List, [], ◌∷◌, ◌++◌, length, drop, get_or, Bool, true, false, ◌==◌, ◌||◌, None, refl, sym, ap, ◌∙◌, subst, arith}
use Rattle.std.proofs.lemmas.Bool.{false≢true}
use Rattle.std.proofs.lemmas.List.{drop_more, append-nil}
use Rattle.json_span.specs.Json.{Json, Items, Members, null, boolean, number, text, array, object, no_items, item, no_members, member, tokens, IsWithin}
use Rattle.json_token.specs.Tokens.{Token, begin_array, end_array, begin_object, end_object, comma, colon, null_name, true_name, false_name, numeral, quoted, is_blank, AreBlank, spelled, IsToken, Laid}
use Rattle.json_span.specs.Text.{IsText}
use Rattle.json_span.specs.Refusals.{IsBadByte, IsCut, IsTooDeep}
use Rattle.json_span.specs.Ahead.{Frame, in_array, in_object, join_items, join_members, After, Value, FirstItem, FirstName, NextName, Colon, Ahead, ValueAt, AfterAt, Closes, Expect, FirstNameAt, NextNameAt, ColonAt}
use Rattle.json_span.specs.Reading.{Bytes, ReadsTo}
use Rattle.json_span.proofs.AheadLemmas.{ValueTokens, Value-tokens, tokens-Value, EndOrItem, FirstItem-cases, end-FirstItem, item-FirstItem, ItemTokens, Item-tokens, tokens-Item, FirstNameTokens, FirstName-tokens, tokens-FirstName, NextNameTokens, NextName-tokens, name-NextName, ColonTokens, Colon-tokens, colon-Colon, MemberTokens, Member-tokens, tokens-Member}
use Rattle.json_span.proofs.BytesLemmas.{Front-Bytes, Front-code, class, code, token-Bytes}
use Rattle.json_span.proofs.ReadingLemmas.{ReadsTo-blank, ReadsTo-fixed, IsFixed, Bytes-fixed, Alive, bad_byte, cut_short, too_deep, grows, whole_text, only_text}
use Rattle.json_span.proofs.Spelling.{Ends, NumberEnds}

after_levels : (m n : ℕ) (frames : List Frame) (j : Json) (ts : List Token) (whole : Json) → m ≡ n → After m frames j ts whole → After n frames j ts whole
after_levels m n frames j ts whole e a = let P : ℕ → Type 0 = λ k. After k frames j ts whole in subst P e a

-- ---- which tokens may come, by their codes

abbrev pub value_codes : ℕ → Bool
value_codes c = (c == 91) || ((c == 123) || ((c == 110) || ((c == 116) || ((c == 102) || ((c == 48) || (c == 34))))))

abbrev pub item_codes : ℕ → Bool
item_codes c = (c == 44) || (c == 93)

abbrev pub member_codes : ℕ → Bool
member_codes c = (c == 44) || (c == 125)

abbrev pub first_name_codes : ℕ → Bool
first_name_codes c = (c == 125) || (c == 34)

-- a value begins so
value_code : (levels : ℕ) (frames : List Frame) (t : Token) (ts : List Token) (j : Json) → ValueTokens levels frames (t ∷ ts) j → value_codes (code t) ≡ true
value_code levels frames begin_array ts j a = refl
value_code levels frames end_array ts j a = absurd a
value_code levels frames begin_object ts j a = refl
value_code levels frames end_object ts j a = absurd a
value_code levels frames comma ts j a = absurd a
value_code levels frames colon ts j a = absurd a
value_code levels frames null_name ts j a = refl
value_code levels frames true_name ts j a = refl
value_code levels frames false_name ts j a = refl
value_code levels frames (numeral s) ts j a = refl
value_code levels frames (quoted s) ts j a = refl

-- an item is followed so
item_code : (levels : ℕ) (frames : List Frame) (front : Items) (v : Json) (t : Token) (ts : List Token) (j : Json) → ItemTokens levels frames front v (t ∷ ts) j → item_codes (code t) ≡ true
item_code levels frames front v begin_array ts j a = absurd a
item_code levels frames front v end_array ts j a = refl
item_code levels frames front v begin_object ts j a = absurd a
item_code levels frames front v end_object ts j a = absurd a
item_code levels frames front v comma ts j a = refl
item_code levels frames front v colon ts j a = absurd a
item_code levels frames front v null_name ts j a = absurd a
item_code levels frames front v true_name ts j a = absurd a
item_code levels frames front v false_name ts j a = absurd a
item_code levels frames front v (numeral s) ts j a = absurd a
item_code levels frames front v (quoted s) ts j a = absurd a

-- a member is followed so
member_code : (levels : ℕ) (frames : List Frame) (front : Members) (r : List ℕ) (v : Json) (t : Token) (ts : List Token) (j : Json) → MemberTokens levels frames front r v (t ∷ ts) j → member_codes (code t) ≡ true
member_code levels frames front r v begin_array ts j a = absurd a
member_code levels frames front r v end_array ts j a = absurd a
member_code levels frames front r v begin_object ts j a = absurd a
member_code levels frames front r v end_object ts j a = refl
member_code levels frames front r v comma ts j a = refl
member_code levels frames front r v colon ts j a = absurd a
member_code levels frames front r v null_name ts j a = absurd a
member_code levels frames front r v true_name ts j a = absurd a
member_code levels frames front r v false_name ts j a = absurd a
member_code levels frames front r v (numeral s) ts j a = absurd a
member_code levels frames front r v (quoted s) ts j a = absurd a

-- an object begins so
first_name_code : (levels : ℕ) (frames : List Frame) (t : Token) (ts : List Token) (j : Json) → FirstNameTokens levels frames (t ∷ ts) j → first_name_codes (code t) ≡ true
first_name_code levels frames begin_array ts j a = absurd a
first_name_code levels frames end_array ts j a = absurd a
first_name_code levels frames begin_object ts j a = absurd a
first_name_code levels frames end_object ts j a = refl
first_name_code levels frames comma ts j a = absurd a
first_name_code levels frames colon ts j a = absurd a
first_name_code levels frames null_name ts j a = absurd a
first_name_code levels frames true_name ts j a = absurd a
first_name_code levels frames false_name ts j a = absurd a
first_name_code levels frames (numeral s) ts j a = absurd a
first_name_code levels frames (quoted s) ts j a = refl

-- a name begins so
next_name_code : (levels : ℕ) (frames : List Frame) (front : Members) (t : Token) (ts : List Token) (j : Json) → NextNameTokens levels frames front (t ∷ ts) j → (code t == 34) ≡ true
next_name_code levels frames front begin_array ts j a = absurd a
next_name_code levels frames front end_array ts j a = absurd a
next_name_code levels frames front begin_object ts j a = absurd a
next_name_code levels frames front end_object ts j a = absurd a
next_name_code levels frames front comma ts j a = absurd a
next_name_code levels frames front colon ts j a = absurd a
next_name_code levels frames front null_name ts j a = absurd a
next_name_code levels frames front true_name ts j a = absurd a
next_name_code levels frames front false_name ts j a = absurd a
next_name_code levels frames front (numeral s) ts j a = absurd a
next_name_code levels frames front (quoted s) ts j a = refl

-- a colon
colon_code : (levels : ℕ) (frames : List Frame) (front : Members) (r : List ℕ) (t : Token) (ts : List Token) (j : Json) → ColonTokens levels frames front r (t ∷ ts) j → (code t == 58) ≡ true
colon_code levels frames front r begin_array ts j a = absurd a
colon_code levels frames front r end_array ts j a = absurd a
colon_code levels frames front r begin_object ts j a = absurd a
colon_code levels frames front r end_object ts j a = absurd a
colon_code levels frames front r comma ts j a = absurd a
colon_code levels frames front r colon ts j a = refl
colon_code levels frames front r null_name ts j a = absurd a
colon_code levels frames front r true_name ts j a = absurd a
colon_code levels frames front r false_name ts j a = absurd a
colon_code levels frames front r (numeral s) ts j a = absurd a
colon_code levels frames front r (quoted s) ts j a = absurd a

item_ends : (levels : ℕ) (frames : List Frame) (front : Items) (v : Json) (t : Token) (ts : List Token) (j : Json) → ItemTokens levels frames front v (t ∷ ts) j → Ends t
item_ends levels frames front v begin_array ts j a = absurd a
item_ends levels frames front v end_array ts j a = tt
item_ends levels frames front v begin_object ts j a = absurd a
item_ends levels frames front v end_object ts j a = absurd a
item_ends levels frames front v comma ts j a = tt
item_ends levels frames front v colon ts j a = absurd a
item_ends levels frames front v null_name ts j a = absurd a
item_ends levels frames front v true_name ts j a = absurd a
item_ends levels frames front v false_name ts j a = absurd a
item_ends levels frames front v (numeral s) ts j a = absurd a
item_ends levels frames front v (quoted s) ts j a = absurd a

member_ends : (levels : ℕ) (frames : List Frame) (front : Members) (r : List ℕ) (v : Json) (t : Token) (ts : List Token) (j : Json) → MemberTokens levels frames front r v (t ∷ ts) j → Ends t
member_ends levels frames front r v begin_array ts j a = absurd a
member_ends levels frames front r v end_array ts j a = absurd a
member_ends levels frames front r v begin_object ts j a = absurd a
member_ends levels frames front r v end_object ts j a = tt
member_ends levels frames front r v comma ts j a = tt
member_ends levels frames front r v colon ts j a = absurd a
member_ends levels frames front r v null_name ts j a = absurd a
member_ends levels frames front r v true_name ts j a = absurd a
member_ends levels frames front r v false_name ts j a = absurd a
member_ends levels frames front r v (numeral s) ts j a = absurd a
member_ends levels frames front r v (quoted s) ts j a = absurd a

after_ends : (levels : ℕ) (frames : List Frame) (v : Json) (t : Token) (ts : List Token) (j : Json) → After levels frames v (t ∷ ts) j → Ends t
after_ends levels [] v t ts j a = absurd (let e : t ∷ ts ≡ [] = a.0 in cc)
after_ends levels (in_array front ∷ frames) v t ts j a = item_ends levels frames front v t ts j (Item-tokens levels frames front v (t ∷ ts) j a)
after_ends levels (in_object front r ∷ frames) v t ts j a = member_ends levels frames front r v t ts j (Member-tokens levels frames front r v (t ∷ ts) j a)

-- but for the end of an array R is a value inside the frames
pub record Values (R : Ahead) (frames : List Frame) : Type 0 where
  pub to : (extra : ℕ) (t : Token) (ts : List Token) (j : Json) → (code t == 93) ≡ false → R extra (t ∷ ts) j → ValueAt frames extra (t ∷ ts) j
  pub from : (extra : ℕ) (ts : List Token) (j : Json) → ValueAt frames extra ts j → R extra ts j
  pub some : (extra : ℕ) (j : Json) → R extra [] j → ⊥

closing : (frames : List Frame) (extra : ℕ) (t : Token) (ts : List Token) (j : Json) → (code t == 93) ≡ false → Closes frames extra (t ∷ ts) j → ⊥
closing [] extra t ts j c a = a
closing (in_object front s ∷ outer) extra t ts j c a = a
closing (in_array (item i front) ∷ outer) extra t ts j c a = a
closing (in_array no_items ∷ outer) extra t ts j c a = let e : t ∷ ts ≡ end_array ∷ a.0 = a.1 in let same : t ≡ end_array = cc in false≢true (sym c ∙ ap (λ x. code x == 93) same)

closing_nil : (frames : List Frame) (extra : ℕ) (j : Json) → Closes frames extra [] j → ⊥
closing_nil [] extra j a = a
closing_nil (in_object front s ∷ outer) extra j a = a
closing_nil (in_array (item i front) ∷ outer) extra j a = a
closing_nil (in_array no_items ∷ outer) extra j a = let e : [] ≡ end_array ∷ a.0 = a.1 in cc

pub expect_values : (first : Bool) (frames : List Frame) → Values (Expect first frames) frames
expect_values false frames = record { to = λ extra t ts j c a. a; from = λ extra ts j a. a; some = λ extra j a. Value-tokens (127 - length frames + extra) frames [] j a }
expect_values true frames = record {
  to = λ extra t ts j c a. left extra t ts j c a;
  from = λ extra ts j a. inl a;
  some = λ extra j a. nothing extra j a;
}
  where
    left : (extra : ℕ) (t : Token) (ts : List Token) (j : Json) → (code t == 93) ≡ false → ValueAt frames extra (t ∷ ts) j ⊎ Closes frames extra (t ∷ ts) j → ValueAt frames extra (t ∷ ts) j
    left extra t ts j c (inl a) = a
    left extra t ts j c (inr a) = absurd (closing frames extra t ts j c a)

    nothing : (extra : ℕ) (j : Json) → ValueAt frames extra [] j ⊎ Closes frames extra [] j → ⊥
    nothing extra j (inl a) = Value-tokens (127 - length frames + extra) frames [] j a
    nothing extra j (inr a) = closing_nil frames extra j a

pub value_number_ends : (R : Ahead) (frames : List Frame) → Values R frames → NumberEnds R
value_number_ends R frames u = λ extra s t ts j a. after_ends (127 - length frames + extra) frames (number s) t ts j (Value-tokens (127 - length frames + extra) frames (numeral s ∷ (t ∷ ts)) j (u.to extra (numeral s) (t ∷ ts) j refl a))

-- ---- each place may go on

alive_token : (R : List Token → Json → Type 0) (t : Token) → IsToken t → Alive (λ ts. R (t ∷ ts)) [] → Alive R []
alive_token R t i v = record { w = spelled t ++ v.w; j = v.j; bytes = token-Bytes R t v.w v.j i v.bytes }

alive_same : (R S : List Token → Json → Type 0) → ((ts : List Token) (j : Json) → R ts j → S ts j) → Alive R [] → Alive S []
alive_same R S f v = record { w = v.w; j = v.j; bytes = record { ts = v.bytes.ts; ahead = f v.bytes.ts v.j v.bytes.ahead; laid = v.bytes.laid } }

pub alive_After : (levels : ℕ) (frames : List Frame) (v : Json) → Alive (After levels frames v) []
alive_After levels [] v = record { w = []; j = v; bytes = record { ts = []; ahead = (refl, refl); laid = tt } }
alive_After levels (in_array front ∷ frames) v =
    alive_token (After levels (in_array front ∷ frames) v) end_array tt
    (alive_same (After (suc levels) frames (array (join_items front (item v no_items)))) _ (λ ts j a. tokens-Item levels frames front v (end_array ∷ ts) j a) (alive_After (suc levels) frames (array (join_items front (item v no_items)))))
alive_After levels (in_object front r ∷ frames) v =
    alive_token (After levels (in_object front r ∷ frames) v) end_object tt
    (alive_same (After (suc levels) frames (object (join_members front (member r v no_members)))) _ (λ ts j a. tokens-Member levels frames front r v (end_object ∷ ts) j a) (alive_After (suc levels) frames (object (join_members front (member r v no_members)))))

pub alive_null : (levels : ℕ) (frames : List Frame) → Alive (λ ts. Value levels frames (null_name ∷ ts)) []
alive_null levels frames = alive_same (After levels frames null) _ (λ ts j a. tokens-Value levels frames (null_name ∷ ts) j a) (alive_After levels frames null)

pub alive_true : (levels : ℕ) (frames : List Frame) → Alive (λ ts. Value levels frames (true_name ∷ ts)) []
alive_true levels frames = alive_same (After levels frames (boolean true)) _ (λ ts j a. tokens-Value levels frames (true_name ∷ ts) j a) (alive_After levels frames (boolean true))

pub alive_false : (levels : ℕ) (frames : List Frame) → Alive (λ ts. Value levels frames (false_name ∷ ts)) []
alive_false levels frames = alive_same (After levels frames (boolean false)) _ (λ ts j a. tokens-Value levels frames (false_name ∷ ts) j a) (alive_After levels frames (boolean false))

pub alive_numeral : (levels : ℕ) (frames : List Frame) (s : List ℕ) → Alive (λ ts. Value levels frames (numeral s ∷ ts)) []
alive_numeral levels frames s = alive_same (After levels frames (number s)) _ (λ ts j a. tokens-Value levels frames (numeral s ∷ ts) j a) (alive_After levels frames (number s))

pub alive_string : (levels : ℕ) (frames : List Frame) (s : List ℕ) → Alive (λ ts. Value levels frames (quoted s ∷ ts)) []
alive_string levels frames s = alive_same (After levels frames (text s)) _ (λ ts j a. tokens-Value levels frames (quoted s ∷ ts) j a) (alive_After levels frames (text s))

pub alive_Value : (levels : ℕ) (frames : List Frame) → Alive (Value levels frames) []
alive_Value levels frames = alive_token (Value levels frames) null_name tt (alive_null levels frames)

pub alive_Colon : (levels : ℕ) (frames : List Frame) (front : Members) (s : List ℕ) → Alive (Colon levels frames front s) []
alive_Colon levels frames front s = alive_token (Colon levels frames front s) colon tt (alive_same _ _ (colon-Colon levels frames front s) (alive_Value levels (in_object front s ∷ frames)))

pub alive_first_name : (levels : ℕ) (frames : List Frame) (s : List ℕ) → Alive (λ ts. FirstName levels frames (quoted s ∷ ts)) []
alive_first_name levels frames s = alive_same (Colon levels frames no_members s) _ (λ ts j a. tokens-FirstName levels frames (quoted s ∷ ts) j a) (alive_Colon levels frames no_members s)

pub alive_next_name : (levels : ℕ) (frames : List Frame) (front : Members) (s : List ℕ) → Alive (λ ts. NextName levels frames front (quoted s ∷ ts)) []
alive_next_name levels frames front s = alive_same _ _ (name-NextName levels frames front s) (alive_Colon levels frames front s)

pub alive_FirstName : (levels : ℕ) (frames : List Frame) → Alive (FirstName levels frames) []
alive_FirstName levels frames = alive_token (FirstName levels frames) (quoted []) refl (alive_first_name levels frames [])

pub alive_NextName : (levels : ℕ) (frames : List Frame) (front : Members) → Alive (NextName levels frames front) []
alive_NextName levels frames front = alive_token (NextName levels frames front) (quoted []) refl (alive_next_name levels frames front [])

-- ---- bytes at which each place breaks

dead_by_code : (R : List Token → Json → Type 0) (test : ℕ → Bool) (b : ℕ) (w : List ℕ) (j : Json) → ((t : Token) (ts : List Token) → R (t ∷ ts) j → test (code t) ≡ true) → is_blank b ≡ false → test (class b) ≡ false → Bytes R (b ∷ w) j → ⊥
dead_by_code R test b w j codes n c v =
    let f = Front-Bytes R b w j n v in
    false≢true (sym c ∙ (ap test (sym (Front-code R b w j f)) ∙ codes f.t f.ts f.ahead))

pub alive_values : (R : Ahead) (frames : List Frame) → Values R frames → Alive (R 0) []
alive_values R frames u = alive_same (ValueAt frames 0) (R 0) (u.from 0) (alive_Value (127 - length frames + 0) frames)

pub bad_value : (bytes : List ℕ) (place : ℕ) (R : Ahead) (frames : List Frame) (b : ℕ) (rest : List ℕ) → ReadsTo bytes place R → Values R frames → drop place bytes ≡ b ∷ rest → is_blank b ≡ false → (class b == 93) ≡ false → value_codes (class b) ≡ false → IsBadByte bytes place
bad_value bytes place R frames b rest r u e n x c =
    bad_byte bytes place R b rest r e (alive_values R frames u)
    (λ extra w j v.
    let f = Front-Bytes (R extra) b w j n v in
    let k = Front-code (R extra) b w j f in
    let a = u.to extra f.t f.ts j (ap (λ y. y == 93) k ∙ x) f.ahead in
    false≢true (sym c ∙ (ap value_codes (sym k) ∙ value_code (127 - length frames + extra) frames f.t f.ts j (Value-tokens (127 - length frames + extra) frames (f.t ∷ f.ts) j a))))

-- a bracket that closes no array
pub bad_close : (bytes : List ℕ) (place : ℕ) (frames : List Frame) (rest : List ℕ) → ReadsTo bytes place (Expect false frames) → drop place bytes ≡ 93 ∷ rest → IsBadByte bytes place
bad_close bytes place frames rest r e =
    bad_byte bytes place (Expect false frames) 93 rest r e (alive_values (Expect false frames) frames (expect_values false frames))
    (λ extra w j. dead_by_code (ValueAt frames extra) value_codes 93 w j (λ t ts a. value_code _ frames t ts j (Value-tokens _ frames (t ∷ ts) j a)) refl refl)

pub bad_item : (bytes : List ℕ) (place : ℕ) (frames : List Frame) (front : Items) (v : Json) (b : ℕ) (rest : List ℕ) → ReadsTo bytes place (AfterAt (in_array front ∷ frames) v) → drop place bytes ≡ b ∷ rest → is_blank b ≡ false → item_codes (class b) ≡ false → IsBadByte bytes place
bad_item bytes place frames front v b rest r e n c =
    bad_byte bytes place (AfterAt (in_array front ∷ frames) v) b rest r e (alive_After (127 - suc (length frames) + 0) (in_array front ∷ frames) v)
    (λ extra w j. dead_by_code (AfterAt (in_array front ∷ frames) v extra) item_codes b w j (λ t ts a. item_code _ frames front v t ts j (Item-tokens _ frames front v (t ∷ ts) j a)) n c)

pub bad_member : (bytes : List ℕ) (place : ℕ) (frames : List Frame) (front : Members) (s : List ℕ) (v : Json) (b : ℕ) (rest : List ℕ) → ReadsTo bytes place (AfterAt (in_object front s ∷ frames) v) → drop place bytes ≡ b ∷ rest → is_blank b ≡ false → member_codes (class b) ≡ false → IsBadByte bytes place
bad_member bytes place frames front s v b rest r e n c =
    bad_byte bytes place (AfterAt (in_object front s ∷ frames) v) b rest r e (alive_After (127 - suc (length frames) + 0) (in_object front s ∷ frames) v)
    (λ extra w j. dead_by_code (AfterAt (in_object front s ∷ frames) v extra) member_codes b w j (λ t ts a. member_code _ frames front s v t ts j (Member-tokens _ frames front s v (t ∷ ts) j a)) n c)

pub bad_end : (bytes : List ℕ) (place : ℕ) (v : Json) (b : ℕ) (rest : List ℕ) → ReadsTo bytes place (AfterAt [] v) → drop place bytes ≡ b ∷ rest → is_blank b ≡ false → IsBadByte bytes place
bad_end bytes place v b rest r e n =
    bad_byte bytes place (AfterAt [] v) b rest r e (alive_After (127 + 0) [] v)
    (λ extra w j x. let f = Front-Bytes (AfterAt [] v extra) b w j n x in let a : f.t ∷ f.ts ≡ [] = f.ahead.0 in cc)

pub bad_first_name : (bytes : List ℕ) (place : ℕ) (frames : List Frame) (b : ℕ) (rest : List ℕ) → ReadsTo bytes place (FirstNameAt frames) → drop place bytes ≡ b ∷ rest → is_blank b ≡ false → first_name_codes (class b) ≡ false → IsBadByte bytes place
bad_first_name bytes place frames b rest r e n c =
    bad_byte bytes place (FirstNameAt frames) b rest r e (alive_FirstName (127 - suc (length frames) + 0) frames)
    (λ extra w j. dead_by_code (FirstNameAt frames extra) first_name_codes b w j (λ t ts a. first_name_code _ frames t ts j (FirstName-tokens _ frames (t ∷ ts) j a)) n c)

pub bad_next_name : (bytes : List ℕ) (place : ℕ) (frames : List Frame) (front : Members) (b : ℕ) (rest : List ℕ) → ReadsTo bytes place (NextNameAt frames front) → drop place bytes ≡ b ∷ rest → is_blank b ≡ false → (class b == 34) ≡ false → IsBadByte bytes place
bad_next_name bytes place frames front b rest r e n c =
    bad_byte bytes place (NextNameAt frames front) b rest r e (alive_NextName (127 - suc (length frames) + 0) frames front)
    (λ extra w j. dead_by_code (NextNameAt frames front extra) (λ c. c == 34) b w j (λ t ts a. next_name_code _ frames front t ts j (NextName-tokens _ frames front (t ∷ ts) j a)) n c)

pub bad_colon : (bytes : List ℕ) (place : ℕ) (frames : List Frame) (front : Members) (s : List ℕ) (b : ℕ) (rest : List ℕ) → ReadsTo bytes place (ColonAt frames front s) → drop place bytes ≡ b ∷ rest → is_blank b ≡ false → (class b == 58) ≡ false → IsBadByte bytes place
bad_colon bytes place frames front s b rest r e n c =
    bad_byte bytes place (ColonAt frames front s) b rest r e (alive_Colon (127 - suc (length frames) + 0) frames front s)
    (λ extra w j. dead_by_code (ColonAt frames front s extra) (λ c. c == 58) b w j (λ t ts a. colon_code _ frames front s t ts j (Colon-tokens _ frames front s (t ∷ ts) j a)) n c)

-- ---- the bytes end at each place

pub cut_value : (bytes : List ℕ) (place : ℕ) (R : Ahead) (frames : List Frame) → ReadsTo bytes place R → Values R frames → drop place bytes ≡ [] → IsCut bytes
cut_value bytes place R frames r u e = cut_short bytes place R r e (alive_values R frames u) u.some

pub cut_item : (bytes : List ℕ) (place : ℕ) (frames : List Frame) (front : Items) (v : Json) → ReadsTo bytes place (AfterAt (in_array front ∷ frames) v) → drop place bytes ≡ [] → IsCut bytes
cut_item bytes place frames front v r e = cut_short bytes place (AfterAt (in_array front ∷ frames) v) r e (alive_After (127 - suc (length frames) + 0) (in_array front ∷ frames) v) (λ extra j a. Item-tokens (127 - suc (length frames) + extra) frames front v [] j a)

pub cut_member : (bytes : List ℕ) (place : ℕ) (frames : List Frame) (front : Members) (s : List ℕ) (v : Json) → ReadsTo bytes place (AfterAt (in_object front s ∷ frames) v) → drop place bytes ≡ [] → IsCut bytes
cut_member bytes place frames front s v r e = cut_short bytes place (AfterAt (in_object front s ∷ frames) v) r e (alive_After (127 - suc (length frames) + 0) (in_object front s ∷ frames) v) (λ extra j a. Member-tokens (127 - suc (length frames) + extra) frames front s v [] j a)

pub cut_first_name : (bytes : List ℕ) (place : ℕ) (frames : List Frame) → ReadsTo bytes place (FirstNameAt frames) → drop place bytes ≡ [] → IsCut bytes
cut_first_name bytes place frames r e = cut_short bytes place (FirstNameAt frames) r e (alive_FirstName (127 - suc (length frames) + 0) frames) (λ extra j a. FirstName-tokens (127 - suc (length frames) + extra) frames [] j a)

pub cut_next_name : (bytes : List ℕ) (place : ℕ) (frames : List Frame) (front : Members) → ReadsTo bytes place (NextNameAt frames front) → drop place bytes ≡ [] → IsCut bytes
cut_next_name bytes place frames front r e = cut_short bytes place (NextNameAt frames front) r e (alive_NextName (127 - suc (length frames) + 0) frames front) (λ extra j a. NextName-tokens (127 - suc (length frames) + extra) frames front [] j a)

pub cut_colon : (bytes : List ℕ) (place : ℕ) (frames : List Frame) (front : Members) (s : List ℕ) → ReadsTo bytes place (ColonAt frames front s) → drop place bytes ≡ [] → IsCut bytes
cut_colon bytes place frames front s r e = cut_short bytes place (ColonAt frames front s) r e (alive_Colon (127 - suc (length frames) + 0) frames front s) (λ extra j a. Colon-tokens (127 - suc (length frames) + extra) frames front s [] j a)

-- ---- steps over one byte

one_byte : (bytes : List ℕ) (place : ℕ) (R S : Ahead) (t : Token) (b : ℕ) (rest : List ℕ) → ReadsTo bytes place R → IsFixed t b [] → drop place bytes ≡ b ∷ rest
    → ((extra : ℕ) (ts : List Token) (j : Json) → R extra (t ∷ ts) j → S extra ts j) → ((extra : ℕ) (ts : List Token) (j : Json) → S extra ts j → R extra (t ∷ ts) j) → ReadsTo bytes (place + 1) S
one_byte bytes place R S t b rest r i e to from =
    let P : ℕ → Type 0 = λ n. ReadsTo bytes (place + n) S in
    subst P (ap length i.spells) (ReadsTo-fixed bytes place R S t b [] rest r i (e ∙ sym (ap (λ x. x ++ rest) i.spells)) to from)

levels_are : (n extra : ℕ) → n < 127 → suc (127 - suc n + extra) ≡ 127 - n + extra
levels_are n extra h = omega arith

pub open_array : (bytes : List ℕ) (place : ℕ) (R : Ahead) (frames : List Frame) (rest : List ℕ) → ReadsTo bytes place R → Values R frames → length frames < 127 → drop place bytes ≡ 91 ∷ rest → ReadsTo bytes (place + 1) (Expect true (in_array no_items ∷ frames))
open_array bytes place R frames rest r u l e =
    one_byte bytes place R (Expect true (in_array no_items ∷ frames)) begin_array 91 rest r (record { spells = refl; no_blank = refl; valid = tt; alone = λ x. refl }) e
    (λ extra ts j v.
    let a = Value-tokens (127 - length frames + extra) frames (begin_array ∷ ts) j (u.to extra begin_array ts j refl v) in
    let same : a.0 ≡ 127 - suc (length frames) + extra = omega (arith, a.1) in
    let P : ℕ → Type 0 = λ n. FirstItem n frames ts j in to extra ts j (FirstItem-cases (127 - suc (length frames) + extra) frames ts j (subst P same a.2)))
    (λ extra ts j v. u.from extra (begin_array ∷ ts) j (tokens-Value (127 - length frames + extra) frames (begin_array ∷ ts) j (127 - suc (length frames) + extra, sym (levels_are (length frames) extra l), from extra ts j v)))
  where
    to : (extra : ℕ) (ts : List Token) (j : Json) → EndOrItem (127 - suc (length frames) + extra) frames ts j → Expect true (in_array no_items ∷ frames) extra ts j
    to extra ts j (inl x) = inr (x.0, x.1, after_levels _ _ frames _ x.0 j (levels_are (length frames) extra l) x.2)
    to extra ts j (inr x) = inl x

    from : (extra : ℕ) (ts : List Token) (j : Json) → Expect true (in_array no_items ∷ frames) extra ts j → FirstItem (127 - suc (length frames) + extra) frames ts j
    from extra ts j (inl x) = item-FirstItem (127 - suc (length frames) + extra) frames ts j x
    from extra ts j (inr x) = let P : List Token → Type 0 = λ y. FirstItem (127 - suc (length frames) + extra) frames y j in
        subst P (sym x.1) (end-FirstItem (127 - suc (length frames) + extra) frames x.0 j (after_levels _ _ frames _ x.0 j (sym (levels_are (length frames) extra l)) x.2))

pub open_object : (bytes : List ℕ) (place : ℕ) (R : Ahead) (frames : List Frame) (rest : List ℕ) → ReadsTo bytes place R → Values R frames → length frames < 127 → drop place bytes ≡ 123 ∷ rest → ReadsTo bytes (place + 1) (FirstNameAt frames)
open_object bytes place R frames rest r u l e =
    one_byte bytes place R (FirstNameAt frames) begin_object 123 rest r (record { spells = refl; no_blank = refl; valid = tt; alone = λ x. refl }) e
    (λ extra ts j v.
    let a = Value-tokens (127 - length frames + extra) frames (begin_object ∷ ts) j (u.to extra begin_object ts j refl v) in
    let same : a.0 ≡ 127 - suc (length frames) + extra = omega (arith, a.1) in
    let P : ℕ → Type 0 = λ n. FirstName n frames ts j in subst P same a.2)
    (λ extra ts j v. u.from extra (begin_object ∷ ts) j (tokens-Value (127 - length frames + extra) frames (begin_object ∷ ts) j (127 - suc (length frames) + extra, sym (levels_are (length frames) extra l), v)))

-- at the greatest depth no bracket opens
no_level : (n below : ℕ) → n ≡ 127 → 127 - n + 0 ≡ suc below → ⊥
no_level n below e f = omega arith

pub deep_array : (bytes : List ℕ) (place : ℕ) (R : Ahead) (frames : List Frame) (rest : List ℕ) → ReadsTo bytes place R → Values R frames → length frames ≡ 127 → drop place bytes ≡ 91 ∷ rest → IsTooDeep bytes place
deep_array bytes place R frames rest r u l e =
    let fixed : IsFixed begin_array 91 [] = record { spells = refl; no_blank = refl; valid = tt; alone = λ x. refl } in
    too_deep bytes place R 91 rest r e (alive_values R frames u)
    (λ w j v.
    let h = Bytes-fixed (R 0) begin_array 91 [] w j fixed v in
    let a = Value-tokens (127 - length frames + 0) frames (begin_array ∷ h.bytes.ts) j (u.to 0 begin_array h.bytes.ts j refl h.bytes.ahead) in
    no_level (length frames) a.0 l a.1)
    (let one : 127 - length frames + 1 ≡ suc 0 = omega arith in
    let a = alive_same (λ ts. Value 0 (in_array no_items ∷ frames) ts) (λ ts. R 1 (begin_array ∷ ts)) (λ ts j v. u.from 1 (begin_array ∷ ts) j (tokens-Value (127 - length frames + 1) frames (begin_array ∷ ts) j (0, one, item-FirstItem 0 frames ts j v))) (alive_Value 0 (in_array no_items ∷ frames)) in
    record { w = a.w; j = a.j; bytes = token-Bytes (R 1) begin_array a.w a.j tt a.bytes })

pub deep_object : (bytes : List ℕ) (place : ℕ) (R : Ahead) (frames : List Frame) (rest : List ℕ) → ReadsTo bytes place R → Values R frames → length frames ≡ 127 → drop place bytes ≡ 123 ∷ rest → IsTooDeep bytes place
deep_object bytes place R frames rest r u l e =
    let fixed : IsFixed begin_object 123 [] = record { spells = refl; no_blank = refl; valid = tt; alone = λ x. refl } in
    too_deep bytes place R 123 rest r e (alive_values R frames u)
    (λ w j v.
    let h = Bytes-fixed (R 0) begin_object 123 [] w j fixed v in
    let a = Value-tokens (127 - length frames + 0) frames (begin_object ∷ h.bytes.ts) j (u.to 0 begin_object h.bytes.ts j refl h.bytes.ahead) in
    no_level (length frames) a.0 l a.1)
    (let one : 127 - length frames + 1 ≡ suc 0 = omega arith in
    let a = alive_same (FirstName 0 frames) (λ ts. R 1 (begin_object ∷ ts)) (λ ts j v. u.from 1 (begin_object ∷ ts) j (tokens-Value (127 - length frames + 1) frames (begin_object ∷ ts) j (0, one, v))) (alive_FirstName 0 frames) in
    record { w = a.w; j = a.j; bytes = token-Bytes (R 1) begin_object a.w a.j tt a.bytes })

pub close_empty_array : (bytes : List ℕ) (place : ℕ) (frames : List Frame) (rest : List ℕ) → ReadsTo bytes place (Expect true (in_array no_items ∷ frames)) → drop place bytes ≡ 93 ∷ rest → ReadsTo bytes (place + 1) (AfterAt frames (array no_items))
close_empty_array bytes place frames rest r e =
    one_byte bytes place (Expect true (in_array no_items ∷ frames)) (AfterAt frames (array no_items)) end_array 93 rest r (record { spells = refl; no_blank = refl; valid = tt; alone = λ x. refl }) e
    (λ extra ts j v. to extra ts j v)
    (λ extra ts j v. inr (ts, refl, v))
  where
    to : (extra : ℕ) (ts : List Token) (j : Json) → Expect true (in_array no_items ∷ frames) extra (end_array ∷ ts) j → AfterAt frames (array no_items) extra ts j
    to extra ts j (inr x) =
        let same : x.0 ≡ ts = let e : end_array ∷ ts ≡ end_array ∷ x.0 = x.1 in cc in
        let P : List Token → Type 0 = λ y. AfterAt frames (array no_items) extra y j in subst P same x.2
    to extra ts j (inl x) = absurd (Value-tokens (127 - suc (length frames) + extra) (in_array no_items ∷ frames) (end_array ∷ ts) j x)

-- a comma behind an item
pub next_item : (bytes : List ℕ) (place : ℕ) (frames : List Frame) (front : Items) (v : Json) (rest : List ℕ) → ReadsTo bytes place (AfterAt (in_array front ∷ frames) v) → drop place bytes ≡ 44 ∷ rest
    → ReadsTo bytes (place + 1) (Expect false (in_array (join_items front (item v no_items)) ∷ frames))
next_item bytes place frames front v rest r e =
    one_byte bytes place (AfterAt (in_array front ∷ frames) v) (Expect false (in_array (join_items front (item v no_items)) ∷ frames)) comma 44 rest r (record { spells = refl; no_blank = refl; valid = tt; alone = λ x. refl }) e
    (λ extra ts j a. Item-tokens (127 - suc (length frames) + extra) frames front v (comma ∷ ts) j a)
    (λ extra ts j a. tokens-Item (127 - suc (length frames) + extra) frames front v (comma ∷ ts) j a)

pub close_array : (bytes : List ℕ) (place : ℕ) (frames : List Frame) (front : Items) (v : Json) (rest : List ℕ) → ReadsTo bytes place (AfterAt (in_array front ∷ frames) v) → length frames < 127 → drop place bytes ≡ 93 ∷ rest
    → ReadsTo bytes (place + 1) (AfterAt frames (array (join_items front (item v no_items))))
close_array bytes place frames front v rest r l e =
    one_byte bytes place (AfterAt (in_array front ∷ frames) v) (AfterAt frames (array (join_items front (item v no_items)))) end_array 93 rest r (record { spells = refl; no_blank = refl; valid = tt; alone = λ x. refl }) e
    (λ extra ts j a. after_levels _ _ frames _ ts j (levels_are (length frames) extra l) (Item-tokens (127 - suc (length frames) + extra) frames front v (end_array ∷ ts) j a))
    (λ extra ts j a. tokens-Item (127 - suc (length frames) + extra) frames front v (end_array ∷ ts) j (after_levels _ _ frames _ ts j (sym (levels_are (length frames) extra l)) a))

-- a comma behind a member
pub next_member : (bytes : List ℕ) (place : ℕ) (frames : List Frame) (front : Members) (s : List ℕ) (v : Json) (rest : List ℕ) → ReadsTo bytes place (AfterAt (in_object front s ∷ frames) v) → drop place bytes ≡ 44 ∷ rest
    → ReadsTo bytes (place + 1) (NextNameAt frames (join_members front (member s v no_members)))
next_member bytes place frames front s v rest r e =
    one_byte bytes place (AfterAt (in_object front s ∷ frames) v) (NextNameAt frames (join_members front (member s v no_members))) comma 44 rest r (record { spells = refl; no_blank = refl; valid = tt; alone = λ x. refl }) e
    (λ extra ts j a. Member-tokens (127 - suc (length frames) + extra) frames front s v (comma ∷ ts) j a)
    (λ extra ts j a. tokens-Member (127 - suc (length frames) + extra) frames front s v (comma ∷ ts) j a)

pub close_object : (bytes : List ℕ) (place : ℕ) (frames : List Frame) (front : Members) (s : List ℕ) (v : Json) (rest : List ℕ) → ReadsTo bytes place (AfterAt (in_object front s ∷ frames) v) → length frames < 127 → drop place bytes ≡ 125 ∷ rest
    → ReadsTo bytes (place + 1) (AfterAt frames (object (join_members front (member s v no_members))))
close_object bytes place frames front s v rest r l e =
    one_byte bytes place (AfterAt (in_object front s ∷ frames) v) (AfterAt frames (object (join_members front (member s v no_members)))) end_object 125 rest r (record { spells = refl; no_blank = refl; valid = tt; alone = λ x. refl }) e
    (λ extra ts j a. after_levels _ _ frames _ ts j (levels_are (length frames) extra l) (Member-tokens (127 - suc (length frames) + extra) frames front s v (end_object ∷ ts) j a))
    (λ extra ts j a. tokens-Member (127 - suc (length frames) + extra) frames front s v (end_object ∷ ts) j (after_levels _ _ frames _ ts j (sym (levels_are (length frames) extra l)) a))

pub close_empty_object : (bytes : List ℕ) (place : ℕ) (frames : List Frame) (rest : List ℕ) → ReadsTo bytes place (FirstNameAt frames) → length frames < 127 → drop place bytes ≡ 125 ∷ rest → ReadsTo bytes (place + 1) (AfterAt frames (object no_members))
close_empty_object bytes place frames rest r l e =
    one_byte bytes place (FirstNameAt frames) (AfterAt frames (object no_members)) end_object 125 rest r (record { spells = refl; no_blank = refl; valid = tt; alone = λ x. refl }) e
    (λ extra ts j a. after_levels _ _ frames _ ts j (levels_are (length frames) extra l) (FirstName-tokens (127 - suc (length frames) + extra) frames (end_object ∷ ts) j a))
    (λ extra ts j a. tokens-FirstName (127 - suc (length frames) + extra) frames (end_object ∷ ts) j (after_levels _ _ frames _ ts j (sym (levels_are (length frames) extra l)) a))

pub after_colon : (bytes : List ℕ) (place : ℕ) (frames : List Frame) (front : Members) (s : List ℕ) (rest : List ℕ) → ReadsTo bytes place (ColonAt frames front s) → drop place bytes ≡ 58 ∷ rest → ReadsTo bytes (place + 1) (Expect false (in_object front s ∷ frames))
after_colon bytes place frames front s rest r e =
    one_byte bytes place (ColonAt frames front s) (Expect false (in_object front s ∷ frames)) colon 58 rest r (record { spells = refl; no_blank = refl; valid = tt; alone = λ x. refl }) e
    (λ extra ts j a. Colon-tokens (127 - suc (length frames) + extra) frames front s (colon ∷ ts) j a)
    (λ extra ts j a. colon-Colon (127 - suc (length frames) + extra) frames front s ts j a)

-- white space
pub ReadsTo-blanks : (bytes : List ℕ) (place : ℕ) (R : Ahead) (blanks rest : List ℕ) → ReadsTo bytes place R → drop place bytes ≡ blanks ++ rest → AreBlank blanks → ReadsTo bytes (place + length blanks) R
ReadsTo-blanks bytes place R [] rest r e h = let P : ℕ → Type 0 = λ n. ReadsTo bytes n R in let z : place ≡ place + 0 = omega arith in subst P z r
ReadsTo-blanks bytes place R (b ∷ blanks) rest r e h =
    let g = grows bytes place (b ∷ []) (blanks ++ rest) r.inside e in
    let P : ℕ → Type 0 = λ n. ReadsTo bytes n R in
    let z : place + 1 + length blanks ≡ place + length (b ∷ blanks) = omega arith in
    subst P z (ReadsTo-blanks bytes (place + 1) R blanks rest (ReadsTo-blank bytes place R b (blanks ++ rest) r e h.0) g.after h.1)

-- nothing was read
pub ReadsTo-start : (bytes : List ℕ) → ReadsTo bytes 0 (Expect false [])
ReadsTo-start bytes = record {
  inside = omega arith;
  last = None;
  reads = record {
    forth = λ extra w j f t. let n : 127 + extra ≡ 127 - length {A = Frame} [] + extra = omega arith in
        let P : ℕ → Type 0 = λ k. Value k [] (tokens j) j in
        record { ts = tokens j; ahead = subst P n (record { j = j; rest = []; inside = t.0; split = sym (append-nil (tokens j)); after = (refl, refl) }); laid = t.1 };
    back = λ extra w j f v. let a = v.ahead in
        let same : v.ts ≡ tokens a.j = a.split ∙ (ap (λ x. tokens a.j ++ x) a.after.0 ∙ append-nil (tokens a.j)) in
        let n : 127 - length {A = Frame} [] + extra ≡ 127 + extra = omega arith in
        let L : List Token → Type 0 = λ x. Laid x w in
        let P : ℕ → Type 0 = λ k. IsWithin k a.j in
        let Q : Json → Type 0 = λ x. IsText (127 + extra) w x in
        subst Q (sym a.after.1) (subst P n a.inside, subst L same v.laid);
  };
  follow = tt;
}

-- the whole value was read
pub whole_value : (bytes : List ℕ) (place : ℕ) (v : Json) → ReadsTo bytes place (AfterAt [] v) → drop place bytes ≡ [] → IsText 127 bytes v
whole_value bytes place v r e = whole_text bytes place v r e

pub only_value : (bytes : List ℕ) (place : ℕ) (v : Json) → ReadsTo bytes place (AfterAt [] v) → drop place bytes ≡ [] → (levels : ℕ) (j : Json) → IsText levels bytes j → j ≡ v
only_value bytes place v r e = only_text bytes place v r e

pub cut_end_free : (bytes : List ℕ) (place n : ℕ) → place ≤ length bytes → n < length bytes - place → drop (place + n) bytes ≡ get_or bytes (place + n) 0 ∷ drop (place + n + 1) bytes
cut_end_free bytes place n l h = drop_more bytes (place + n) 0 (omega arith)
