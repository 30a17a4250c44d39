-- From the bytes at a place to the reader's next place: white space, strings, numbers and words, with their nodes.
use Rattle.std.proofs.Common.{◌≡◌, ℕ, zero, suc, ◌+◌, ◌-◌, ◌≤◌, List, [], ◌∷◌, ◌++◌, length, take, drop, true, false, cond, ◌==◌, Some, refl, sym, ap, ◌∙◌, subst, append_assoc, arith}
use Rattle.std.specs.List.{slice_get, flat_map}
use Rattle.std.proofs.lemmas.List.{append-nil, take_at, drop_at, take_all, take-append-le, drop-append-le, length-append, length-drop, drop-drop}
use Rattle.json_span.specs.Json.{Json, Items, Members, null, boolean, number, text, array, object, no_items, item, no_members, member, tokens}
use Rattle.json_token.specs.Tokens.{Token, null_name, true_name, false_name, numeral, quoted, is_blank, spelled, AreTokens}
use Rattle.json_span.specs.Text.{compact}
use Rattle.json_span.specs.Refusals.{Refuses}
use Rattle.json_span.specs.Ahead.{Frame, in_array, in_object, Ahead, ValueAt, AfterAt, Expect}
use Rattle.json_span.specs.Reading.{ReadsTo}
use Rattle.json_span.specs.Tree.{StandsIn, ItemsIn, MembersIn, IsNode, HasContent}
use Rattle.json_span.specs.Steps.{AtAny, AtEnd, Adds, Holds, HoldsOne, opened}
use Rattle.json_token.specs.TokenEnds.{Skips, QuotedTo, QuotedFails, NumberTo, NumberFails, begins_number, WordTo, WordFails}
use Rattle.json_span.specs.declared.tree.Node.{Node}
use Rattle.json_span.specs.declared.tree.Member.{Member}
use Rattle.json_span.specs.declared.tree.Form.{Form}
use Rattle.json_span.specs.declared.tree.Form.TheVariants.{Null, Bool as Flag, Number}
use Rattle.json_span.specs.declared.state.Open.{Open}
use Rattle.json_span.specs.declared.state.Open.TheVariants.{InArray, InObject}
use Rattle.json_token.specs.declared.error.JsonNo.{JsonNo}
use Rattle.json_token.specs.declared.error.JsonNo.TheVariants.{BadByte, Cut, TooDeep, Want}
use Rattle.json_span.proofs.AheadLemmas.{Value-tokens, tokens-Value}
use Rattle.json_span.proofs.BytesLemmas.{class, code, decode}
use Rattle.json_span.proofs.ReadingLemmas.{Alive, IsFixed, ReadsTo-fixed}
use Rattle.json_span.proofs.Spelling.{ReadsTo-quoted, bad_chars, cut_chars, ReadsTo-numeral, bad_number, cut_number, bad_name, cut_name}
use Rattle.json_span.proofs.States.{Values, expect_values, value_number_ends, ReadsTo-blanks, alive_null, alive_true, alive_false, alive_numeral, alive_string}

place_along : (bytes : List ℕ) (m n : ℕ) (R : Ahead) → m ≡ n → ReadsTo bytes m R → ReadsTo bytes n R
place_along bytes m n R e r = let P : ℕ → Type 0 = λ k. ReadsTo bytes k R in subst P e r

pub skipped : (bytes : List ℕ) (from to : ℕ) (R : Ahead) → ReadsTo bytes from R → Skips bytes from to → ReadsTo bytes to R
skipped bytes from to R r s = place_along bytes _ to R (sym s.moved) (ReadsTo-blanks bytes from R s.blanks (drop to bytes) r s.split s.blank)

-- ---- strings

pub string_read : (bytes : List ℕ) (from to : ℕ) (R S : Ahead) → ReadsTo bytes from R → (q : QuotedTo bytes from to)
    → ((extra : ℕ) (ts : List Token) (j : Json) → R extra (quoted q.s ∷ ts) j → S extra ts j) → ((extra : ℕ) (ts : List Token) (j : Json) → S extra ts j → R extra (quoted q.s ∷ ts) j) → ReadsTo bytes to S
string_read bytes from to R S r q f g =
    let n : from + length (34 ∷ (q.s ++ (34 ∷ []))) ≡ to = omega (arith, q.moved, length-append q.s (34 ∷ [])) in
    place_along bytes _ to S n (ReadsTo-quoted bytes from R S q.s (drop to bytes) r q.split q.valid f g)

pub string_refused : (bytes : List ℕ) (from : ℕ) (R : Ahead) (e : JsonNo) → ReadsTo bytes from R → ((s : List ℕ) → Alive (λ ts. R 0 (quoted s ∷ ts)) []) → QuotedFails bytes from e → Refuses bytes e
string_refused bytes from R (BadByte place) r a q = let P : ℕ → Type 0 = λ n. Refuses bytes (BadByte n) in subst P (sym q.at) (bad_chars bytes from R q.p q.b q.rest q.last r q.split q.leads q.stops q.no_quote a)
string_refused bytes from R Cut r a q = cut_chars bytes from R q.p q.last r q.split q.leads a
string_refused bytes from R TooDeep r a q = absurd q
string_refused bytes from R Want r a q = tt

-- ---- numbers

number_class : (b : ℕ) → begins_number b ≡ true → class b ≡ 48
number_class b e = ap (λ t. cond t 48 b) e

alive_numbers : (R : Ahead) (frames : List Frame) → Values R frames → (s : List ℕ) → Alive (λ ts. R 0 (numeral s ∷ ts)) []
alive_numbers R frames u s = let v = alive_numeral (127 - length frames + 0) frames s in record { w = v.w; j = v.j; bytes = record { ts = v.bytes.ts; ahead = u.from 0 (numeral s ∷ v.bytes.ts) v.j v.bytes.ahead; laid = v.bytes.laid } }

pub number_read : (bytes : List ℕ) (from to : ℕ) (R : Ahead) (frames : List Frame) → ReadsTo bytes from R → Values R frames → (q : NumberTo bytes from to) → ReadsTo bytes to (AfterAt frames (number (q.b ∷ q.s)))
number_read bytes from to R frames r u q =
    place_along bytes _ to _ (sym q.moved)
    (ReadsTo-numeral bytes from R (AfterAt frames (number (q.b ∷ q.s))) q.b q.s (drop to bytes) q.last r q.split (number_class q.b q.begins) (value_number_ends R frames u) q.leads q.ends q.stops
    (λ extra ts j a. Value-tokens (127 - length frames + extra) frames (numeral (q.b ∷ q.s) ∷ ts) j (u.to extra (numeral (q.b ∷ q.s)) ts j refl a))
    (λ extra ts j a. u.from extra (numeral (q.b ∷ q.s) ∷ ts) j (tokens-Value (127 - length frames + extra) frames (numeral (q.b ∷ q.s) ∷ ts) j a)))

pub number_refused : (bytes : List ℕ) (from : ℕ) (R : Ahead) (frames : List Frame) (e : JsonNo) → ReadsTo bytes from R → Values R frames → NumberFails bytes from e → Refuses bytes e
number_refused bytes from R frames (BadByte place) r u q = let P : ℕ → Type 0 = λ n. Refuses bytes (BadByte n) in subst P (sym q.at) (bad_number bytes from R q.a q.p q.b q.rest q.last r q.split (number_class q.a q.begins) (value_number_ends R frames u) q.leads q.partial q.stops (alive_numbers R frames u))
number_refused bytes from R frames Cut r u q = cut_number bytes from R q.a q.p q.last r q.split (number_class q.a q.begins) (value_number_ends R frames u) q.leads q.partial (alive_numbers R frames u)
number_refused bytes from R frames TooDeep r u q = absurd q
number_refused bytes from R frames Want r u q = tt

-- ---- words

pub word_read : (bytes : List ℕ) (from to : ℕ) (R S : Ahead) (t : Token) (b : ℕ) (s : List ℕ) → ReadsTo bytes from R → IsFixed t b s → WordTo bytes (spelled t) from to
    → ((extra : ℕ) (ts : List Token) (j : Json) → R extra (t ∷ ts) j → S extra ts j) → ((extra : ℕ) (ts : List Token) (j : Json) → S extra ts j → R extra (t ∷ ts) j) → ReadsTo bytes to S
word_read bytes from to R S t b s r i w f g = place_along bytes _ to S (sym w.moved) (ReadsTo-fixed bytes from R S t b s (drop to bytes) r i w.split f g)

pub word_refused : (bytes : List ℕ) (from : ℕ) (R : Ahead) (t : Token) (a : ℕ) (s rest : List ℕ) (e : JsonNo) → ReadsTo bytes from R → IsFixed t a s → Alive (λ ts. R 0 (t ∷ ts)) [] → drop from bytes ≡ a ∷ rest → WordFails bytes (spelled t) from e → Refuses bytes e
word_refused bytes from R t a s rest (BadByte place) r i v first q = from_break q.p q.word_is q.split q.at
  where
    from_break : (p : List ℕ) → spelled t ≡ p ++ (q.c ∷ q.s) → drop from bytes ≡ p ++ (q.b ∷ q.rest) → place ≡ from + length p → Refuses bytes (BadByte place)
    from_break [] w d n =
        let one : a ≡ q.c = let x : a ∷ s ≡ q.c ∷ q.s = sym i.spells ∙ w in cc in
        let two : a ≡ q.b = let x : a ∷ rest ≡ q.b ∷ q.rest = sym first ∙ d in cc in
        absurd (q.other (sym two ∙ one))
    from_break (x ∷ p) w d n =
        let same : a ≡ x = let z : a ∷ s ≡ x ∷ (p ++ (q.c ∷ q.s)) = sym i.spells ∙ w in cc in
        let fixed : IsFixed t x (p ++ (q.c ∷ q.s)) = record { spells = w; no_blank = ap is_blank (sym same) ∙ i.no_blank; valid = i.valid; alone = λ y. ap (λ k. decode (class k) y) (sym same) ∙ i.alone y } in
        let P : ℕ → Type 0 = λ k. Refuses bytes (BadByte k) in
        subst P (sym n) (bad_name bytes from R t x p q.c q.s q.b q.rest r fixed d q.other v)
word_refused bytes from R t a s rest Cut r i v first q = from_cut q.p q.word_is q.split
  where
    from_cut : (p : List ℕ) → spelled t ≡ p ++ (q.c ∷ q.s) → drop from bytes ≡ p → Refuses bytes Cut
    from_cut [] w d = absurd (let x : a ∷ rest ≡ [] = sym first ∙ d in cc)
    from_cut (x ∷ p) w d =
        let same : a ≡ x = let z : a ∷ s ≡ x ∷ (p ++ (q.c ∷ q.s)) = sym i.spells ∙ w in cc in
        let fixed : IsFixed t x (p ++ (q.c ∷ q.s)) = record { spells = w; no_blank = ap is_blank (sym same) ∙ i.no_blank; valid = i.valid; alone = λ y. ap (λ k. decode (class k) y) (sym same) ∙ i.alone y } in
        cut_name bytes from R t x p q.c q.s r fixed d v
word_refused bytes from R t a s rest TooDeep r i v first q = absurd q
word_refused bytes from R t a s rest Want r i v first q = tt

-- ---- nodes

get_more : (xs ys : List Node) (k : ℕ) (n : Node) → slice_get xs k ≡ Some n → slice_get (xs ++ ys) k ≡ Some n
get_more [] ys k n e = absurd cc
get_more (x ∷ xs) ys zero n e = e
get_more (x ∷ xs) ys (suc k) n e = get_more xs ys k n e

get_last : (xs : List Node) (n : Node) → slice_get (xs ++ (n ∷ [])) (length xs) ≡ Some n
get_last [] n = refl
get_last (x ∷ xs) n = get_last xs n

slice_more : (source rest : List ℕ) (a b : ℕ) → a ≤ b → b ≤ length source → take (b - a) (drop a (source ++ rest)) ≡ take (b - a) (drop a source)
slice_more source rest a b l h =
    let m : a ≤ length source = omega arith in
    let k : b - a ≤ length (drop a source) = omega (arith, length-drop a source) in
    ap (take (b - a)) (drop-append-le a source rest m) ∙ take-append-le (b - a) (drop a source) rest k

IsNode-grown : (nodes more : List Node) (source rest : List ℕ) (k : ℕ) (n : Node) (j : Json) → IsNode nodes source k n j → IsNode (nodes ++ more) (source ++ rest) k n j
IsNode-grown nodes more source rest k n j i = record {
  is = get_more nodes more k n i.is;
  begins = i.begins;
  ends = omega (arith, i.ends, length-append source rest);
  spells = slice_more source rest n.start n.end i.begins i.ends ∙ i.spells;
  valid = i.valid;
}

mutual
  pub Stands-grown : (nodes more : List Node) (source rest : List ℕ) (k : ℕ) (j : Json) → StandsIn nodes source k j → StandsIn (nodes ++ more) (source ++ rest) k j
  Stands-grown nodes more source rest k null (n, i, f) = (n, IsNode-grown nodes more source rest k n null i, f)
  Stands-grown nodes more source rest k (boolean b) (n, i, f) = (n, IsNode-grown nodes more source rest k n (boolean b) i, f)
  Stands-grown nodes more source rest k (number s) (n, i, f) = (n, IsNode-grown nodes more source rest k n (number s) i, f)
  Stands-grown nodes more source rest k (text s) (n, i, f) = (n, IsNode-grown nodes more source rest k n (text s) i, f)
  Stands-grown nodes more source rest k (array js) (n, i, ks, f, b, h) = (n, IsNode-grown nodes more source rest k n (array js) i, ks, f, b, Items-grown nodes more source rest ks js h)
  Stands-grown nodes more source rest k (object ms) (n, i, vs, f, b, h) = (n, IsNode-grown nodes more source rest k n (object ms) i, vs, f, b, Members-grown nodes more source rest vs ms h)

  pub Items-grown : (nodes more : List Node) (source rest : List ℕ) (ks : List ℕ) (js : Items) → ItemsIn nodes source ks js → ItemsIn (nodes ++ more) (source ++ rest) ks js
  Items-grown nodes more source rest ks no_items e = e
  Items-grown nodes more source rest ks (item j js) (k, us, e, s, h) = (k, us, e, Stands-grown nodes more source rest k j s, Items-grown nodes more source rest us js h)

  pub Members-grown : (nodes more : List Node) (source rest : List ℕ) (vs : List Member) (ms : Members) → MembersIn nodes source vs ms → MembersIn (nodes ++ more) (source ++ rest) vs ms
  Members-grown nodes more source rest vs no_members e = e
  Members-grown nodes more source rest vs (member s j ms) (m, us, e, c, v, t, h) = (m, us, e, c, v, Stands-grown nodes more source rest m.node j t, Members-grown nodes more source rest us ms h)

HoldsOne-grown : (nodes more : List Node) (source rest : List ℕ) (start : ℕ) (o : Open) (f : Frame) → HoldsOne nodes source start o f → HoldsOne (nodes ++ more) (source ++ rest) start o f
HoldsOne-grown nodes more source rest start (InArray b v) (in_array front) h = (h.0, Items-grown nodes more source rest v.items front h.1)
HoldsOne-grown nodes more source rest start (InObject b v name) (in_object front s) h = (h.0, Members-grown nodes more source rest v.items front h.1, h.2, h.3)
HoldsOne-grown nodes more source rest start (InArray b v) (in_object front s) h = absurd h
HoldsOne-grown nodes more source rest start (InObject b v name) (in_array front) h = absurd h

pub Holds-grown : (nodes more : List Node) (source rest : List ℕ) (opens : List Open) (frames : List Frame) → Holds nodes source opens frames → Holds (nodes ++ more) (source ++ rest) opens frames
Holds-grown nodes more source rest opens [] e = e
Holds-grown nodes more source rest opens (f ∷ frames) (outer, o, e, h, hs) = (outer, o, e, HoldsOne-grown nodes more source rest (length (opened frames)) o f h, Holds-grown nodes more source rest outer frames hs)

-- the node that was made last
pub new_node : (nodes : List Node) (before more source : List ℕ) (n : Node) (j : Json) → source ≡ before ++ more → n.start ≡ length before → n.end ≡ length source → more ≡ compact j → AreTokens (tokens j) → IsNode (nodes ++ (n ∷ [])) source (length nodes) n j
new_node nodes before more source n j e a b c v =
    let len : length source ≡ length before + length more = ap length e ∙ length-append before more in
    let rest : drop n.start source ≡ more = (λ i. drop (a i) (e i)) ∙ drop_at before more (length before) refl in
    let n2 : length more ≤ n.end - n.start = omega arith in
    record {
      is = get_last nodes n;
      begins = omega arith;
      ends = omega arith;
      spells = ap (take (n.end - n.start)) rest ∙ (take_all (n.end - n.start) more n2 ∙ c);
      valid = v;
    }

-- a value without parts was read
pub leaf_end : (bytes : List ℕ) (place to k : ℕ) (nodes new : List Node) (source more now : List ℕ) (opens : List Open) (form : Form) (j : Json) → (a : AtAny bytes place nodes source opens) → Adds nodes new source more form now k → more ≡ compact j → AreTokens (tokens j)
    → ReadsTo bytes to (AfterAt a.at.frames j) → ((n : Node) → n.form ≡ form → IsNode new now k n j → StandsIn new now k j) → AtEnd bytes to k new now opens
leaf_end bytes place to k nodes new source more now opens form j a d c v r make =
    let n : Node = record { start = length source; end = length source + length more; form = form } in
    let P : List Node → Type 0 = λ x. Holds x now opens a.at.frames in
    let Q : List ℕ → Type 0 = λ x. Holds (nodes ++ (n ∷ [])) x opens a.at.frames in
    let I : List Node → Type 0 = λ x. IsNode x now k n j in
    let K : ℕ → Type 0 = λ x. IsNode (nodes ++ (n ∷ [])) now x n j in
    let end : length source + length more ≡ length now = sym (ap length d.source_is ∙ length-append source more) in
    record {
      frames = a.at.frames;
      value = j;
      reads = r;
      holds = subst P (sym d.nodes) (subst Q (sym d.source_is) (Holds-grown nodes (n ∷ []) source more opens a.at.frames a.at.holds));
      source_is = d.source_is ∙ (λ i. a.at.source_is i ++ c i);
      few = a.at.few;
      stands = make n refl (subst I (sym d.nodes) (subst K (sym d.node) (new_node nodes source more now n j d.source_is refl end c v)));
    }

-- ---- the leaves

pub number_end : (bytes : List ℕ) (place to k : ℕ) (nodes new : List Node) (source now : List ℕ) (opens : List Open) → AtAny bytes place nodes source opens → (q : NumberTo bytes place to) → Adds nodes new source (take (to - place) (drop place bytes)) Number now k → AtEnd bytes to k new now opens
number_end bytes place to k nodes new source now opens a q d =
    let j = number (q.b ∷ q.s) in
    let n : length (q.b ∷ q.s) ≡ to - place = omega (arith, q.moved) in
    let same : take (to - place) (drop place bytes) ≡ q.b ∷ q.s = ap (take (to - place)) q.split ∙ take_at (q.b ∷ q.s) (drop to bytes) (to - place) n in
    leaf_end bytes place to k nodes new source _ now opens Number j a d (same ∙ sym (append-nil (q.b ∷ q.s))) ((q.last, q.leads, q.ends), tt)
    (number_read bytes place to (Expect a.first a.at.frames) a.at.frames a.at.reads (expect_values a.first a.at.frames) q) (λ m f i. (m, i, f))

pub number_stops : (bytes : List ℕ) (place : ℕ) (nodes : List Node) (source : List ℕ) (opens : List Open) (e : JsonNo) → AtAny bytes place nodes source opens → NumberFails bytes place e → Refuses bytes e
number_stops bytes place nodes source opens e a q = number_refused bytes place (Expect a.first a.at.frames) a.at.frames e a.at.reads (expect_values a.first a.at.frames) q

nil_along : (xs : List ℕ) → xs ≡ xs ++ []
nil_along xs = sym (append-nil xs)

fixed_null : IsFixed null_name 110 (117 ∷ (108 ∷ (108 ∷ [])))
fixed_null = record { spells = refl; no_blank = refl; valid = tt; alone = λ x. refl }

fixed_true : IsFixed true_name 116 (114 ∷ (117 ∷ (101 ∷ [])))
fixed_true = record { spells = refl; no_blank = refl; valid = tt; alone = λ x. refl }

fixed_false : IsFixed false_name 102 (97 ∷ (108 ∷ (115 ∷ (101 ∷ []))))
fixed_false = record { spells = refl; no_blank = refl; valid = tt; alone = λ x. refl }

alive_by : (R S : List Token → Json → Type 0) → ((ts : List Token) (j : Json) → R ts j → S ts j) → Alive R [] → Alive S []
alive_by R S f v = record { w = v.w; j = v.j; bytes = record { ts = v.bytes.ts; ahead = f v.bytes.ts v.j v.bytes.ahead; laid = v.bytes.laid } }

-- a word, and the value that it names
word_end : (bytes : List ℕ) (place to k : ℕ) (nodes new : List Node) (source now : List ℕ) (opens : List Open) (form : Form) (j : Json) (t : Token) (b : ℕ) (s : List ℕ) → (a : AtAny bytes place nodes source opens) → WordTo bytes (spelled t) place to → Adds nodes new source (spelled t) form now k
    → tokens j ≡ t ∷ [] → IsFixed t b s → AreTokens (tokens j) → ((extra : ℕ) (ts : List Token) (w : Json) → ValueAt a.at.frames extra (t ∷ ts) w → AfterAt a.at.frames j extra ts w) → ((extra : ℕ) (ts : List Token) (w : Json) → AfterAt a.at.frames j extra ts w → ValueAt a.at.frames extra (t ∷ ts) w)
    → (code t == 93) ≡ false → ((n : Node) → n.form ≡ form → IsNode new now k n j → StandsIn new now k j) → AtEnd bytes to k new now opens
word_end bytes place to k nodes new source now opens form j t b s a w d e i v f g c make =
    let u = expect_values a.first a.at.frames in
    leaf_end bytes place to k nodes new source (spelled t) now opens form j a d (nil_along (spelled t) ∙ ap (flat_map spelled) (sym e)) v
    (word_read bytes place to (Expect a.first a.at.frames) (AfterAt a.at.frames j) t b s a.at.reads i w (λ extra ts x y. f extra ts x (u.to extra t ts x c y)) (λ extra ts x y. u.from extra (t ∷ ts) x (g extra ts x y))) make

pub null_end : (bytes : List ℕ) (place to k : ℕ) (nodes new : List Node) (source now : List ℕ) (opens : List Open) → AtAny bytes place nodes source opens → WordTo bytes (spelled null_name) place to → Adds nodes new source (spelled null_name) Null now k → AtEnd bytes to k new now opens
null_end bytes place to k nodes new source now opens a w d =
    word_end bytes place to k nodes new source now opens Null null null_name 110 _ a w d refl fixed_null (tt, tt)
    (λ extra ts x y. Value-tokens (127 - length a.at.frames + extra) a.at.frames (null_name ∷ ts) x y) (λ extra ts x y. tokens-Value (127 - length a.at.frames + extra) a.at.frames (null_name ∷ ts) x y) refl (λ n f i. (n, i, f))

pub true_end : (bytes : List ℕ) (place to k : ℕ) (nodes new : List Node) (source now : List ℕ) (opens : List Open) → AtAny bytes place nodes source opens → WordTo bytes (spelled true_name) place to → Adds nodes new source (spelled true_name) (Flag true) now k → AtEnd bytes to k new now opens
true_end bytes place to k nodes new source now opens a w d =
    word_end bytes place to k nodes new source now opens (Flag true) (boolean true) true_name 116 _ a w d refl fixed_true (tt, tt)
    (λ extra ts x y. Value-tokens (127 - length a.at.frames + extra) a.at.frames (true_name ∷ ts) x y) (λ extra ts x y. tokens-Value (127 - length a.at.frames + extra) a.at.frames (true_name ∷ ts) x y) refl (λ n f i. (n, i, f))

pub false_end : (bytes : List ℕ) (place to k : ℕ) (nodes new : List Node) (source now : List ℕ) (opens : List Open) → AtAny bytes place nodes source opens → WordTo bytes (spelled false_name) place to → Adds nodes new source (spelled false_name) (Flag false) now k → AtEnd bytes to k new now opens
false_end bytes place to k nodes new source now opens a w d =
    word_end bytes place to k nodes new source now opens (Flag false) (boolean false) false_name 102 _ a w d refl fixed_false (tt, tt)
    (λ extra ts x y. Value-tokens (127 - length a.at.frames + extra) a.at.frames (false_name ∷ ts) x y) (λ extra ts x y. tokens-Value (127 - length a.at.frames + extra) a.at.frames (false_name ∷ ts) x y) refl (λ n f i. (n, i, f))

pub null_stops : (bytes : List ℕ) (place : ℕ) (nodes : List Node) (source : List ℕ) (opens : List Open) (rest : List ℕ) (e : JsonNo) → AtAny bytes place nodes source opens → drop place bytes ≡ 110 ∷ rest → WordFails bytes (spelled null_name) place e → Refuses bytes e
null_stops bytes place nodes source opens rest e a f w = let u = expect_values a.first a.at.frames in
    word_refused bytes place (Expect a.first a.at.frames) null_name 110 _ rest e a.at.reads fixed_null (alive_by _ _ (λ ts j x. u.from 0 (null_name ∷ ts) j x) (alive_null (127 - length a.at.frames + 0) a.at.frames)) f w

pub true_stops : (bytes : List ℕ) (place : ℕ) (nodes : List Node) (source : List ℕ) (opens : List Open) (rest : List ℕ) (e : JsonNo) → AtAny bytes place nodes source opens → drop place bytes ≡ 116 ∷ rest → WordFails bytes (spelled true_name) place e → Refuses bytes e
true_stops bytes place nodes source opens rest e a f w = let u = expect_values a.first a.at.frames in
    word_refused bytes place (Expect a.first a.at.frames) true_name 116 _ rest e a.at.reads fixed_true (alive_by _ _ (λ ts j x. u.from 0 (true_name ∷ ts) j x) (alive_true (127 - length a.at.frames + 0) a.at.frames)) f w

pub false_stops : (bytes : List ℕ) (place : ℕ) (nodes : List Node) (source : List ℕ) (opens : List Open) (rest : List ℕ) (e : JsonNo) → AtAny bytes place nodes source opens → drop place bytes ≡ 102 ∷ rest → WordFails bytes (spelled false_name) place e → Refuses bytes e
false_stops bytes place nodes source opens rest e a f w = let u = expect_values a.first a.at.frames in
    word_refused bytes place (Expect a.first a.at.frames) false_name 102 _ rest e a.at.reads fixed_false (alive_by _ _ (λ ts j x. u.from 0 (false_name ∷ ts) j x) (alive_false (127 - length a.at.frames + 0) a.at.frames)) f w

-- a string as a value
pub text_end : (bytes : List ℕ) (place to k : ℕ) (nodes new : List Node) (source now : List ℕ) (opens : List Open) (form : Form) → (a : AtAny bytes place nodes source opens) → (q : QuotedTo bytes place to) → HasContent form (take (to - 1 - (place + 1)) (drop (place + 1) bytes)) → Adds nodes new source (take (to - place) (drop place bytes)) form now k → AtEnd bytes to k new now opens
text_end bytes place to k nodes new source now opens form a q h d =
    let u = expect_values a.first a.at.frames in
    let n : length (34 ∷ (q.s ++ (34 ∷ []))) ≡ to - place = omega (arith, q.moved, length-append q.s (34 ∷ [])) in
    let whole : drop place bytes ≡ (34 ∷ (q.s ++ (34 ∷ []))) ++ drop to bytes = q.split ∙ ap (λ x. 34 ∷ x) (sym (append_assoc q.s (34 ∷ []) (drop to bytes))) in
    let same : take (to - place) (drop place bytes) ≡ 34 ∷ (q.s ++ (34 ∷ [])) = ap (take (to - place)) whole ∙ take_at (34 ∷ (q.s ++ (34 ∷ []))) (drop to bytes) (to - place) n in
    let m : length q.s ≡ to - 1 - (place + 1) = omega (arith, q.moved) in
    let tail : drop (place + 1) bytes ≡ q.s ++ (34 ∷ drop to bytes) = sym (drop-drop 1 place bytes) ∙ ap (drop 1) q.split in
    let inner : take (to - 1 - (place + 1)) (drop (place + 1) bytes) ≡ q.s = ap (take (to - 1 - (place + 1))) tail ∙ take_at q.s (34 ∷ drop to bytes) (to - 1 - (place + 1)) m in
    let C : List ℕ → Type 0 = λ x. HasContent form x in
    let F : Form → Type 0 = λ x. HasContent x q.s in
    leaf_end bytes place to k nodes new source _ now opens form (text q.s) a d (same ∙ sym (append-nil (34 ∷ (q.s ++ (34 ∷ []))))) (q.valid, tt)
    (string_read bytes place to (Expect a.first a.at.frames) (AfterAt a.at.frames (text q.s)) a.at.reads q
    (λ extra ts x y. Value-tokens (127 - length a.at.frames + extra) a.at.frames (quoted q.s ∷ ts) x (u.to extra (quoted q.s) ts x refl y)) (λ extra ts x y. u.from extra (quoted q.s ∷ ts) x (tokens-Value (127 - length a.at.frames + extra) a.at.frames (quoted q.s ∷ ts) x y)))
    (λ x f i. (x, i, subst F (sym f) (subst C inner h)))

pub text_stops : (bytes : List ℕ) (place : ℕ) (nodes : List Node) (source : List ℕ) (opens : List Open) (e : JsonNo) → AtAny bytes place nodes source opens → QuotedFails bytes place e → Refuses bytes e
text_stops bytes place nodes source opens e a q = let u = expect_values a.first a.at.frames in
    string_refused bytes place (Expect a.first a.at.frames) e a.at.reads (λ s. alive_by _ _ (λ ts j x. u.from 0 (quoted s ∷ ts) j x) (alive_string (127 - length a.at.frames + 0) a.at.frames s)) q
