-- From the value that a node stands for to the node that is found.
use Rattle.std.proofs.Common.{◌≡◌, ℕ, zero, suc, ◌+◌, ◌-◌, ◌<◌, ◌≤◌, List, [], ◌∷◌, ◌++◌, length, take, drop, Some, refl, sym, ap, ◌∙◌, subst, append_assoc, arith}
use Rattle.std.specs.List.{slice_get, flat_map, All}
use Rattle.std.specs.Str.{IsUtf8}
use Rattle.std.proofs.lemmas.List.{take_at, length-append, length-drop, drop-drop, append-nil, length-take-le, take-append-drop}
use Rattle.json_span.specs.Json.{Json, Items, Members, null, boolean, number, text, array, object, tokens, IsWithin}
use Rattle.json_token.specs.Tokens.{Token, spelled, Laid, AreTokens}
use Rattle.json_span.specs.Text.{compact, IsText}
use Rattle.json_span.specs.Tree.{StandsIn, ItemsIn, MembersIn, IsNode, items_of, members_of, HasContent}
use Rattle.json_span.specs.NodeList.{kind_of_form}
use Rattle.json_span.specs.Nodes.{kind_of, Stands, HasNode, IsOfKind}
use Rattle.json_span.specs.declared.tree.Tree.{Tree}
use Rattle.json_token.specs.Chars.{content, IsChars}
use Rattle.json_span.specs.declared.tree.Node.{Node}
use Rattle.json_span.specs.declared.tree.Member.{Member}
use Rattle.json_span.specs.declared.tree.Form.{Form}
use Rattle.json_span.specs.declared.tree.Form.TheVariants.{Null, Bool as Flag, Number, Plain, Escaped, Array, Object}
use Rattle.json_span.specs.declared.tree.Kind.{Kind}
use Rattle.json_span.specs.declared.tree.Kind.TheVariants as kinds
use Rattle.json_token.proofs.Utf8Lemmas.{tokens_utf8, chars_utf8}

-- the node, whatever the value
pub record Found (nodes : List Node) (source : List ℕ) (k : ℕ) (j : Json) : Type 0 where
  pub n : Node
  pub node : IsNode nodes source k n j

pub found : (nodes : List Node) (source : List ℕ) (k : ℕ) (j : Json) → StandsIn nodes source k j → Found nodes source k j
found nodes source k null h = record { n = h.0; node = h.1 }
found nodes source k (boolean b) h = record { n = h.0; node = h.1 }
found nodes source k (number s) h = record { n = h.0; node = h.1 }
found nodes source k (text s) h = record { n = h.0; node = h.1 }
found nodes source k (array js) h = record { n = h.0; node = h.1 }
found nodes source k (object ms) h = record { n = h.0; node = h.1 }

get_inside : (nodes : List Node) (k : ℕ) (n : Node) → slice_get nodes k ≡ Some n → k < length nodes
get_inside [] k n e = absurd cc
get_inside (x ∷ nodes) zero n e = omega arith
get_inside (x ∷ nodes) (suc k) n e = let h = get_inside nodes k n e in omega arith

pub node_inside : (nodes : List Node) (source : List ℕ) (k : ℕ) (j : Json) → StandsIn nodes source k j → k < length nodes
node_inside nodes source k j h = let f = found nodes source k j h in get_inside nodes k f.n f.node.is

text_kind : (f : Form) (s : List ℕ) → HasContent f s → kind_of_form f ≡ kinds.Text
text_kind Plain s h = refl
text_kind (Escaped t) s h = refl
text_kind Null s h = absurd h
text_kind (Flag b) s h = absurd h
text_kind Number s h = absurd h
text_kind (Array v) s h = absurd h
text_kind (Object v) s h = absurd h

array_kind : (f : Form) (ks : List ℕ) → items_of f ≡ Some ks → kind_of_form f ≡ kinds.Array
array_kind (Array v) ks e = refl
array_kind Null ks e = absurd cc
array_kind (Flag b) ks e = absurd cc
array_kind Number ks e = absurd cc
array_kind Plain ks e = absurd cc
array_kind (Escaped t) ks e = absurd cc
array_kind (Object v) ks e = absurd cc

object_kind : (f : Form) (vs : List Member) → members_of f ≡ Some vs → kind_of_form f ≡ kinds.Object
object_kind (Object v) vs e = refl
object_kind Null vs e = absurd cc
object_kind (Flag b) vs e = absurd cc
object_kind Number vs e = absurd cc
object_kind Plain vs e = absurd cc
object_kind (Escaped t) vs e = absurd cc
object_kind (Array v) vs e = absurd cc

-- a fact of each node at the place is one of the node that stands for the value
pub kind_stands : (nodes : List Node) (source : List ℕ) (k : ℕ) (r : Kind) (j : Json) → ((x : Node) → slice_get nodes k ≡ Some x → r ≡ kind_of_form x.form) → StandsIn nodes source k j → r ≡ kind_of j
kind_stands nodes source k r null e (n, i, f) = e n i.is ∙ ap kind_of_form f
kind_stands nodes source k r (boolean b) e (n, i, f) = e n i.is ∙ ap kind_of_form f
kind_stands nodes source k r (number s) e (n, i, f) = e n i.is ∙ ap kind_of_form f
kind_stands nodes source k r (text s) e (n, i, f) = e n i.is ∙ text_kind n.form s f
kind_stands nodes source k r (array js) e (n, i, ks, f, b, h) = e n i.is ∙ array_kind n.form ks f
kind_stands nodes source k r (object ms) e (n, i, vs, f, b, h) = e n i.is ∙ object_kind n.form vs f

-- where the node's source text lies
pub record Lies (source : List ℕ) (start end : ℕ) (j : Json) : Type 0 where
  pub order : start ≤ end
  pub inside : end ≤ length source
  pub spells : take (end - start) (drop start source) ≡ compact j
  pub valid : AreTokens (tokens j)

pub lies : (nodes : List Node) (source : List ℕ) (k start end : ℕ) (j : Json) → ((x : Node) → slice_get nodes k ≡ Some x → start ≡ x.start) → ((x : Node) → slice_get nodes k ≡ Some x → end ≡ x.end) → StandsIn nodes source k j → Lies source start end j
lies nodes source k start end j a b h =
    let f = found nodes source k j h in
    let P : ℕ → Type 0 = λ x. Lies source x f.n.end j in
    let Q : ℕ → Type 0 = λ x. Lies source start x j in
    subst Q (sym (b f.n f.node.is)) (subst P (sym (a f.n f.node.is)) (record { order = f.node.begins; inside = f.node.ends; spells = f.node.spells; valid = f.node.valid }))

utf8_along : (xs ys : List ℕ) → xs ≡ ys → IsUtf8 xs → IsUtf8 ys
utf8_along xs ys e h = let P : List ℕ → Type 0 = λ x. IsUtf8 x in subst P e h

pub text_utf8 : (source : List ℕ) (start end : ℕ) (j : Json) (bytes : List ℕ) → Lies source start end j → bytes ≡ take (end - start) (drop start source) → IsUtf8 bytes
text_utf8 source start end j bytes l e = utf8_along _ _ (sym (e ∙ l.spells)) (tokens_utf8 (tokens j) l.valid)

-- tokens without white space are a text of them
pub laid_compact : (ts : List Token) → AreTokens ts → Laid ts (flat_map spelled ts)
laid_compact [] h = tt
laid_compact (t ∷ ts) h = ([], flat_map spelled ts, tt, refl, h.0, laid_compact ts h.1)

-- the source text reads as the value again
pub text_again : (source : List ℕ) (start end : ℕ) (j : Json) (bytes : List ℕ) → Lies source start end j → bytes ≡ take (end - start) (drop start source) → (levels : ℕ) → IsWithin levels j → IsText levels bytes j
text_again source start end j bytes l e levels w = let P : List ℕ → Type 0 = λ y. Laid (tokens j) y in (w, subst P (sym (e ∙ l.spells)) (laid_compact (tokens j) l.valid))

-- between the quotes of a text
pub record Inner (source : List ℕ) (start end : ℕ) (s : List ℕ) : Type 0 where
  pub order : start + 1 ≤ end - 1
  pub inside : end - 1 ≤ length source
  pub chars : take (end - 1 - (start + 1)) (drop (start + 1) source) ≡ s
  pub valid : IsChars s

pub inner : (source : List ℕ) (start end : ℕ) (s : List ℕ) → Lies source start end (text s) → Inner source start end s
inner source start end s l =
    let text_is : take (end - start) (drop start source) ≡ 34 ∷ (s ++ (34 ∷ [])) = l.spells ∙ append-nil (34 ∷ (s ++ (34 ∷ []))) in
    let order = l.order in
    let within = l.inside in
    let size : length (drop start source) ≡ length source - start = length-drop start source in
    let len : length (take (end - start) (drop start source)) ≡ length s + 2 = ap length text_is ∙ (let n = length-append s (34 ∷ []) in omega arith) in
    let count : end - start ≡ length s + 2 = let n = length-take-le (end - start) (drop start source) (omega arith) in omega arith in
    let rest = drop (end - start) (drop start source) in
    let whole : drop start source ≡ 34 ∷ (s ++ (34 ∷ rest)) = sym (take-append-drop (end - start) (drop start source)) ∙ (ap (λ y. y ++ rest) text_is ∙ ap (λ y. 34 ∷ y) (append_assoc s (34 ∷ []) rest)) in
    let behind : drop (start + 1) source ≡ s ++ (34 ∷ rest) = sym (drop-drop 1 start source) ∙ ap (drop 1) whole in
    record {
      order = omega arith;
      inside = omega arith;
      chars = ap (take (end - 1 - (start + 1))) behind ∙ take_at s (34 ∷ rest) (end - 1 - (start + 1)) (omega arith);
      valid = l.valid.0;
    }

pub chars_text : (source : List ℕ) (start end : ℕ) (s bytes : List ℕ) → Inner source start end s → bytes ≡ take (end - 1 - (start + 1)) (drop (start + 1) source) → IsUtf8 bytes
chars_text source start end s bytes i e = utf8_along _ _ (sym (e ∙ i.chars)) (chars_utf8 s i.valid)

pub plain_content : (nodes : List Node) (source : List ℕ) (k start end : ℕ) (s bytes : List ℕ) → StandsIn nodes source k (text s) → ((x : Node) → slice_get nodes k ≡ Some x → (t : List ℕ) → x.form ≡ Escaped t → ⊥) → Inner source start end s → bytes ≡ take (end - 1 - (start + 1)) (drop (start + 1) source) → bytes ≡ content s
plain_content nodes source k start end s bytes (n, i, c) e h f = f ∙ (h.chars ∙ sym (plain n.form (e n i.is) c))
  where
    plain : (g : Form) → ((t : List ℕ) → g ≡ Escaped t → ⊥) → HasContent g s → content s ≡ s
    plain Plain n h = h
    plain (Escaped t) n h = absurd (n t refl)
    plain Null n h = absurd h
    plain (Flag b) n h = absurd h
    plain Number n h = absurd h
    plain (Array v) n h = absurd h
    plain (Object v) n h = absurd h

pub escaped_content : (nodes : List Node) (source : List ℕ) (k : ℕ) (s t : List ℕ) → StandsIn nodes source k (text s) → ((x : Node) → slice_get nodes k ≡ Some x → x.form ≡ Escaped t) → t ≡ content s
escaped_content nodes source k s t (n, i, c) e = let P : Form → Type 0 = λ g. HasContent g s in sym (subst P (e n i.is) c)

pub number_text : (source : List ℕ) (start end : ℕ) (s bytes : List ℕ) → Lies source start end (number s) → bytes ≡ take (end - start) (drop start source) → bytes ≡ s
number_text source start end s bytes l f = f ∙ (l.spells ∙ append-nil s)

-- what is said of an array's items holds of those that stand for its values
pub items_stand : (nodes : List Node) (source : List ℕ) (k : ℕ) (us : List ℕ) (js : Items) → ((x : Node) → slice_get nodes k ≡ Some x → (ks : List ℕ) → items_of x.form ≡ Some ks → us ≡ ks) → StandsIn nodes source k (array js) → ItemsIn nodes source us js × All (λ c. c < k) us
items_stand nodes source k us js e (n, i, ks, f, b, h) =
    let P : List ℕ → Type 0 = λ x. ItemsIn nodes source x js × All (λ c. c < k) x in
    subst P (sym (e n i.is ks f)) (h, b)

pub members_stand : (nodes : List Node) (source : List ℕ) (k : ℕ) (us : List Member) (ms : Members) → ((x : Node) → slice_get nodes k ≡ Some x → (vs : List Member) → members_of x.form ≡ Some vs → us ≡ vs) → StandsIn nodes source k (object ms) → MembersIn nodes source us ms × All (λ m. m.node < k) us
members_stand nodes source k us ms e (n, i, vs, f, b, h) =
    let P : List Member → Type 0 = λ x. MembersIn nodes source x ms × All (λ m. m.node < k) x in
    subst P (sym (e n i.is vs f)) (h, b)

kind_at : (t : Tree) (k : ℕ) (j : Json) → Stands t k j → IsOfKind t k (kind_of j)
kind_at t k null h = h
kind_at t k (boolean b) h = h
kind_at t k (number s) h = (s, h)
kind_at t k (text s) h = (s, h)
kind_at t k (array js) h = (js, h)
kind_at t k (object ms) h = (ms, h)

pub kind_is : (t : Tree) (k : ℕ) (r : Kind) → HasNode t k → ((x : Node) → slice_get t.nodes k ≡ Some x → r ≡ kind_of_form x.form) → IsOfKind t k r
kind_is t k r h e = let P : Kind → Type 0 = λ y. IsOfKind t k y in subst P (sym (kind_stands t.nodes t.source.items k r h.0 e h.1)) (kind_at t k h.0 h.1)
