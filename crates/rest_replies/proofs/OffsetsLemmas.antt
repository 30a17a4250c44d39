-- From the texts of records' answers to the text of all of them, and to the reply.
use Rattle.std.proofs.Common.{◌≡◌, ℕ, ◌+◌, ◌<◌, ◌≤◌, List, [], ◌∷◌, ◌++◌, length, take, map, get_or, refl, ap, sym, ◌∙◌, append_assoc, arith, inl, true, false, cond}
use Rattle.std.specs.Prelude.{codes, decimal, ◌==◌, None}
use Rattle.std.proofs.lemmas.List.{map_more, length-map, length-take, take_all}
use Rattle.model.specs.texts.Texts.{is_retriable, joined, placed_text}
use Rattle.model.specs.texts.Texts.Response.{Body}
use Rattle.model.specs.state.Entry.{Placed, is_zero}
use Rattle.rest_codes.specs.declared.response.Reply.TheVariants as reply
use Rattle.rest_codes.specs.declared.response.Media.TheVariants as media
use Rattle.rest_replies.specs.Answer.{placed_of}
use Rattle.rest_replies.specs.declared.answer.Told.{Told}
use Rattle.rest_replies.specs.Offsets.{SaysProduced, offsets_text, stored_text, failed_text, code_text}
use Rattle.rest_replies.proofs.JoinedLemmas.{joined_push, mark}

abbrev pub told_text : Told → List ℕ
told_text t = placed_text (placed_of t)

-- one record's answer more
pub answers_more : (told : List Told) (i : ℕ) (d : Told) (head text more : List ℕ) → i < length told → text ≡ head ++ joined (map told_text (take i told))
    → more ≡ text ++ (mark (i == 0) ++ told_text (get_or told i d)) → more ≡ head ++ joined (map told_text (take (i + 1) told))
answers_more told i d head text more lt is added =
    let t : Told = get_or told i d in
    let long : length (map told_text (take i told)) ≡ i = length-map (take i told) told_text ∙ omega (arith, lt, length-take i told) in
    let next : map told_text (take (i + 1) told) ≡ map told_text (take i told) ++ told_text t ∷ [] = map_more told_text told i d lt in
    let joined_is : joined (map told_text (take (i + 1) told)) ≡ joined (map told_text (take i told)) ++ (mark (i == 0) ++ told_text t) = ap joined next ∙ joined_push (map told_text (take i told)) (told_text t) i long in
    added ∙ (ap (λ l. l ++ (mark (i == 0) ++ told_text t)) is ∙ (append_assoc head (joined (map told_text (take i told))) (mark (i == 0) ++ told_text t) ∙ ap (λ l. head ++ l) (sym joined_is)))

texts_of : (told : List Told) → map told_text told ≡ map placed_text (map placed_of told)
texts_of [] = refl
texts_of (t ∷ ts) = ap (λ l. told_text t ∷ l) (texts_of ts)

-- a record's answer is that of its code
-- the pieces of the answer to a record that was stored
pub stored_put : (partition offset : ℕ) (before a x b c y d now : List ℕ) → a ≡ before ++ codes "{\"partition\":" → x ≡ decimal partition → b ≡ a ++ x → c ≡ b ++ codes ",\"offset\":" → y ≡ decimal offset → d ≡ c ++ y
    → now ≡ d ++ codes ",\"error_code\":null,\"error\":null}" → now ≡ before ++ stored_text partition offset
unfolding stored_text
stored_put partition offset before a x b c y d now a_is x_is b_is c_is y_is d_is now_is = rw (now_is, d_is, y_is, c_is, b_is, x_is, a_is) (simp append_assoc)

pub stored_is : (t : Told) → is_zero t.code ≡ true → stored_text t.partition t.offset ≡ placed_text (placed_of t)
unfolding stored_text
stored_is t e = rw e refl

pub failed_is : (t : Told) (kind reason : List ℕ) → is_zero t.code ≡ false → kind ≡ cond (is_retriable t.code) (codes "2") (codes "1") → reason ≡ code_text t.code
    → failed_text t.partition kind reason ≡ placed_text (placed_of t)
unfolding failed_text code_text
failed_is t kind reason e kind_is reason_is = rw (e, kind_is, reason_is) refl

-- all answers, between the marks
pub answers_whole : (told : List Told) (i : ℕ) (text whole : List ℕ) → length told ≤ i → text ≡ codes "{\"offsets\":[" ++ joined (map told_text (take i told))
    → whole ≡ text ++ codes "],\"key_schema_id\":null,\"value_schema_id\":null}" → whole ≡ offsets_text (map placed_of told)
unfolding offsets_text
answers_whole told i text whole le is added =
    let j : List ℕ = joined (map told_text told) in
    let head : List ℕ = codes "{\"offsets\":[" in
    let end : List ℕ = codes "],\"key_schema_id\":null,\"value_schema_id\":null}" in
    let tail : List ℕ = codes ",\"key_schema_id\":null,\"value_schema_id\":null}" in
    let all : text ≡ head ++ j = is ∙ ap (λ (ts : List Told). head ++ joined (map told_text ts)) (take_all i told le) in
    let texts : j ≡ joined (map placed_text (map placed_of told)) = ap joined (texts_of told) in
    let moved : (j ++ codes "]") ++ tail ≡ j ++ end = append_assoc j (codes "]") tail in
    added ∙ (ap (λ l. l ++ end) all ∙ (append_assoc head j end ∙ (ap (λ l. head ++ l) (sym moved) ∙ ap (λ l. head ++ ((l ++ codes "]") ++ tail)) texts)))

-- the reply that has them
pub says_produced : (placed : List Placed) (text : List ℕ) → text ≡ offsets_text placed → SaysProduced placed (reply.Body media.Plain text)
unfolding offsets_text
says_produced placed text is = inl (λ advertise topic forms records. ap (λ (t : List ℕ). Body None t) is)
