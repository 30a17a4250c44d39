-- From the pieces of a record's text to the text that the model writes, and back to the text before them.
use Rattle.std.proofs.Common.{◌≡◌, ◌∙◌, ℕ, Bool, true, false, List, [], ◌∷◌, ◌++◌, length, append_assoc, nat_abs, refl, ap, arith}
use Rattle.std.proofs.lemmas.List.{length-append}
use Rattle.std.specs.Prelude.{◌<◌, codes, decimal, slice_index, Option, Result, Ok, Err}
use Rattle.std.specs.String.Boundary.{IsSplitPoint}
use Rattle.json.specs.Print.{quoted}
use Rattle.model.specs.state.Log.{TopicPart}
use Rattle.model.specs.state.Forms.Showing.{Text}
use Rattle.forms.specs.Formats.{format_of}
use Rattle.forms.specs.Shown.{ShowsSo, showing}
use Rattle.forms.specs.declared.format.Format.{Format}
use Rattle.forms.specs.declared.format.Format.TheVariants.{Binary, Json}
use Rattle.forms.specs.declared.format.FormNo.{FormNo}
use Rattle.forms.specs.declared.format.FormNo.TheVariants as no
use Rattle.broker_link.specs.Fetching.{row_of}
use Rattle.broker_link.specs.declared.link.Stored.{Stored}
use Rattle.rest_replies.specs.Forms.{shows}
use Rattle.rest_replies.specs.Row.{FrontSo, RowSo, comma_unless, front_text, opening_text, place_text}

-- a format of an instance is shown in as `showing` says
pub shows_is : (format : Format) (stored : Option (List ℕ)) → shows (format_of format) stored ≡ showing format stored
shows_is Binary stored = refl
shows_is Json stored = refl

-- what an opening begins with is a character
opens : (first : Bool) (rest : List ℕ) → (x : ℕ) × (more : List ℕ) × (opening_text first ++ rest ≡ x ∷ more) × (x < 128)
unfolding opening_text
opens true rest = (123, codes "\"topic\":" ++ rest, refl, omega arith)
opens false rest = (44, codes "{\"topic\":" ++ rest, refl, omega arith)

index_at : (before : List ℕ) (x : ℕ) (more : List ℕ) → slice_index (before ++ x ∷ more) (length before) ≡ x
index_at [] x more = refl
index_at (y ∷ ys) x more = index_at ys x more

-- the text can be cut before an opening
pub can_cut : (before rest opened now : List ℕ) (first : Bool) → opened ≡ before ++ opening_text first → now ≡ opened ++ rest → IsSplitPoint now (length before)
can_cut before rest opened now first opened_is now_is =
    let o = opens first rest in
    let whole : now ≡ before ++ o.0 ∷ o.1 = now_is ∙ (ap (λ l. l ++ rest) opened_is ∙ (append_assoc before (opening_text first) rest ∙ ap (λ l. before ++ l) o.2)) in
    let at : slice_index now (length before) ≡ o.0 = ap (λ l. slice_index l (length before)) whole ∙ index_at before o.0 o.1 in
    let low : o.0 < 128 = o.3 in
    (omega (arith, ap length whole, length-append before (o.0 ∷ o.1)), λ _ _ le. absurd (omega (arith, at, low, le)))

-- a topic, a key that is shown, and a value
pub front_put : (format : Format) (topic : List ℕ) (key value : Option (List ℕ)) (before a b c d now k : List ℕ) (r : Result Unit FormNo) → a ≡ before ++ topic → b ≡ a ++ codes ",\"key\":" → showing format key ≡ Text k
    → c ≡ b ++ k → d ≡ c ++ codes ",\"value\":" → ShowsSo format value d now r → FrontSo format topic key value before now r
unfolding front_text
front_put format topic key value before a b c d now k (Ok done) a_is b_is key_is c_is d_is shows =
    (k, shows.0, key_is, shows.1, rw (shows.2, d_is, c_is, b_is, a_is) (simp append_assoc))
front_put format topic key value before a b c d now k (Err no.Json) a_is b_is key_is c_is d_is shows =
    (rw (key_is, shows.0) refl, topic ++ (codes ",\"key\":" ++ (k ++ codes ",\"value\":")), rw (shows.1, d_is, c_is, b_is, a_is) (simp append_assoc))
front_put format topic key value before a b c d now k (Err no.Base64) a_is b_is key_is c_is d_is shows = shows
front_put format topic key value before a b c d now k (Err no.Want) a_is b_is key_is c_is d_is shows = tt

-- the pieces are the text that the model writes
whole_text : (first : Bool) (before topic key value : List ℕ) (partition offset : ℕ) → ((before ++ opening_text first) ++ front_text topic key value) ++ place_text partition offset
    ≡ before ++ (comma_unless first ++ (codes "{\"topic\":" ++ (topic ++ (codes ",\"key\":" ++ (key ++ (codes ",\"value\":" ++ (value ++ (codes ",\"partition\":" ++ (decimal partition ++ (codes ",\"offset\":" ++ (decimal offset ++ codes "}")))))))))))
unfolding opening_text front_text place_text
whole_text first before topic key value partition offset = simp append_assoc

-- the text of a record whose key and value are shown
pub row_put : (first : Bool) (format : Format) (at : TopicPart) (s : Stored) (topic before opened front now k v : List ℕ) (partition offset : ℕ) → topic ≡ quoted at.topic → partition ≡ at.partition
    → offset ≡ nat_abs s.offset → opened ≡ before ++ opening_text first → showing format s.key ≡ Text k → showing format s.value ≡ Text v → front ≡ opened ++ front_text topic k v
    → now ≡ front ++ place_text partition offset → RowSo first (format_of format) (record { at = at; row = row_of s }) before now (Ok tt)
row_put first format at s topic before opened front now k v partition offset topic_is partition_is offset_is opened_is key_is value_is front_is now_is =
    let key_shown : shows (format_of format) s.key ≡ Text k = shows_is format s.key ∙ key_is in
    let value_shown : shows (format_of format) s.value ≡ Text v = shows_is format s.value ∙ value_is in
    (rw (key_shown, value_shown) refl, rw (now_is, front_is, opened_is, topic_is, partition_is, offset_is, key_shown, value_shown) (whole_text first before (quoted at.topic) k v at.partition (nat_abs s.offset)))

-- where a record stands, put in pieces
pub place_put : (partition offset : ℕ) (a b c d e f p o : List ℕ) → b ≡ a ++ codes ",\"partition\":" → c ≡ b ++ p → d ≡ c ++ codes ",\"offset\":" → e ≡ d ++ o → f ≡ e ++ codes "}"
    → p ≡ decimal partition → o ≡ decimal offset → f ≡ a ++ place_text partition offset
unfolding place_text
place_put partition offset a b c d e f p o first second third fourth fifth p_is o_is = rw (fifth, fourth, third, second, first, p_is, o_is) (simp append_assoc)
