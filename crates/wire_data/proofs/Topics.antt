-- From the topics so far and the next one, to those topics with it.
use Rattle.std.proofs.Common.{◌≡◌, ℕ, ◌+◌, ◌<◌, ◌^◌, List, [], ◌∷◌, ◌++◌, length, map, Bool, true, false, refl, sym, ap, ◌∙◌, arith, length-append, append-nil, append_assoc, Ok, Err}
use Rattle.wire_prim.specs.Reading.{Reading}
use Rattle.wire_data.specs.declared.metadata_response.MetadataResponse.{MetadataResponse}
use Rattle.wire_data.specs.declared.metadata_response.MetadataResponseRow2.{MetadataResponseRow2}
use Rattle.wire_layout.specs.Layout.{without_place, spelled, each, array}
use Rattle.wire_layout.proofs.Loops.{each_more, taken_more}
use Rattle.wire_data.specs.MetadataResponse.{AreTold, IsTold, IsResponseRead, Topic, stored_topic, stored_response, stored_response_laid, topic_of, as_stored, is_set, flag_of, stored_of, response_of}
use Rattle.wire_layout.specs.declared.error.WireNo.{WireNo}
use Rattle.wire_layout.specs.declared.error.WireNo.TheVariants.{Prim, Rest, Want}
use Rattle.wire_layout.specs.Whole.{IsRead}
use Rattle.wire_prim.specs.Item.{count_item}

pub map_more : {A B : Type 0} (f : A → B) (xs : List A) (x : A) → map f (xs ++ x ∷ []) ≡ map f xs ++ f x ∷ []
map_more f [] x = refl
map_more f (y ∷ ys) x = ap (λ l. f y ∷ l) (map_more f ys x)

pub length_map : {A B : Type 0} (f : A → B) (xs : List A) → length (map f xs) ≡ length xs
length_map f [] = refl
length_map f (x ∷ xs) = omega (arith, length_map f xs)

-- one more topic is read
pub told_more : (count : ℕ) (rows : List MetadataResponseRow2) (row : MetadataResponseRow2) (start before after : Reading) → AreTold count rows start before → IsTold topic_of stored_topic row before after
    → AreTold (count + 1) (rows ++ row ∷ []) start after
told_more count rows row start before after so_far now = record {
  stored = so_far.stored ++ now.stored ∷ [];
  size = omega (arith, length-append so_far.stored (now.stored ∷ []), so_far.size);
  is = ap (λ l. l ++ row ∷ []) so_far.is ∙ ap (λ r. map topic_of so_far.stored ++ r ∷ []) now.is ∙ sym (map_more topic_of so_far.stored now.stored);
  takes = taken_more stored_topic.spelling so_far.stored now.stored start before after so_far.takes now.takes;
  fits = each_more stored_topic.fits so_far.stored now.stored so_far.fits now.fits;
}

pub spelled_map : {A B : Type 0} (spelling : B → List ℕ) (f : A → B) (xs : List A) → spelled (λ x. spelling (f x)) xs ≡ spelled spelling (map f xs)
spelled_map spelling f [] = refl
spelled_map spelling f (x ∷ xs) = ap (λ l. spelling (f x) ++ l) (spelled_map spelling f xs)

pub each_map : {A B : Type 0} (fits : B → Type 0) (f : A → B) (xs : List A) → each (λ x. fits (f x)) xs → each fits (map f xs)
each_map fits f [] all = tt
each_map fits f (x ∷ xs) all = (all.0, each_map fits f xs all.1)

set_flag : (b : Bool) → is_set (flag_of b) ≡ b
set_flag true = refl
set_flag false = refl

topic_back : (row : MetadataResponseRow2) → topic_of (as_stored row) ≡ row
topic_back row = ap (λ (b : Bool). record row { internal = b }) (set_flag row.internal)

rows_back : (rows : List MetadataResponseRow2) → map topic_of (map as_stored rows) ≡ rows
rows_back [] = refl
rows_back (row ∷ rows) = ap (λ r. r ∷ map topic_of (map as_stored rows)) (topic_back row) ∙ ap (λ l. row ∷ l) (rows_back rows)

-- a response is what its bytes tell
pub response_back : (m : MetadataResponse) → response_of (stored_of m) ≡ m
response_back m = ap (λ (l : List MetadataResponseRow2). record m { rows2 = l }) (rows_back m.rows2)

-- a response whose topics are told is told
pub response_told : (m : MetadataResponse) (stored : List Topic) → m.rows2 ≡ map topic_of stored → m ≡ response_of (record { rows = m.rows; controller = m.controller; rows2 = stored })
response_told m stored is = ap (λ (l : List MetadataResponseRow2). record m { rows2 = l }) is

-- topics behind their count
pub counted : (topics : List MetadataResponseRow2) (n : ℕ) (start middle end : List ℕ) → n ≡ length topics → middle ≡ start ++ count_item n → end ≡ middle ++ spelled (λ t. stored_topic.spelling (as_stored t)) topics
    → end ≡ start ++ (array stored_topic).spelling (map as_stored topics)
unfolding array
counted topics n start middle end size one more =
    let same : n ≡ length (map as_stored topics) = size ∙ sym (length_map as_stored topics) in
    more ∙ ap (λ l. l ++ spelled (λ t. stored_topic.spelling (as_stored t)) topics) one ∙ append_assoc start (count_item n) (spelled (λ t. stored_topic.spelling (as_stored t)) topics)
    ∙ ap (λ l. start ++ (count_item n ++ l)) (spelled_map stored_topic.spelling as_stored topics) ∙ ap (λ k. start ++ (count_item k ++ spelled stored_topic.spelling (map as_stored topics))) same

pub counted_fits : (topics : List MetadataResponseRow2) → length topics < 2 ^ 31 → each (λ t. stored_topic.fits (as_stored t)) topics → (array stored_topic).fits (map as_stored topics)
unfolding array
counted_fits topics few all = record { few = omega (arith, length_map as_stored topics); each = each_map stored_topic.fits as_stored topics all }

-- a refusal of what is stored is one of the response
pub told_refused : (whole : List ℕ) (why : WireNo) → IsRead stored_response whole (Err why) → IsResponseRead whole (Err why)
told_refused whole (Prim cause) refused = record { value = tt; answer = refused.answer; exact = λ m s. refused.exact s.stored s.fits s.bytes }
told_refused whole (Rest n) refused = record { value = tt; answer = refused.answer; exact = λ m s. refused.exact s.stored s.fits s.bytes }
told_refused whole Want refused = record { value = tt; answer = tt; exact = λ m s. tt }

empty_is : (rest : List ℕ) → length rest ≡ 0 → rest ≡ []
empty_is [] none = refl
empty_is (x ∷ xs) none = absurd (omega arith)

-- a response that was read to the end
pub told_read : (m : MetadataResponse) (start end : Reading) → IsTold response_of stored_response m start end → stored_response.behind start.left ≡ Ok end.left → length end.left ≡ 0 → IsResponseRead start.left (Ok m)
told_read m start end told behind none =
    let empty = empty_is end.left none in
    record {
      value = record { stored = told.stored; is = told.is; bytes = told.takes.left ∙ ap (λ l. stored_response.spelling told.stored ++ l) empty ∙ append-nil (stored_response.spelling told.stored); fits = told.fits };
      answer = ap without_place behind ∙ ap (λ l. Ok l) empty;
      exact = λ other s.
          let same = (stored_response_laid.once told.stored s.stored end.left [] told.fits s.fits (sym told.takes.left ∙ s.bytes ∙ sym (append-nil (stored_response.spelling s.stored)))).0 in
          told.is ∙ ap response_of same ∙ sym s.is;
    }
