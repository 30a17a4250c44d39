-- From texts put together piece by piece to the text of a new instance.
use Rattle.std.proofs.Common.{◌≡◌, ℕ, ◌+◌, ◌<◌, ◌/◌, ◌%◌, List, [], ◌∷◌, ◌++◌, length, take, get_or, refl, ap, sym, ◌∙◌, true, false}
use Rattle.std.specs.List.{flat_map}
use Rattle.std.specs.Fmt.{digit_glyph}
use Rattle.std.proofs.lemmas.Grind.{flat_map-append}
use Rattle.std.proofs.lemmas.List.{take_more}
use Rattle.json.specs.Print.{quoted}
use Rattle.model.specs.state.World.{Key}
use Rattle.model.specs.texts.Bodies.{is_plain, made_text, path_byte}
use Rattle.rest_replies.specs.Creation.{created_text, uri_text}

pub path_more : (name : List ℕ) (i byte : ℕ) (text more : List ℕ) → i < length name → byte ≡ get_or name i byte → text ≡ flat_map path_byte (take i name) → more ≡ text ++ path_byte byte
    → more ≡ flat_map path_byte (take (i + 1) name)
path_more name i byte text more lt here is added =
    let next : take (i + 1) name ≡ take i name ++ byte ∷ [] = take_more name i byte lt ∙ ap (λ (b : ℕ). take i name ++ b ∷ []) (sym here) in
    added ∙ (ap (λ l. l ++ path_byte byte) is ∙ (ap (λ l. flat_map path_byte (take i name) ++ l) (sym (one byte)) ∙ (sym (flat_map-append path_byte (take i name) (byte ∷ [])) ∙ ap (flat_map path_byte) (sym next))))
  where
    unit : (l : List ℕ) → l ++ [] ≡ l
    unit [] = refl
    unit (x ∷ l) = ap (λ m. x ∷ m) (unit l)

    one : (b : ℕ) → flat_map path_byte (b ∷ []) ≡ path_byte b
    one b = unit (path_byte b)

pub hex_is : (byte : ℕ) (text : List ℕ) → is_plain byte ≡ false → text ≡ 37 ∷ digit_glyph true (byte / 16) ∷ digit_glyph true (byte % 16) ∷ [] → text ≡ path_byte byte
hex_is byte text e is = is ∙ rw e refl

pub created_is : (advertise : List ℕ) (key : Key) (id group name place uri : List ℕ) → id ≡ quoted key.instance → group ≡ flat_map path_byte key.group → name ≡ flat_map path_byte key.instance
    → place ≡ uri_text advertise group name → uri ≡ quoted place → created_text id uri ≡ made_text advertise key
unfolding created_text uri_text
created_is advertise key id group name place uri id_is group_is name_is place_is uri_is = rw (uri_is, place_is, id_is, group_is, name_is) refl
