-- Whether bytes are a JSON text can be decided.
use Rattle.std.proofs.Common.{◌≡◌, ◌∙◌, ℕ, zero, suc, ◌+◌, ◌<◌, List, [], ◌∷◌, ◌++◌, length, Bool, true, false, Option, Some, None, refl, ap, sym, subst, inl, inr, append_assoc, length-append, arith}
use Rattle.std.specs.Prelude.{◌⊎◌, ⊤}
use Rattle.json_token.specs.Tokens.{AreBlank, IsToken, Laid, Token, begin_array, end_array, begin_object, end_object, comma, colon, null_name, true_name, false_name, numeral, quoted, spelled}
use Rattle.json_token.specs.Number.{IsNumber}
use Rattle.json_span.specs.Json.{Json, Items, Members, null, boolean, number, text, array, object, no_items, item, no_members, member, tokens, item_tokens, more_item_tokens, member_tokens, more_member_tokens, IsWithin, ItemsWithin, MembersWithin}
use Rattle.json_span.specs.Text.{IsText}
use Rattle.forms.specs.decide.Decisions.{Decided, Split, decided_both, decided_either, decided_if, decided_same, decided_split, decided_then}
use Rattle.forms.specs.decide.Tokens.{IsQuoted, decided_blank, decided_number, decided_quoted}

-- ---- tokens, and what stands behind them

-- the bytes are these tokens with white space before each, and behind them bytes of which this is so
abbrev pub Behind : List Token → (List ℕ → Type 0) → List ℕ → Type 0
Behind [] Q bytes = Q bytes
Behind (t ∷ ts) Q bytes = (blanks : List ℕ) × (more : List ℕ) × AreBlank blanks × (bytes ≡ blanks ++ (spelled t ++ more)) × IsToken t × Behind ts Q more

abbrev pub IsNothing : List ℕ → Type 0
IsNothing bytes = bytes ≡ []

-- the bytes are these tokens, and end with the last one
abbrev pub Spells : List Token → List ℕ → Type 0
Spells ts bytes = Behind ts IsNothing bytes

laid_behind : (ts : List Token) (bytes : List ℕ) → Laid ts bytes → Behind ts AreBlank bytes
laid_behind [] bytes laid = laid
laid_behind (t ∷ ts) bytes laid = (laid.0, laid.1, laid.2, laid.3, laid.4, laid_behind ts laid.1 laid.5)

behind_laid : (ts : List Token) (bytes : List ℕ) → Behind ts AreBlank bytes → Laid ts bytes
behind_laid [] bytes behind = behind
behind_laid (t ∷ ts) bytes behind = (behind.0, behind.1, behind.2, behind.3, behind.4, behind_laid ts behind.1 behind.5)

both_behind : (ts us : List Token) (bytes : List ℕ) → Spells (ts ++ us) bytes → Behind ts (Spells us) bytes
both_behind [] us bytes spells = spells
both_behind (t ∷ ts) us bytes spells = (spells.0, spells.1, spells.2, spells.3, spells.4, both_behind ts us spells.1 spells.5)

behind_both : (ts us : List Token) (bytes : List ℕ) → Behind ts (Spells us) bytes → Spells (ts ++ us) bytes
behind_both [] us bytes behind = behind
behind_both (t ∷ ts) us bytes behind = (behind.0, behind.1, behind.2, behind.3, behind.4, behind_both ts us behind.1 behind.5)

-- the tokens are a part of the bytes, and what is behind them the other
apart : (ts : List Token) (Q : List ℕ → Type 0) (bytes : List ℕ) → Behind ts Q bytes → Split bytes (λ a b. Spells ts a × Q b)
apart [] Q bytes q = ([], bytes, refl, (refl, q))
apart (t ∷ ts) Q bytes behind =
    let blanks : List ℕ = behind.0 in
    let rest = apart ts Q behind.1 behind.5 in (
      blanks ++ (spelled t ++ rest.0),
      rest.1,
      behind.3 ∙ (ap (λ l. blanks ++ (spelled t ++ l)) rest.2 ∙ (ap (λ l. blanks ++ l) (sym (append_assoc (spelled t) rest.0 rest.1)) ∙ sym (append_assoc blanks (spelled t ++ rest.0) rest.1))),
      ((blanks, rest.0, behind.2, refl, behind.4, rest.3.0), rest.3.1),
    )

together : (ts : List Token) (Q : List ℕ → Type 0) (bytes a b : List ℕ) → bytes ≡ a ++ b → Spells ts a → Q b → Behind ts Q bytes
together [] Q bytes a b e spells q = subst Q (sym (e ∙ ap (λ l. l ++ b) spells)) q
together (t ∷ ts) Q bytes a b e spells q =
    let blanks : List ℕ = spells.0 in (
      blanks,
      spells.1 ++ b,
      spells.2,
      e ∙ (ap (λ l. l ++ b) spells.3 ∙ (append_assoc blanks (spelled t ++ spells.1) b ∙ ap (λ l. blanks ++ l) (append_assoc (spelled t) spells.1 b))),
      spells.4,
      together ts Q (spells.1 ++ b) spells.1 b refl spells.5 q,
    )

-- a token of this class comes first
abbrev pub First : (List ℕ → Type 0) → (List ℕ → Type 0) → List ℕ → Type 0
First C Q bytes = (blanks : List ℕ) × (s : List ℕ) × (more : List ℕ) × AreBlank blanks × (bytes ≡ blanks ++ (s ++ more)) × C s × Q more

decided_first : (C Q : List ℕ → Type 0) (bytes : List ℕ) → ((s : List ℕ) → Decided (C s))
    → ((blanks s more : List ℕ) → bytes ≡ blanks ++ (s ++ more) → C s → Decided (Q more)) → Decided (First C Q bytes)
decided_first C Q bytes class each =
    decided_if (Split bytes (λ blanks rest. AreBlank blanks × Split rest (λ s more. C s × Q more))) (First C Q bytes)
    (λ x. let y = x.3.1 in (x.0, y.0, y.1, x.3.0, x.2 ∙ ap (λ l. x.0 ++ l) y.2, y.3.0, y.3.1))
    (λ x. (x.0, x.1 ++ x.2, x.4, (x.3, (x.1, x.2, refl, (x.5, x.6)))))
    (decided_split bytes (λ blanks rest. AreBlank blanks × Split rest (λ s more. C s × Q more))
    (λ blanks rest e. decided_both (AreBlank blanks) (Split rest (λ s more. C s × Q more)) (decided_blank blanks)
    (decided_split rest (λ s more. C s × Q more)
    (λ s more f. decided_then (C s) (Q more) (class s) (λ c. each blanks s more (e ∙ ap (λ l. blanks ++ l) f) c)))))

-- a token with one spelling
abbrev pub IsSpelled : Token → List ℕ → Type 0
IsSpelled t s = s ≡ spelled t

first_behind : (t : Token) (Q : List ℕ → Type 0) (bytes : List ℕ) → IsToken t → First (IsSpelled t) Q bytes → Behind (t ∷ []) Q bytes
first_behind t Q bytes is x = (x.0, x.2, x.3, x.4 ∙ ap (λ s. x.0 ++ (s ++ x.2)) x.5, is, x.6)

behind_first : (t : Token) (Q : List ℕ → Type 0) (bytes : List ℕ) → Behind (t ∷ []) Q bytes → First (IsSpelled t) Q bytes
behind_first t Q bytes x = (x.0, spelled t, x.1, x.2, x.3, refl, x.5)

decided_token : (t : Token) (Q : List ℕ → Type 0) (bytes : List ℕ) → ((blanks more : List ℕ) → bytes ≡ blanks ++ (spelled t ++ more) → Decided (Q more)) → Decided (First (IsSpelled t) Q bytes)
decided_token t Q bytes each =
    decided_first (IsSpelled t) Q bytes (λ s. decided_same s (spelled t)) (λ blanks s more e is. each blanks more (e ∙ ap (λ l. blanks ++ (l ++ more)) is))

decided_last : (t : Token) (bytes : List ℕ) → Decided (First (IsSpelled t) IsNothing bytes)
decided_last t bytes = decided_token t IsNothing bytes (λ blanks more e. decided_same more [])

-- ---- values

abbrev pub Value : ℕ → List ℕ → Type 0
Value levels bytes = (j : Json) × IsWithin levels j × Spells (tokens j) bytes

abbrev pub FirstItems : ℕ → List ℕ → Type 0
FirstItems below bytes = (js : Items) × ItemsWithin below js × Spells (item_tokens js) bytes

abbrev pub MoreItems : ℕ → List ℕ → Type 0
MoreItems below bytes = (js : Items) × ItemsWithin below js × Spells (more_item_tokens js) bytes

abbrev pub FirstMembers : ℕ → List ℕ → Type 0
FirstMembers below bytes = (ms : Members) × MembersWithin below ms × Spells (member_tokens ms) bytes

abbrev pub MoreMembers : ℕ → List ℕ → Type 0
MoreMembers below bytes = (ms : Members) × MembersWithin below ms × Spells (more_member_tokens ms) bytes

-- a value and further items, or further members
abbrev pub OneItem : ℕ → List ℕ → Type 0
OneItem below bytes = Split bytes (λ a b. Value below a × MoreItems below b)

abbrev pub OneMember : ℕ → List ℕ → Type 0
OneMember below bytes = First IsQuoted (First (IsSpelled colon) (λ rest. Split rest (λ a b. Value below a × MoreMembers below b))) bytes

-- what is behind a first token is shorter
shorter : (bytes blanks s more a b : List ℕ) (n : ℕ) → length bytes < suc n → 0 < length s → bytes ≡ blanks ++ (s ++ more) → more ≡ a ++ b → length b < n
shorter bytes blanks s more a b n less some e f =
    omega (arith, less, some, ap length e, length-append blanks (s ++ more), length-append s more, ap length f, length-append a b)

module _ (below : ℕ) (decided_value : (bytes : List ℕ) → Decided (Value below bytes)) where
  item_more : (bytes : List ℕ) → First (IsSpelled end_array) IsNothing bytes ⊎ First (IsSpelled comma) (OneItem below) bytes → MoreItems below bytes
  item_more bytes (inl x) = (no_items, tt, first_behind end_array IsNothing bytes tt x)
  item_more bytes (inr x) =
      let y = x.6 in
      let v = y.3.0 in
      let m = y.3.1 in
      (item v.0 m.0, (v.1, m.1), first_behind comma (Spells (tokens v.0 ++ more_item_tokens m.0)) bytes tt (x.0, x.1, x.2, x.3, x.4, x.5, behind_both (tokens v.0) (more_item_tokens m.0) x.2 (together (tokens v.0) (Spells (more_item_tokens m.0)) x.2 y.0 y.1 y.2 v.2 m.2)))

  more_item : (bytes : List ℕ) → MoreItems below bytes → First (IsSpelled end_array) IsNothing bytes ⊎ First (IsSpelled comma) (OneItem below) bytes
  more_item bytes (no_items, within, spells) = inl (behind_first end_array IsNothing bytes spells)
  more_item bytes (item j js, within, spells) =
      let x = apart (tokens j) (Spells (more_item_tokens js)) spells.1 (both_behind (tokens j) (more_item_tokens js) spells.1 spells.5) in
      inr (spells.0, spelled comma, spells.1, spells.2, spells.3, refl, (x.0, x.1, x.2, ((j, within.0, x.3.0), (js, within.1, x.3.1))))

  decided_more_items : (n : ℕ) (bytes : List ℕ) → length bytes < n → Decided (MoreItems below bytes)
  decided_more_items zero bytes less = absurd (omega (arith, less))
  decided_more_items (suc n) bytes less =
      decided_if (First (IsSpelled end_array) IsNothing bytes ⊎ First (IsSpelled comma) (OneItem below) bytes) (MoreItems below bytes) (item_more bytes) (more_item bytes)
      (decided_either (First (IsSpelled end_array) IsNothing bytes) (First (IsSpelled comma) (OneItem below) bytes) (decided_last end_array bytes)
      (decided_token comma (OneItem below) bytes
      (λ blanks more e. decided_split more (λ a b. Value below a × MoreItems below b)
      (λ a b f. decided_both (Value below a) (MoreItems below b) (decided_value a) (decided_more_items n b (shorter bytes blanks (spelled comma) more a b n less (omega arith) e f))))))

  item_first : (bytes : List ℕ) → First (IsSpelled end_array) IsNothing bytes ⊎ OneItem below bytes → FirstItems below bytes
  item_first bytes (inl x) = (no_items, tt, first_behind end_array IsNothing bytes tt x)
  item_first bytes (inr y) =
      let v = y.3.0 in
      let m = y.3.1 in
      (item v.0 m.0, (v.1, m.1), behind_both (tokens v.0) (more_item_tokens m.0) bytes (together (tokens v.0) (Spells (more_item_tokens m.0)) bytes y.0 y.1 y.2 v.2 m.2))

  first_item : (bytes : List ℕ) → FirstItems below bytes → First (IsSpelled end_array) IsNothing bytes ⊎ OneItem below bytes
  first_item bytes (no_items, within, spells) = inl (behind_first end_array IsNothing bytes spells)
  first_item bytes (item j js, within, spells) =
      let x = apart (tokens j) (Spells (more_item_tokens js)) bytes (both_behind (tokens j) (more_item_tokens js) bytes spells) in
      inr (x.0, x.1, x.2, ((j, within.0, x.3.0), (js, within.1, x.3.1)))

  decided_items : (bytes : List ℕ) → Decided (FirstItems below bytes)
  decided_items bytes =
      decided_if (First (IsSpelled end_array) IsNothing bytes ⊎ OneItem below bytes) (FirstItems below bytes) (item_first bytes) (first_item bytes)
      (decided_either (First (IsSpelled end_array) IsNothing bytes) (OneItem below bytes) (decided_last end_array bytes)
      (decided_split bytes (λ a b. Value below a × MoreItems below b) (λ a b f. decided_both (Value below a) (MoreItems below b) (decided_value a) (decided_more_items (suc (length b)) b (omega arith)))))

  -- ---- members: a name, a colon and a value

  member_of : (ms : Members) (s : List ℕ) (j : Json) (bytes blanks q more : List ℕ) → AreBlank blanks → bytes ≡ blanks ++ (q ++ more) → q ≡ 34 ∷ (s ++ (34 ∷ [])) → IsToken (quoted s)
      → First (IsSpelled colon) (λ rest. Split rest (λ a b. Spells (tokens j) a × Spells (more_member_tokens ms) b)) more
      → Spells (quoted s ∷ (colon ∷ (tokens j ++ more_member_tokens ms))) bytes
  member_of ms s j bytes blanks q more blank e is chars x =
      let y = x.6 in
      (blanks, more, blank, e ∙ ap (λ l. blanks ++ (l ++ more)) is, chars, (x.0, x.2, x.3, x.4 ∙ ap (λ l. x.0 ++ (l ++ x.2)) x.5, tt, behind_both (tokens j) (more_member_tokens ms) x.2 (together (tokens j) (Spells (more_member_tokens ms)) x.2 y.0 y.1 y.2 y.3.0 y.3.1)))

  one_member : (bytes : List ℕ) → OneMember below bytes → (s : List ℕ) × (j : Json) × (ms : Members) × MembersWithin below (member s j ms) × Spells (member_tokens (member s j ms)) bytes
  one_member bytes x =
      let c = x.6 in
      let y = c.6 in
      let v = y.3.0 in
      let m = y.3.1 in
      let name = x.5 in (
        name.0,
        v.0,
        m.0,
        (v.1, m.1),
        member_of m.0 name.0 v.0 bytes x.0 x.1 x.2 x.3 x.4 name.1 name.2 (c.0, c.1, c.2, c.3, c.4, c.5, (y.0, y.1, y.2, (v.2, m.2))),
      )

  member_one : (bytes : List ℕ) (s : List ℕ) (j : Json) (ms : Members) → MembersWithin below (member s j ms) → Spells (quoted s ∷ (colon ∷ (tokens j ++ more_member_tokens ms))) bytes → OneMember below bytes
  member_one bytes s j ms within spells =
      let c = spells.5 in
      let x = apart (tokens j) (Spells (more_member_tokens ms)) c.1 (both_behind (tokens j) (more_member_tokens ms) c.1 c.5) in
      (spells.0, spelled (quoted s), spells.1, spells.2, spells.3, (s, refl, spells.4), (c.0, spelled colon, c.1, c.2, c.3, refl, (x.0, x.1, x.2, ((j, within.0, x.3.0), (ms, within.1, x.3.1)))))

  member_more : (bytes : List ℕ) → First (IsSpelled end_object) IsNothing bytes ⊎ First (IsSpelled comma) (OneMember below) bytes → MoreMembers below bytes
  member_more bytes (inl x) = (no_members, tt, first_behind end_object IsNothing bytes tt x)
  member_more bytes (inr x) =
      let one = one_member x.2 x.6 in
      (member one.0 one.1 one.2, one.3, (x.0, x.2, x.3, x.4 ∙ ap (λ l. x.0 ++ (l ++ x.2)) x.5, tt, one.4))

  more_member : (bytes : List ℕ) → MoreMembers below bytes → First (IsSpelled end_object) IsNothing bytes ⊎ First (IsSpelled comma) (OneMember below) bytes
  more_member bytes (no_members, within, spells) = inl (behind_first end_object IsNothing bytes spells)
  more_member bytes (member s j ms, within, spells) = inr (spells.0, spelled comma, spells.1, spells.2, spells.3, refl, member_one spells.1 s j ms within spells.5)

  -- a member, where further ones can be decided of what is shorter
  decided_member : (n : ℕ) (bytes : List ℕ) → length bytes < suc n → ((rest : List ℕ) → length rest < n → Decided (MoreMembers below rest)) → Decided (OneMember below bytes)
  decided_member n bytes less later =
      decided_first IsQuoted (First (IsSpelled colon) (λ rest. Split rest (λ a b. Value below a × MoreMembers below b))) bytes decided_quoted
      (λ blanks q more e is. decided_token colon (λ rest. Split rest (λ a b. Value below a × MoreMembers below b)) more
      (λ blanks2 rest f. decided_split rest (λ a b. Value below a × MoreMembers below b)
      (λ a b g. decided_both (Value below a) (MoreMembers below b) (decided_value a) (later b (behind_name blanks q more blanks2 rest a b e f g)))))
    where
      behind_name : (blanks q more blanks2 rest a b : List ℕ) → bytes ≡ blanks ++ (q ++ more) → more ≡ blanks2 ++ (spelled colon ++ rest) → rest ≡ a ++ b → length b < n
      behind_name blanks q more blanks2 rest a b e f g =
          omega (arith, less, ap length e, length-append blanks (q ++ more), length-append q more, ap length f, length-append blanks2 (spelled colon ++ rest), length-append (spelled colon) rest, ap length g, length-append a b)

  decided_more_members : (n : ℕ) (bytes : List ℕ) → length bytes < n → Decided (MoreMembers below bytes)
  decided_more_members zero bytes less = absurd (omega (arith, less))
  decided_more_members (suc n) bytes less =
      decided_if (First (IsSpelled end_object) IsNothing bytes ⊎ First (IsSpelled comma) (OneMember below) bytes) (MoreMembers below bytes) (member_more bytes) (more_member bytes)
      (decided_either (First (IsSpelled end_object) IsNothing bytes) (First (IsSpelled comma) (OneMember below) bytes) (decided_last end_object bytes)
      (decided_token comma (OneMember below) bytes
      (λ blanks more e. decided_member n more (behind_comma blanks more e) (λ rest short. decided_more_members n rest short))))
    where
      behind_comma : (blanks more : List ℕ) → bytes ≡ blanks ++ (spelled comma ++ more) → length more < suc n
      behind_comma blanks more e = omega (arith, less, ap length e, length-append blanks (spelled comma ++ more), length-append (spelled comma) more)

  member_first : (bytes : List ℕ) → First (IsSpelled end_object) IsNothing bytes ⊎ OneMember below bytes → FirstMembers below bytes
  member_first bytes (inl x) = (no_members, tt, first_behind end_object IsNothing bytes tt x)
  member_first bytes (inr x) =
      let one = one_member bytes x in
      (member one.0 one.1 one.2, one.3, one.4)

  first_member : (bytes : List ℕ) → FirstMembers below bytes → First (IsSpelled end_object) IsNothing bytes ⊎ OneMember below bytes
  first_member bytes (no_members, within, spells) = inl (behind_first end_object IsNothing bytes spells)
  first_member bytes (member s j ms, within, spells) = inr (member_one bytes s j ms within spells)

  decided_members : (bytes : List ℕ) → Decided (FirstMembers below bytes)
  decided_members bytes =
      decided_if (First (IsSpelled end_object) IsNothing bytes ⊎ OneMember below bytes) (FirstMembers below bytes) (member_first bytes) (first_member bytes)
      (decided_either (First (IsSpelled end_object) IsNothing bytes) (OneMember below bytes) (decided_last end_object bytes)
      (decided_member (length bytes) bytes (omega arith) (λ rest short. decided_more_members (length bytes) rest short)))

-- ---- all values

-- no value is deeper than this, and one that is deeper than none is an array or an object
abbrev pub Deeper : ℕ → List ℕ → Type 0
Deeper zero bytes = ⊥
Deeper (suc below) bytes = First (IsSpelled begin_array) (FirstItems below) bytes ⊎ First (IsSpelled begin_object) (FirstMembers below) bytes

abbrev pub Word : List ℕ → Type 0
Word bytes = First (IsSpelled null_name) IsNothing bytes ⊎ (First (IsSpelled true_name) IsNothing bytes ⊎ First (IsSpelled false_name) IsNothing bytes)

abbrev pub Leaf : List ℕ → Type 0
Leaf bytes = Word bytes ⊎ (First IsNumber IsNothing bytes ⊎ First IsQuoted IsNothing bytes)

deeper_value : (levels : ℕ) (bytes : List ℕ) → Deeper levels bytes → Value levels bytes
deeper_value zero bytes x = absurd x
deeper_value (suc below) bytes (inl x) =
    let y = x.6 in
    (array y.0, (below, refl, y.1), (x.0, x.2, x.3, x.4 ∙ ap (λ l. x.0 ++ (l ++ x.2)) x.5, tt, y.2))
deeper_value (suc below) bytes (inr x) =
    let y = x.6 in
    (object y.0, (below, refl, y.1), (x.0, x.2, x.3, x.4 ∙ ap (λ l. x.0 ++ (l ++ x.2)) x.5, tt, y.2))

leaf_value : (levels : ℕ) (bytes : List ℕ) → Leaf bytes → Value levels bytes
leaf_value levels bytes (inl (inl x)) = (null, tt, first_behind null_name IsNothing bytes tt x)
leaf_value levels bytes (inl (inr (inl x))) = (boolean true, tt, first_behind true_name IsNothing bytes tt x)
leaf_value levels bytes (inl (inr (inr x))) = (boolean false, tt, first_behind false_name IsNothing bytes tt x)
leaf_value levels bytes (inr (inl x)) = (number x.1, tt, (x.0, x.2, x.3, x.4, x.5, x.6))
leaf_value levels bytes (inr (inr x)) =
    let q = x.5 in
    (text q.0, tt, (x.0, x.2, x.3, x.4 ∙ ap (λ l. x.0 ++ (l ++ x.2)) q.1, q.2, x.6))

value_is : (levels : ℕ) (bytes : List ℕ) → Leaf bytes ⊎ Deeper levels bytes → Value levels bytes
value_is levels bytes (inl x) = leaf_value levels bytes x
value_is levels bytes (inr x) = deeper_value levels bytes x

array_deeper : (levels : ℕ) (js : Items) (bytes : List ℕ) → IsWithin levels (array js) → Spells (tokens (array js)) bytes → Deeper levels bytes
array_deeper zero js bytes within spells = absurd (let e = within.1 in cc e)
array_deeper (suc below) js bytes within spells =
    let same : within.0 ≡ below = (let e = within.1 in cc e) in
    inl (spells.0, spelled begin_array, spells.1, spells.2, spells.3, refl, (js, subst (λ (n : ℕ). ItemsWithin n js) same within.2, spells.5))

object_deeper : (levels : ℕ) (ms : Members) (bytes : List ℕ) → IsWithin levels (object ms) → Spells (tokens (object ms)) bytes → Deeper levels bytes
object_deeper zero ms bytes within spells = absurd (let e = within.1 in cc e)
object_deeper (suc below) ms bytes within spells =
    let same : within.0 ≡ below = (let e = within.1 in cc e) in
    inr (spells.0, spelled begin_object, spells.1, spells.2, spells.3, refl, (ms, subst (λ (n : ℕ). MembersWithin n ms) same within.2, spells.5))

is_value : (levels : ℕ) (bytes : List ℕ) → Value levels bytes → Leaf bytes ⊎ Deeper levels bytes
is_value levels bytes (null, within, spells) = inl (inl (inl (behind_first null_name IsNothing bytes spells)))
is_value levels bytes (boolean true, within, spells) = inl (inl (inr (inl (behind_first true_name IsNothing bytes spells))))
is_value levels bytes (boolean false, within, spells) = inl (inl (inr (inr (behind_first false_name IsNothing bytes spells))))
is_value levels bytes (number s, within, spells) = inl (inr (inl (spells.0, s, spells.1, spells.2, spells.3, spells.4, spells.5)))
is_value levels bytes (text s, within, spells) = inl (inr (inr (spells.0, spelled (quoted s), spells.1, spells.2, spells.3, (s, refl, spells.4), spells.5)))
is_value levels bytes (array js, within, spells) = inr (array_deeper levels js bytes within spells)
is_value levels bytes (object ms, within, spells) = inr (object_deeper levels ms bytes within spells)

decided_leaf : (bytes : List ℕ) → Decided (Leaf bytes)
decided_leaf bytes =
    decided_either (Word bytes) (First IsNumber IsNothing bytes ⊎ First IsQuoted IsNothing bytes)
    (decided_either (First (IsSpelled null_name) IsNothing bytes) (First (IsSpelled true_name) IsNothing bytes ⊎ First (IsSpelled false_name) IsNothing bytes) (decided_last null_name bytes)
    (decided_either (First (IsSpelled true_name) IsNothing bytes) (First (IsSpelled false_name) IsNothing bytes) (decided_last true_name bytes) (decided_last false_name bytes)))
    (decided_either (First IsNumber IsNothing bytes) (First IsQuoted IsNothing bytes)
    (decided_first IsNumber IsNothing bytes decided_number (λ blanks s more e is. decided_same more []))
    (decided_first IsQuoted IsNothing bytes decided_quoted (λ blanks s more e is. decided_same more [])))

decided_values : (levels : ℕ) (bytes : List ℕ) → Decided (Value levels bytes)
decided_values zero bytes =
    decided_if (Leaf bytes ⊎ ⊥) (Value zero bytes) (value_is zero bytes) (is_value zero bytes) (decided_either (Leaf bytes) ⊥ (decided_leaf bytes) (inr (λ x. x)))
decided_values (suc below) bytes =
    let values : (rest : List ℕ) → Decided (Value below rest) = λ rest. decided_values below rest in
    decided_if (Leaf bytes ⊎ Deeper (suc below) bytes) (Value (suc below) bytes) (value_is (suc below) bytes) (is_value (suc below) bytes)
    (decided_either (Leaf bytes) (Deeper (suc below) bytes) (decided_leaf bytes)
    (decided_either (First (IsSpelled begin_array) (FirstItems below) bytes) (First (IsSpelled begin_object) (FirstMembers below) bytes)
    (decided_token begin_array (FirstItems below) bytes (λ blanks more e. decided_items below values more))
    (decided_token begin_object (FirstMembers below) bytes (λ blanks more e. decided_members below values more))))

-- the bytes are a text of some value, or of none
abbrev pub IsSomeText : ℕ → List ℕ → Type 0
IsSomeText levels bytes = (j : Json) × IsText levels bytes j

pub decided_text : (levels : ℕ) (bytes : List ℕ) → Decided (IsSomeText levels bytes)
decided_text levels bytes =
    decided_if (Split bytes (λ a b. Value levels a × AreBlank b)) (IsSomeText levels bytes)
    (λ x. let v = x.3.0 in (v.0, (v.1, behind_laid (tokens v.0) bytes (together (tokens v.0) AreBlank bytes x.0 x.1 x.2 v.2 x.3.1))))
    (λ x. let y = apart (tokens x.0) AreBlank bytes (laid_behind (tokens x.0) bytes x.1.1) in (y.0, y.1, y.2, ((x.0, x.1.0, y.3.0), y.3.1)))
    (decided_split bytes (λ a b. Value levels a × AreBlank b) (λ a b e. decided_both (Value levels a) (AreBlank b) (decided_values levels a) (decided_blank b)))

-- the value that was found, if there is one
abbrev pub found : (levels : ℕ) (bytes : List ℕ) → Decided (IsSomeText levels bytes) → Option Json
found levels bytes (inl x) = Some x.0
found levels bytes (inr never) = None
