-- From what a writer does to what is shown of a value.
use Rattle.std.proofs.Common.{◌≡◌, ℕ, suc, ◌+◌, Bool, true, false, List, [], ◌∷◌, ◌++◌, length, map, if◌then◌else◌, Option, Some, None, Result, Ok, Err, inl, inr, refl, sym, ap, ◌∙◌, subst, append_assoc, add-one}
use Rattle.std.proofs.lemmas.List.{append-nil}
use Rattle.json.specs.Token as token
use Rattle.json.specs.Token.{Token}
use Rattle.avro_schema.specs.Types as schema
use Rattle.avro_schema.specs.Types.{AvroType, Fields, resolved, branch_name}
use Rattle.avro_schema.specs.declared.parts.Field.{Field}
use Rattle.avro_schema.specs.Nodes.{SchemaValue, HasNode, Stands, StandForFields, tree_of}
use Rattle.avro_value.specs.declared.error.AvroNo.{AvroNo}
use Rattle.avro_value.specs.declared.error.AvroNo.TheVariants.{Mismatch}
use Rattle.avro_datum.specs.declared.datum.Datum.{Datum}
use Rattle.avro_datum.specs.declared.datum.MapItem.{MapItem}
use Rattle.avro_value.specs.Value as shapes
use Rattle.avro_datum.specs.Data.{value_of, item_of}
use Rattle.avro_value.specs.Value.{Value, values_of, entries_of, count_of}
use Rattle.avro_value.specs.Steps.{◌>>=◌, Fails}
use Rattle.avro_value.specs.Judging.{is_null, opened, node, items_in, entries_in, fields_in}
use Rattle.avro_value.specs.Picks.{Picks, PicksFields}
use Rattle.avro_value.specs.Encoding.{differ}
use Rattle.avro_datum.specs.Shown.{Shown, Shows, between, behind, labelled, keys_of, values_in, shown, shown_fields, shown_items, shown_entries}
use Rattle.avro_datum.proofs.DatumLemmas.{size_is, count_is, key_is, value_is}
use Rattle.avro_value.proofs.NodeLemmas.{node_is, node_lacks, fails_on}

-- ---- steps

behind_nothing : (s : Shown) → behind [] s ≡ s
behind_nothing (Ok x) = refl
behind_nothing (Err e) = refl

behind_both : (front more : List Token) (s : Shown) → behind front (behind more s) ≡ behind (front ++ more) s
behind_both front more (Ok x) = ap (λ (ts : List Token). Ok (ts, x.1)) (sym (append_assoc front more x.0))
behind_both front more (Err e) = refl

-- the same is shown, so it is shown as well of what is equal
pub shows_along : (r : Result ℕ AvroNo) (s other : Shown) (old new : List Token) → other ≡ s → Shows r s old new → Shows r other old new
shows_along r s other old new is shows = subst (λ (x : Shown). Shows r x old new) (sym is) shows

-- behind tokens that are written before
pub shows_behind : (r : Result ℕ AvroNo) (front : List Token) (s : Shown) (old mid new : List Token) → mid ≡ old ++ front → Shows r s mid new → Shows r (behind front s) old new
shows_behind (Ok k) front s old mid new is shows =
    (front ++ shows.0, ap (behind front) shows.1, shows.2 ∙ ap (λ (o : List Token). o ++ shows.0) is ∙ append_assoc old front shows.0)
shows_behind (Err e) front s old mid new is fails = fails_on e s (λ x. Ok (front ++ x.0, x.1)) fails

-- between two tokens
pub shows_between : (k : ℕ) (first last : Token) (s : Shown) (old mid inner new : List Token) → mid ≡ old ++ first ∷ [] → Shows (Ok k) s mid inner → new ≡ inner ++ last ∷ [] → Shows (Ok k) (between first last s) old new
shows_between k first last s old mid inner new is shows ends = (
  first ∷ (shows.0 ++ (last ∷ [])),
  ap (λ (x : Shown). between first last x) shows.1,
  ends ∙ ap (λ (o : List Token). o ++ last ∷ []) (shows.2 ∙ ap (λ (o : List Token). o ++ shows.0) is) ∙ simp append_assoc refl,
)

pub fails_between : (e : AvroNo) (first last : Token) (s : Shown) → Fails e s → Fails e (between first last s)
fails_between e first last s fails = fails_on e s (λ x. Ok (first ∷ (x.0 ++ (last ∷ [])), x.1)) fails

-- what is shown of the parts is shown of the node
pub node_shown : {T : Type 0} (levels k below : ℕ) (o : Option T) (u : T) (parts : ℕ → T → Shown) (r : Result ℕ AvroNo) (old new : List Token)
    → opened levels k ≡ Ok below → o ≡ Some u → Shows r (parts below u) old new → Shows r (node levels k o parts) old new
node_shown levels k below o u parts r old new at_below some shows = shows_along r (parts below u) _ old new (node_is levels k below o u parts at_below some) shows

-- ---- one part after the other

-- the tokens so far are those of the whole up to the part that is left
pub record Along (whole left : Shown) (old out : List Token) : Type 0 where
  pub front : List Token
  pub is : whole ≡ behind front left
  pub tokens : out ≡ old ++ front

pub along_begin : (whole : Shown) (old : List Token) → Along whole whole old old
along_begin whole old = record { front = []; is = sym (behind_nothing whole); tokens = sym (append-nil old) }

pub along_more : (whole first : Shown) (more : ℕ → Shown) (old out new : List Token) (k : ℕ)
    → Along whole (first >>= λ x. behind x.0 (more x.1)) old out → Shows (Ok k) first out new → Along whole (more k) old new
along_more whole first more old out new k so_far shows = record {
  front = so_far.front ++ shows.0;
  is = so_far.is ∙ ap (λ (s : Shown). behind so_far.front (s >>= λ x. behind x.0 (more x.1))) shows.1 ∙ behind_both so_far.front shows.0 (more k);
  tokens = shows.2 ∙ ap (λ (o : List Token). o ++ shows.0) so_far.tokens ∙ append_assoc old so_far.front shows.0;
}

-- the first refusal of a part is that of the whole
pub along_fails : (whole first : Shown) (more : ℕ → Shown) (old out : List Token) (e : AvroNo)
    → Along whole (first >>= λ x. behind x.0 (more x.1)) old out → Fails e first → Fails e whole
along_fails whole first more old out e so_far (inl want) = inl want
along_fails whole first more old out e so_far (inr is) = inr (so_far.is ∙ ap (λ (s : Shown). behind so_far.front (s >>= λ x. behind x.0 (more x.1))) is)

pub along_ends : (whole : Shown) (old out : List Token) (k : ℕ) → Along whole (Ok ([], k)) old out → Shows (Ok k) whole old out
along_ends whole old out k so_far = (so_far.front, so_far.is ∙ ap (λ (ts : List Token). Ok (ts, k)) (append-nil so_far.front), so_far.tokens)

-- ---- a union's branch

pub null_labelled : (t : AvroType) (inner : Shown) → is_null t ≡ true → labelled t inner ≡ inner
null_labelled t inner null = ap (λ (b : Bool). if b then inner else between token.begin_object token.end_object (behind (token.key (branch_name t) ∷ []) inner)) null

pub named_labelled : (t : AvroType) (inner : Shown) → is_null t ≡ false → labelled t inner ≡ between token.begin_object token.end_object (behind (token.key (branch_name t) ∷ []) inner)
named_labelled t inner named = ap (λ (b : Bool). if b then inner else between token.begin_object token.end_object (behind (token.key (branch_name t) ∷ []) inner)) named

-- ---- a map's values

pub values_there : (t u : AvroType) (es : List MapItem) → differ (keys_of (entries_of (map item_of es))) ≡ true → entries_in t (length es) ≡ Some u → values_in t (entries_of (map item_of es)) ≡ Some u
values_there t u es apart some = ap (λ (b : Bool). if b then entries_in t (count_of (entries_of (map item_of es))) else None) apart ∙ (ap (entries_in t) (count_is es) ∙ some)

-- ---- loops

-- the items so far
abbrev pub ItemsShown : SchemaValue → ℕ → ℕ → ℕ → ℕ → List Datum → List Datum → List Token → List Token → Type 0
ItemsShown s levels item first next all left old out = (u : AvroType) → Stands s item u
    → Along (shown_items (tree_of s) levels u first (values_of (map value_of all))) (shown_items (tree_of s) levels u next (values_of (map value_of left))) old out

-- the entries so far
abbrev pub EntriesShown : SchemaValue → ℕ → ℕ → ℕ → ℕ → List MapItem → List MapItem → List Token → List Token → Type 0
EntriesShown s levels item first next all left old out = (u : AvroType) → Stands s item u
    → Along (shown_entries (tree_of s) levels u first (entries_of (map item_of all))) (shown_entries (tree_of s) levels u next (entries_of (map item_of left))) old out

-- the fields so far
abbrev pub FieldsShown : SchemaValue → ℕ → List Field → List Field → ℕ → ℕ → List Datum → List Datum → List Token → List Token → Type 0
FieldsShown s levels fields fields_left first next all left old out = (ts : Fields) → StandForFields s fields ts
    → (more : Fields) × StandForFields s fields_left more
    × Along (shown_fields (tree_of s) levels ts first (values_of (map value_of all))) (shown_fields (tree_of s) levels more next (values_of (map value_of left))) old out

pub items_more : (s : SchemaValue) (levels item first next after : ℕ) (all left more : List Datum) (x : Datum) (old out new : List Token)
    → ItemsShown s levels item first next all left old out → left ≡ x ∷ more
    → ((u : AvroType) → Stands s item u → Shows (Ok after) (shown (tree_of s) levels u next (value_of x)) out new)
    → ItemsShown s levels item first after all more old new
items_more s levels item first next after all left more x old out new so_far is shows u stands =
    let here = subst (λ (l : List Datum). Along (shown_items (tree_of s) levels u first (values_of (map value_of all))) (shown_items (tree_of s) levels u next (values_of (map value_of l))) old out) is (so_far u stands) in
    along_more _ (shown (tree_of s) levels u next (value_of x)) (λ k. shown_items (tree_of s) levels u k (values_of (map value_of more))) old out new after here (shows u stands)

pub items_fail : (s : SchemaValue) (levels item first next : ℕ) (all left more : List Datum) (x : Datum) (old out : List Token) (e : AvroNo)
    → ItemsShown s levels item first next all left old out → left ≡ x ∷ more
    → ((u : AvroType) → Stands s item u → Fails e (shown (tree_of s) levels u next (value_of x)))
    → (u : AvroType) → Stands s item u → Fails e (shown_items (tree_of s) levels u first (values_of (map value_of all)))
items_fail s levels item first next all left more x old out e so_far is fails u stands =
    let here = subst (λ (l : List Datum). Along (shown_items (tree_of s) levels u first (values_of (map value_of all))) (shown_items (tree_of s) levels u next (values_of (map value_of l))) old out) is (so_far u stands) in
    along_fails _ (shown (tree_of s) levels u next (value_of x)) (λ k. shown_items (tree_of s) levels u k (values_of (map value_of more))) old out e here (fails u stands)

pub items_end : (s : SchemaValue) (levels item first next : ℕ) (all left : List Datum) (old out : List Token)
    → ItemsShown s levels item first next all left old out → left ≡ []
    → (u : AvroType) → Stands s item u → Shows (Ok next) (shown_items (tree_of s) levels u first (values_of (map value_of all))) old out
items_end s levels item first next all left old out so_far is u stands =
    along_ends _ old out next (subst (λ (l : List Datum). Along (shown_items (tree_of s) levels u first (values_of (map value_of all))) (shown_items (tree_of s) levels u next (values_of (map value_of l))) old out) is (so_far u stands))

-- an entry stands under its key
entry_is : (whole : AvroType) (levels : ℕ) (u : AvroType) (k : ℕ) (x : MapItem)
    → behind (token.key (item_of x).key ∷ []) (shown whole levels u k (item_of x).value) ≡ behind (token.key x.key ∷ []) (shown whole levels u k (value_of x.value))
entry_is whole levels u k x =
    ap (λ (key : List ℕ). behind (token.key key ∷ []) (shown whole levels u k (item_of x).value)) (key_is x)
    ∙ ap (λ (v : Value). behind (token.key x.key ∷ []) (shown whole levels u k v)) (value_is x)

entries_next : (s : SchemaValue) (levels item first next : ℕ) (all left more : List MapItem) (x : MapItem) (old out : List Token)
    → EntriesShown s levels item first next all left old out → left ≡ x ∷ more → (u : AvroType) → Stands s item u
    → Along (shown_entries (tree_of s) levels u first (entries_of (map item_of all)))
    (behind (token.key x.key ∷ []) (shown (tree_of s) levels u next (value_of x.value)) >>= λ y. behind y.0 (shown_entries (tree_of s) levels u y.1 (entries_of (map item_of more)))) old out
entries_next s levels item first next all left more x old out so_far is u stands =
    let whole = shown_entries (tree_of s) levels u first (entries_of (map item_of all)) in
    let here = subst (λ (l : List MapItem). Along whole (shown_entries (tree_of s) levels u next (entries_of (map item_of l))) old out) is (so_far u stands) in
    subst (λ (p : Shown). Along whole (p >>= λ y. behind y.0 (shown_entries (tree_of s) levels u y.1 (entries_of (map item_of more)))) old out) (entry_is (tree_of s) levels u next x) here

pub entries_more : (s : SchemaValue) (levels item first next after : ℕ) (all left more : List MapItem) (x : MapItem) (old out mid new : List Token)
    → EntriesShown s levels item first next all left old out → left ≡ x ∷ more → mid ≡ out ++ token.key x.key ∷ []
    → ((u : AvroType) → Stands s item u → Shows (Ok after) (shown (tree_of s) levels u next (value_of x.value)) mid new)
    → EntriesShown s levels item first after all more old new
entries_more s levels item first next after all left more x old out mid new so_far is key shows u stands =
    along_more _ _ (λ k. shown_entries (tree_of s) levels u k (entries_of (map item_of more))) old out new after (entries_next s levels item first next all left more x old out so_far is u stands)
    (shows_behind (Ok after) (token.key x.key ∷ []) _ out mid new key (shows u stands))

pub entries_fail : (s : SchemaValue) (levels item first next : ℕ) (all left more : List MapItem) (x : MapItem) (old out : List Token) (e : AvroNo)
    → EntriesShown s levels item first next all left old out → left ≡ x ∷ more
    → ((u : AvroType) → Stands s item u → Fails e (shown (tree_of s) levels u next (value_of x.value)))
    → (u : AvroType) → Stands s item u → Fails e (shown_entries (tree_of s) levels u first (entries_of (map item_of all)))
entries_fail s levels item first next all left more x old out e so_far is fails u stands =
    along_fails _ _ (λ k. shown_entries (tree_of s) levels u k (entries_of (map item_of more))) old out e (entries_next s levels item first next all left more x old out so_far is u stands)
    (fails_on e _ (λ y. Ok (token.key x.key ∷ y.0, y.1)) (fails u stands))

pub entries_end : (s : SchemaValue) (levels item first next : ℕ) (all left : List MapItem) (old out : List Token)
    → EntriesShown s levels item first next all left old out → left ≡ []
    → (u : AvroType) → Stands s item u → Shows (Ok next) (shown_entries (tree_of s) levels u first (entries_of (map item_of all))) old out
entries_end s levels item first next all left old out so_far is u stands =
    along_ends _ old out next (subst (λ (l : List MapItem). Along (shown_entries (tree_of s) levels u first (entries_of (map item_of all))) (shown_entries (tree_of s) levels u next (entries_of (map item_of l))) old out) is (so_far u stands))

-- the first of the fields
pub first_stands : (s : SchemaValue) (f : Field) (fs : List Field) (ts : Fields) → StandForFields s (f ∷ fs) ts → HasNode s f.node
first_stands s f fs schema.no_fields stand = absurd stand
first_stands s f fs (schema.field name t ts) stand = (t, stand.1)

fields_next : (s : SchemaValue) (levels next after : ℕ) (whole : Shown) (f : Field) (fs : List Field) (ts : Fields) (x : Datum) (more : List Datum) (old out mid new : List Token)
    → StandForFields s (f ∷ fs) ts → Along whole (shown_fields (tree_of s) levels ts next (values_of (map value_of (x ∷ more)))) old out → mid ≡ out ++ token.key f.name ∷ []
    → ((u : AvroType) → Stands s f.node u → Shows (Ok after) (shown (tree_of s) levels u next (value_of x)) mid new)
    → (rest : Fields) × StandForFields s fs rest × Along whole (shown_fields (tree_of s) levels rest after (values_of (map value_of more))) old new
fields_next s levels next after whole f fs schema.no_fields x more old out mid new stand along key shows = absurd stand
fields_next s levels next after whole f fs (schema.field name t ts) x more old out mid new stand along key shows = (
  ts,
  stand.2,
  along_more whole (behind (token.key name ∷ []) (shown (tree_of s) levels t next (value_of x))) (λ k. shown_fields (tree_of s) levels ts k (values_of (map value_of more))) old out new after along
      (shows_behind (Ok after) (token.key name ∷ []) _ out mid new (key ∙ ap (λ (n : List ℕ). out ++ token.key n ∷ []) stand.0) (shows t stand.1)),
)

pub fields_more : (s : SchemaValue) (levels first next after : ℕ) (fields left_fields more_fields : List Field) (f : Field) (all left more : List Datum) (x : Datum) (old out mid new : List Token)
    → FieldsShown s levels fields left_fields first next all left old out → left_fields ≡ f ∷ more_fields → left ≡ x ∷ more → mid ≡ out ++ token.key f.name ∷ []
    → ((u : AvroType) → Stands s f.node u → Shows (Ok after) (shown (tree_of s) levels u next (value_of x)) mid new)
    → FieldsShown s levels fields more_fields first after all more old new
fields_more s levels first next after fields left_fields more_fields f all left more x old out mid new so_far at is key shows ts stand =
    let here = so_far ts stand in
    fields_next s levels next after _ f more_fields here.0 x more old out mid new (subst (λ (l : List Field). StandForFields s l here.0) at here.1)
    (subst (λ (l : List Datum). Along (shown_fields (tree_of s) levels ts first (values_of (map value_of all))) (shown_fields (tree_of s) levels here.0 next (values_of (map value_of l))) old out) is here.2) key shows

fields_failing : (s : SchemaValue) (levels next : ℕ) (whole : Shown) (f : Field) (fs : List Field) (ts : Fields) (x : Datum) (more : List Datum) (old out : List Token) (e : AvroNo)
    → StandForFields s (f ∷ fs) ts → Along whole (shown_fields (tree_of s) levels ts next (values_of (map value_of (x ∷ more)))) old out
    → ((u : AvroType) → Stands s f.node u → Fails e (shown (tree_of s) levels u next (value_of x))) → Fails e whole
fields_failing s levels next whole f fs schema.no_fields x more old out e stand along fails = absurd stand
fields_failing s levels next whole f fs (schema.field name t ts) x more old out e stand along fails =
    along_fails whole (behind (token.key name ∷ []) (shown (tree_of s) levels t next (value_of x))) (λ k. shown_fields (tree_of s) levels ts k (values_of (map value_of more))) old out e along
    (fails_on e _ (λ y. Ok (token.key name ∷ y.0, y.1)) (fails t stand.1))

pub fields_fail : (s : SchemaValue) (levels first next : ℕ) (fields left_fields more_fields : List Field) (f : Field) (all left more : List Datum) (x : Datum) (old out : List Token) (e : AvroNo)
    → FieldsShown s levels fields left_fields first next all left old out → left_fields ≡ f ∷ more_fields → left ≡ x ∷ more
    → ((u : AvroType) → Stands s f.node u → Fails e (shown (tree_of s) levels u next (value_of x)))
    → (ts : Fields) → StandForFields s fields ts → Fails e (shown_fields (tree_of s) levels ts first (values_of (map value_of all)))
fields_fail s levels first next fields left_fields more_fields f all left more x old out e so_far at is fails ts stand =
    let here = so_far ts stand in
    fields_failing s levels next _ f more_fields here.0 x more old out e (subst (λ (l : List Field). StandForFields s l here.0) at here.1)
    (subst (λ (l : List Datum). Along (shown_fields (tree_of s) levels ts first (values_of (map value_of all))) (shown_fields (tree_of s) levels here.0 next (values_of (map value_of l))) old out) is here.2) fails

pub fields_end : (s : SchemaValue) (levels first next : ℕ) (fields left_fields : List Field) (all left : List Datum) (old out : List Token)
    → FieldsShown s levels fields left_fields first next all left old out → left ≡ []
    → (ts : Fields) → StandForFields s fields ts → Shows (Ok next) (shown_fields (tree_of s) levels ts first (values_of (map value_of all))) old out
fields_end s levels first next fields left_fields all left old out so_far is ts stand =
    let here = so_far ts stand in
    along_ends _ old out next (subst (λ (l : List Datum). Along (shown_fields (tree_of s) levels ts first (values_of (map value_of all))) (shown_fields (tree_of s) levels here.0 next (values_of (map value_of l))) old out) is here.2)

-- ---- nodes with parts

pub items_shown : (s : SchemaValue) (levels k below site item : ℕ) (all : List Datum) (r : Result ℕ AvroNo) (old new : List Token) → opened levels k ≡ Ok below
    → ((t : AvroType) → Stands s site t → Picks s (Some item) (items_in (resolved (tree_of s) t) (length all)))
    → ((u : AvroType) → Stands s item u → Shows r (between token.begin_array token.end_array (shown_items (tree_of s) below u (k + 1) (values_of (map value_of all)))) old new)
    → (t : AvroType) → Stands s site t → Shows r (shown (tree_of s) levels t k (shapes.items (values_of (map value_of all)))) old new
items_shown s levels k below site item all r old new at_below picks shows t stands =
    let p = picks t stands in
    node_shown levels k below _ p.0 (λ b u. between token.begin_array token.end_array (shown_items (tree_of s) b u (suc k) (values_of (map value_of all)))) r old new
    at_below (ap (items_in (resolved (tree_of s) t)) (size_is all) ∙ p.1) (subst (λ (n : ℕ). Shows r (between token.begin_array token.end_array (shown_items (tree_of s) below p.0 n (values_of (map value_of all)))) old new) (add-one k) (shows p.0 p.2))

pub entries_shown : (s : SchemaValue) (levels k below site item : ℕ) (all : List MapItem) (r : Result ℕ AvroNo) (old new : List Token) → opened levels k ≡ Ok below
    → ((t : AvroType) → Stands s site t → Picks s (Some item) (values_in (resolved (tree_of s) t) (entries_of (map item_of all))))
    → ((u : AvroType) → Stands s item u → Shows r (between token.begin_object token.end_object (shown_entries (tree_of s) below u (k + 1) (entries_of (map item_of all)))) old new)
    → (t : AvroType) → Stands s site t → Shows r (shown (tree_of s) levels t k (shapes.entries (entries_of (map item_of all)))) old new
entries_shown s levels k below site item all r old new at_below picks shows t stands =
    let p = picks t stands in
    node_shown levels k below _ p.0 (λ b u. between token.begin_object token.end_object (shown_entries (tree_of s) b u (suc k) (entries_of (map item_of all)))) r old new at_below p.1 (subst (λ (n : ℕ). Shows r (between token.begin_object token.end_object (shown_entries (tree_of s) below p.0 n (entries_of (map item_of all)))) old new) (add-one k) (shows p.0 p.2))

pub fields_shown : (s : SchemaValue) (levels k below site : ℕ) (fields : List Field) (all : List Datum) (r : Result ℕ AvroNo) (old new : List Token) → opened levels k ≡ Ok below
    → ((t : AvroType) → Stands s site t → PicksFields s (Some fields) (fields_in (resolved (tree_of s) t) (length all)))
    → ((ts : Fields) → StandForFields s fields ts → Shows r (between token.begin_object token.end_object (shown_fields (tree_of s) below ts (k + 1) (values_of (map value_of all)))) old new)
    → (t : AvroType) → Stands s site t → Shows r (shown (tree_of s) levels t k (shapes.fields (values_of (map value_of all)))) old new
fields_shown s levels k below site fields all r old new at_below picks shows t stands =
    let p = picks t stands in
    node_shown levels k below _ p.0 (λ b ts. between token.begin_object token.end_object (shown_fields (tree_of s) b ts (suc k) (values_of (map value_of all)))) r old new
    at_below (ap (fields_in (resolved (tree_of s) t)) (size_is all) ∙ p.1) (subst (λ (n : ℕ). Shows r (between token.begin_object token.end_object (shown_fields (tree_of s) below p.0 n (values_of (map value_of all)))) old new) (add-one k) (shows p.0 p.2))

pub fields_lacking : (s : SchemaValue) (levels k below site : ℕ) (all : List Datum) → opened levels k ≡ Ok below
    → ((t : AvroType) → Stands s site t → PicksFields s None (fields_in (resolved (tree_of s) t) (length all)))
    → (t : AvroType) → Stands s site t → Fails (Mismatch k) (shown (tree_of s) levels t k (shapes.fields (values_of (map value_of all))))
fields_lacking s levels k below site all at_below lacks t stands =
    inr (node_lacks levels k below _ (λ b ts. between token.begin_object token.end_object (shown_fields (tree_of s) b ts (suc k) (values_of (map value_of all)))) at_below (ap (fields_in (resolved (tree_of s) t)) (size_is all) ∙ lacks t stands))
