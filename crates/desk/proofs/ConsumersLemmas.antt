-- The instances under their keys, where one of them comes, changes or goes.
use Rattle.std.proofs.Common.{◌≡◌, ℕ, Bool, true, false, cond, List, [], ◌∷◌, length, arith, refl, ap, sym, ◌∙◌, subst, Option, Some, None}
use Rattle.std.specs.Prelude.{option_map, bytes_eq, string_bytes, ◌&&◌, ◌⊎◌, String, Result, Ok, Err, IfSome, IfNone, OnOk, OnErr}
use Rattle.std.specs.BTreeMap.{get_by_text, is_at}
use Rattle.std.specs.Cmp.Lexicographic.{slice_cmp}
use Rattle.std.specs.Map.{lookup}
use Rattle.std.specs.Ordering.{nat_cmp}
use Rattle.std.specs.declared.alloc.Global.{Global}
use Rattle.model.specs.state.Entry.{Act, Call, Event}
use Rattle.model.specs.state.Entry.Call.{Of}
use Rattle.model.specs.state.Log.{Log}
use Rattle.model.specs.texts.Texts.{Response}
use Rattle.broker_link.specs.Causes.{Counts}
use Rattle.desk.specs.Action.{Does}
use Rattle.desk.specs.Keys.{consumer_key, group_in, name_in_call}
use Rattle.std.proofs.lemmas.Slice.Eq.{bytes_eq-Decides}
use Rattle.model.specs.state.World.{Key, is_key, Consumer, IsConsumer}
use Rattle.model.proofs.Moves.{same_from_is_key}
use Rattle.rest_calls.specs.Views.{key_in}
use Rattle.instance.specs.Views.{Live}
use Rattle.desk.specs.Consumers.{Names, Groups, named_in, live_under, consumer_under, AreKeyed, AreSound, PutsName, Puts, AreSame}

same_bytes : (x : List ℕ) → bytes_eq x x ≡ true
same_bytes x = (bytes_eq-Decides x x).1 refl

pub itself : (key : Key) → is_key key key ≡ true
itself key = rw (same_bytes key.group, same_bytes key.instance) refl

pub flipped : (x y : Key) → is_key x y ≡ false → is_key y x ≡ false
flipped x y apart = go (is_key y x) refl
  where
    go : (b : Bool) → is_key y x ≡ b → is_key y x ≡ false
    go true e =
        let same : y ≡ x = same_from_is_key y x e in
        let turned : is_key x y ≡ is_key y x = ap (λ (z : Key). is_key z y) (sym same) ∙ ap (λ (z : Key). is_key y z) same in
        absurd (cc (apart, turned, e))
    go false e = e

-- ---- a group changes

-- the group has the names `after`, and each other group what it had
abbrev pub PutsGroup : Groups → List ℕ → Option Names → Groups → Type 0
PutsGroup old group after new = (other : List ℕ) → get_by_text new other ≡ cond (bytes_eq group other) after (get_by_text old other)

-- what is put into a group is put under its key
pub puts_of : (old new : Groups) (group name : List ℕ) (live : Option Live) (after : Option Names)
    → PutsGroup old group after new → PutsName (get_by_text old group) name live after → Puts old (key_in group name) live new
puts_of old new group name live after outer inner = λ other. go other (bytes_eq group other.group) refl
  where
    go : (other : Key) (b : Bool) → bytes_eq group other.group ≡ b → live_under new other ≡ cond (bytes_eq group other.group && bytes_eq name other.instance) live (live_under old other)
    go other true e =
        let same : group ≡ other.group = (bytes_eq-Decides group other.group).0 e in
        let now : get_by_text new other.group ≡ after = outer other.group ∙ ap (λ (t : Bool). cond t after (get_by_text old other.group)) e in
        ap (λ (o : Option Names). named_in o other.instance) now
        ∙ (inner other.instance
        ∙ (ap (λ (g : List ℕ). cond (bytes_eq name other.instance) live (named_in (get_by_text old g) other.instance)) same
        ∙ ap (λ (t : Bool). cond (t && bytes_eq name other.instance) live (live_under old other)) (sym e)))
    go other false e =
        let now : get_by_text new other.group ≡ get_by_text old other.group = outer other.group ∙ ap (λ (t : Bool). cond t after (get_by_text old other.group)) e in
        ap (λ (o : Option Names). named_in o other.instance) now
        ∙ ap (λ (t : Bool). cond (t && bytes_eq name other.instance) live (live_under old other)) (sym e)

-- a group whose names have what they had
pub same_of : (old new : Groups) (group : List ℕ) (after : Option Names)
    → PutsGroup old group after new → ((name : List ℕ) → named_in after name ≡ named_in (get_by_text old group) name) → AreSame old new
same_of old new group after outer inner = λ other. go other (bytes_eq group other.group) refl
  where
    go : (other : Key) (b : Bool) → bytes_eq group other.group ≡ b → live_under new other ≡ live_under old other
    go other true e =
        let same : group ≡ other.group = (bytes_eq-Decides group other.group).0 e in
        let now : get_by_text new other.group ≡ after = outer other.group ∙ ap (λ (t : Bool). cond t after (get_by_text old other.group)) e in
        ap (λ (o : Option Names). named_in o other.instance) now
        ∙ (inner other.instance ∙ ap (λ (g : List ℕ). named_in (get_by_text old g) other.instance) same)
    go other false e = ap (λ (o : Option Names). named_in o other.instance) (outer other.group ∙ ap (λ (t : Bool). cond t after (get_by_text old other.group)) e)

pub puts_same : (old mid new : Groups) (key : Key) (live : Option Live) → Puts old key live mid → AreSame mid new → Puts old key live new
puts_same old mid new key live puts same = λ other. same other ∙ puts other

-- ---- the key and the others

pub found_put : (old new : Groups) (key : Key) (live : Option Live) → Puts old key live new → live_under new key ≡ live
found_put old new key live puts = puts key ∙ ap (λ (t : Bool). cond t live (live_under old key)) (itself key)

pub others_put : (old new : Groups) (key other : Key) (live : Option Live) → Puts old key live new → is_key other key ≡ false → live_under new other ≡ live_under old other
others_put old new key other live puts apart = puts other ∙ ap (λ (t : Bool). cond t live (live_under old other)) (flipped other key apart)

pub keyed_put : (old new : Groups) (key : Key) (live : Option Live) → AreKeyed old → Puts old key live new → ((l : Live) → live ≡ Some l → l.key ≡ key) → AreKeyed new
keyed_put old new key live keyed puts own = λ other l is. go other l is (is_key key other) refl
  where
    go : (other : Key) (l : Live) → live_under new other ≡ Some l → (b : Bool) → is_key key other ≡ b → l.key ≡ other
    go other l is true e = own l (sym (puts other ∙ ap (λ (t : Bool). cond t live (live_under old other)) e) ∙ is) ∙ same_from_is_key key other e
    go other l is false e = keyed other l (sym (puts other ∙ ap (λ (t : Bool). cond t live (live_under old other)) e) ∙ is)

pub sound_put : (old new : Groups) (key : Key) (live : Option Live) → AreSound old → Puts old key live new → ((l : Live) → live ≡ Some l → IsConsumer l.consumer) → AreSound new
sound_put old new key live sound puts own = λ other c is. go other c is (is_key key other) refl
  where
    one : (o : Option Live) → ((l : Live) → o ≡ Some l → IsConsumer l.consumer) → (c : Consumer) → option_map (λ (l : Live). l.consumer) o ≡ Some c → IsConsumer c
    one None each c is = absurd (cc is)
    one (Some l) each c is = subst IsConsumer (let f = is in cc f) (each l refl)

    go : (other : Key) (c : Consumer) → consumer_under new other ≡ Some c → (b : Bool) → is_key key other ≡ b → IsConsumer c
    go other c is true e = one live own c (sym (ap (λ (o : Option Live). option_map (λ (l : Live). l.consumer) o) (puts other ∙ ap (λ (t : Bool). cond t live (live_under old other)) e)) ∙ is)
    go other c is false e = sound other c (sym (ap (λ (o : Option Live). option_map (λ (l : Live). l.consumer) o) (puts other ∙ ap (λ (t : Bool). cond t live (live_under old other)) e)) ∙ is)

pub keyed_same : (old new : Groups) → AreKeyed old → AreSame old new → AreKeyed new
keyed_same old new keyed same = λ key l is. keyed key l (sym (same key) ∙ is)

pub consumers_same : (old new : Groups) → AreSame old new → (key : Key) → consumer_under new key ≡ consumer_under old key
consumers_same old new same key = ap (λ (o : Option Live). option_map (λ (l : Live). l.consumer) o) (same key)

pub sound_same : (old new : Groups) → AreSound old → AreSame old new → AreSound new
sound_same old new sound same = λ key c is. sound key c (sym (consumers_same old new same key) ∙ is)

-- ---- a call inside a group, seen from the groups

pub does_under : (old new : Groups) (names left : Names) (call : Call) (now round : ℕ) (tells plain : Type 0) (before after : Counts) (a : Log) (events : List (Key ⊎ Event)) (said : Option Response) (b : Log)
    → get_by_text old (group_in call) ≡ Some names → PutsGroup old (group_in call) (Some left) new
    → Does (get_by_text names (name_in_call call)) (λ live. PutsName (Some names) (name_in_call call) live (Some left)) call now round tells plain before after a events said b
    → Does (live_under old (consumer_key call)) (λ live. Puts old (consumer_key call) live new) call now round tells plain before after a events said b
does_under old new names left call now round tells plain before after a events said b was outer one = record {
  stood = one.stood;
  live = one.live;
  was = ap (λ (o : Option Names). named_in o (name_in_call call)) was ∙ one.was;
  puts = puts_of old new (group_in call) (name_in_call call) (Some one.live) (Some left) outer
      (subst (λ (o : Option Names). PutsName o (name_in_call call) (Some one.live) (Some left)) (sym was) one.puts);
  key = one.key;
  sound = one.sound;
  unsubscribed = one.unsubscribed;
  acts = one.acts;
}

pub nobody_under : (old : Groups) (names : Names) (call : Call) → get_by_text old (group_in call) ≡ Some names → get_by_text names (name_in_call call) ≡ None → live_under old (consumer_key call) ≡ None
nobody_under old names call was none = ap (λ (o : Option Names). named_in o (name_in_call call)) was ∙ none

pub same_under : (old new : Groups) (names left : Names) (group : List ℕ) → get_by_text old group ≡ Some names → PutsGroup old group (Some left) new → ((name : List ℕ) → get_by_text left name ≡ get_by_text names name) → AreSame old new
same_under old new names left group was outer same = same_of old new group (Some left) outer (λ name. same name ∙ ap (λ (o : Option Names). named_in o name) (sym was))

pub put_under : (old new : Groups) (names left : Names) (group name : List ℕ) (live : Option Live) → get_by_text old group ≡ Some names → PutsGroup old group (Some left) new → PutsName (Some names) name live (Some left) → Puts old (key_in group name) live new
put_under old new names left group name live was outer inner = puts_of old new group name live (Some left) outer (subst (λ (o : Option Names). PutsName o name live (Some left)) (sym was) inner)

pub if_some_from : {A : Type 0} (o : Option A) (P Q : A → Type 0) → ((a : A) → P a → Q a) → IfSome o P → IfSome o Q
if_some_from None P Q each holds = tt
if_some_from (Some a) P Q each holds = each a holds

pub if_none_from : {A : Type 0} (o : Option A) (P Q : Type 0) → (P → Q) → IfNone o P → IfNone o Q
if_none_from None P Q each holds = each holds
if_none_from (Some a) P Q each holds = tt

pub on_ok_from : {A E : Type 0} (r : Result A E) (P Q : Type 0) → (P → Q) → OnOk r P → OnOk r Q
on_ok_from (Ok x) P Q each holds = each holds
on_ok_from (Err e) P Q each holds = tt

pub on_err_from : {A E : Type 0} (r : Result A E) (P Q : Type 0) → (P → Q) → OnErr r P → OnErr r Q
on_err_from (Ok x) P Q each holds = tt
on_err_from (Err e) P Q each holds = each holds

-- the same entries have the same at each name
pub same_entries : (old new : Names) → new.entries ≡ old.entries → (name : List ℕ) → get_by_text new name ≡ get_by_text old name
same_entries old new same name = ap (λ (es : List (String Global × Live)). lookup (is_at (λ (k : String Global). slice_cmp nat_cmp name (string_bytes k))) es) same

-- ---- what holds of all, after one call

pub empty_live : (groups : Groups) → groups.entries ≡ [] → (key : Key) → live_under groups key ≡ None
empty_live groups none key = ap (λ (es : List (String Global × Names)). named_in (lookup (is_at (λ (k : String Global). slice_cmp nat_cmp key.group (string_bytes k))) es) key.instance) none

pub keyed_none : (groups : Groups) → ((key : Key) → live_under groups key ≡ None) → AreKeyed groups
keyed_none groups none = λ key live is. absurd (cc (sym (none key) ∙ is))

pub sound_none : (groups : Groups) → ((key : Key) → live_under groups key ≡ None) → AreSound groups
sound_none groups none = λ key c is. absurd (cc (sym (ap (λ (o : Option Live). option_map (λ (l : Live). l.consumer) o) (none key)) ∙ is))

pub whose_under : (groups : Groups) (call : Call) → AreKeyed groups → (key : Key) (act : Act) → call ≡ Of key act → (live : Live) → live_under groups (consumer_key call) ≡ Some live → (same : Act) × (call ≡ Of live.key same)
whose_under groups call keyed key act is live found = (act, is ∙ ap (λ (k : Key). Of k act) (sym (keyed (consumer_key call) live found ∙ ap consumer_key is)))

pub keyed_does : (old new : Groups) (call : Call) (now round : ℕ) (tells plain : Type 0) (before after : Counts) (a : Log) (events : List (Key ⊎ Event)) (said : Option Response) (b : Log) → AreKeyed old
    → Does (live_under old (consumer_key call)) (λ live. Puts old (consumer_key call) live new) call now round tells plain before after a events said b → AreKeyed new
keyed_does old new call now round tells plain before after a events said b keyed one =
    keyed_put old new (consumer_key call) (Some one.live) keyed one.puts
    (λ l is. let same : one.live ≡ l = cc is in ap (λ (x : Live). x.key) (sym same) ∙ (one.key ∙ keyed (consumer_key call) one.stood one.was))

pub sound_does : (old new : Groups) (call : Call) (now round : ℕ) (tells plain : Type 0) (before after : Counts) (a : Log) (events : List (Key ⊎ Event)) (said : Option Response) (b : Log) → AreSound old
    → Does (live_under old (consumer_key call)) (λ live. Puts old (consumer_key call) live new) call now round tells plain before after a events said b → AreSound new
sound_does old new call now round tells plain before after a events said b sound one =
    sound_put old new (consumer_key call) (Some one.live) sound one.puts
    (λ l is. let same : one.live ≡ l = cc is in subst (λ (x : Live). IsConsumer x.consumer) same one.sound)

pub keyed_one : (old new : Groups) (key : Key) (live : Live) → AreKeyed old → live.key ≡ key → Puts old key (Some live) new → AreKeyed new
keyed_one old new key live keyed own puts = keyed_put old new key (Some live) keyed puts (λ l is. let same : live ≡ l = cc is in ap (λ (x : Live). x.key) (sym same) ∙ own)

pub sound_one : (old new : Groups) (key : Key) (live : Live) → AreSound old → IsConsumer live.consumer → Puts old key (Some live) new → AreSound new
sound_one old new key live sound own puts = sound_put old new key (Some live) sound puts (λ l is. let same : live ≡ l = cc is in subst (λ (x : Live). IsConsumer x.consumer) same own)

pub keyed_less : (old new : Groups) (key : Key) → AreKeyed old → Puts old key None new → AreKeyed new
keyed_less old new key keyed puts = keyed_put old new key None keyed puts (λ l is. absurd (cc is))

pub sound_less : (old new : Groups) (key : Key) → AreSound old → Puts old key None new → AreSound new
sound_less old new key sound puts = sound_put old new key None sound puts (λ l is. absurd (cc is))

pub if_either : {A : Type 0} (o : Option A) (D : A → Type 0) (S P : Type 0) → IfSome o D → IfNone o S → ((x : A) → D x → P) → (S → P) → P
if_either None D S P some none f g = g none
if_either (Some x) D S P some none f g = f x some

pub on_either : {A E : Type 0} (r : Result A E) (S T P : Type 0) → OnOk r S → OnErr r T → (S → P) → (T → P) → P
on_either (Ok x) S T P ok err f g = f ok
on_either (Err e) S T P ok err f g = g err

-- ---- names that are empty, and groups that come or go

nil_of : {A : Type 0} (xs : List A) → length xs ≡ 0 → xs ≡ []
nil_of [] none = refl
nil_of (x ∷ xs) none = absurd (omega (arith, none))

pub empty_names : (names : Names) → names.entries ≡ [] → (name : List ℕ) → get_by_text names name ≡ None
empty_names names none name = ap (λ (es : List (String Global × Live)). lookup (is_at (λ (k : String Global). slice_cmp nat_cmp name (string_bytes k))) es) none

pub no_names : (names : Names) → length names.entries ≡ 0 → (name : List ℕ) → get_by_text names name ≡ None
no_names names none name = empty_names names (nil_of names.entries none) name

pub first_name : (old : Groups) (group : List ℕ) (names : Names) (name : List ℕ) (live : Option Live) (after : Option Names) → names.entries ≡ [] → get_by_text old group ≡ None
    → PutsName (Some names) name live after → PutsName (get_by_text old group) name live after
first_name old group names name live after empty none inner = λ other.
    inner other ∙ ap (λ (o : Option Live). cond (bytes_eq name other) live o) (empty_names names empty other ∙ sym (ap (λ (o : Option Names). named_in o other) none))

pub group_left : (old new : Groups) (group : List ℕ) (after : Option Names) → PutsGroup old group after new → get_by_text new group ≡ after
group_left old new group after outer = outer group ∙ ap (λ (t : Bool). cond t after (get_by_text old group)) (same_bytes group)

either_none : (b : Bool) (o : Option Live) → o ≡ None → o ≡ cond b None o
either_none true o none = none
either_none false o none = refl

-- in no group there is nothing to take
pub none_taken : (old : Groups) (group name : List ℕ) → get_by_text old group ≡ None → Puts old (key_in group name) None old
none_taken old group name none = λ other. go other (bytes_eq group other.group) refl
  where
    go : (other : Key) (b : Bool) → bytes_eq group other.group ≡ b → live_under old other ≡ cond (bytes_eq group other.group && bytes_eq name other.instance) None (live_under old other)
    go other true e =
        let same : group ≡ other.group = (bytes_eq-Decides group other.group).0 e in
        either_none (bytes_eq group other.group && bytes_eq name other.instance) (live_under old other)
        (ap (λ (o : Option Names). named_in o other.instance) (ap (λ (g : List ℕ). get_by_text old g) (sym same) ∙ none))
    go other false e = ap (λ (b : Bool). cond (b && bytes_eq name other.instance) None (live_under old other)) (sym e)
