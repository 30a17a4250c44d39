-- From the metadata of one topic after another to what is lacking first.
use Rattle.std.proofs.Common.{◌≡◌, ℕ, zero, suc, ◌+◌, ◌<◌, ◌≤◌, Bool, true, false, cond, nat_lt, List, [], ◌∷◌, length, map, take, get_or, refl, ap, sym, subst, ◌∙◌, arith, Option, Some, None, Result, Ok, Err}
use Rattle.std.specs.Prelude.{IfErr, ◌&&◌, not, All, Contains, bytes_eq}
use Rattle.std.specs.List.{list_any}
use Rattle.std.proofs.lemmas.Slice.Eq.{bytes_eq-Decides}
use Rattle.std.proofs.lemmas.List.{get_or-map, length-map}
use Rattle.std.proofs.lemmas.List.Elements.{All-cons, All-head, All-nil, All-tail, All-more}
use Rattle.model.specs.state.Log.{TopicPart, Log, Keeps, parts_in}
use Rattle.model.specs.step.Fixed.{HasPart}
use Rattle.model.specs.step.Rules.{lacking}
use Rattle.std.proofs.lemmas.Bool.Decides.{nat_tests}
use Rattle.broker_link.specs.Fetching.{at_of}
use Rattle.broker_link.specs.Count.{IsCount}
use Rattle.broker_link.specs.declared.fetch.TopicPart.{TopicPart as Part}
use Rattle.broker_link.proofs.Answered.{parts_counted}
use Rattle.broker_link.proofs.KeptTopics.{named_as}
use Rattle.consumer_state.specs.Topics.{FitsNext, Pass, has_topic, is_beyond, topic_code}
use Rattle.consumer_state.specs.LinkCalls.{FitsCode, IsFailed}
use Rattle.consumer_state.specs.declared.topics.AssignNo.{AssignNo}
use Rattle.consumer_state.specs.declared.topics.AssignNo.TheVariants.{NoTopic, NoPartition, Failed}

-- a log that was kept has as many partitions of each topic
pub same_count : (a b : Log) (topic : List ℕ) → Keeps a b → length (parts_in b.topics topic) ≡ length (parts_in a.topics topic)
same_count a b topic keeps = parts_counted a.topics b.topics topic keeps.shape

-- ---- what one topic lacks

-- a partition is behind the topic's last one by the log, or by the number told
abbrev is_lacked : Log → List ℕ → TopicPart → Bool
is_lacked log topic other = bytes_eq other.topic topic && not (nat_lt other.partition (length (parts_in log.topics other.topic)))

beyond_is : (log : Log) (topic : List ℕ) (n : ℕ) (at : TopicPart) → length (parts_in log.topics topic) ≡ n → is_lacked log topic at ≡ is_beyond topic n at
beyond_is log topic n at count = go (bytes_eq at.topic topic) refl
  where
    go : (b : Bool) → bytes_eq at.topic topic ≡ b → is_lacked log topic at ≡ is_beyond topic n at
    go true e =
        let same : at.topic ≡ topic = (bytes_eq-Decides at.topic topic).0 e in
        ap (λ m. bytes_eq at.topic topic && not (nat_lt at.partition m)) (ap (λ t. length (parts_in log.topics t)) same ∙ count)
    go false e = rw e refl

any_lacked : (log : Log) (topic : List ℕ) (n : ℕ) (parts : List Part) → length (parts_in log.topics topic) ≡ n
    → list_any (is_lacked log topic) (map at_of parts) ≡ list_any (λ part. is_beyond topic n (at_of part)) parts
any_lacked log topic n [] count = refl
any_lacked log topic n (p ∷ ps) count = go (is_beyond topic n (at_of p)) refl (beyond_is log topic n (at_of p) count) (any_lacked log topic n ps count)
  where
    go : (b : Bool) → is_beyond topic n (at_of p) ≡ b → is_lacked log topic (at_of p) ≡ is_beyond topic n (at_of p)
        → list_any (is_lacked log topic) (map at_of ps) ≡ list_any (λ part. is_beyond topic n (at_of part)) ps
        → list_any (is_lacked log topic) (map at_of (p ∷ ps)) ≡ list_any (λ part. is_beyond topic n (at_of part)) (p ∷ ps)
    go true e f ih = let g : is_lacked log topic (at_of p) ≡ true = f ∙ e in rw (e, g) refl
    go false e f ih = let g : is_lacked log topic (at_of p) ≡ false = f ∙ e in rw (e, g) ih

-- the log has no topic of that name
pub no_topic : (a m : Log) (topic : List ℕ) (ats : List TopicPart) → Keeps a m → IsCount m topic None → topic_code a ats topic ≡ Some 40401
no_topic a m topic ats keeps none =
    let e : has_topic a topic ≡ false = sym (named_as a.topics m.topics topic keeps.shape) ∙ lacks (has_topic m topic) refl in
    rw e refl
  where
    lacks : (b : Bool) → has_topic m topic ≡ b → has_topic m topic ≡ false
    lacks true has = absurd (none has)
    lacks false has_none = has_none

-- it has one, and some listed partition is behind the last one or none is
pub of_topic : (a m : Log) (topic : List ℕ) (parts : List Part) (n : ℕ) (b : Bool) → Keeps a m → IsCount m topic (Some n)
    → list_any (λ part. is_beyond topic n (at_of part)) parts ≡ b → topic_code a (map at_of parts) topic ≡ cond b (Some 40402) None
of_topic a m topic parts n b keeps told any =
    let e : has_topic a topic ≡ true = sym (named_as a.topics m.topics topic keeps.shape) ∙ told.0 in
    let count : length (parts_in a.topics topic) ≡ n = sym (same_count a m topic keeps) ∙ told.1 in
    let f : list_any (is_lacked a topic) (map at_of parts) ≡ b = any_lacked a topic n parts count ∙ any in
    rw (e, f) refl

lacked_same : (a m : Log) (topic : List ℕ) (ats : List TopicPart) → Keeps a m → list_any (is_lacked m topic) ats ≡ list_any (is_lacked a topic) ats
lacked_same a m topic [] keeps = refl
lacked_same a m topic (at ∷ ats) keeps =
    go (is_lacked a topic at) refl (ap (λ n. bytes_eq at.topic topic && not (nat_lt at.partition n)) (same_count a m at.topic keeps)) (lacked_same a m topic ats keeps)
  where
    go : (b : Bool) → is_lacked a topic at ≡ b → is_lacked m topic at ≡ is_lacked a topic at → list_any (is_lacked m topic) ats ≡ list_any (is_lacked a topic) ats
        → list_any (is_lacked m topic) (at ∷ ats) ≡ list_any (is_lacked a topic) (at ∷ ats)
    go true e f ih = let g : is_lacked m topic at ≡ true = f ∙ e in rw (e, g) refl
    go false e f ih = let g : is_lacked m topic at ≡ false = f ∙ e in rw (e, g) ih

-- a log that was kept lacks the same
code_same : (a m : Log) (ats : List TopicPart) (topic : List ℕ) → Keeps a m → topic_code m ats topic ≡ topic_code a ats topic
code_same a m ats topic keeps =
    ap (λ b. cond b (cond (list_any (is_lacked m topic) ats) (Some 40402) None) (Some 40401)) (named_as a.topics m.topics topic keeps.shape)
    ∙ ap (λ b. cond (has_topic a topic) (cond b (Some 40402) None) (Some 40401)) (lacked_same a m topic ats keeps)

pub lacking_same : (a m : Log) (ats rest : List TopicPart) → Keeps a m → lacking m ats rest ≡ lacking a ats rest
lacking_same a m ats [] keeps = refl
lacking_same a m ats (at ∷ rest) keeps =
    go (has_topic a at.topic) refl (named_as a.topics m.topics at.topic keeps.shape) (list_any (is_lacked a at.topic) ats) refl (lacked_same a m at.topic ats keeps) (lacking_same a m ats rest keeps)
  where
    go : (b : Bool) → has_topic a at.topic ≡ b → has_topic m at.topic ≡ has_topic a at.topic → (c : Bool) → list_any (is_lacked a at.topic) ats ≡ c
        → list_any (is_lacked m at.topic) ats ≡ list_any (is_lacked a at.topic) ats → lacking m ats rest ≡ lacking a ats rest → lacking m ats (at ∷ rest) ≡ lacking a ats (at ∷ rest)
    go true e f true h k ih = let e' : has_topic m at.topic ≡ true = f ∙ e in let h' : list_any (is_lacked m at.topic) ats ≡ true = k ∙ h in rw (e, e', h, h') refl
    go true e f false h k ih = let e' : has_topic m at.topic ≡ true = f ∙ e in let h' : list_any (is_lacked m at.topic) ats ≡ false = k ∙ h in rw (e, e', h, h') ih
    go false e f c h k ih = let e' : has_topic m at.topic ≡ false = f ∙ e in rw (e, e') refl

pub pass_later : (a m : Log) (ats passed : List TopicPart) → Keeps a m → Pass a ats passed → Pass m ats passed
pass_later a m ats passed keeps pass = λ k d lt. code_same a m ats (get_or passed k d).topic keeps ∙ pass k d lt

pub pass_sooner : (a m : Log) (ats passed : List TopicPart) → Keeps a m → Pass m ats passed → Pass a ats passed
pass_sooner a m ats passed keeps pass = λ k d lt. sym (code_same a m ats (get_or passed k d).topic keeps) ∙ pass k d lt

-- ---- what is lacking first

code_goes_on : (log : Log) (ats : List TopicPart) (at : TopicPart) (rest : List TopicPart) → topic_code log ats at.topic ≡ None → lacking log ats (at ∷ rest) ≡ lacking log ats rest
code_goes_on log ats at rest none = go (has_topic log at.topic) refl (list_any (is_lacked log at.topic) ats) refl none
  where
    go : (b : Bool) → has_topic log at.topic ≡ b → (c : Bool) → list_any (is_lacked log at.topic) ats ≡ c → topic_code log ats at.topic ≡ None
        → lacking log ats (at ∷ rest) ≡ lacking log ats rest
    go true e false f none = rw (e, f) refl
    go true e true f none = absurd (cc (none, coded))
      where
        coded : topic_code log ats at.topic ≡ Some 40402
        coded = rw (e, f) refl
    go false e c f none = absurd (cc (none, coded))
      where
        coded : topic_code log ats at.topic ≡ Some 40401
        coded = rw e refl

code_ends : (log : Log) (ats : List TopicPart) (at : TopicPart) (rest : List TopicPart) (code : ℕ) → topic_code log ats at.topic ≡ Some code → lacking log ats (at ∷ rest) ≡ Some code
code_ends log ats at rest code some = go (has_topic log at.topic) refl (list_any (is_lacked log at.topic) ats) refl some
  where
    go : (b : Bool) → has_topic log at.topic ≡ b → (c : Bool) → list_any (is_lacked log at.topic) ats ≡ c → topic_code log ats at.topic ≡ Some code
        → lacking log ats (at ∷ rest) ≡ Some code
    go true e true f some =
        let coded : topic_code log ats at.topic ≡ Some 40402 = rw (e, f) refl in
        rw (e, f) (sym coded ∙ some)
    go true e false f some = absurd (cc (some, coded))
      where
        coded : topic_code log ats at.topic ≡ None
        coded = rw (e, f) refl
    go false e c f some =
        let coded : topic_code log ats at.topic ≡ Some 40401 = rw e refl in
        rw e (sym coded ∙ some)

lacking_at : (log : Log) (ats rest : List TopicPart) (i : ℕ) (d : TopicPart) (code : ℕ) → i < length rest → Pass log ats (take i rest) → topic_code log ats (get_or rest i d).topic ≡ Some code
    → lacking log ats rest ≡ Some code
lacking_at log ats [] i d code lt pass some = absurd (omega (arith, lt))
lacking_at log ats (at ∷ rest) zero d code lt pass some = code_ends log ats at rest code some
lacking_at log ats (at ∷ rest) (suc i) d code lt pass some =
    let P : TopicPart → Type 0 = λ x. topic_code log ats x.topic ≡ None in
    code_goes_on log ats at rest (All-head P at (take i rest) pass) ∙ lacking_at log ats rest i d code (omega (arith, lt)) (All-tail P at (take i rest) pass) some

lacking_none : (log : Log) (ats rest : List TopicPart) → Pass log ats rest → lacking log ats rest ≡ None
lacking_none log ats [] pass = refl
lacking_none log ats (at ∷ rest) pass =
    let P : TopicPart → Type 0 = λ x. topic_code log ats x.topic ≡ None in
    code_goes_on log ats at rest (All-head P at rest pass) ∙ lacking_none log ats rest (All-tail P at rest pass)

-- all topics pass
pub none_lacking : (log : Log) (ats : List TopicPart) (n : ℕ) → length ats ≤ n → Pass log ats (take n ats) → lacking log ats ats ≡ None
none_lacking log ats n le pass = lacking_none log ats ats (subst (λ (l : List TopicPart). Pass log ats l) (taken ats n le) pass)
  where
    taken : (l : List TopicPart) (n : ℕ) → length l ≤ n → take n l ≡ l
    taken [] zero le = refl
    taken [] (suc n) le = refl
    taken (x ∷ l) zero le = absurd (omega (arith, le))
    taken (x ∷ l) (suc n) le = ap (λ m. x ∷ m) (taken l n (omega (arith, le)))

at_place : (parts : List Part) (i : ℕ) (part : Part) → i < length parts → part ≡ get_or parts i part → get_or (map at_of parts) i (at_of part) ≡ at_of part
at_place parts i part lt is = get_or-map at_of parts i part (at_of part) lt ∙ ap at_of (sym is)

-- the topic at a place lacks something, and those before it nothing
pub lacking_first : (log : Log) (parts : List Part) (i : ℕ) (part : Part) (code : ℕ) → i < length parts → part ≡ get_or parts i part → Pass log (map at_of parts) (take i (map at_of parts))
    → topic_code log (map at_of parts) part.topic ≡ Some code → lacking log (map at_of parts) (map at_of parts) ≡ Some code
lacking_first log parts i part code lt is pass some =
    lacking_at log (map at_of parts) (map at_of parts) i (at_of part) code (omega (arith, lt, length-map parts at_of)) pass
    (ap (λ (at : TopicPart). topic_code log (map at_of parts) at.topic) (at_place parts i part lt is) ∙ some)

-- the topic at a place lacks nothing
pub pass_more : (log : Log) (parts : List Part) (i : ℕ) (part : Part) → i < length parts → part ≡ get_or parts i part → Pass log (map at_of parts) (take i (map at_of parts))
    → topic_code log (map at_of parts) part.topic ≡ None → Pass log (map at_of parts) (take (i + 1) (map at_of parts))
pass_more log parts i part lt is pass none =
    All-more (λ (x : TopicPart). topic_code log (map at_of parts) x.topic ≡ None) (map at_of parts) i (at_of part) (omega (arith, lt, length-map parts at_of)) pass
    (ap (λ (at : TopicPart). topic_code log (map at_of parts) at.topic) (at_place parts i part lt is) ∙ none)

-- nor does one that stands before it
named_passes : (log : Log) (ats : List TopicPart) (topic : List ℕ) (before : List Part) → Pass log ats (map at_of before) → list_any (λ part. bytes_eq part.topic topic) before ≡ true
    → topic_code log ats topic ≡ None
named_passes log ats topic [] pass any = absurd (cc any)
named_passes log ats topic (p ∷ ps) pass any =
    go (bytes_eq p.topic topic) refl any (named_passes log ats topic ps (All-tail (λ (x : TopicPart). topic_code log ats x.topic ≡ None) (at_of p) (map at_of ps) pass))
  where
    go : (b : Bool) → bytes_eq p.topic topic ≡ b → list_any (λ part. bytes_eq part.topic topic) (p ∷ ps) ≡ true
        → (list_any (λ part. bytes_eq part.topic topic) ps ≡ true → topic_code log ats topic ≡ None) → topic_code log ats topic ≡ None
    go true e any ih =
        ap (topic_code log ats) (sym ((bytes_eq-Decides p.topic topic).0 e)) ∙ All-head (λ (x : TopicPart). topic_code log ats x.topic ≡ None) (at_of p) (map at_of ps) pass
    go false e any ih = ih (rw e at any)

take_map : (n : ℕ) (parts : List Part) → take n (map at_of parts) ≡ map at_of (take n parts)
take_map zero parts = refl
take_map (suc n) [] = refl
take_map (suc n) (p ∷ ps) = ap (λ l. at_of p ∷ l) (take_map n ps)

pub pass_again : (log : Log) (parts : List Part) (i : ℕ) (part : Part) → i < length parts → part ≡ get_or parts i part → Pass log (map at_of parts) (take i (map at_of parts))
    → list_any (λ other. bytes_eq other.topic part.topic) (take i parts) ≡ true → Pass log (map at_of parts) (take (i + 1) (map at_of parts))
pass_again log parts i part lt is pass any =
    pass_more log parts i part lt is pass
    (named_passes log (map at_of parts) part.topic (take i parts) (subst (λ (l : List TopicPart). Pass log (map at_of parts) l) (take_map i parts) pass) any)

-- ---- the answer for a place

-- what the topic at a place lacks is lacking first, where those before it lack nothing
pub fits_next : {T : Type 0} (log : Log) (parts : List Part) (i : ℕ) (part : Part) (result : Result T AssignNo) → i < length parts → part ≡ get_or parts i part
    → Pass log (map at_of parts) (take i (map at_of parts)) → FitsCode (topic_code log (map at_of parts) part.topic) result → FitsNext log (map at_of parts) i result
fits_next log parts i part (Ok x) lt is pass fits = pass_more log parts i part lt is pass fits
fits_next log parts i part (Err NoTopic) lt is pass fits = lacking_first log parts i part 40401 lt is pass fits
fits_next log parts i part (Err NoPartition) lt is pass fits = lacking_first log parts i part 40402 lt is pass fits
fits_next log parts i part (Err (Failed e)) lt is pass fits = tt

-- what was lacking at a later log was lacking before
pub fits_sooner : (T U : Type 0) (a m : Log) (ats : List TopicPart) (i : ℕ) (result : Result T AssignNo) (why : AssignNo) → Keeps a m → result ≡ Err why → FitsNext m ats i result
    → FitsCode {T = U} (lacking a ats ats) (Err why)
fits_sooner T U a m ats i result why keeps is fits = go why (subst (λ (r : Result T AssignNo). FitsNext m ats i r) is fits)
  where
    go : (why : AssignNo) → FitsNext {T = T} m ats i (Err why) → FitsCode {T = U} (lacking a ats ats) (Err why)
    go NoTopic fits = sym (lacking_same a m ats ats keeps) ∙ fits
    go NoPartition fits = sym (lacking_same a m ats ats keeps) ∙ fits
    go (Failed e) fits = tt

-- ---- where nothing is lacking, each listed partition is there

passes : (log : Log) (ats rest : List TopicPart) → lacking log ats rest ≡ None → Pass log ats rest
passes log ats [] none = All-nil (λ (x : TopicPart). topic_code log ats x.topic ≡ None)
passes log ats (at ∷ rest) none = go (topic_code log ats at.topic) refl (λ e. passes log ats rest e)
  where
    go : (o : Option ℕ) → topic_code log ats at.topic ≡ o → (lacking log ats rest ≡ None → Pass log ats rest) → Pass log ats (at ∷ rest)
    go None e ih = All-cons (λ (x : TopicPart). topic_code log ats x.topic ≡ None) at rest e (ih (sym (code_goes_on log ats at rest e) ∙ none))
    go (Some code) e ih = absurd (cc (none, code_ends log ats at rest code e))

none_lacked : (log : Log) (topic : List ℕ) (ats : List TopicPart) → list_any (is_lacked log topic) ats ≡ false → All (λ at. is_lacked log topic at ≡ false) ats
none_lacked log topic [] e = All-nil (λ (at : TopicPart). is_lacked log topic at ≡ false)
none_lacked log topic (at ∷ ats) e = go (is_lacked log topic at) refl e (none_lacked log topic ats)
  where
    go : (b : Bool) → is_lacked log topic at ≡ b → list_any (is_lacked log topic) (at ∷ ats) ≡ false → (list_any (is_lacked log topic) ats ≡ false → All (λ at. is_lacked log topic at ≡ false) ats)
        → All (λ at. is_lacked log topic at ≡ false) (at ∷ ats)
    go true f e ih = absurd (cc (e, any))
      where
        any : list_any (is_lacked log topic) (at ∷ ats) ≡ true
        any = rw f refl
    go false f e ih = All-cons (λ (at : TopicPart). is_lacked log topic at ≡ false) at ats f (ih (rw f at e))

topic_passes : (log : Log) (ats : List TopicPart) (topic : List ℕ) → topic_code log ats topic ≡ None → list_any (is_lacked log topic) ats ≡ false
topic_passes log ats topic none = go (has_topic log topic) refl (list_any (is_lacked log topic) ats) refl none
  where
    go : (b : Bool) → has_topic log topic ≡ b → (c : Bool) → list_any (is_lacked log topic) ats ≡ c → topic_code log ats topic ≡ None → list_any (is_lacked log topic) ats ≡ false
    go true e true f none = absurd (cc (none, coded))
      where
        coded : topic_code log ats topic ≡ Some 40402
        coded = rw (e, f) refl
    go true e false f none = f
    go false e c f none = absurd (cc (none, coded))
      where
        coded : topic_code log ats topic ≡ Some 40401
        coded = rw e refl

pub part_there : (log : Log) (ats : List TopicPart) (at : TopicPart) → lacking log ats ats ≡ None → Contains ats at → HasPart log at
part_there log ats at none (k, lt, here) =
    let passed : topic_code log ats at.topic ≡ None = ap (λ (x : TopicPart). topic_code log ats x.topic) (sym here) ∙ passes log ats ats none k at lt in
    let not_lacked : is_lacked log at.topic at ≡ false = ap (is_lacked log at.topic) (sym here) ∙ none_lacked log at.topic ats (topic_passes log ats at.topic passed) k at lt in
    let named : bytes_eq at.topic at.topic ≡ true = (bytes_eq-Decides at.topic at.topic).1 refl in
    let numbers : is_lacked log at.topic at ≡ not (nat_lt at.partition (length (parts_in log.topics at.topic))) = rw named refl in
    low at.partition (length (parts_in log.topics at.topic)) (sym numbers ∙ not_lacked)
  where
    low : (m n : ℕ) → not (nat_lt m n) ≡ false → m < n
    low m n e = grind (arith, nat_tests)

-- ---- what isn't lacking is no refusal

pub fits_failed : (T : Type 0) (result : Result T AssignNo) (code : Option ℕ) → code ≡ None → IfErr result IsFailed → FitsCode code result
fits_failed T (Ok x) code none failed = none
fits_failed T (Err NoTopic) code none failed = absurd failed
fits_failed T (Err NoPartition) code none failed = absurd failed
fits_failed T (Err (Failed e)) code none failed = tt
