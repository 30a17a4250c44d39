-- From the metadata of a topic to what an earlier log has of it.
use Rattle.std.proofs.Common.{◌≡◌, ℕ, ◌+◌, ◌<◌, ◌≤◌, Bool, true, false, List, [], ◌∷◌, length, map, refl, ap, sym, subst, ◌∙◌, arith, Some, None}
use Rattle.std.specs.Prelude.{ℤ, ◌≤ℤ◌, pos, negsuc, nat_abs, All, Contains, filter, bytes_eq, slice_get}
use Rattle.std.proofs.lemmas.List.Elements.{All-head, All-tail}
use Rattle.std.proofs.lemmas.Bool.Decides.{Decides-int_eq}
use Rattle.model.specs.state.Log.{Topic, TopicPart, Log, IsLog, Keeps}
use Rattle.model.specs.step.Fixed.{HasPart}
use Rattle.model.specs.step.Step.{HasTopic, TellsParts, numbers, parts_of}
use Rattle.model.specs.state.Entry.{PartTold}
use Rattle.broker_link.specs.Fetching.{named_at}
use Rattle.broker_link.specs.Metadata.{IsInfo, IsMetadata, NumberedFrom}
use Rattle.broker_link.specs.declared.link.PartInfo.{PartInfo}
use Rattle.broker_link.specs.declared.link.TopicInfo.{TopicInfo}
use Rattle.broker_link.proofs.Answered.{parts_counted}
use Rattle.broker_link.proofs.KeptTopics.{had_topic, has_still}
use Rattle.broker_link.proofs.CountLemmas.{counted}
use Rattle.broker_link.specs.Count.{IsCount, count_in}
use Rattle.rest_replies.specs.Found.{told_in}
use Rattle.topic_reads.specs.Finding.{is_numbered, part_of}

-- ---- a topic by its metadata

-- the metadata has none of that name
pub topic_gone : (a m : Log) (name : List ℕ) (infos : List TopicInfo) → IsLog m → Keeps a m → IsMetadata (Some name) m infos → infos ≡ [] → HasTopic a name → ⊥
topic_gone a m name infos is keeps tells none = λ had.
    let lacks : IsCount m name None = subst (λ (told : List TopicInfo). IsCount m name (count_in told)) none (counted m name infos is tells) in
    lacks (has_still a m name keeps had)

numbers_told : (parts : List PartInfo) (k : ℕ) → NumberedFrom k parts → map (λ (p : PartTold). p.number) (map told_in parts) ≡ numbers k (length parts)
numbers_told [] k is = refl
numbers_told (p ∷ ps) k is =
    let here : nat_abs p.number ≡ k = ap nat_abs is.0 in
    let ih = numbers_told ps (k + 1) is.1 in
    rw (here, ih) refl

-- its first one is the topic's
pub topic_there : (a m : Log) (name : List ℕ) (infos : List TopicInfo) (info : TopicInfo) → IsLog m → Keeps a m → IsMetadata (Some name) m infos → slice_get infos 0 ≡ Some info
    → HasTopic a name × NumberedFrom 0 info.parts × (length info.parts ≡ parts_of a name)
topic_there a m name [] info is keeps tells first = absurd (cc first)
topic_there a m name (one ∷ infos) info is keeps tells first =
    let same : one ≡ info = cc first in
    let told = All-head (λ (info : TopicInfo). (t : Topic) × Contains (filter (λ (t : Topic). bytes_eq t.name name) m.topics) t × IsInfo t info) one infos tells.each in
    let both : HasTopic m name × (parts_of m name ≡ length one.parts) = counted m name (one ∷ infos) is tells in
    let count : length one.parts ≡ parts_of a name = sym both.1 ∙ parts_counted a.topics m.topics name keeps.shape in
    (had_topic a m name keeps both.0, subst (λ (i : TopicInfo). NumberedFrom 0 i.parts) same told.2.numbers, subst (λ (i : TopicInfo). length i.parts ≡ parts_of a name) same count)

pub tells_parts : (log : Log) (name : List ℕ) (parts : List PartInfo) → NumberedFrom 0 parts → length parts ≡ parts_of log name → TellsParts log name (map told_in parts)
tells_parts log name parts is count = numbers_told parts 0 is ∙ ap (numbers 0) count

-- ---- a partition by its number

-- it is found behind those with lower numbers
part_found : (parts : List PartInfo) (k n : ℕ) (part : PartInfo) → NumberedFrom k parts → part_of (pos n) parts ≡ Some part → (nat_abs part.number ≡ n) × (n < k + length parts)
part_found [] k n part is some = absurd (cc some)
part_found (p ∷ ps) k n part is some = go (is_numbered (pos n) p) refl some (part_found ps (k + 1) n part is.1)
  where
    go : (b : Bool) → is_numbered (pos n) p ≡ b → part_of (pos n) (p ∷ ps) ≡ Some part → (part_of (pos n) ps ≡ Some part → (nat_abs part.number ≡ n) × (n < k + 1 + length ps))
        → (nat_abs part.number ≡ n) × (n < k + length (p ∷ ps))
    go true e some rest =
        let here : Some p ≡ Some part = rw e at some in
        let same : p ≡ part = cc here in
        let number : p.number ≡ pos n = (Decides-int_eq p.number (pos n)).0 e in
        let low : k ≡ n = cc (sym is.0 ∙ number) in
        (ap (λ (q : PartInfo). nat_abs q.number) (sym same) ∙ ap nat_abs number, omega (arith, low))
    go false e some rest =
        let later : part_of (pos n) ps ≡ Some part = rw e at some in
        let both = rest later in
        (both.0, omega (arith, both.1))

part_missed : (parts : List PartInfo) (k n : ℕ) → NumberedFrom k parts → k ≤ n → part_of (pos n) parts ≡ None → k + length parts ≤ n
part_missed [] k n is low none = omega (arith, low)
part_missed (p ∷ ps) k n is low none = go (is_numbered (pos n) p) refl none (part_missed ps (k + 1) n is.1)
  where
    go : (b : Bool) → is_numbered (pos n) p ≡ b → part_of (pos n) (p ∷ ps) ≡ None → (k + 1 ≤ n → part_of (pos n) ps ≡ None → k + 1 + length ps ≤ n) → k + length (p ∷ ps) ≤ n
    go true e none rest = let here : Some p ≡ None = rw e at none in absurd (cc here)
    go false e none rest =
        let later : part_of (pos n) ps ≡ None = rw e at none in
        let apart : k ≡ n → ⊥ = λ same. (let equal : is_numbered (pos n) p ≡ true = (Decides-int_eq p.number (pos n)).1 (is.0 ∙ ap pos same) in cc (equal, e)) in
        let above : k + 1 ≤ n = omega (arith, low, apart) in
        let all : k + 1 + length ps ≤ n = rest above later in
        omega (arith, all)

pub part_there : (log : Log) (at : TopicPart) (number : ℤ) (parts : List PartInfo) (part : PartInfo) → number ≡ pos at.partition → NumberedFrom 0 parts → length parts ≡ parts_of log at.topic
    → part_of number parts ≡ Some part → HasPart log at × (nat_abs part.number ≡ at.partition)
part_there log at number parts part is numbered count some =
    let both = part_found parts 0 at.partition part numbered (ap (λ (n : ℤ). part_of n parts) (sym is) ∙ some) in
    (omega (arith, both.1, count), both.0)

pub part_gone : (log : Log) (at : TopicPart) (number : ℤ) (parts : List PartInfo) → number ≡ pos at.partition → NumberedFrom 0 parts → length parts ≡ parts_of log at.topic
    → part_of number parts ≡ None → HasPart log at → ⊥
part_gone log at number parts is numbered count none has =
    let all : 0 + length parts ≤ at.partition = part_missed parts 0 at.partition numbered (omega arith) (ap (λ (n : ℤ). part_of n parts) (sym is) ∙ none) in
    omega (arith, all, count, has)

pub named_is : (s t : List ℕ) (m n : ℤ) → s ≡ t → m ≡ n → named_at s m ≡ named_at t n
named_is s t m n e f = rw (e, f) refl

-- a later log has the partition too, by whatever name
pub has_part_still : (a m : Log) (at named : TopicPart) → named ≡ at → Keeps a m → HasPart a at → HasPart m named
has_part_still a m at named is keeps has =
    let here : HasPart m at = omega (arith, parts_counted a.topics m.topics at.topic keeps.shape, has) in
    subst (λ (p : TopicPart). HasPart m p) (sym is) here

-- what holds of each holds of the first, and of the one with a number
pub first_of : {X : Type 0} (P : X → Type 0) (xs : List X) (x : X) → All P xs → slice_get xs 0 ≡ Some x → P x
first_of P [] x all is = absurd (cc is)
first_of P (y ∷ ys) x all is = let same : y ≡ x = cc is in subst P same (All-head P y ys all)

pub numbered_of : (P : PartInfo → Type 0) (parts : List PartInfo) (number : ℤ) (part : PartInfo) → All P parts → part_of number parts ≡ Some part → P part
numbered_of P [] number part all is = absurd (cc is)
numbered_of P (p ∷ ps) number part all is = go (is_numbered number p) refl is (numbered_of P ps number part (All-tail P p ps all))
  where
    go : (b : Bool) → is_numbered number p ≡ b → part_of number (p ∷ ps) ≡ Some part → (part_of number ps ≡ Some part → P part) → P part
    go true e is rest = let here : Some p ≡ Some part = rw e at is in let same : p ≡ part = cc here in subst P same (All-head P p ps all)
    go false e is rest = rest (rw e at is)

pub whole_is : (n : ℤ) → pos 0 ≤ℤ n → n ≡ pos (nat_abs n)
whole_is (pos n) low = refl
whole_is (negsuc n) low = absurd (omega (arith, low))
