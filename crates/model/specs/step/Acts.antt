-- What each call does to a consumer and answers: Confluent REST Proxy API v2, consumers.
use Rattle.std.specs.Prelude.{ℕ, ◌≡◌, ◌⊎◌, ◌≢◌, true, false, cond, List, [], map, Option, Some, None}
use Rattle.model.specs.state.Log.{Log}
use Rattle.model.specs.step.Walk.{Place}
use Rattle.model.specs.state.World.{Key, Consumer, once_parts, fresh, touched}
use Rattle.model.specs.state.World.Mode.{Unset, ByTopics, Assigned}
use Rattle.model.specs.state.Entry.{Act, Event, Reply, Turn}
use Rattle.model.specs.state.Entry.Act.{Create, Delete, Subscribe, Subscription, Unsubscribe, Assign, Assignments, Seek, SeekEdge, Commit, Fixed, Records}
use Rattle.model.specs.state.Entry.Reply.{Done, Made, Listed, Names, Offsets}
use Rattle.model.specs.step.Fixed.{Edges, CommitsSome, SameCommits}
use Rattle.model.specs.step.Look.{Looks, is_due}
use Rattle.model.specs.step.Ends.{IsRefused, IsDone, in_mode, at_positions, is_by_topics, is_in_force, IsWanting, EndsAlone, EndsIf}
use Rattle.model.specs.step.Rules.{lacking, IsLacking, IsAssigned, IsSubscribed, AllAssigned, sent_of, IsCommitted, offsets_of}

-- What a call does to the consumer under its key, where one is live. `events` are those of the call.
abbrev pub Live : Key → ℕ → Turn → Act → Consumer → Log → List Event → Option Reply → Log → Option Consumer → Type 0
Live key moment turn (Create settings) c a events reply b c2 =
    (events ≡ []) × SameCommits a b × EndsAlone moment c reply c2 (IsRefused 40902 reply (Some (touched moment c)) c2)
Live key moment turn Delete c a events reply b c2 =
    (events ≡ []) × (((is_due c 0 ≡ false) × SameCommits a b) ⊎ ((is_due c 0 ≡ true) × CommitsSome key.group c.assignment a b)) × EndsAlone moment c reply c2 (IsDone Done reply None c2)
Live key moment turn (Subscribe names) c a events reply b c2 =
    (events ≡ []) × SameCommits a b × EndsAlone moment c reply c2
    (((c.mode ≡ Assigned) × IsRefused 40903 reply (Some (touched moment c)) c2)
    ⊎ ((((is_in_force c names ≡ true) × IsDone Done reply (Some (touched moment c)) c2)
    ⊎ ((c.mode ≢ Assigned) × (names ≡ []) × (is_in_force c names ≡ false) × IsDone Done reply (Some (in_mode Unset [] [] moment c)) c2))
    ⊎ IsSubscribed moment names c reply c2))
Live key moment turn Subscription c a events reply b c2 =
    (events ≡ []) × SameCommits a b × EndsAlone moment c reply c2 (IsDone (Names (cond (is_by_topics c.mode) c.topics [])) reply (Some (touched moment c)) c2)
Live key moment turn Unsubscribe c a events reply b c2 =
    (events ≡ []) × SameCommits a b × EndsAlone moment c reply c2 (IsDone Done reply (Some (in_mode Unset [] [] moment c)) c2)
Live key moment turn (Assign ats) c a events reply b c2 =
    (events ≡ []) × SameCommits a b
    × (((c.mode ≡ ByTopics) × EndsAlone moment c reply c2 (IsRefused 40903 reply (Some (touched moment c)) c2))
    ⊎ ((c.mode ≢ ByTopics) × EndsIf ats moment c reply c2 (IsLacking moment ats c a reply c2 ⊎ IsAssigned key moment ats c a reply b c2)))
Live key moment turn Assignments c a events reply b c2 =
    (events ≡ []) × SameCommits a b × EndsAlone moment c reply c2 (IsDone (Listed (map (λ place. place.at) c.assignment)) reply (Some (touched moment c)) c2)
Live key moment turn (Seek news) c a events reply b c2 =
    (events ≡ []) × SameCommits a b × EndsAlone moment c reply c2
    (((AllAssigned (map (λ place. place.at) news) c → ⊥) × IsRefused 40990 reply (Some (touched moment c)) c2)
    ⊎ (AllAssigned (map (λ place. place.at) news) c × IsDone Done reply (Some (at_positions news moment c)) c2))
Live key moment turn (SeekEdge edge ats) c a events reply b c2 =
    (events ≡ []) × SameCommits a b
    × (((AllAssigned ats c → ⊥) × EndsAlone moment c reply c2 (IsRefused 40990 reply (Some (touched moment c)) c2))
    ⊎ (AllAssigned ats c × EndsIf ats moment c reply c2 ((news : List Place) × Edges edge a ats news b × IsDone Done reply (Some (at_positions news moment c)) c2)))
Live key moment turn (Commit rows) c a events reply b c2 =
    IsCommitted key moment rows c a events reply b c2
    ⊎ ((events ≡ []) × CommitsSome key.group (sent_of rows c) a b × EndsIf (sent_of rows c) moment c reply c2 ⊥)
Live key moment turn (Fixed ats) c a events reply b c2 =
    (events ≡ []) × SameCommits a b × EndsIf ats moment c reply c2
    (IsLacking moment ats c a reply c2 ⊎ ((lacking a ats ats ≡ None) × IsDone (Offsets (offsets_of (a.committed key.group) (once_parts [] ats))) reply (Some (touched moment c)) c2))
Live key moment turn (Records formats timeout bound) c a events reply b c2 = Looks key moment turn formats timeout bound c a events reply b c2

-- the same where none is live
abbrev pub Gone : ℕ → Act → Log → List Event → Option Reply → Log → Option Consumer → Type 0
Gone moment (Create settings) a events reply b c2 = (events ≡ []) × SameCommits a b × (IsDone Made reply (Some (fresh settings moment)) c2 ⊎ IsWanting reply None c2)
Gone moment act a events reply b c2 = (events ≡ []) × SameCommits a b × (IsRefused 40403 reply None c2 ⊎ IsWanting reply None c2)

-- what a call does to the consumer that it finds, or finds none
abbrev pub Acts : Key → ℕ → Turn → Act → Option Consumer → Log → List Event → Option Reply → Log → Option Consumer → Type 0
Acts key moment turn act None a events reply b c2 = Gone moment act a events reply b c2
Acts key moment turn act (Some c) a events reply b c2 = Live key moment turn act c a events reply b c2
