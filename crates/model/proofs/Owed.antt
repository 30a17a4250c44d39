-- What a step owes shows in its entry.
use Rattle.std.proofs.Common.{◌≡◌, ℕ, true, List, [], ◌∷◌, ◌++◌, map, refl, sym, ap, subst, ◌∙◌, Option, Some}
use Rattle.std.specs.Prelude.{ℤ, ◌⊎◌, ◌↔◌, ◌≢◌, Contains, IsTrue}
use Rattle.model.specs.state.Log.{Log, TopicPart}
use Rattle.model.specs.step.Walk.{Place}
use Rattle.model.specs.state.World.{Key, Format, Consumer, World}
use Rattle.model.specs.state.Forms.{Showing}
use Rattle.model.specs.state.Entry.{Call}
use Rattle.model.specs.state.Entry.Act.{Records}
use Rattle.model.specs.state.Entry.Call.{Of}
use Rattle.model.specs.state.Entry.Reply.{Broker, Want}
use Rattle.model.specs.step.Look.{is_listed}
use Rattle.model.specs.step.Step.{left}
use Rattle.model.specs.history.Legal.{Counts}
use Rattle.model.specs.history.Nodes.{Heard}
use Rattle.model.specs.history.Causes.{IsRebalanced, by_code, first_of, first_unpassed, is_commit, is_records, placed_in}
use Rattle.model.specs.history.Noted.{CallsWell, FindsWell, Noted, Stepped}
use Rattle.model.proofs.Pins.{shares_of}

-- what two lists add to the same one is the same
added_is : (xs ys zs : List ℤ) → xs ++ ys ≡ xs ++ zs → ys ≡ zs
added_is [] ys zs is = is
added_is (x ∷ xs) ys zs is = (let rest : xs ++ ys ≡ xs ++ zs = cc is in added_is xs ys zs rest)

pub steps_tell : (idle : ℕ) (advertise : List ℕ) (shown : List (List ℕ) → Format → Option (List ℕ) → Showing) (before after : Counts) (answered codes : List ℤ) (held held2 : ℕ) (last : ℤ) (heard : Heard) (given unfixed : Option (List TopicPart)) (w : World) (a : Log) (noted : Noted) (b : Log) (w2 : World)
    (s : Stepped idle advertise shown before after answered (answered ++ codes) held held2 last heard given unfixed w a noted b w2)
    → is_commit noted.call ≡ true → codes ≢ [] → (let e = s.entry in e.reply ≢ Some Want → e.reply ≡ Some (by_code (first_of codes)))
steps_tell idle advertise shown before after answered codes held held2 last heard given unfixed w a noted b w2 s commits some wants =
    let same : codes ≡ s.codes = added_is answered codes s.codes s.grew in
    let call : noted.call ≡ (let e = s.entry in e.call) = (let x = s.written in ap (λ (n : Noted). n.call) x.same) in
    let caused = s.caused in
    caused.told (sym (ap is_commit call) ∙ commits) wants (λ none. some (same ∙ none)) ∙ ap (λ (cs : List ℤ). Some (by_code (first_of cs))) (sym same)

pub steps_pass : (idle : ℕ) (advertise : List ℕ) (shown : List (List ℕ) → Format → Option (List ℕ) → Showing) (before after : Counts) (answered codes : List ℤ) (held held2 : ℕ) (last : ℤ) (heard : Heard) (given unfixed : Option (List TopicPart)) (w : World) (a : Log) (noted : Noted) (b : Log) (w2 : World) (code : ℤ)
    (s : Stepped idle advertise shown before after answered (answered ++ codes) held held2 last heard given unfixed w a noted b w2)
    → is_records noted.call ≡ true → first_unpassed codes ≡ Some code → (let e = s.entry in e.reply ≢ Some Want → e.reply ≡ Some (Broker code))
steps_pass idle advertise shown before after answered codes held held2 last heard given unfixed w a noted b w2 code s reads first wants =
    let same : codes ≡ s.codes = added_is answered codes s.codes s.grew in
    let call : noted.call ≡ (let e = s.entry in e.call) = (let x = s.written in ap (λ (n : Noted). n.call) x.same) in
    let caused = s.caused in
    caused.passed (sym (ap is_records call) ∙ reads) wants code (ap first_unpassed (sym same) ∙ first)

pub steps_answer : (idle : ℕ) (advertise : List ℕ) (shown : List (List ℕ) → Format → Option (List ℕ) → Showing) (before after : Counts) (answered codes : List ℤ) (held held2 : ℕ) (last : ℤ) (heard : Heard) (given unfixed : Option (List TopicPart)) (w : World) (a : Log) (noted : Noted) (b : Log) (w2 : World) (code : ℤ)
    (s : Stepped idle advertise shown before after answered (answered ++ codes) held held2 last heard given unfixed w a noted b w2)
    → (let e = s.entry in e.reply ≡ Some (Broker code)) → (code ≡ last) ⊎ Contains codes code
steps_answer idle advertise shown before after answered codes held held2 last heard given unfixed w a noted b w2 code s says =
    let same : codes ≡ s.codes = added_is answered codes s.codes s.grew in
    let caused = s.caused in
    subst (λ (cs : List ℤ). (code ≡ last) ⊎ Contains cs code) (sym same) (caused.code code says)

pub steps_share : (idle : ℕ) (advertise : List ℕ) (shown : List (List ℕ) → Format → Option (List ℕ) → Showing) (before after : Counts) (answered answered2 : List ℤ) (held held2 : ℕ) (last : ℤ) (heard : Heard) (given unfixed : Option (List TopicPart)) (w : World) (a : Log) (noted : Noted) (b : Log) (w2 : World)
    (s : Stepped idle advertise shown before after answered answered2 held held2 last heard given unfixed w a noted b w2) (key : Key) (formats : List Format) (timeout bound : Option ℕ) (c : Consumer) (places : List Place)
    → noted.call ≡ Some (Of key (Records formats timeout bound))
    → (let e = s.entry in left e.expired w key ≡ Some c → placed_in e.events ≡ Some places → places ≢ []
    → (ats : List TopicPart) × (given ≡ Some ats) × ((at : TopicPart) → Contains (map (λ (place : Place). place.at) places) at ↔ (Contains ats at × IsTrue (is_listed c.topics at.topic))))
steps_share idle advertise shown before after answered answered2 held held2 last heard given unfixed w a noted b w2 s key formats timeout bound c places asked live placed some =
    let call : (let e = s.entry in e.call) ≡ Some (Of key (Records formats timeout bound)) = (let x = s.written in sym (ap (λ (n : Noted). n.call) x.same) ∙ asked) in
    let e = s.entry in
    let calls = subst (λ (o : Option Call). CallsWell before after given unfixed (left e.expired w) o e.events) call s.looks in
    let looks = subst (λ (o : Option Consumer). FindsWell before after given unfixed o (Records formats timeout bound) e.events) live calls in
    shares_of before after given unfixed c e.events looks places placed some

pub steps_show : (idle : ℕ) (advertise : List ℕ) (shown : List (List ℕ) → Format → Option (List ℕ) → Showing) (before after : Counts) (answered answered2 : List ℤ) (held held2 : ℕ) (last : ℤ) (heard : Heard) (given unfixed : Option (List TopicPart)) (w : World) (a : Log) (noted : Noted) (b : Log) (w2 : World)
    (s : Stepped idle advertise shown before after answered answered2 held held2 last heard given unfixed w a noted b w2) (format : Format) (bytes : Option (List ℕ))
    → (let e = s.entry in let t = e.turn in let f = t.forms in f.shows format bytes ≡ shown noted.table format bytes)
steps_show idle advertise shown before after answered answered2 held held2 last heard given unfixed w a noted b w2 s format bytes = (let x = s.written in x.shows format bytes)
