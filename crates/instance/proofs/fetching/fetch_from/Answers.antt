use Rattle.std.proofs.Common.{◌≡◌, ◌-◌, ℕ, List, map, length, refl, ap, ◌∙◌, arith, subst, sym}
use Rattle.std.specs.List.{All, AllZip, RotatedLeft}
use Rattle.std.proofs.lemmas.Grind.{common_steps}
use Rattle.std.proofs.lemmas.List.{length-map}
use Rattle.std.proofs.lemmas.Slice.Zip.{AllZip-long}
use Rattle.model.specs.state.Log.{Log}
use Rattle.model.specs.step.Walk.{Place, turned}
use Rattle.model.proofs.Walks.{All-turned}
use Rattle.model.specs.step.Fixed.{HasPart}
use Rattle.broker_link.specs.Fetching.{AreAsks, IsFetched, rows_in}
use Rattle.broker_link.specs.declared.fetch.FetchFrom.{FetchFrom}
use Rattle.broker_link.specs.declared.fetch.Fetched.{Fetched}
use Rattle.instance.specs.Gathering.{AreGiven, asked, GotFrom}
use Rattle.instance.specs.Walk.{HasOffsets}
use Rattle.broker_link.specs.Places.{place_of}
use Rattle.instance.proofs.Gathering.{offsets_of, got_from, have_asked}
use Rattle.instance.proofs.Turning.{turned_asks, asked_turned, given_turned_back, got_turned_back, length_turned}
use Rattle.instance.proofs.fetching.fetch_from.Goals as goal

pub fetch-requires-clause-asks : goal.fetch-requires-clause-asks
fetch-requires-clause-asks g c =
    let asks : List FetchFrom = c.in_ok-asks.asks.items in
    let places : List Place = map place_of c.args.places.now in
    let n : c.in_ok-asks.asks.len ≡ length asks = grind (arith, common_steps) in
    let long : length places ≡ length c.args.places.now = length-map c.args.places.now place_of in
    let turn : RotatedLeft asks c.rotate_left.new.self.items (length asks) c.args.first = subst (λ k. RotatedLeft asks c.rotate_left.new.self.items k c.args.first) n c.rotate_left.ensures.by_index in
    let same : length c.rotate_left.new.self.items ≡ length asks = ap length c.rotate_left.ensures.items ∙ length_turned c.args.first asks in
    subst AreAsks (sym c.as_slice.ensures.value)
    (turned_asks asks c.rotate_left.new.self.items places c.args.first c.in_ok-asks.ensures turn same (omega (arith, c.requires.some, long)) (omega (arith, c.requires.first, long)) c.requires.order)

pub returns-in-Err-clause-good : goal.returns-in-Err-clause-good
returns-in-Err-clause-good g c = λ plain t have.
    let places : List Place = map place_of c.args.places.now in
    let are : map asked c.as_slice.result.now ≡ turned c.args.first places = ap (map asked) (c.as_slice.ensures.value ∙ c.rotate_left.ensures.items) ∙ asked_turned c.in_ok-asks.asks.items places c.args.first c.in_ok-asks.ensures in
    c.in-Err.ensures.plainly plain t (have_asked (g.L.Link.stand c.args.link.now).log c.as_slice.result.now (turned c.args.first places) are (All-turned (λ (p : Place). HasPart (g.L.Link.stand c.args.link.now).log p.at) c.args.first places have))

-- as many came as places were asked from
as_many : (asks asks2 : List FetchFrom) (fetched : List Fetched) (places : List Place) (k : ℕ) → map asked asks ≡ places → asks2 ≡ turned k asks → AllZip IsFetched asks2 fetched → length fetched ≡ length places
as_many asks asks2 fetched places k are is each =
    omega (arith, AllZip-long IsFetched asks2 fetched each, ap length is, length_turned k asks, ap length are, length-map asks asked)

pub turned_back-requires : goal.turned_back-requires
turned_back-requires g c =
    let is = c.as_slice.ensures.value ∙ c.rotate_left.ensures.items in
    let places : List Place = map place_of c.args.places.now in
    let n = as_many c.in_ok-asks.asks.items c.as_slice.result.now c.in-Ok.fetched places c.args.first c.in_ok-asks.ensures is c.in-Ok.ensures.fetched in
    omega (arith, c.requires.first, n, length-map c.args.places.now place_of)

pub returns-clause-same : goal.returns-clause-same
returns-clause-same g c =
    let is = c.as_slice.ensures.value ∙ c.rotate_left.ensures.items in
    let places : List Place = map place_of c.args.places.now in
    let n = as_many c.in_ok-asks.asks.items c.as_slice.result.now c.in-Ok.fetched places c.args.first c.in_ok-asks.ensures is c.in-Ok.ensures.fetched in
    ap length c.in_ok-turned_back.ensures ∙ (length_turned (length c.in-Ok.fetched - c.args.first) c.in-Ok.fetched ∙ (n ∙ length-map c.args.places.now place_of))

pub returns-clause-offsets : goal.returns-clause-offsets
returns-clause-offsets g c =
    subst (All HasOffsets) (sym c.in_ok-turned_back.ensures)
    (All-turned HasOffsets (length c.in-Ok.fetched - c.args.first) c.in-Ok.fetched (offsets_of c.as_slice.result.now c.in-Ok.fetched c.in-Ok.ensures.fetched))

pub returns-clause-got : goal.returns-clause-got
returns-clause-got g c = λ t.
    let log : Log = (g.L.Link.stand c.fetch.new.self).log in
    let is = c.as_slice.ensures.value ∙ c.rotate_left.ensures.items in
    let places : List Place = map place_of c.args.places.now in
    let fetched : List Fetched = c.in-Ok.fetched in
    let n = as_many c.in_ok-asks.asks.items c.as_slice.result.now fetched places c.args.first c.in_ok-asks.ensures is c.in-Ok.ensures.fetched in
    let are : map asked c.as_slice.result.now ≡ turned c.args.first places = ap (map asked) is ∙ asked_turned c.in_ok-asks.asks.items places c.args.first c.in_ok-asks.ensures in
    let got = got_from log c.as_slice.result.now fetched (turned c.args.first places) are (c.in-Ok.ensures.got t) in
    subst (GotFrom log places) (sym c.in_ok-turned_back.ensures)
    (got_turned_back log places c.args.first (length fetched - c.args.first) fetched got (ap (λ m. m - c.args.first) n))

pub returns-clause-given : goal.returns-clause-given
returns-clause-given g c = λ turn t.
    let log : Log = (g.L.Link.stand c.fetch.new.self).log in
    let is = c.as_slice.ensures.value ∙ c.rotate_left.ensures.items in
    let places : List Place = map place_of c.args.places.now in
    let fetched : List Fetched = c.in-Ok.fetched in
    let n = as_many c.in_ok-asks.asks.items c.as_slice.result.now fetched places c.args.first c.in_ok-asks.ensures is c.in-Ok.ensures.fetched in
    let are : map asked c.as_slice.result.now ≡ turned c.args.first places = ap (map asked) is ∙ asked_turned c.in_ok-asks.asks.items places c.args.first c.in_ok-asks.ensures in
    subst (λ (fs : List Fetched). AreGiven c.args.most c.args.first log places (map rows_in fs)) (sym c.in_ok-turned_back.ensures)
    (given_turned_back c.args.most log c.as_slice.result.now fetched places c.args.first (length fetched - c.args.first) are (c.in-Ok.ensures.turn turn t)
    (omega (arith, c.requires.first, n, length-map c.args.places.now place_of)) refl)
