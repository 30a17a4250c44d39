-- The example histories of reading are legal, step by step.
use Rattle.std.proofs.Common.{◌≡◌, ℕ, zero, suc, ◌+◌, ◌<◌, ◌≤◌, ◌&&◌, Bool, true, false, cond, List, [], ◌∷◌, ◌++◌, length, slice_index_or, refl, ap, sym, subst, ◌∙◌, inl, inr, arith, Option, Some, None}
use Rattle.std.specs.Prelude.{pos, bytes_eq, ◌^◌, codes, Contains}
use Rattle.std.specs.List.{All}
use Rattle.std.proofs.lemmas.List.Elements.{All-head, All-nil}
use Rattle.std.proofs.lemmas.List.{append-nil}
use mathlib.Core.List.{IsPrefix}
use Rattle.model.specs.state.Log.{TopicPart, is_at, Row, Log, IsPart, IsLog, Keeps, KeepsPart, part_at, from}
use Rattle.model.specs.step.Walk.{Place, Lot, Walked, Item, unwalked, walk}
use Rattle.model.specs.state.World.{touched, Key, is_key, Edge, Consumer, IsInOrder, IsLow, IsConsumer, fresh, nobody, World}
use Rattle.model.specs.state.World.Format.{Binary}
use Rattle.model.specs.state.World.Edge.{Start, End}
use Rattle.model.specs.state.Entry.{Act, Event, Reply, Entry}
use Rattle.model.specs.state.Entry.Act.{Assign, Seek, SeekEdge, Records}
use Rattle.model.specs.state.Entry.Event.{Committed, Reset, Looked}
use Rattle.model.specs.state.Entry.Reply.{Done, Shown}
use Rattle.model.specs.step.Fixed.{Commits, SameCommits, IsOutside, edge_of}
use Rattle.model.specs.step.Look.{AtHand, HasNone, at_most, reads_in, IsReady, IsWalked, moved, Looks}
use Rattle.model.specs.state.Forms.{reason_of}
use Rattle.model.specs.step.Produced.{has_room, Places}
use Rattle.model.specs.state.Entry.Placed.{Stored}
use Rattle.model.specs.state.Entry.Reply.{Answers, Refused}
use Rattle.model.specs.step.Step.{IsIdle, IsExpired, Acts, AllAssigned, IsProduced, Step}
use Rattle.model.specs.history.Legal.{Counts, Legal, Run, no_tally}
use Rattle.model.specs.examples.Readings.{orders, kafka_at, three, four, reader, other_orders, given, log_of, settings_of, place_at, reader_at, only, turn, entry, three_produced, one_produced, made, read, items_of, read_by_one, read_after_seek, read_from_the_start, read_from_the_end}
use Rattle.model.proofs.Stretches.{keeps_itself}

-- rows whose offsets are 0, 1 and so on
abbrev pub IsFull : List Row → Type 0
IsFull rows = IsPart (record { start = 0; end = length rows; rows = rows })

pub empty_part : IsPart (record { start = 0; end = 0; rows = [] })
empty_part = record { whole = omega arith; rises = tt; ends = λ k d lt. absurd (omega arith) }

-- each partition of the log is the one with the rows, or one without
pub is_log : (rows : List Row) (saved : Option ℕ) → IsFull rows → IsLog (log_of rows saved)
is_log rows saved full = record { names = λ i j d lt lt'. absurd (omega arith); part = λ at. part at (bytes_eq (codes "orders") at.topic) refl at.partition refl }
  where
    part : (at : TopicPart) (b : Bool) → bytes_eq (codes "orders") at.topic ≡ b → (n : ℕ) → at.partition ≡ n → IsPart (part_at (log_of rows saved) at)
    part at true e zero f = rw (e, f) full
    part at true e (suc zero) f = rw (e, f) empty_part
    part at true e (suc (suc n)) f = rw (e, f) empty_part
    part at false e n f = rw e empty_part

pub empty_is_full : IsFull []
empty_is_full = empty_part

-- the log before anything is stored
abbrev pub empty_log : Log
empty_log = log_of [] None

pub log_is_empty : IsLog empty_log
log_is_empty = is_log [] None empty_is_full

pub three_are_full : IsFull three
three_are_full = record { whole = omega arith; rises = (omega arith, (omega arith, (omega arith, tt))); ends = λ k d lt. ends k d lt }
  where
    ends : (k : ℕ) (d : Row) → k < 3 → (slice_index_or three k d).offset < 3
    ends zero d lt = omega arith
    ends (suc zero) d lt = omega arith
    ends (suc (suc zero)) d lt = omega arith
    ends (suc (suc (suc k))) d lt = absurd (omega arith)

four_are_full : IsFull four
four_are_full = record { whole = omega arith; rises = (omega arith, (omega arith, (omega arith, (omega arith, tt)))); ends = λ k d lt. ends k d lt }
  where
    ends : (k : ℕ) (d : Row) → k < 4 → (slice_index_or four k d).offset < 4
    ends zero d lt = omega arith
    ends (suc zero) d lt = omega arith
    ends (suc (suc zero)) d lt = omega arith
    ends (suc (suc (suc zero))) d lt = omega arith
    ends (suc (suc (suc (suc k)))) d lt = absurd (omega arith)

-- what was committed doesn't matter to the rows
keeps_rows : (rows : List Row) (saved saved2 : Option ℕ) → Keeps (log_of rows saved) (log_of rows saved2)
keeps_rows rows saved saved2 = let k = keeps_itself (log_of rows saved) in record { shape = refl; part = k.part; others = omega arith }

same_commits : (rows rows2 : List Row) (saved : Option ℕ) → SameCommits (log_of rows saved) (log_of rows2 saved)
same_commits rows rows2 saved other at = refl

-- the position is committed
commits_place : (rows : List Row) (saved : Option ℕ) (p : ℕ) → Commits reader.group (place_at p ∷ []) (log_of rows saved) (log_of rows (Some p))
commits_place rows saved p other at = go (bytes_eq reader.group other && is_at orders at)
  where
    go : (b : Bool) → cond b (Some p) None ≡ cond b (Some p) (cond b saved None)
    go true = refl
    go false = refl

pub in_order : (p : ℕ) → IsInOrder (place_at p ∷ [])
in_order p i j d lt lt' = absurd (omega arith)

pub is_reader : (reset : Edge) (p : ℕ) (unsaved : Bool) → p < 2 ^ 63 → IsConsumer (reader_at reset p unsaved)
is_reader reset p unsaved small = record { order = in_order p; low = low; names = λ i j d lt lt'. absurd (omega arith) }
  where
    low : IsLow (place_at p ∷ [])
    low zero d lt = small
    low (suc k) d lt = absurd (omega arith)

pub is_fresh : (reset : Edge) → IsConsumer (fresh (settings_of reset) 0)
is_fresh reset = record { order = λ i j d lt lt'. absurd (omega arith); low = λ k d lt. absurd (omega arith); names = λ i j d lt lt'. absurd (omega arith) }

pub only_one : (c : Consumer) → IsConsumer c → (key : Key) (d : Consumer) → cond (is_key key reader) (Some c) None ≡ Some d → IsConsumer d
only_one c well key d is = go (is_key key reader) refl
  where
    go : (b : Bool) → is_key key reader ≡ b → IsConsumer d
    go true e = let same : c ≡ d = cc (rw e at is) in subst IsConsumer same well
    go false e = absurd (cc (rw e at is))

pub none_idle : (c : Consumer) (key : Key) → IsIdle 300000 0 (cond (is_key key reader) (Some c) None) → false ≡ true
none_idle c key idle = go (is_key key reader) refl
  where
    go : (b : Bool) → is_key key reader ≡ b → false ≡ true
    go true e = let le : c.last_use + 300000 ≤ 0 = rw e at idle in absurd (omega arith)
    go false e = absurd (rw e at idle)

-- nobody is gone at moment 0
pub none_expired : (c : Consumer) → IsExpired 300000 0 (only c) []
none_expired c = record { rise = λ i j d lt lt'. absurd (omega arith); each = λ key. (λ h. absurd (cc h), none_idle c key) }

-- a step of the consumer's own call
pub own_step : (act : Act) (events : List Event) (reply : Reply) (rows : List Row) (saved saved2 : Option ℕ) (c d : Consumer) → IsFull rows → IsConsumer d
    → Acts reader 0 turn act (Some c) (log_of rows saved) events (Some reply) (log_of rows saved2) (Some d)
    → Step 300000 (only c) (log_of rows saved) (entry act events reply) (log_of rows saved2) (only d)
own_step act events reply rows saved saved2 c d full well acts = record {
  keeps = keeps_rows rows saved saved2;
  log = is_log rows saved2 full;
  world = only_one d well;
  forms = record { null = λ format. refl; base64 = λ bytes. codes "\"S2Fma2E=\""; binary = λ bytes. refl };
  later = omega arith;
  last = refl;
  does = inl (record { expired = none_expired c; does = (acts, refl, λ other e. rw e refl) });
}

-- what is at hand: all rows from the position on
abbrev pub lot_at : List Row → ℕ → Lot
lot_at rows p = record { place = place_at p; rows = from (log_of rows None) orders p }

abbrev walk_at : List Row → ℕ → Option ℕ → Walked
walk_at rows p bound = walk (record { bound = at_most 4194304 bound; reads = reads_in (reason_of turn.forms) Binary }) unwalked (lot_at rows p ∷ [])

pub at_hand : (rows : List Row) (saved saved2 : Option ℕ) (p : ℕ) → IsFull rows → p ≤ length rows → AtHand (log_of rows saved) (log_of rows saved2) (place_at p ∷ []) (lot_at rows p ∷ []) (0 < length (Looked 0 ∷ []))
at_hand rows saved saved2 p full here = record { whose = refl; first = first; none = none }
  where
    first : All (λ (lot : Lot). IsPrefix lot.rows (from (log_of rows saved2) lot.place.at lot.place.position)) (lot_at rows p ∷ [])
    first zero d lt = ([], append-nil (from (log_of rows None) orders p))
    first (suc k) d lt = absurd (omega arith)

    none : All (λ (lot : Lot). lot.rows ≡ []) (lot_at rows p ∷ []) → HasNone (log_of rows saved) (log_of rows saved2) (place_at p ∷ []) (0 < length (Looked 0 ∷ []))
    none h = record {
      log = log_of rows saved;
      since = (is_log rows saved full, keeps_itself (log_of rows saved));
      kept = keeps_rows rows saved saved2;
      none = nothing;
      range = λ looked. range;
    }
      where
        nothing : All (λ (place : Place). from (log_of rows saved) place.at place.position ≡ []) (place_at p ∷ [])
        nothing zero d lt = All-head (λ (lot : Lot). lot.rows ≡ []) (lot_at rows p) [] h
        nothing (suc k) d lt = absurd (omega arith)

        range : All (λ (place : Place). ((part_at (log_of rows saved) place.at).start ≤ place.position) × (place.position ≤ (part_at (log_of rows saved) place.at).end)) (place_at p ∷ [])
        range zero d lt = (omega arith, here)
        range (suc k) d lt = absurd (omega arith)

-- the walk over them shows these rows
walks : (reset : Edge) (rows : List Row) (saved saved2 : Option ℕ) (bound : Option ℕ) (p : ℕ) (shown : List Row) (c2 : Consumer) → IsFull rows → p ≤ length rows
    → (let w = walk_at rows p bound in w.taken ≡ items_of shown) → IsReady 1 true (walk_at rows p bound) → touched 0 (moved (items_of shown) (reader_at reset p false)) ≡ c2
    → IsWalked 0 turn (at_most 1000 (Some 0)) (at_most 4194304 bound) (log_of rows saved) (log_of rows saved2) (reader_at reset p false) (Looked 0 ∷ []) (Some (Shown Binary (items_of shown))) (Some c2)
walks reset rows saved saved2 bound p shown c2 full here is ready left = record {
  lots = lot_at rows p ∷ [];
  hand = at_hand rows saved saved2 p full here;
  walked = walk_at rows p bound;
  walk = refl;
  ends = inr (inl (record {
    last = true;
    lasts = (λ e. omega arith, λ h. refl);
    ready = ready;
    marks = refl;
    says = ap (λ items. Some (Shown Binary items)) (sym is);
    left = ap Some (sym left) ∙ ap (λ items. Some (touched 0 (moved items (reader_at reset p false)))) (sym is);
  }));
}

-- a look with nothing to save
looks : (reset : Edge) (rows : List Row) (saved : Option ℕ) (bound : Option ℕ) (p : ℕ) (shown : List Row) (c2 : Consumer) → IsFull rows → p ≤ length rows
    → (let w = walk_at rows p bound in w.taken ≡ items_of shown) → IsReady 1 true (walk_at rows p bound) → touched 0 (moved (items_of shown) (reader_at reset p false)) ≡ c2
    → Looks reader 0 turn [] (Some 0) bound (reader_at reset p false) (log_of rows saved) (Looked 0 ∷ []) (Some (Shown Binary (items_of shown))) (log_of rows saved) (Some c2)
looks reset rows saved bound p shown c2 full here is ready left = inr (
  refl,
  record {
    saved = None;
    placed = None;
    resets = [];
    looked = Looked 0 ∷ [];
    order = refl;
    code = λ place. pos 0;
    saves = inl (refl, λ other at. refl);
    answered = λ k e some. absurd (cc some);
    due = λ due none. absurd (cc due);
    middle = log_of rows saved;
    log = is_log rows saved full;
    places = keeps_itself (log_of rows saved);
    set = keeps_itself (log_of rows saved);
    ends = inr (walks reset rows saved saved bound p shown c2 full here is ready left);
  },
)

-- a look that commits the position first
looks_due : (reset : Edge) (rows : List Row) (saved : Option ℕ) (bound : Option ℕ) (p : ℕ) (shown : List Row) (c2 : Consumer) → IsFull rows → p ≤ length rows
    → (let w = walk_at rows p bound in w.taken ≡ items_of shown) → IsReady 1 true (walk_at rows p bound) → touched 0 (moved (items_of shown) (reader_at reset p false)) ≡ c2
    → Looks reader 0 turn [] (Some 0) bound (reader_at reset p true) (log_of rows saved) (Committed (place_at p ∷ []) ∷ Looked 0 ∷ []) (Some (Shown Binary (items_of shown))) (log_of rows (Some p)) (Some c2)
looks_due reset rows saved bound p shown c2 full here is ready left = inr (
  refl,
  record {
    saved = Some (place_at p ∷ []);
    placed = None;
    resets = [];
    looked = Looked 0 ∷ [];
    order = refl;
    code = λ place. pos 0;
    saves = (refl, inl (commits_place rows saved p, refl));
    answered = λ k e some. absurd (cc e);
    due = λ due none. absurd (cc none);
    middle = log_of rows (Some p);
    log = is_log rows (Some p) full;
    places = keeps_rows rows saved (Some p);
    set = keeps_itself (log_of rows (Some p));
    ends = inr (walks reset rows saved (Some p) bound p shown c2 full here is ready left);
  },
)

-- a look that sets a position back which is above the end
looks_back : (reset : Edge) (rows : List Row) (saved : Option ℕ) (bound : Option ℕ) (old p : ℕ) (shown : List Row) (c2 : Consumer) → IsFull rows → p ≤ length rows → length rows < old → p ≡ edge_of reset (log_of rows saved) orders
    → (let w = walk_at rows p bound in w.taken ≡ items_of shown) → IsReady 1 true (walk_at rows p bound) → touched 0 (moved (items_of shown) (reader_at reset p false)) ≡ c2
    → Looks reader 0 turn [] (Some 0) bound (reader_at reset old false) (log_of rows saved) (Reset (place_at p) ∷ Looked 0 ∷ []) (Some (Shown Binary (items_of shown))) (log_of rows saved) (Some c2)
looks_back reset rows saved bound old p shown c2 full here above edge is ready left = inr (
  refl,
  record {
    saved = None;
    placed = None;
    resets = place_at p ∷ [];
    looked = Looked 0 ∷ [];
    order = refl;
    code = λ place. pos 0;
    saves = inl (refl, λ other at. refl);
    answered = λ k e some. absurd (cc some);
    due = λ due none. absurd (cc due);
    middle = log_of rows saved;
    log = is_log rows saved full;
    places = keeps_itself (log_of rows saved);
    set = record {
      seen = log_of rows saved;
      since = (is_log rows saved full, keeps_itself (log_of rows saved));
      once = λ i j d lt lt'. absurd (omega arith);
      outside = outside;
      told = (log_of rows saved, (is_log rows saved full, keeps_itself (log_of rows saved)), omega arith, refl, edge, keeps_itself (log_of rows saved));
    };
    ends = inr (walks reset rows saved saved bound p shown c2 full here is ready left);
  },
)
  where
    outside : All (IsOutside (log_of rows saved) (place_at old ∷ [])) (place_at p ∷ [])
    outside zero d lt = record { old = old; was = refl; outside = inr above }
    outside (suc k) d lt = absurd (omega arith)

-- the consumer is made
pub makes : (reset : Edge) (rows : List Row) → IsFull rows → Step 300000 nobody (log_of rows None) (made reset) (log_of rows None) (only (fresh (settings_of reset) 0))
makes reset rows full = record {
  keeps = keeps_itself (log_of rows None);
  log = is_log rows None full;
  world = only_one (fresh (settings_of reset) 0) (is_fresh reset);
  forms = record { null = λ format. refl; base64 = λ bytes. codes "\"S2Fma2E=\""; binary = λ bytes. refl };
  later = omega arith;
  last = refl;
  does = inl (record {
    expired = record { rise = λ i j d lt lt'. absurd (omega arith); each = λ key. (λ h. absurd (cc h), λ idle. absurd idle) };
    does = ((refl, λ other at. refl, inl (record { says = refl; left = refl })), refl, λ other e. rw e refl);
  });
}

-- the first partition is assigned, from the edge by the reset setting
pub assigns : (reset : Edge) (rows : List Row) (p : ℕ) → IsFull rows → p ≡ edge_of reset (log_of rows None) orders
    → Acts reader 0 turn (Assign (orders ∷ [])) (Some (fresh (settings_of reset) 0)) (log_of rows None) [] (Some Done) (log_of rows None) (Some (reader_at reset p false))
assigns reset rows p full edge = (
  refl,
  λ other at. refl,
  inr (
    λ e. absurd (cc e),
    inl (inr (record {
      mode = λ e. absurd (cc e);
      have = refl;
      places = place_at p ∷ [];
      set = record { same = λ at. (λ h. h, λ h. h); order = in_order p };
      fixes = (log_of rows None, (is_log rows None full, keeps_itself (log_of rows None)), refl, inr (refl, λ none. omega arith, edge), keeps_itself (log_of rows None));
      says = refl;
      left = refl;
    })),
  ),
)

-- a seek of the assigned partition
seeks : (reset : Edge) (rows : List Row) (saved : Option ℕ) (p q : ℕ) (due : Bool)
    → Acts reader 0 turn (Seek (place_at q ∷ [])) (Some (reader_at reset p due)) (log_of rows saved) [] (Some Done) (log_of rows saved) (Some (reader_at reset q due))
seeks reset rows saved p q due = (refl, λ other at. refl, inl (inr (assigned_there, record { says = refl; left = refl })))
  where
    assigned_there : AllAssigned (orders ∷ []) (reader_at reset p due)
    assigned_there zero d lt = refl
    assigned_there (suc k) d lt = absurd (omega arith)

-- a seek of the other one is refused
seeks_other : (reset : Edge) (rows : List Row) (saved : Option ℕ) (p q : ℕ) (due : Bool)
    → Acts reader 0 turn (Seek (record { at = other_orders; position = q } ∷ [])) (Some (reader_at reset p due)) (log_of rows saved) [] (Some (Refused 40990)) (log_of rows saved) (Some (reader_at reset p due))
seeks_other reset rows saved p q due = (refl, λ other at. refl, inl (inl (λ all. absurd (cc (all 0 other_orders (omega arith))), record { says = refl; left = refl })))

-- a seek to an edge
seeks_edge : (reset edge : Edge) (rows : List Row) (saved : Option ℕ) (p q : ℕ) (due : Bool) → IsFull rows → q ≡ edge_of edge (log_of rows saved) orders
    → Acts reader 0 turn (SeekEdge edge (orders ∷ [])) (Some (reader_at reset p due)) (log_of rows saved) [] (Some Done) (log_of rows saved) (Some (reader_at reset q due))
seeks_edge reset edge rows saved p q due full is = (
  refl,
  λ other at. refl,
  inr (
    assigned_there,
    inl (
      place_at q ∷ [],
      (log_of rows saved, (is_log rows saved full, keeps_itself (log_of rows saved)), omega arith, refl, is, keeps_itself (log_of rows saved)),
      record { says = refl; left = refl },
    ),
  ),
)
  where
    assigned_there : AllAssigned (orders ∷ []) (reader_at reset p due)
    assigned_there zero d lt = refl
    assigned_there (suc k) d lt = absurd (omega arith)

-- rows are added behind the others
grows : (rows more : List Row) (saved : Option ℕ) → length rows ≤ length (rows ++ more) → All (λ (row : Row). length rows ≤ row.offset) more → Keeps (log_of rows saved) (log_of (rows ++ more) saved)
grows rows more saved up above = record { shape = refl; part = λ at. part at (bytes_eq (codes "orders") at.topic) refl at.partition refl; others = omega arith }
  where
    full : KeepsPart (record { start = 0; end = length rows; rows = rows }) (record { start = 0; end = length (rows ++ more); rows = rows ++ more })
    full = record { start = refl; end = up; added = more; rows = refl; above = above }

    empty : KeepsPart (record { start = 0; end = 0; rows = [] }) (record { start = 0; end = 0; rows = [] })
    empty = record { start = refl; end = omega arith; added = []; rows = refl; above = All-nil (λ (row : Row). 0 ≤ row.offset) }

    part : (at : TopicPart) (b : Bool) → bytes_eq (codes "orders") at.topic ≡ b → (n : ℕ) → at.partition ≡ n → KeepsPart (part_at (log_of rows saved) at) (part_at (log_of (rows ++ more) saved) at)
    part at true e zero f = rw (e, f) full
    part at true e (suc zero) f = rw (e, f) empty
    part at true e (suc (suc n)) f = rw (e, f) empty
    part at false e n f = rw e empty

three_above : All (λ (row : Row). 0 ≤ row.offset) three
three_above k d lt = omega arith

four_above : All (λ (row : Row). 3 ≤ row.offset) (kafka_at 3 ∷ [])
four_above zero d lt = omega arith
four_above (suc k) d lt = absurd (omega arith)

-- the items of a produce of these many
abbrev three_items : List Item
three_items = items_of three

three_placed : Places (log_of [] None) (log_of three None) (λ partition. pos 0) three_items
three_placed = record { stand = stand; behind = behind; added = refl }
  where
    behind : All (λ (item : Item). true ≡ true → (part_at (log_of [] None) item.at).end ≤ item.row.offset) three_items
    behind zero d lt code = omega arith
    behind (suc zero) d lt code = omega arith
    behind (suc (suc zero)) d lt code = omega arith
    behind (suc (suc (suc k))) d lt code = absurd (omega arith)

    stand : All (λ (item : Item). true ≡ true → Contains (part_at (log_of three None) item.at).rows item.row) three_items
    stand zero d lt code = (0, omega arith, refl)
    stand (suc zero) d lt code = (1, omega arith, refl)
    stand (suc (suc zero)) d lt code = (2, omega arith, refl)
    stand (suc (suc (suc k))) d lt code = absurd (omega arith)

three_produced_well : IsProduced (log_of [] None) (log_of three None) (codes "orders") (record { key_id = None; value_id = None; records = given ∷ given ∷ given ∷ [] }) (Some (Answers (Stored 0 0 ∷ Stored 0 1 ∷ Stored 0 2 ∷ [])))
three_produced_well = record {
  have = refl;
  room = room;
  answers = Stored 0 0 ∷ Stored 0 1 ∷ Stored 0 2 ∷ [];
  answered = record { base = λ partition. 0; code = λ partition. pos 0; places = three_placed; told = refl };
  says = refl;
}
  where
    room : All (has_room 2) (given ∷ given ∷ given ∷ [])
    room zero d lt = omega arith
    room (suc zero) d lt = omega arith
    room (suc (suc zero)) d lt = omega arith
    room (suc (suc (suc k))) d lt = absurd (omega arith)

produces_three : Step 300000 nobody (log_of [] None) three_produced (log_of three None) nobody
produces_three = record {
  keeps = grows [] three None (omega arith) three_above;
  log = is_log three None three_are_full;
  world = λ key c is. absurd (cc is);
  forms = record { null = λ format. refl; base64 = λ bytes. codes "\"S2Fma2E=\""; binary = λ bytes. refl };
  later = omega arith;
  last = refl;
  does = inl (record {
    expired = record { rise = λ i j d lt lt'. absurd (omega arith); each = λ key. (λ h. absurd (cc h), λ idle. absurd idle) };
    does = (refl, inl three_produced_well, λ other at. refl, λ key. refl);
  });
}

fourth_placed : (saved : Option ℕ) → Places (log_of three saved) (log_of four saved) (λ partition. pos 0) (items_of (kafka_at 3 ∷ []))
fourth_placed saved = record { stand = stand; behind = behind; added = refl }
  where
    stand : All (λ (item : Item). true ≡ true → Contains (part_at (log_of four saved) item.at).rows item.row) (items_of (kafka_at 3 ∷ []))
    stand zero d lt code = (3, omega arith, refl)
    stand (suc k) d lt code = absurd (omega arith)

    behind : All (λ (item : Item). true ≡ true → (part_at (log_of three saved) item.at).end ≤ item.row.offset) (items_of (kafka_at 3 ∷ []))
    behind zero d lt code = omega arith
    behind (suc k) d lt code = absurd (omega arith)

fourth_produced_well : (saved : Option ℕ) → IsProduced (log_of three saved) (log_of four saved) (codes "orders") (record { key_id = None; value_id = None; records = given ∷ [] }) (Some (Answers (Stored 0 3 ∷ [])))
fourth_produced_well saved = record {
  have = refl;
  room = room;
  answers = Stored 0 3 ∷ [];
  answered = record { base = λ partition. 3; code = λ partition. pos 0; places = fourth_placed saved; told = refl };
  says = refl;
}
  where
    room : All (has_room 2) (given ∷ [])
    room zero d lt = omega arith
    room (suc k) d lt = absurd (omega arith)

produces_fourth : (c : Consumer) (saved : Option ℕ) → IsConsumer c → Step 300000 (only c) (log_of three saved) one_produced (log_of four saved) (only c)
produces_fourth c saved well = record {
  keeps = grows three (kafka_at 3 ∷ []) saved (omega arith) four_above;
  log = is_log four saved four_are_full;
  world = only_one c well;
  forms = record { null = λ format. refl; base64 = λ bytes. codes "\"S2Fma2E=\""; binary = λ bytes. refl };
  later = omega arith;
  last = refl;
  does = inl (record { expired = none_expired c; does = (refl, inl (fourth_produced_well saved), λ other at. refl, λ key. refl) });
}

legal : (counts : Counts) (history : List Entry) (w : World) (l : Log) → Run 300000 nobody (log_of [] None) history l w no_tally → Legal 300000 counts history w l
legal counts history w l run = record {
  first = log_of [] None;
  log = is_log [] None empty_is_full;
  tally = no_tally;
  run = run;
  paid = record { faults_paid = omega arith; refusals_paid = omega arith; short_paid = omega arith; placed_paid = omega arith; looks_paid = omega arith };
}

ready_all : (w : Walked) → 0 < length w.taken → IsReady 1 true w
ready_all w some = inl (some, inr (inr (inr refl)))

-- the steps of a Records call, of which each look is the last
reads : (reset : Edge) (rows : List Row) (saved : Option ℕ) (bound : Option ℕ) (p q : ℕ) (after : Bool) (shown : List Row) → IsFull rows → p ≤ length rows → q < 2 ^ 63
    → (let w = walk_at rows p bound in w.taken ≡ items_of shown) → IsReady 1 true (walk_at rows p bound) → touched 0 (moved (items_of shown) (reader_at reset p false)) ≡ reader_at reset q after
    → Step 300000 (only (reader_at reset p false)) (log_of rows saved) (read bound false p [] shown) (log_of rows saved) (only (reader_at reset q after))
reads reset rows saved bound p q after shown full here small is ready left =
    own_step (Records [] (Some 0) bound) (Looked 0 ∷ []) (Shown Binary (items_of shown)) rows saved saved (reader_at reset p false) (reader_at reset q after) full (is_reader reset q after small)
    (looks reset rows saved bound p shown (reader_at reset q after) full here is ready left)

reads_due : (reset : Edge) (rows : List Row) (saved : Option ℕ) (bound : Option ℕ) (p q : ℕ) (after : Bool) (shown : List Row) → IsFull rows → p ≤ length rows → q < 2 ^ 63
    → (let w = walk_at rows p bound in w.taken ≡ items_of shown) → IsReady 1 true (walk_at rows p bound) → touched 0 (moved (items_of shown) (reader_at reset p false)) ≡ reader_at reset q after
    → Step 300000 (only (reader_at reset p true)) (log_of rows saved) (read bound true p [] shown) (log_of rows (Some p)) (only (reader_at reset q after))
reads_due reset rows saved bound p q after shown full here small is ready left =
    own_step (Records [] (Some 0) bound) (Committed (place_at p ∷ []) ∷ Looked 0 ∷ []) (Shown Binary (items_of shown)) rows saved (Some p) (reader_at reset p true) (reader_at reset q after) full (is_reader reset q after small)
    (looks_due reset rows saved bound p shown (reader_at reset q after) full here is ready left)

reads_back : (reset : Edge) (rows : List Row) (saved : Option ℕ) (bound : Option ℕ) (old p q : ℕ) (after : Bool) (shown : List Row) → IsFull rows → p ≤ length rows → length rows < old → p ≡ edge_of reset (log_of rows saved) orders → q < 2 ^ 63
    → (let w = walk_at rows p bound in w.taken ≡ items_of shown) → IsReady 1 true (walk_at rows p bound) → touched 0 (moved (items_of shown) (reader_at reset p false)) ≡ reader_at reset q after
    → Step 300000 (only (reader_at reset old false)) (log_of rows saved) (read bound false old (place_at p ∷ []) shown) (log_of rows saved) (only (reader_at reset q after))
reads_back reset rows saved bound old p q after shown full here above edge small is ready left =
    own_step (Records [] (Some 0) bound) (Reset (place_at p) ∷ Looked 0 ∷ []) (Shown Binary (items_of shown)) rows saved saved (reader_at reset old false) (reader_at reset q after) full (is_reader reset q after small)
    (looks_back reset rows saved bound old p shown (reader_at reset q after) full here above edge is ready left)

seeks_to : (reset : Edge) (rows : List Row) (saved : Option ℕ) (p q : ℕ) (due : Bool) → IsFull rows → q < 2 ^ 63
    → Step 300000 (only (reader_at reset p due)) (log_of rows saved) (entry (Seek (place_at q ∷ [])) [] Done) (log_of rows saved) (only (reader_at reset q due))
seeks_to reset rows saved p q due full small =
    own_step (Seek (place_at q ∷ [])) [] Done rows saved saved (reader_at reset p due) (reader_at reset q due) full (is_reader reset q due small) (seeks reset rows saved p q due)

seeks_to_edge : (reset edge : Edge) (rows : List Row) (saved : Option ℕ) (p q : ℕ) (due : Bool) → IsFull rows → q < 2 ^ 63 → q ≡ edge_of edge (log_of rows saved) orders
    → Step 300000 (only (reader_at reset p due)) (log_of rows saved) (entry (SeekEdge edge (orders ∷ [])) [] Done) (log_of rows saved) (only (reader_at reset q due))
seeks_to_edge reset edge rows saved p q due full small is =
    own_step (SeekEdge edge (orders ∷ [])) [] Done rows saved saved (reader_at reset p due) (reader_at reset q due) full (is_reader reset q due small) (seeks_edge reset edge rows saved p q due full is)

none_ready : (w : Walked) → w.taken ≡ [] → w.unread ≡ None → IsReady 1 true w
none_ready w none read = inr (none, read, refl)

pub read_by_one_is_legal : (counts : Counts) → Legal 300000 counts read_by_one (only (reader_at Start 3 false)) (log_of three (Some 3))
read_by_one_is_legal counts = legal counts read_by_one (only (reader_at Start 3 false)) (log_of three (Some 3)) (
  log_of three None,
  nobody,
  produces_three,
  (
    no_tally,
    refl,
    (
      log_of three None,
      only (fresh (settings_of Start) 0),
      makes Start three three_are_full,
      (
        no_tally,
        refl,
        (
          log_of three None,
          only (reader_at Start 0 false),
          own_step (Assign (orders ∷ [])) [] Done three None None (fresh (settings_of Start) 0) (reader_at Start 0 false) three_are_full (is_reader Start 0 false (omega arith)) (assigns Start three 0 three_are_full refl),
          (
            no_tally,
            refl,
            (
              log_of three None,
              only (reader_at Start 1 true),
              reads Start three None (Some 1) 0 1 true (kafka_at 0 ∷ []) three_are_full (omega arith) (omega arith) refl (ready_all (walk_at three 0 (Some 1)) (omega arith)) refl,
              (
                no_tally,
                refl,
                (
                  log_of three (Some 1),
                  only (reader_at Start 2 true),
                  reads_due Start three None (Some 1) 1 2 true (kafka_at 1 ∷ []) three_are_full (omega arith) (omega arith) refl (ready_all (walk_at three 1 (Some 1)) (omega arith)) refl,
                  (
                    no_tally,
                    refl,
                    (
                      log_of three (Some 2),
                      only (reader_at Start 3 true),
                      reads_due Start three (Some 1) (Some 1) 2 3 true (kafka_at 2 ∷ []) three_are_full (omega arith) (omega arith) refl (ready_all (walk_at three 2 (Some 1)) (omega arith)) refl,
                      (
                        no_tally,
                        refl,
                        (
                          log_of three (Some 3),
                          only (reader_at Start 3 false),
                          reads_due Start three (Some 2) (Some 1) 3 3 false [] three_are_full (omega arith) (omega arith) refl (none_ready (walk_at three 3 (Some 1)) refl refl) refl,
                          (
                            no_tally,
                            refl,
                            (refl, refl, refl),
                          ),
                        ),
                      ),
                    ),
                  ),
                ),
              ),
            ),
          ),
        ),
      ),
    ),
  ),
)

pub read_after_seek_is_legal : (counts : Counts) → Legal 300000 counts read_after_seek (only (reader_at Start 3 false)) (log_of three (Some 3))
read_after_seek_is_legal counts = legal counts read_after_seek (only (reader_at Start 3 false)) (log_of three (Some 3)) (
  log_of three None,
  nobody,
  produces_three,
  (
    no_tally,
    refl,
    (
      log_of three None,
      only (fresh (settings_of Start) 0),
      makes Start three three_are_full,
      (
        no_tally,
        refl,
        (
          log_of three None,
          only (reader_at Start 0 false),
          own_step (Assign (orders ∷ [])) [] Done three None None (fresh (settings_of Start) 0) (reader_at Start 0 false) three_are_full (is_reader Start 0 false (omega arith)) (assigns Start three 0 three_are_full refl),
          (
            no_tally,
            refl,
            (
              log_of three None,
              only (reader_at Start 2 true),
              reads Start three None (Some 10) 0 2 true (kafka_at 0 ∷ kafka_at 1 ∷ []) three_are_full (omega arith) (omega arith) refl (ready_all (walk_at three 0 (Some 10)) (omega arith)) refl,
              (
                no_tally,
                refl,
                (
                  log_of three None,
                  only (reader_at Start 1 true),
                  seeks_to Start three None 2 1 true three_are_full (omega arith),
                  (
                    no_tally,
                    refl,
                    (
                      log_of three (Some 1),
                      only (reader_at Start 3 true),
                      reads_due Start three None None 1 3 true (kafka_at 1 ∷ kafka_at 2 ∷ []) three_are_full (omega arith) (omega arith) refl (ready_all (walk_at three 1 None) (omega arith)) refl,
                      (
                        no_tally,
                        refl,
                        (
                          log_of three (Some 1),
                          only (reader_at Start 3 true),
                          own_step (Seek (record { at = other_orders; position = 0 } ∷ [])) [] (Refused 40990) three (Some 1) (Some 1) (reader_at Start 3 true) (reader_at Start 3 true) three_are_full (is_reader Start 3 true (omega arith)) (seeks_other Start three (Some 1) 3 0 true),
                          (
                            no_tally,
                            refl,
                            (
                              log_of three (Some 3),
                              only (reader_at Start 3 false),
                              reads_due Start three (Some 1) None 3 3 false [] three_are_full (omega arith) (omega arith) refl (none_ready (walk_at three 3 None) refl refl) refl,
                              (
                                no_tally,
                                refl,
                                (refl, refl, refl),
                              ),
                            ),
                          ),
                        ),
                      ),
                    ),
                  ),
                ),
              ),
            ),
          ),
        ),
      ),
    ),
  ),
)

pub read_from_the_start_is_legal : (counts : Counts) → Legal 300000 counts read_from_the_start (only (reader_at Start 3 true)) (log_of three None)
read_from_the_start_is_legal counts = legal counts read_from_the_start (only (reader_at Start 3 true)) (log_of three None) (
  log_of three None,
  nobody,
  produces_three,
  (
    no_tally,
    refl,
    (
      log_of three None,
      only (fresh (settings_of Start) 0),
      makes Start three three_are_full,
      (
        no_tally,
        refl,
        (
          log_of three None,
          only (reader_at Start 0 false),
          own_step (Assign (orders ∷ [])) [] Done three None None (fresh (settings_of Start) 0) (reader_at Start 0 false) three_are_full (is_reader Start 0 false (omega arith)) (assigns Start three 0 three_are_full refl),
          (
            no_tally,
            refl,
            (
              log_of three None,
              only (reader_at Start 99 false),
              seeks_to Start three None 0 99 false three_are_full (omega arith),
              (
                no_tally,
                refl,
                (
                  log_of three None,
                  only (reader_at Start 3 true),
                  reads_back Start three None None 99 0 3 true three three_are_full (omega arith) (omega arith) refl (omega arith) refl (ready_all (walk_at three 0 None) (omega arith)) refl,
                  (
                    no_tally,
                    refl,
                    (refl, refl, refl),
                  ),
                ),
              ),
            ),
          ),
        ),
      ),
    ),
  ),
)

pub read_from_the_end_is_legal : (counts : Counts) → Legal 300000 counts read_from_the_end (only (reader_at End 4 true)) (log_of four (Some 0))
read_from_the_end_is_legal counts = legal counts read_from_the_end (only (reader_at End 4 true)) (log_of four (Some 0)) (
  log_of three None,
  nobody,
  produces_three,
  (
    no_tally,
    refl,
    (
      log_of three None,
      only (fresh (settings_of End) 0),
      makes End three three_are_full,
      (
        no_tally,
        refl,
        (
          log_of three None,
          only (reader_at End 3 false),
          own_step (Assign (orders ∷ [])) [] Done three None None (fresh (settings_of End) 0) (reader_at End 3 false) three_are_full (is_reader End 3 false (omega arith)) (assigns End three 3 three_are_full refl),
          (
            no_tally,
            refl,
            (
              log_of three None,
              only (reader_at End 99 false),
              seeks_to End three None 3 99 false three_are_full (omega arith),
              (
                no_tally,
                refl,
                (
                  log_of three None,
                  only (reader_at End 3 false),
                  reads_back End three None None 99 3 3 false [] three_are_full (omega arith) (omega arith) refl (omega arith) refl (none_ready (walk_at three 3 None) refl refl) refl,
                  (
                    no_tally,
                    refl,
                    (
                      log_of four None,
                      only (reader_at End 3 false),
                      produces_fourth (reader_at End 3 false) None (is_reader End 3 false (omega arith)),
                      (
                        no_tally,
                        refl,
                        (
                          log_of four None,
                          only (reader_at End 4 true),
                          reads End four None None 3 4 true (kafka_at 3 ∷ []) four_are_full (omega arith) (omega arith) refl (ready_all (walk_at four 3 None) (omega arith)) refl,
                          (
                            no_tally,
                            refl,
                            (
                              log_of four None,
                              only (reader_at End 4 true),
                              seeks_to_edge End End four None 4 4 true four_are_full (omega arith) refl,
                              (
                                no_tally,
                                refl,
                                (
                                  log_of four None,
                                  only (reader_at End 0 true),
                                  seeks_to_edge End Start four None 4 0 true four_are_full (omega arith) refl,
                                  (
                                    no_tally,
                                    refl,
                                    (
                                      log_of four (Some 0),
                                      only (reader_at End 4 true),
                                      reads_due End four None None 0 4 true four four_are_full (omega arith) (omega arith) refl (ready_all (walk_at four 0 None) (omega arith)) refl,
                                      (
                                        no_tally,
                                        refl,
                                        (refl, refl, refl),
                                      ),
                                    ),
                                  ),
                                ),
                              ),
                            ),
                          ),
                        ),
                      ),
                    ),
                  ),
                ),
              ),
            ),
          ),
        ),
      ),
    ),
  ),
)
