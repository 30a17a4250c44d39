-- From the records of a batch read in turn, to whether their offset deltas are 0, 1, 2 and so on.
use Rattle.std.proofs.Common.{◌≡◌, ℕ, zero, suc, ◌+◌, ◌-◌, ◌<◌, List, [], ◌∷◌, length, ℤ, pos, ◌+ℤ◌, Result, Ok, Err, Bool, true, false, refl, sym, ap, ◌∙◌, subst, arith}
use Rattle.std.specs.Prelude.{◌↔◌, ◌&&◌}
use Rattle.std.specs.Ordering.{int_eq}
use Rattle.std.proofs.lemmas.Int.{ints}
use Rattle.std.proofs.Math.Bool.{and-true}
use Rattle.std.proofs.lemmas.List.{nil_from_length}
use Rattle.std.proofs.lemmas.Bool.{false≢true}
use Rattle.std.proofs.lemmas.Bool.Decides.{Decides-int_eq}
use Rattle.wire_prim.specs.Reading.{Reading}
use Rattle.broker_link.specs.declared.link.Stored.{Stored}
use Rattle.record_batch.specs.declared.fault.BatchFault.{BatchFault}
use Rattle.record_batch.specs.declared.fault.BatchFault.TheVariants.{BadRecord}
use Rattle.record_batch.specs.Record.{record_at, records_at, before, none_left}
use Rattle.record_batch.specs.Batch.{named}
use Rattle.record_batch.specs.First.{HaveDeltas, TellsDeltas}
use Rattle.record_batch.proofs.OffsetLaws.{chain_ok}

-- each offset is the one that was wanted next
abbrev pub steady : ℤ → List Stored → Bool
steady next [] = true
steady next (row ∷ rows) = int_eq row.offset next && steady (row.offset +ℤ pos 1) rows

-- whether all are, if those so far were
abbrev pub judged : Bool → ℤ → Result (List Stored) ℕ → Result Bool ℕ
judged told next (Ok rows) = Ok (told && steady next rows)
judged told next (Err place) = Err place

abbrev pub named_bool : Result Bool ℕ → Result Bool BatchFault
named_bool (Ok told) = Ok told
named_bool (Err place) = Err (BadRecord place)

and_true : (a b : Bool) → (a && b) ≡ true → (a ≡ true) × (b ≡ true)
and_true true b is = (refl, is)
and_true false b is = absurd (false≢true is)

and_is : (a b : Bool) → a ≡ true → b ≡ true → (a && b) ≡ true
and_is true b is more = more
and_is false b is more = absurd (false≢true is)

and_assoc : (a b c : Bool) → (a && (b && c)) ≡ ((a && b) && c)
and_assoc true b c = refl
and_assoc false b c = refl

one_judged : (told : Bool) (next : ℤ) (row : Stored) (more : Result (List Stored) ℕ) → judged told next (before (row ∷ []) more) ≡ judged (told && int_eq row.offset next) (row.offset +ℤ pos 1) more
one_judged told next row (Ok rows) = ap (λ b. Ok b) (and_assoc told (int_eq row.offset next) (steady (row.offset +ℤ pos 1) rows))
one_judged told next row (Err place) = refl

-- one more record
pub record_judged : (told told' : Bool) (next wanted offset base low : ℤ) (count counter : ℕ) (at behind : Reading) (row : Stored) → counter < count → record_at base low at ≡ Ok (row, behind)
    → told' ≡ (told && int_eq offset wanted) → offset ≡ row.offset → wanted ≡ next
    → judged told next (records_at (count - counter) base low at) ≡ judged told' (row.offset +ℤ pos 1) (records_at (count - (counter + 1)) base (row.offset +ℤ pos 1) behind)
record_judged told told' next wanted offset base low count counter at behind row left is tells own same =
    let one : count - counter ≡ suc (count - (counter + 1)) = omega arith in
    let more = records_at (count - (counter + 1)) base (row.offset +ℤ pos 1) behind in
    let now : (told && int_eq row.offset next) ≡ told' = sym (tells ∙ ap (λ o. told && int_eq o wanted) own ∙ ap (λ w. told && int_eq row.offset w) same) in
    ap (λ n. judged told next (records_at n base low at)) one ∙ rw is (one_judged told next row more) ∙ ap (λ b. judged b (row.offset +ℤ pos 1) more) now

-- a record that doesn't read
pub record_not_judged : (told : Bool) (next base low : ℤ) (count counter : ℕ) (at : Reading) (place : ℕ) → counter < count → record_at base low at ≡ Err place
    → judged told next (records_at (count - counter) base low at) ≡ Err place
record_not_judged told next base low count counter at place left is =
    let one : count - counter ≡ suc (count - (counter + 1)) = omega arith in
    ap (λ n. judged told next (records_at n base low at)) one ∙ rw is refl

-- those offsets are the ones of the deltas
pub deltas_tell : (base : ℤ) (delta : ℕ) (next : ℤ) (rows : List Stored) → next ≡ base +ℤ pos delta → (steady next rows ≡ true) ↔ HaveDeltas base delta rows
deltas_tell base delta next [] at = (λ _. tt, λ _. refl)
deltas_tell base delta next (row ∷ rows) at =
    let here = Decides-int_eq row.offset next in
    let own : row.offset ≡ next → row.offset ≡ base +ℤ pos delta = λ is. is ∙ at in
    let back : row.offset ≡ base +ℤ pos delta → row.offset ≡ next = λ is. is ∙ sym at in
    let more : row.offset ≡ base +ℤ pos delta → row.offset +ℤ pos 1 ≡ base +ℤ pos (delta + 1) = λ is. omega (arith, ints) in
    let rest : row.offset ≡ base +ℤ pos delta → (steady (row.offset +ℤ pos 1) rows ≡ true) ↔ HaveDeltas base (delta + 1) rows = λ is. deltas_tell base (delta + 1) (row.offset +ℤ pos 1) rows (more is) in (
      λ told. let both = and_true _ _ told in let is = own (here.0 both.0) in (is, (rest is).0 both.1),
      λ have. and_is _ _ (here.1 (back have.0)) ((rest have.0).1 have.1),
    )

judged_err : (told : Bool) (next : ℤ) (said : Result (List Stored) ℕ) (place : ℕ) → judged told next said ≡ Err place → said ≡ Err place
judged_err told next (Ok rows) place is = absurd (cc is)
judged_err told next (Err other) place is = let same : other ≡ place = cc is in ap (λ p. Err p) same

-- a fault of what is left is that of all
pub all_faulty : (base : ℤ) (said : Result (List Stored) ℕ) (place : ℕ) → judged true base said ≡ Err place → named said ≡ Err (BadRecord place)
all_faulty base said place is = ap named (judged_err true base said place is)

abbrev told_or : Bool → Result Bool ℕ
told_or told = Ok told

-- where nothing is left, what was told so far is told of all
pub all_told : (told : Bool) (next base : ℤ) (said rest : Result (List Stored) ℕ) → judged true base said ≡ judged told next rest → rest ≡ Ok [] → TellsDeltas (Ok told) (named said) base
all_told told next base (Ok rows) rest is none =
    let both : told_or (steady base rows) ≡ told_or (told && true) = is ∙ ap (judged told next) none in
    let same : steady base rows ≡ told && true = cc both in
    let start : base ≡ base +ℤ pos 0 = omega (arith, ints) in
    subst (λ b. (b ≡ true) ↔ HaveDeltas base 0 rows) (same ∙ and-true told) (deltas_tell base 0 base rows start)
all_told told next base (Err place) rest is none = let bad = is ∙ ap (judged told next) none in absurd (cc bad)

pub none_ended : (n : ℕ) (base low : ℤ) (at : Reading) → n ≡ 0 → length at.left ≡ 0 → records_at n base low at ≡ Ok []
none_ended n base low at none ended =
    let left : at.left ≡ [] = nil_from_length at.left ended in
    ap (λ k. records_at k base low at) none ∙ ap (none_left at.place) left

over : (place : ℕ) (left : List ℕ) → (length left ≡ 0 → ⊥) → none_left place left ≡ Err place
over place [] some = absurd (some refl)
over place (byte ∷ left) some = refl

pub over_ended : (n : ℕ) (base low : ℤ) (at : Reading) → n ≡ 0 → (length at.left ≡ 0 → ⊥) → records_at n base low at ≡ Err at.place
over_ended n base low at none some = ap (λ k. records_at k base low at) none ∙ over at.place at.left some

none_length : (place : ℕ) (left : List ℕ) (rows : List Stored) → none_left place left ≡ Ok rows → length rows ≡ 0
none_length place [] rows is = let same : [] ≡ rows = cc is in sym (ap length same)
none_length place (byte ∷ left) rows is = absurd (cc is)

records_length : (n : ℕ) (base low : ℤ) (at : Reading) (rows : List Stored) → records_at n base low at ≡ Ok rows → length rows ≡ n
records_length zero base low at rows is = none_length at.place at.left rows is
records_length (suc n) base low at rows is =
    let one = chain_ok (record_at base low at) (λ row behind. records_at n base (row.offset +ℤ pos 1) behind) rows is in
    sym (ap length one.4) ∙ ap suc (records_length n base (one.0.0.offset +ℤ pos 1) one.0.1 one.1 one.3)

-- the rows of a batch whose deltas are told
pub told_rows : (said : Result (List Stored) ℕ) (n : ℕ) (base low : ℤ) (at : Reading) (told : Bool) → records_at n base low at ≡ said → TellsDeltas (Ok told) (named said) base
    → (rows : List Stored) × (named said ≡ Ok rows) × (length rows ≡ n) × ((told ≡ true) ↔ HaveDeltas base 0 rows)
told_rows (Ok rows) n base low at told is tells = (rows, refl, records_length n base low at rows is, tells)
told_rows (Err place) n base low at told is tells = absurd tells
