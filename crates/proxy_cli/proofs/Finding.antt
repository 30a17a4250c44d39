-- The next request, or why there is none, once the interim response is written if it is due.
use Rattle.std.proofs.Common.{◌≡◌, ◌∙◌, ℕ, List, Bool, true, false, Option, Result, Ok, Err, refl, sym, subst}
use Rattle.std.specs.Io.KnownBytes.{Appends}
use Rattle.http_conn.specs.declared.request.ConnNo.{ConnNo}
use Rattle.http_conn.specs.declared.request.ConnNo.TheVariants.{ReadFault, WriteFault, Want}
use Rattle.http_conn.specs.declared.request.Next.{Next}
use Rattle.http_conn.specs.declared.request.Next.TheVariants as next
use Rattle.http_conn.specs.Next.{Gives, GivesSo, IsSettled, NeedsMore, is_continue}
use Rattle.http_conn.specs.Stream.{IsDue, interim_bytes}
use Rattle.http_conn.specs.Told.{Comes, Conn, LastRead, StillComes}
use Rattle.http_conn.proofs.LawLemmas.{no_due_of_nothing}
use Rattle.http_conn.proofs.PatientLemmas.{read_on, read_weaker}
use Rattle.proxy_cli.specs.Exchange.{CutAt, Finds}
use Rattle.proxy_cli.proofs.Wants.{nothing_appended}

-- the interim response isn't due where it is settled and wasn't given
not_due : (c : Bool) (bytes : List ℕ) → c ≡ false → IsSettled c bytes → IsDue bytes → ⊥
not_due c bytes fresh settled due = absurd (let both = sym fresh ∙ settled due in cc both)

-- what is given but the interim response says that it isn't due, if it wasn't given before
given_not_due : (c : Bool) (all : List ℕ) (n : Next) (rest : List ℕ) → c ≡ false → is_continue n ≡ false → Gives c all n rest → IsDue all → ⊥
given_not_due c all (next.Ready r) rest fresh other given due = not_due c all fresh given.1 due
given_not_due c all next.Continue rest fresh other given due = absurd (cc other)
given_not_due c all next.End rest fresh other given due = no_due_of_nothing all given.0 due
given_not_due c all next.CutShort rest fresh other given due = not_due c all fresh given.1 due
given_not_due c all (next.Bad reply) rest fresh other given due = not_due c all fresh given.1 due

-- what is given is given where the interim response was
given_settled : (c : Bool) (all : List ℕ) (n : Next) (rest : List ℕ) → is_continue n ≡ false → Gives c all n rest → Gives true all n rest
given_settled c all (next.Ready r) rest other given = (given.0, λ due. refl)
given_settled c all next.Continue rest other given = absurd (cc other)
given_settled c all next.End rest other given = given
given_settled c all next.CutShort rest other given = (given.0, (λ due. refl), given.2)
given_settled c all (next.Bad reply) rest other given = (given.0, (λ due. refl), given.2)

module _ (early : Type 0) (conn conn2 : Conn) (left left2 before : Option (List ℕ)) where
  -- without the interim response
  pub finds_given : (n : Next) → conn.continued ≡ false → is_continue n ≡ false → GivesSo conn.continued conn.held conn2.held left left2 (Ok n)
      → Finds early conn conn2 left left2 before before (Ok n)
  finds_given n fresh other given = λ all comes.
      let x = given all comes in
      ((false, given_not_due conn.continued all n x.0 fresh other x.2, nothing_appended before), (x.0, x.1, given_settled conn.continued all n x.0 other x.2))

  pub finds_failed : (e : ConnNo) → conn.continued ≡ false → GivesSo conn.continued conn.held conn2.held left left2 (Err e) → Finds early conn conn2 left left2 before before (Err e)
  finds_failed ReadFault fresh given = λ all comes.
      let x = given all comes in
      (x.0, x.1, (false, not_due conn.continued conn2.held fresh x.2, nothing_appended before))
  finds_failed (WriteFault n) fresh given = absurd given
  finds_failed Want fresh given = λ all comes. (false, (λ e. absurd (cc e)), nothing_appended before)

  -- the interim response was due, and its write failed
  pub finds_cut : (left1 now : Option (List ℕ)) (conn1 : Conn) (e : ConnNo) → early → GivesSo conn.continued conn.held conn1.held left left1 (Ok next.Continue)
      → ((n : ℕ) → e ≡ WriteFault n → CutAt n interim_bytes before now) → ((n : ℕ) × (e ≡ WriteFault n)) → Finds early conn conn2 left left2 before now (Err e)
  finds_cut left1 now conn1 (WriteFault n) soon given cut only = (soon, λ all comes. ((given all comes).2.0, cut n refl))
  finds_cut left1 now conn1 ReadFault soon given cut only = absurd (let e = only.1 in cc)
  finds_cut left1 now conn1 Want soon given cut only = absurd (let e = only.1 in cc)

-- what was still to come is still to come where the interim response is given
pub still_comes : (c : Bool) (held held1 : List ℕ) (left left1 : Option (List ℕ)) → GivesSo c held held1 left left1 (Ok next.Continue) → StillComes held left held1 left1
still_comes c held held1 left left1 given = λ all comes.
    let x = given all comes in
    subst (λ (l : List ℕ). Comes held1 left1 l) x.2.2 x.1

-- the interim response was due and is written, and a call behind it has this result
pub finds_behind : (early : Type 0) (conn conn1 conn2 : Conn) (left left1 left2 before now : Option (List ℕ)) (result : Result Next ConnNo)
    → conn1.continued ≡ true → IsDue conn1.held → GivesSo conn.continued conn.held conn1.held left left1 (Ok next.Continue) → Appends before now interim_bytes
    → GivesSo conn1.continued conn1.held conn2.held left1 left2 result → Finds early conn conn2 left left2 before now result
finds_behind early conn conn1 conn2 left left1 left2 before now (Ok n) told due first sent second = λ all comes.
    let x = first all comes in
    let y = second all (still_comes conn.continued conn.held conn1.held left left1 first all comes) in
    ((true, x.2.0, sent), (y.0, y.1, subst (λ (c : Bool). Gives c all n y.0) told y.2))
finds_behind early conn conn1 conn2 left left1 left2 before now (Err ReadFault) told due first sent second = λ all comes.
    let y = second all (still_comes conn.continued conn.held conn1.held left left1 first all comes) in
    (y.0, y.1, (true, y.3 due, sent))
finds_behind early conn conn1 conn2 left left1 left2 before now (Err (WriteFault n)) told due first sent second = absurd second
finds_behind early conn conn1 conn2 left left1 left2 before now (Err Want) told due first sent second = λ all comes.
    let x = first all comes in
    (true, (λ e. x.2.0), sent)

-- what asks for the interim response is `Continue`
pub is_the_continue : (n : Next) → is_continue n ≡ true → n ≡ next.Continue
is_the_continue (next.Ready r) is = absurd (cc is)
is_the_continue next.Continue is = refl
is_the_continue next.End is = absurd (cc is)
is_the_continue next.CutShort is = absurd (cc is)
is_the_continue (next.Bad reply) is = absurd (cc is)

module _ {S : Type 0} (left asked : S → Option (List ℕ)) (conn : Conn) (old new : S) where
  -- a read that began before the interim response was due
  pub reads_on : LastRead left asked conn.held old new (NeedsMore conn.continued) → LastRead left asked conn.held old new (NeedsMore true)
  reads_on read = read_weaker left asked conn.held old new (NeedsMore conn.continued) (NeedsMore true) read (λ l needs. (needs.0, λ due. refl))

  pub reads_early : conn.continued ≡ false → LastRead left asked conn.held old new (NeedsMore conn.continued) → LastRead left asked conn.held old new (NeedsMore false)
  reads_early fresh read = subst (λ (c : Bool). LastRead left asked conn.held old new (NeedsMore c)) fresh read

-- reads before and behind the interim response
pub reads_behind : {S : Type 0} (left asked : S → Option (List ℕ)) (conn conn1 : Conn) (old mid new : S) → GivesSo conn.continued conn.held conn1.held (left old) (left mid) (Ok next.Continue)
    → conn1.continued ≡ true → LastRead left asked conn.held old mid (NeedsMore conn.continued) → LastRead left asked conn1.held mid new (NeedsMore conn1.continued) → LastRead left asked conn.held old new (NeedsMore true)
reads_behind left asked conn conn1 old mid new given told first second =
    read_on left asked conn.held conn1.held old mid new (NeedsMore conn1.continued) (NeedsMore true) (reads_on left asked conn old mid first) (still_comes conn.continued conn.held conn1.held (left old) (left mid) given) second
    (λ l needs. (needs.0, λ due. refl))
