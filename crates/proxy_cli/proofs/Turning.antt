-- A turn that fails, by what failed.
use Rattle.std.proofs.Common.{◌≡◌, ℕ, List, Bool, true, false, Option, Err, refl, sym, subst, inl, inr, take, ◌++◌, []}
use Rattle.std.specs.Prelude.{◌||◌}
use Rattle.std.specs.Io.KnownBytes.{Appends}
use Rattle.gate_io.proofs.Known.{Appends-trans}
use Rattle.http_conn.specs.declared.request.ConnNo.{ConnNo}
use Rattle.http_conn.specs.declared.request.ConnNo.TheVariants.{ReadFault, WriteFault, Want}
use Rattle.http_conn.specs.declared.request.Request.{Request}
use Rattle.http_conn.specs.Stream.{DueIs, IsDue, IsRequest, IsBad}
use Rattle.http_conn.proofs.LawLemmas.{due_expects, expects_due}
use Rattle.http_conn.specs.Told.{Comes, Conn}
use Rattle.rest_codes.specs.Response.{response_of}
use Rattle.rest_codes.specs.declared.response.Reply.{Reply}
use Rattle.proxy_cli.specs.Served.{OrWant, interim_if}
use Rattle.proxy_cli.specs.Exchange.{CutAt, Finds, Sends, Turns, WritesInterim}

-- a request says whether the interim response was due
pub expects_is : (all : List ℕ) (r : Request) (rest : List ℕ) (due : Bool) → IsRequest all r rest → DueIs all due → due ≡ r.expects
expects_is all r rest true is due = sym (due_expects all r rest is due)
expects_is all r rest false is due = go r.expects refl
  where
    go : (b : Bool) → r.expects ≡ b → false ≡ r.expects
    go false same = sym same
    go true same = absurd (due (expects_due all r rest is same))

-- the interim response of a request, and what is written behind it
pub behind_interim : (all : List ℕ) (r : Request) (rest bytes : List ℕ) (before mid now : Option (List ℕ)) → IsRequest all r rest → WritesInterim all before mid → Appends mid now bytes
    → Appends before now (interim_if r.expects ++ bytes)
behind_interim all r rest bytes before mid now is wrote sent =
    Appends-trans before mid now (interim_if r.expects) bytes (subst (λ (b : Bool). Appends before mid (interim_if b)) (expects_is all r rest wrote.0 is wrote.1) wrote.2) sent

-- where it isn't due, nothing was written
pub nothing_due : (all : List ℕ) (before now : Option (List ℕ)) → WritesInterim all before now → (IsDue all → ⊥) → Appends before now []
nothing_due all before now wrote never = go wrote.0 wrote.1 wrote.2
  where
    go : (due : Bool) → DueIs all due → Appends before now (interim_if due) → Appends before now []
    go true is sent = absurd (never is)
    go false is sent = sent

module _ (answers : Request → Reply → Type 0) (idle early : Type 0) (conn conn2 : Conn) (left left2 before mid now : Option (List ℕ)) (close : Bool) where
  -- the response to a request
  pub cut_reply : (request : Request) (e : ConnNo) → ((all : List ℕ) → Comes conn.held left all → WritesInterim all before mid × ((rest : List ℕ) × IsRequest all request rest))
      → (closes : Bool) → closes ≡ (request.close || close) → Sends (answers request) closes mid now (Err e) → Turns answers idle early conn conn2 left left2 before now close (Err e)
  cut_reply request (WriteFault n) front closes is sent = λ all comes.
      let at_front = front all comes in
      let cut : CutAt n (response_of sent.0 (request.close || close)) mid now = subst (λ (b : Bool). CutAt n (response_of sent.0 b) mid now) is sent.2 in
      inl (record {
        request = request;
        reply = sent.0;
        rest = at_front.1.0;
        is = at_front.1.1;
        answered = sent.1;
        cut = (cut.0, behind_interim all request at_front.1.0 (take n (response_of sent.0 (request.close || close))) before mid now at_front.1.1 at_front.0 cut.1);
      })
  cut_reply request ReadFault front closes is sent = absurd sent
  cut_reply request Want front closes is sent = absurd sent

  -- the response to a bad place
  pub cut_refusal : (reply : Reply) (e : ConnNo) → idle → ((all : List ℕ) → Comes conn.held left all → WritesInterim all before mid × IsBad all reply)
      → Sends (OrWant reply) true mid now (Err e) → Turns answers idle early conn conn2 left left2 before now close (Err e)
  cut_refusal reply (WriteFault n) still bad sent = λ all comes.
      let found = bad all comes in
      let wrote = found.0 in
      let both = Appends-trans before mid now (interim_if wrote.0) (take n (response_of sent.0 true)) wrote.2 sent.2.1 in
      inr (inl (record { wanted = reply; bad = found.1; due = wrote.0; is_due = wrote.1; said = sent.0; replied = sent.1; cut = (sent.2.0, both) }), still)
  cut_refusal reply ReadFault still bad sent = absurd sent
  cut_refusal reply Want still bad sent = absurd sent

  -- a read, memory for it, or the interim response
  pub failed_next : (e : ConnNo) → idle → Finds early conn conn2 left left2 before now (Err e) → Turns answers idle early conn conn2 left left2 before now close (Err e)
  failed_next (WriteFault n) still found = λ all comes.
      let x = found.1 all comes in
      inr (inr (found.0, x.0, x.1), still)
  failed_next ReadFault still found = (still, found)
  failed_next Want still found = (still, found)
