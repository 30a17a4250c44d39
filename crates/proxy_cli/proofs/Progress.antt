-- A connection so far: the requests that were answered, and what is still to come. What is said of the requests and their
-- replies is a parameter.
use Rattle.std.proofs.Common.{◌≡◌, ℕ, ◌+◌, ◌<◌, Bool, true, false, List, [], ◌∷◌, ◌++◌, length, take, Option, None, Some, refl, ap, sym, subst, ◌∙◌, arith, append_assoc, append-nil, length-append, inl, inr}
use Rattle.std.specs.Prelude.{◌⊎◌, ◌==◌, ◌||◌}
use Rattle.std.specs.Io.KnownBytes.{Appends, Consumes}
use Rattle.gate_io.proofs.Known.{Appends-trans}
use Rattle.rest_codes.specs.Response.{response_of}
use Rattle.rest_codes.specs.declared.response.Reply.{Reply}
use Rattle.http_conn.specs.declared.request.Request.{Request}
use Rattle.http_conn.specs.Stream.{Ending, Begins, EndsBehind, interim_bytes, is_closed, max_requests}
use Rattle.http_conn.specs.Stream.Ending.{End, Closed, Limit, CutShort, BadPlace}
use Rattle.http_conn.proofs.BeginLemmas.{begins_push}
use Rattle.http_conn.proofs.BeginsLemmas.{begins_cut}
use Rattle.http_conn.specs.Told.{Comes, Conn, LastRead}
use Rattle.http_conn.specs.Next.{IsWaiting, NeedsMore}
use Rattle.proxy_cli.specs.Served.{closes, exchange_of, interim_if, responses}
use Rattle.proxy_cli.specs.Ended.{TellsEnd}
use Rattle.proxy_cli.specs.declared.ended.EndWhy.{EndWhy}
use Rattle.proxy_cli.specs.declared.ended.EndWhy.TheVariants.{Limit as AtTheLimit, Closed as AtAClose}
use Rattle.proxy_cli.specs.Patience.{AskedBehind, ReadsBefore, ReadsBehind, ReadsTo, Took}
use Rattle.proxy_cli.specs.Session.{Whole, Lost, Starved, CutOff, SplitsLast}
use Rattle.proxy_cli.specs.Exchange.{ServesOne, EndsAs, EndsHere, CutBehind, CutsInterim, CutsReply, CutsRefusal, MayWriteInterim, WritesInterim}
use Rattle.proxy_cli.proofs.Wants.{nothing_appended}

-- what is said of requests and their replies
abbrev pub Said : Type 1
Said = List Request → List Reply → Type 0

-- the connection so far, after so many requests
pub record Progress {S : Type 0} (left asked : S → Option (List ℕ)) (first s : S) (answers : Said) (input : List ℕ) (before now : Option (List ℕ)) (count : ℕ) (conn : Conn) : Type 0 where
  pub requests : List Request
  pub replies : List Reply
  pub rest : List ℕ
  pub counted : length requests ≡ count
  pub paired : length replies ≡ length requests
  pub comes : Comes conn.held (left s) rest
  pub closed : is_closed requests ≡ conn.over
  pub begins : Begins 0 input requests rest
  pub answered : answers requests replies
  pub wrote : Appends before now (responses 0 requests replies)
  pub reads : ReadsBefore asked first s input requests

-- what is said goes on by one request more
abbrev pub GoesOnBy : Said → (Request → Reply → Type 0) → Said → Type 0
GoesOnBy answers one answers2 = (qs : List Request) (rs : List Reply) (q : Request) (r : Reply) → length rs ≡ length qs → answers qs rs → one q r → answers2 (qs ++ q ∷ []) (rs ++ r ∷ [])

-- ---- the last read

-- behind these requests, where a turn began there and read
asked_here : (c : Bool) (asked : Option (List ℕ)) (input : List ℕ) (requests : List Request) (rest held : List ℕ) → Begins 0 input requests rest → Comes held asked rest → NeedsMore c held → AskedBehind c asked input requests
asked_here c asked input requests rest held begins comes needs = record { rest = rest; begins = begins; held = held; comes = comes; needs = needs }

reads_on : {S : Type 0} (asked : S → Option (List ℕ)) (first s s2 : S) (input : List ℕ) (requests others : List Request) → s2 ≡ s → ReadsBefore asked first s input requests → ReadsBefore asked first s2 input (requests ++ others)
reads_on {S} asked first s s2 input requests others same (inl none) = inl (same ∙ none)
reads_on {S} asked first s s2 input requests others same (inr x) = inr (record {
  firsts = x.firsts;
  next = x.next;
  others = x.others ++ others;
  parts = ap (λ (l : List Request). l ++ others) x.parts ∙ append_assoc x.firsts (x.next ∷ x.others) others;
  behind = subst (λ (k : S). AskedBehind true (asked k) input x.firsts) (sym same) x.behind;
})

reads_more : {S : Type 0} (left asked : S → Option (List ℕ)) (first s s2 : S) (input : List ℕ) (requests : List Request) (r : Request) (rest held : List ℕ)
    → Begins 0 input requests rest → Comes held (left s) rest → LastRead left asked held s s2 (NeedsMore true) → ReadsBefore asked first s input requests → ReadsBefore asked first s2 input (requests ++ r ∷ [])
unfolding LastRead
reads_more left asked first s s2 input requests r rest held begins comes last before = elim (last rest comes) [
  | inl same ↦ reads_on asked first s s2 input requests (r ∷ []) same before
  | inr x ↦ inr (record { firsts = requests; next = r; others = []; parts = refl; behind = asked_here true (asked s2) input requests rest x.0 begins x.1 x.2 })
]

reads_behind : {S : Type 0} (left asked : S → Option (List ℕ)) (c : Bool) (first s s2 : S) (input : List ℕ) (requests : List Request) (rest held : List ℕ)
    → Begins 0 input requests rest → Comes held (left s) rest → LastRead left asked held s s2 (NeedsMore c) → ReadsBefore asked first s input requests → ReadsBehind c asked first s2 input requests
unfolding LastRead
reads_behind {S} left asked c first s s2 input requests rest held begins comes last before = elim (last rest comes) [
  | inl same ↦ inl (subst (λ (l : List Request). ReadsBefore asked first s2 input l) (append-nil requests) (reads_on asked first s s2 input requests [] same before))
  | inr x ↦ inr (asked_here c (asked s2) input requests rest x.0 begins x.1 x.2)
]

-- ---- one request more

-- the last request closes or doesn't, as one more does
closed_more : (rs : List Request) (r : Request) → is_closed (rs ++ r ∷ []) ≡ r.close
closed_more [] r = refl
closed_more (q ∷ []) r = refl
closed_more (q ∷ p ∷ rs) r = closed_more (p ∷ rs) r

responses_more : (n : ℕ) (rs : List Request) (ps : List Reply) (r : Request) (p : Reply) → length ps ≡ length rs
    → responses n (rs ++ r ∷ []) (ps ++ p ∷ []) ≡ responses n rs ps ++ exchange_of (n + length rs) r p
responses_more n [] [] r p same = append-nil _ ∙ ap (λ (k : ℕ). exchange_of k r p) (omega arith)
responses_more n [] (x ∷ ps) r p same = absurd (omega (arith, same))
responses_more n (q ∷ rs) [] r p same = absurd (omega (arith, same))
responses_more n (q ∷ rs) (x ∷ ps) r p same =
    let e : n + 1 + length rs ≡ n + length (q ∷ rs) = omega arith in
    ap (λ l. exchange_of n q x ++ l) (responses_more (n + 1) rs ps r p (omega (arith, same)))
    ∙ (sym (append_assoc (exchange_of n q x) (responses (n + 1) rs ps) (exchange_of (n + 1 + length rs) r p))
    ∙ ap (λ (k : ℕ). (exchange_of n q x ++ responses (n + 1) rs ps) ++ exchange_of k r p) e)

pub progress_more : {S : Type 0} (left asked : S → Option (List ℕ)) (first s s2 : S) (answers answers2 : Said) (one : Request → Reply → Type 0) (input : List ℕ) (before now next : Option (List ℕ)) (count : ℕ) (conn conn2 : Conn) (close : Bool)
    → count < max_requests → conn.over ≡ false → Progress left asked first s answers input before now count conn → GoesOnBy answers one answers2
    → ((all : List ℕ) → Comes conn.held (left s) all → ServesOne one all conn2 (left s2) now next close) → LastRead left asked conn.held s s2 (NeedsMore true) → close ≡ (count + 1 == max_requests)
    → Progress left asked first s2 answers2 input before next (count + 1) conn2
progress_more left asked first s s2 answers answers2 one input before now next count conn conn2 close lt still so_far more step last is =
    let one = step so_far.rest so_far.comes in
    let closing : (one.request.close || close) ≡ closes (0 + length so_far.requests) one.request =
    ap (λ (k : Bool). one.request.close || k) (is ∙ ap (λ (k : ℕ). k + 1 == max_requests) (omega (arith, so_far.counted))) in
    record {
      requests = so_far.requests ++ one.request ∷ [];
      replies = so_far.replies ++ one.reply ∷ [];
      rest = one.rest;
      counted = omega (arith, so_far.counted, length-append so_far.requests (one.request ∷ []));
      paired = omega (arith, so_far.paired, length-append so_far.requests (one.request ∷ []), length-append so_far.replies (one.reply ∷ []));
      comes = one.comes;
      closed = closed_more so_far.requests one.request ∙ sym one.over;
      begins = begins_push 0 input so_far.requests so_far.rest one.request one.rest so_far.begins (omega (arith, lt, so_far.counted)) (so_far.closed ∙ still) one.is;
      answered = more so_far.requests so_far.replies one.request one.reply so_far.paired so_far.answered one.answered;
      wrote =
          subst (λ (l : List ℕ). Appends before next l) (sym (responses_more 0 so_far.requests so_far.replies one.request one.reply so_far.paired))
          (Appends-trans before now next (responses 0 so_far.requests so_far.replies) _ so_far.wrote (subst (λ (k : Bool). Appends now next (interim_if one.request.expects ++ response_of one.reply k)) closing one.wrote));
      reads = reads_more left asked first s s2 input so_far.requests one.request so_far.rest conn.held so_far.begins so_far.comes last so_far.reads;
    }

-- ---- the start, and the ends

comes_all : (input : List ℕ) (left : Option (List ℕ)) → left ≡ Some input → Comes [] left input
comes_all input None told = absurd (cc told)
comes_all input (Some xs) told = told

pub progress_start : {S : Type 0} (left asked : S → Option (List ℕ)) (first : S) (answers : Said) (input : List ℕ) (before : Option (List ℕ)) → answers [] [] → left first ≡ Some input → Progress left asked first first answers input before before 0 (record { held = []; over = false; continued = false })
progress_start left asked first answers input before none told = record {
  requests = [];
  replies = [];
  rest = input;
  counted = refl;
  paired = refl;
  comes = comes_all input (left first) told;
  closed = refl;
  begins = refl;
  answered = none;
  wrote = nothing_appended before;
  reads = inl refl;
}

ends_behind : (n : ℕ) (closed : Bool) (rest : List ℕ) (ending : Ending) → n < max_requests → closed ≡ false → EndsAs rest ending → EndsBehind n closed rest ending
ends_behind n closed rest End lt still ends = (lt, still, ends)
ends_behind n closed rest Closed lt still ends = absurd ends
ends_behind n closed rest Limit lt still ends = absurd ends
ends_behind n closed rest (CutShort due) lt still ends = (lt, still, ends.0, ends.1)
ends_behind n closed rest (BadPlace due r) lt still ends = (lt, still, ends.0, ends.1)

reads_to : {S : Type 0} (asked : S → Option (List ℕ)) (first s : S) (input : List ℕ) (requests : List Request) (rest : List ℕ) (ending : Ending) → EndsAs rest ending → ReadsBehind true asked first s input requests → ReadsTo asked first s input requests ending
reads_to asked first s input requests rest End ends reads = reads
reads_to asked first s input requests rest Closed ends reads = absurd ends
reads_to asked first s input requests rest Limit ends reads = absurd ends
reads_to asked first s input requests rest (CutShort due) ends reads = reads
reads_to asked first s input requests rest (BadPlace due r) ends reads = reads

pub progress_end : {S : Type 0} (left asked : S → Option (List ℕ)) (first s s2 : S) (answers : Said) (input : List ℕ) (before now next : Option (List ℕ)) (count : ℕ) (conn : Conn) (why : EndWhy)
    → count < max_requests → conn.over ≡ false → Progress left asked first s answers input before now count conn → LastRead left asked conn.held s s2 (NeedsMore true) → ((all : List ℕ) → Comes conn.held (left s) all → EndsHere why all (left s2) now next)
    → (written : List ℕ) × Appends before next written × ((whole : Whole answers input written) × Took left asked first s2 input whole.requests whole.ending whole.stream.rest × TellsEnd (record { requests = count; why = why }) whole.requests whole.ending)
progress_end left asked first s s2 answers input before now next count conn why lt still so_far last end =
    let here = end so_far.rest so_far.comes in (
      responses 0 so_far.requests so_far.replies ++ here.last,
      Appends-trans before now next (responses 0 so_far.requests so_far.replies) here.last so_far.wrote here.wrote,
      (
        record {
          requests = so_far.requests;
          ending = here.ending;
          stream = record { rest = so_far.rest; begins = so_far.begins; ends = ends_behind (length so_far.requests) (is_closed so_far.requests) so_far.rest here.ending (omega (arith, lt, so_far.counted)) (so_far.closed ∙ still) here.ends };
          replies = so_far.replies;
          answered = so_far.answered;
          last = here.last;
          ends = here.is_last;
          output = refl;
        },
        record {
          held = here.held;
          comes = here.comes;
          reads =
              reads_to asked first s2 input so_far.requests so_far.rest here.ending here.ends
              (reads_behind left asked true first s s2 input so_far.requests so_far.rest conn.held so_far.begins so_far.comes last so_far.reads);
        },
        record { count = sym so_far.counted; why = here.is_why },
      ),
    )

pub progress_limit : {S : Type 0} (left asked : S → Option (List ℕ)) (first s : S) (answers : Said) (input : List ℕ) (before now : Option (List ℕ)) (count : ℕ) (conn : Conn)
    → Progress left asked first s answers input before now count conn → count ≡ max_requests
    → (written : List ℕ) × Appends before now written × ((whole : Whole answers input written) × Took left asked first s input whole.requests whole.ending whole.stream.rest × TellsEnd (record { requests = max_requests; why = AtTheLimit }) whole.requests whole.ending)
progress_limit left asked first s answers input before now count conn so_far full = (
  responses 0 so_far.requests so_far.replies,
  so_far.wrote,
  (
    record {
      requests = so_far.requests;
      ending = Limit;
      stream = record { rest = so_far.rest; begins = so_far.begins; ends = so_far.counted ∙ full };
      replies = so_far.replies;
      answered = so_far.answered;
      last = [];
      ends = refl;
      output = sym (append-nil (responses 0 so_far.requests so_far.replies));
    },
    record { held = conn.held; comes = so_far.comes; reads = so_far.reads },
    record { count = sym (so_far.counted ∙ full); why = tt },
  ),
)

pub progress_closed : {S : Type 0} (left asked : S → Option (List ℕ)) (first s : S) (answers : Said) (input : List ℕ) (before now : Option (List ℕ)) (count : ℕ) (conn : Conn)
    → count < max_requests → conn.over ≡ true → Progress left asked first s answers input before now count conn
    → (written : List ℕ) × Appends before now written × ((whole : Whole answers input written) × Took left asked first s input whole.requests whole.ending whole.stream.rest × TellsEnd (record { requests = count; why = AtAClose }) whole.requests whole.ending)
progress_closed left asked first s answers input before now count conn lt over so_far = (
  responses 0 so_far.requests so_far.replies,
  so_far.wrote,
  (
    record {
      requests = so_far.requests;
      ending = Closed;
      stream = record { rest = so_far.rest; begins = so_far.begins; ends = (omega (arith, lt, so_far.counted), so_far.closed ∙ over) };
      replies = so_far.replies;
      answered = so_far.answered;
      last = [];
      ends = refl;
      output = sym (append-nil (responses 0 so_far.requests so_far.replies));
    },
    record { held = conn.held; comes = so_far.comes; reads = so_far.reads },
    record { count = sym so_far.counted; why = tt },
  ),
)

pub progress_starved : {S : Type 0} (left asked : S → Option (List ℕ)) (first s : S) (answers : Said) (input : List ℕ) (before now next : Option (List ℕ)) (count : ℕ) (conn : Conn)
    → Progress left asked first s answers input before now count conn → ((all : List ℕ) → Comes conn.held (left s) all → MayWriteInterim all now next)
    → (written : List ℕ) × Appends before next written × Starved answers input written
progress_starved left asked first s answers input before now next count conn so_far may =
    let wrote = may so_far.rest so_far.comes in (
      responses 0 so_far.requests so_far.replies ++ interim_if wrote.0,
      Appends-trans before now next (responses 0 so_far.requests so_far.replies) (interim_if wrote.0) so_far.wrote wrote.2,
      record { requests = so_far.requests; rest = so_far.rest; begins = so_far.begins; replies = so_far.replies; answered = so_far.answered; asked = wrote.0; was_due = wrote.1; output = refl },
    )

-- memory was wanting before the first request
pub starved_first : {S : Type 0} (left asked : S → Option (List ℕ)) (first : S) (answers : Said) (input : List ℕ) (before : Option (List ℕ)) → answers [] [] → left first ≡ Some input
    → (written : List ℕ) × Appends before before written × Starved answers input written
starved_first left asked first answers input before none told =
    progress_starved left asked first first answers input before before before 0 (record { held = []; over = false; continued = false }) (progress_start left asked first answers input before none told)
    (λ all comes. (false, (λ e. absurd (cc e)), nothing_appended before))

-- ---- a read that failed

some_is : (x y : List ℕ) → Some x ≡ Some y → x ≡ y
some_is x y e = cc e

pub progress_lost : {S : Type 0} (left asked : S → Option (List ℕ)) (first s s2 : S) (answers : Said) (input : List ℕ) (before now next : Option (List ℕ)) (count : ℕ) (conn : Conn) (held2 : List ℕ)
    → left first ≡ Some input → conn.over ≡ false → Progress left asked first s answers input before now count conn
    → ((all : List ℕ) → Comes conn.held (left s) all → Comes held2 (left s2) all × IsWaiting held2 × WritesInterim held2 now next)
    → (got : List ℕ) × (written : List ℕ) × Consumes (left first) (left s2) got × Appends before next written × Lost answers got written
progress_lost left asked first s s2 answers input before now next count conn held2 told still so_far lost =
    let here = lost so_far.rest so_far.comes in
    go (left first) (left s2) told here.0 here.1 here.2
  where
    go : (o p : Option (List ℕ)) → o ≡ Some input → Comes held2 p so_far.rest → IsWaiting held2 → WritesInterim held2 now next
        → (got : List ℕ) × (written : List ℕ) × Consumes o p got × Appends before next written × Lost answers got written
    go None p told comes waits wrote = absurd (cc told)
    go (Some x) None told comes waits wrote = absurd (cc comes)
    go (Some x) (Some y) told comes waits wrote =
        let rest : held2 ++ y ≡ so_far.rest = some_is (held2 ++ y) so_far.rest comes in
        let cut = begins_cut 0 input so_far.requests held2 y (subst (λ (l : List ℕ). Begins 0 input so_far.requests l) (sym rest) so_far.begins) in (
          cut.0,
          responses 0 so_far.requests so_far.replies ++ interim_if wrote.0,
          some_is x input told ∙ cut.1,
          Appends-trans before now next (responses 0 so_far.requests so_far.replies) (interim_if wrote.0) so_far.wrote wrote.2,
          record {
            requests = so_far.requests;
            stream = record { rest = held2; begins = cut.2; goes = so_far.closed ∙ still; waits = waits };
            replies = so_far.replies;
            answered = so_far.answered;
            due = wrote.0;
            is_due = wrote.1;
            output = refl;
          },
        )

-- ---- a write that failed

splits_last : (n : ℕ) (rs : List Request) (ps : List Reply) (r : Request) (p : Reply) → length ps ≡ length rs
    → SplitsLast n (rs ++ r ∷ []) (ps ++ p ∷ []) (responses n rs ps ++ interim_if r.expects) (response_of p (closes (n + length rs) r))
splits_last n [] [] r p same = (refl, ap (λ (k : ℕ). response_of p (closes k r)) (omega arith))
splits_last n [] (x ∷ ps) r p same = absurd (omega (arith, same))
splits_last n (q ∷ rs) [] r p same = absurd (omega (arith, same))
splits_last n (q ∷ []) (x ∷ []) r p same =
    (responses (n + 1) [] [] ++ interim_if r.expects, append_assoc (exchange_of n q x) (responses (n + 1) [] []) (interim_if r.expects), (refl, ap (λ (k : ℕ). response_of p (closes k r)) (omega arith)))
splits_last n (q ∷ []) (x ∷ y ∷ ps) r p same = absurd (omega (arith, same))
splits_last n (q ∷ q2 ∷ rs) (x ∷ ps) r p same =
    let e : n + 1 + length (q2 ∷ rs) ≡ n + length (q ∷ q2 ∷ rs) = omega arith in (
      responses (n + 1) (q2 ∷ rs) ps ++ interim_if r.expects,
      append_assoc (exchange_of n q x) (responses (n + 1) (q2 ∷ rs) ps) (interim_if r.expects),
      subst (λ (k : ℕ). SplitsLast (n + 1) ((q2 ∷ rs) ++ r ∷ []) (ps ++ p ∷ []) (responses (n + 1) (q2 ∷ rs) ps ++ interim_if r.expects) (response_of p (closes k r))) e
          (splits_last (n + 1) (q2 ∷ rs) ps r p (omega (arith, same))),
    )

-- what was written, and what is written behind it and cut
cut_behind : (before now next : Option (List ℕ)) (done front part : List ℕ) → Appends before now done → Appends now next (front ++ part) → Appends before next ((done ++ front) ++ part)
cut_behind before now next done front part wrote more =
    subst (λ (l : List ℕ). Appends before next l) (sym (append_assoc done front part)) (Appends-trans before now next done (front ++ part) wrote more)

-- the response to one request more was cut, that to a bad place, or the interim response
pub progress_cut : {S : Type 0} (left asked : S → Option (List ℕ)) (first s s2 : S) (answers answers2 : Said) (one : Request → Reply → Type 0) (input : List ℕ) (before now next : Option (List ℕ)) (count n : ℕ) (conn : Conn) (close : Bool)
    → count < max_requests → conn.over ≡ false → Progress left asked first s answers input before now count conn → GoesOnBy answers one answers2 → LastRead left asked conn.held s s2 (NeedsMore true)
    → ((all : List ℕ) → Comes conn.held (left s) all
    → CutsReply one n all now next close
    ⊎ ((CutsRefusal n all now next ⊎ CutsInterim (LastRead left asked conn.held s s2 (NeedsMore false)) n all now next) × ((qs : List Request) (rs : List Reply) → answers qs rs → answers2 qs rs)))
    → close ≡ (count + 1 == max_requests) → (written : List ℕ) × Appends before next written × CutOff asked first s2 answers2 input written n
progress_cut left asked first s s2 answers answers2 one input before now next count n conn close lt still so_far more last cuts is = go (cuts so_far.rest so_far.comes)
  where
    go : CutsReply one n so_far.rest now next close
        ⊎ ((CutsRefusal n so_far.rest now next ⊎ CutsInterim (LastRead left asked conn.held s s2 (NeedsMore false)) n so_far.rest now next) × ((qs : List Request) (rs : List Reply) → answers qs rs → answers2 qs rs))
        → (written : List ℕ) × Appends before next written × CutOff asked first s2 answers2 input written n
    go (inl one) =
        let closing : (one.request.close || close) ≡ closes (0 + length so_far.requests) one.request =
        ap (λ (k : Bool). one.request.close || k) (is ∙ ap (λ (k : ℕ). k + 1 == max_requests) (omega (arith, so_far.counted))) in
        let done : List ℕ = responses 0 so_far.requests so_far.replies in
        let bytes : List ℕ = response_of one.reply (closes (0 + length so_far.requests) one.request) in
        let cut : CutBehind (interim_if one.request.expects) n bytes now next = subst (λ (k : Bool). CutBehind (interim_if one.request.expects) n (response_of one.reply k) now next) closing one.cut in (
          (done ++ interim_if one.request.expects) ++ take n bytes,
          cut_behind before now next done (interim_if one.request.expects) (take n bytes) so_far.wrote cut.1,
          record {
            requests = so_far.requests ++ one.request ∷ [];
            rest = one.rest;
            begins = begins_push 0 input so_far.requests so_far.rest one.request one.rest so_far.begins (omega (arith, lt, so_far.counted)) (so_far.closed ∙ still) one.is;
            replies = so_far.replies ++ one.reply ∷ [];
            answered = more so_far.requests so_far.replies one.request one.reply so_far.paired so_far.answered one.answered;
            before = done ++ interim_if one.request.expects;
            last = bytes;
            cut = inl (
              splits_last 0 so_far.requests so_far.replies one.request one.reply so_far.paired,
              reads_more left asked first s s2 input so_far.requests one.request so_far.rest conn.held so_far.begins so_far.comes last so_far.reads,
            );
            within = cut.0;
            output = refl;
          },
        )
    go (inr (inl one, same)) =
        let done : List ℕ = responses 0 so_far.requests so_far.replies in (
          (done ++ interim_if one.due) ++ take n (response_of one.said true),
          cut_behind before now next done (interim_if one.due) (take n (response_of one.said true)) so_far.wrote one.cut.1,
          record {
            requests = so_far.requests;
            rest = so_far.rest;
            begins = so_far.begins;
            replies = so_far.replies;
            answered = same so_far.requests so_far.replies so_far.answered;
            before = done ++ interim_if one.due;
            last = response_of one.said true;
            cut = inr (
              so_far.closed ∙ still,
              inl (
                record { wanted = one.wanted; bad = one.bad; due = one.due; is_due = one.is_due; front = refl; said = one.said; replied = one.replied; response = refl },
                reads_behind left asked true first s s2 input so_far.requests so_far.rest conn.held so_far.begins so_far.comes last so_far.reads,
              ),
            );
            within = one.cut.0;
            output = refl;
          },
        )
    go (inr (inr one, same)) =
        let done : List ℕ = responses 0 so_far.requests so_far.replies in (
          done ++ take n interim_bytes,
          Appends-trans before now next done (take n interim_bytes) so_far.wrote one.2.1,
          record {
            requests = so_far.requests;
            rest = so_far.rest;
            begins = so_far.begins;
            replies = so_far.replies;
            answered = same so_far.requests so_far.replies so_far.answered;
            before = done;
            last = interim_bytes;
            cut = inr (
              so_far.closed ∙ still,
              inr (
                record { due = one.1; front = refl; response = refl },
                reads_behind left asked false first s s2 input so_far.requests so_far.rest conn.held so_far.begins so_far.comes one.0 so_far.reads,
              ),
            );
            within = one.2.0;
            output = refl;
          },
        )

-- ---- where nothing was done in a turn

pub same_held : {S : Type 0} (left asked : S → Option (List ℕ)) (first s : S) (answers answers2 : Said) (input : List ℕ) (before now next : Option (List ℕ)) (count : ℕ) (conn : Conn)
    → next ≡ now → ((qs : List Request) (rs : List Reply) → answers qs rs → answers2 qs rs) → Progress left asked first s answers input before now count conn → Progress left asked first s answers2 input before next count conn
same_held left asked first s answers answers2 input before now next count conn same still so_far = record {
  requests = so_far.requests;
  replies = so_far.replies;
  rest = so_far.rest;
  counted = so_far.counted;
  paired = so_far.paired;
  comes = so_far.comes;
  closed = so_far.closed;
  begins = so_far.begins;
  answered = still so_far.requests so_far.replies so_far.answered;
  wrote = subst (λ (k : Option (List ℕ)). Appends before k (responses 0 so_far.requests so_far.replies)) (sym same) so_far.wrote;
  reads = so_far.reads;
}
