-- What is said of a session is said in any other words that its requests and replies have.
use Rattle.std.proofs.Common.{ℕ, List, Option, Result, Ok, Err}
use Rattle.rest_codes.specs.declared.response.Reply.{Reply}
use Rattle.http_conn.specs.declared.request.ConnNo.{ConnNo}
use Rattle.http_conn.specs.declared.request.ConnNo.TheVariants.{ReadFault, WriteFault, Want}
use Rattle.http_conn.specs.declared.request.Request.{Request}
use Rattle.proxy_cli.specs.Session.{EndsSo, Serves, ServesFirst, ServesSome, ServesUntil}
use Rattle.proxy_cli.specs.declared.ended.Ended.{Ended}
use Rattle.proxy_cli.proofs.Progress.{Said}

module _ (answers answers2 : Said) (so : (qs : List Request) (rs : List Reply) → answers qs rs → answers2 qs rs) where
  end_so : {S : Type 0} (left asked : S → Option (List ℕ)) (old new : S) (ended : Ended) (held held2 : Option (List ℕ)) → EndsSo ended left asked old new answers held held2 → EndsSo ended left asked old new answers2 held held2
  end_so left asked old new ended held held2 said = λ input is.
      let x = said input is in
      let w = x.2.0 in (
        x.0,
        x.1,
        (
          record { requests = w.requests; ending = w.ending; stream = w.stream; replies = w.replies; answered = so w.requests w.replies w.answered; last = w.last; ends = w.ends; output = w.output },
          x.2.1,
          x.2.2,
        ),
      )

  some_so : (left left2 held held2 : Option (List ℕ)) → ServesSome answers left left2 held held2 → ServesSome answers2 left left2 held held2
  some_so left left2 held held2 said = λ input is.
      let x = said input is in
      let w = x.4 in
      (x.0, x.1, x.2, x.3, record { requests = w.requests; stream = w.stream; replies = w.replies; answered = so w.requests w.replies w.answered; due = w.due; is_due = w.is_due; output = w.output })

  first_so : (left held held2 : Option (List ℕ)) → ServesFirst answers left held held2 → ServesFirst answers2 left held held2
  first_so left held held2 said = λ input is.
      let x = said input is in
      let w = x.2 in
      (x.0, x.1, record { requests = w.requests; rest = w.rest; begins = w.begins; replies = w.replies; answered = so w.requests w.replies w.answered; asked = w.asked; was_due = w.was_due; output = w.output })

  until_so : {S : Type 0} (left asked : S → Option (List ℕ)) (old new : S) (held held2 : Option (List ℕ)) (n : ℕ) → ServesUntil left asked old new answers held held2 n → ServesUntil left asked old new answers2 held held2 n
  until_so left asked old new held held2 n said = λ input is.
      let x = said input is in
      let w = x.2 in
      (x.0, x.1, record { requests = w.requests; rest = w.rest; begins = w.begins; replies = w.replies; answered = so w.requests w.replies w.answered; before = w.before; last = w.last; cut = w.cut; within = w.within; output = w.output })

  pub serves_so : {S : Type 0} (left asked : S → Option (List ℕ)) (old new : S) (held held2 : Option (List ℕ)) (served : Result Ended ConnNo)
      → Serves left asked old new answers held held2 served → Serves left asked old new answers2 held held2 served
  serves_so left asked old new held held2 (Ok ended) said = end_so left asked old new ended held held2 said
  serves_so left asked old new held held2 (Err ReadFault) said = some_so (left old) (left new) held held2 said
  serves_so left asked old new held held2 (Err (WriteFault n)) said = until_so left asked old new held held2 n said
  serves_so left asked old new held held2 (Err Want) said = first_so (left old) held held2 said
