-- Sending the response to a reply.
use Rattle.std.proofs.Common.{◌≡◌, ℕ, List, Bool, Option, Result, Ok, Err, refl, subst}
use Rattle.std.specs.Prelude.{OnOk, OnErr}
use Rattle.std.specs.Io.KnownBytes.{Appends}
use Rattle.http_conn.specs.declared.request.ConnNo.{ConnNo}
use Rattle.http_conn.specs.declared.request.ConnNo.TheVariants.{ReadFault, WriteFault, Want}
use Rattle.rest_codes.specs.Response.{response_of}
use Rattle.rest_codes.specs.declared.response.Reply.{Reply}
use Rattle.proxy_cli.specs.Exchange.{CutAt, Sends}

-- its bytes were written, or the first of them
pub sends_bytes : (says : Reply → Type 0) (close : Bool) (before now : Option (List ℕ)) (said : Reply) (bytes : List ℕ) → says said → bytes ≡ response_of said close → (sent : Result Unit ConnNo)
    → OnOk sent (Appends before now bytes) → ((n : ℕ) → sent ≡ Err (WriteFault n) → CutAt n bytes before now) → OnErr sent ((n : ℕ) × (sent ≡ Err (WriteFault n))) → Sends says close before now sent
sends_bytes says close before now said bytes so is (Ok done) ok cut only = (said, so, subst (λ (b : List ℕ). Appends before now b) is ok)
sends_bytes says close before now said bytes so is (Err (WriteFault n)) ok cut only = (said, so, subst (λ (b : List ℕ). CutAt n b before now) is (cut n refl))
sends_bytes says close before now said bytes so is (Err ReadFault) ok cut only = absurd (let e = only.1 in cc)
sends_bytes says close before now said bytes so is (Err Want) ok cut only = absurd (let e = only.1 in cc)

-- what is so of a reply is so in other words
pub sends_so : (says says2 : Reply → Type 0) → ((r : Reply) → says r → says2 r) → (close : Bool) (before now : Option (List ℕ)) (sent : Result Unit ConnNo) → Sends says close before now sent → Sends says2 close before now sent
sends_so says says2 so close before now (Ok done) x = (x.0, so x.0 x.1, x.2)
sends_so says says2 so close before now (Err (WriteFault n)) x = (x.0, so x.0 x.1, x.2)
sends_so says says2 so close before now (Err ReadFault) x = x
sends_so says says2 so close before now (Err Want) x = x
