-- A connection whose turn failed.
use Rattle.std.proofs.Common.{◌≡◌, ◌<◌, ◌+◌, ℕ, List, Bool, true, false, Option, Some, Err, refl, inl, inr}
use Rattle.std.specs.Prelude.{◌==◌}
use Rattle.http_conn.specs.declared.request.ConnNo.{ConnNo}
use Rattle.http_conn.specs.declared.request.ConnNo.TheVariants.{ReadFault, WriteFault, Want}
use Rattle.http_conn.specs.declared.request.Request.{Request}
use Rattle.http_conn.specs.Next.{NeedsMore}
use Rattle.http_conn.specs.Stream.{max_requests}
use Rattle.http_conn.specs.Told.{Conn, LastRead}
use Rattle.rest_codes.specs.declared.response.Reply.{Reply}
use Rattle.proxy_cli.specs.Session.{Serves}
use Rattle.proxy_cli.specs.Exchange.{Turns}
use Rattle.proxy_cli.proofs.Progress.{GoesOnBy, Progress, Said, progress_cut, progress_lost, progress_starved, same_held}

pub serves_failed : {S : Type 0} (left asked : S → Option (List ℕ)) (first s s2 : S) (answers answers2 : Said) (one : Request → Reply → Type 0) (idle : Type 0) (before now next : Option (List ℕ)) (count : ℕ) (conn conn2 : Conn) (close : Bool)
    → count < max_requests → conn.over ≡ false → ((input : List ℕ) → left first ≡ Some input → Progress left asked first s answers input before now count conn)
    → GoesOnBy answers one answers2 → (idle → (qs : List Request) (rs : List Reply) → answers qs rs → answers2 qs rs) → LastRead left asked conn.held s s2 (NeedsMore true) → close ≡ (count + 1 == max_requests)
    → (e : ConnNo) → Turns one idle (LastRead left asked conn.held s s2 (NeedsMore false)) conn conn2 (left s) (left s2) now next close (Err e) → Serves left asked first s2 answers2 before next (Err e)
serves_failed left asked first s s2 answers answers2 one idle before now next count conn conn2 close lt still so_far more same last is (WriteFault n) turn = λ input told.
    progress_cut left asked first s s2 answers answers2 one input before now next count n conn close lt still (so_far input told) more last
    (λ all comes. elim (turn all comes) [
      | inl reply ↦ inl reply
      | inr refusal ↦ inr (refusal.0, same refusal.1)
    ]) is
serves_failed left asked first s s2 answers answers2 one idle before now next count conn conn2 close lt still so_far more same last is ReadFault turn = λ input told.
    progress_lost left asked first s s2 answers2 input before now next count conn conn2.held told still
    (same_held left asked first s answers answers2 input before now now count conn refl (same turn.0) (so_far input told)) turn.1
serves_failed left asked first s s2 answers answers2 one idle before now next count conn conn2 close lt still so_far more same last is Want turn = λ input told.
    progress_starved left asked first s answers2 input before now next count conn
    (same_held left asked first s answers answers2 input before now now count conn refl (same turn.0) (so_far input told)) turn.1
