-- What stands at the front of what is held, once a head was read or there is none.
use Rattle.std.specs.Prelude.{◌≡◌, ℕ, List, [], Option}
use Rattle.std.specs.Io.KnownBytes.{IsAtEnd}
use Rattle.httparse.specs.declared.spans.HeaderSpan.{HeaderSpan}
use Rattle.http_conn.specs.Stream.{IsBadHead, IsCutHead}
use Rattle.http_head.specs.Parts.{IsHead}
use Rattle.http_conn.specs.declared.connection.Front.{Front}
use Rattle.http_conn.specs.declared.connection.Front.TheVariants.{Whole, Bad, Cut, End}

-- the front is what was found
abbrev pub FrontIs : List ℕ → List HeaderSpan → Option (List ℕ) → Front → Type 0
FrontIs held headers left (Whole head) = IsHead held headers head
FrontIs held headers left (Bad code) = IsBadHead held code
FrontIs held headers left Cut = IsCutHead held × IsAtEnd left
FrontIs held headers left End = (held ≡ []) × IsAtEnd left
