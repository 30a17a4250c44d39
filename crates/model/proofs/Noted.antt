-- One step more: entries that stand for a history stand for the one that goes on by it.
use Rattle.std.proofs.Common.{ℕ, List, [], ◌∷◌, ◌++◌, refl, arith, Option}
use Rattle.std.specs.Prelude.{ℤ}
use Rattle.model.specs.state.Log.{Log, IsLog, TopicPart}
use Rattle.model.specs.state.World.{Format, World, nobody}
use Rattle.model.specs.state.Forms.{Showing}
use Rattle.model.specs.state.Entry.{Entry}
use Rattle.model.specs.history.Legal.{Counts, no_tally}
use Rattle.model.specs.history.Nodes.{Heard}
use Rattle.model.specs.history.Noted.{Noted, IsWritten, AreWritten, StandsFor, Stepped}
use Rattle.model.proofs.Causes.{caused_is_paid}

written_more : (advertise : List ℕ) (shown : List (List ℕ) → Format → Option (List ℕ) → Showing) (noted : List Noted) (history : List Entry) (n : Noted) (e : Entry)
    → AreWritten advertise shown noted history → IsWritten advertise shown n e → AreWritten advertise shown (noted ++ n ∷ []) (history ++ e ∷ [])
written_more advertise shown [] [] n e are is = (is, tt)
written_more advertise shown [] (x ∷ history) n e are is = absurd are
written_more advertise shown (m ∷ noted) [] n e are is = absurd are
written_more advertise shown (m ∷ noted) (x ∷ history) n e are is = (are.0, written_more advertise shown noted history n e are.1 is)

pub stands_more : (idle : ℕ) (advertise : List ℕ) (shown : List (List ℕ) → Format → Option (List ℕ) → Showing) (counts : Counts) (held : ℕ) (noted : List Noted) (w : World) (l : Log)
    (counts2 : Counts) (answered answered2 : List ℤ) (held2 : ℕ) (last : ℤ) (heard : Heard) (given unfixed : Option (List TopicPart)) (e : Noted) (l2 : Log) (w2 : World)
    → StandsFor idle advertise shown counts held noted w l → Stepped idle advertise shown counts counts2 answered answered2 held held2 last heard given unfixed w l e l2 w2
    → StandsFor idle advertise shown counts2 held2 (noted ++ e ∷ []) w2 l2
stands_more idle advertise shown counts held noted w l counts2 answered answered2 held2 last heard given unfixed e l2 w2 stands stepped = record {
  history = stands.history ++ stepped.entry ∷ [];
  legal = caused_is_paid idle counts held stands.history w l stepped.entry l2 w2 counts2 held2 last stepped.codes stands.legal stepped.step stepped.caused stepped.granted;
  written = written_more advertise shown noted stands.history e stepped.entry stands.written stepped.written;
}

pub stands_first : (idle : ℕ) (advertise : List ℕ) (shown : List (List ℕ) → Format → Option (List ℕ) → Showing) (counts : Counts) (l : Log) → IsLog l → StandsFor idle advertise shown counts 0 [] nobody l
stands_first idle advertise shown counts l log = record {
  history = [];
  legal = record {
    legal = record {
      first = l;
      log = log;
      tally = no_tally;
      run = (refl, refl, refl);
      paid = record { faults_paid = omega arith; refusals_paid = omega arith; short_paid = omega arith; placed_paid = omega arith; looks_paid = omega arith };
    };
    spare = omega arith;
  };
  written = tt;
}
