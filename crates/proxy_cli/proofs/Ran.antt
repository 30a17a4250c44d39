-- What a run of a session owes, by how its words read and how its requests were served.
use Rattle.std.proofs.Common.{◌≡◌, ◌∙◌, ℕ, List, refl, sym, arith, inl, inr, Option, Some, None, Result, Ok, Err}
use Rattle.gate_io.specs.Clocks.{Hand}
use Rattle.gate_io.specs.Counts.{Rose}
use Rattle.http_conn.specs.declared.request.ConnNo.{ConnNo}
use Rattle.http_conn.specs.declared.request.ConnNo.TheVariants.{ReadFault, WriteFault, Want}
use Rattle.command_words.specs.Words.{words_of}
use Rattle.command_words.specs.declared.words.Command.{Command}
use Rattle.proxy_cli.specs.Causes.{SinkFailed}
use Rattle.proxy_cli.specs.Program.{SessionRan}
use Rattle.proxy_cli.specs.Session.{IsRunOf, Serves}
use Rattle.proxy_cli.specs.Status.{served_status}
use Rattle.proxy_cli.specs.declared.ended.Ended.{Ended}

module _ {S K C : Type 0} (left asked : S → Option (List ℕ)) (broken : S → ℕ) (held : K → Option (List ℕ)) (failed stalled : K → ℕ) (ticks : C → Type 0) (hand : C → Hand) (given : List (List ℕ)) where
  -- words that don't read, or find no memory
  pub unread_ran : (source : S) (sink : K) (clock : C) → words_of given ≡ None → SessionRan left asked broken held failed stalled ticks hand given source source sink sink clock clock 2
  unread_ran source sink clock none = record {
    output = λ e. absurd (omega (arith, e));
    lost = λ e. absurd (omega (arith, e));
    cut = λ e. absurd (omega (arith, e));
    starved = λ e. absurd (omega (arith, e));
    words = λ e. none;
    unread = λ e. inl refl;
    untouched = λ e. (refl, refl);
    read = λ e. absurd (omega (arith, e));
    write = λ e. absurd (omega (arith, e));
    known = inr (inl refl);
  }

  pub wanting_ran : (source : S) (sink : K) (clock : C) → SessionRan left asked broken held failed stalled ticks hand given source source sink sink clock clock 7
  wanting_ran source sink clock = record {
    output = λ e. absurd (omega (arith, e));
    lost = λ e. absurd (omega (arith, e));
    cut = λ e. absurd (omega (arith, e));
    starved = λ e. inl refl;
    words = λ e. absurd (omega (arith, e));
    unread = λ e. inr refl;
    untouched = λ e. (refl, refl);
    read = λ e. absurd (omega (arith, e));
    write = λ e. absurd (omega (arith, e));
    known = inr (inr (inr (inr refl)));
  }

  -- words that read as a command, by which requests were served
  pub command_ran : (source source2 : S) (sink sink2 : K) (clock clock2 : C) (command : Command) → words_of given ≡ Some command → (served : Result Ended ConnNo)
      → IsRunOf command (ticks clock) (hand clock) (hand clock2) (λ answers. Serves left asked source source2 answers (held sink) (held sink2) served)
      → (served ≡ Err ReadFault → Rose (broken source) (broken source2)) → ((n : ℕ) → served ≡ Err (WriteFault n) → SinkFailed failed stalled sink sink2)
      → SessionRan left asked broken held failed stalled ticks hand given source source2 sink sink2 clock clock2 (served_status served)
  command_ran source source2 sink sink2 clock clock2 command is (Ok ended) run read write = record {
    output = λ e. (
      command,
      is,
      (
        run.0,
        run.1,
        λ input told.
            let x = run.2 input told in
            (x.0, x.1, (x.2.0, x.2.1)),
      ),
    );
    lost = λ e. absurd (omega (arith, e));
    cut = λ e. absurd (omega (arith, e));
    starved = λ e. absurd (omega (arith, e));
    words = λ e. absurd (omega (arith, e));
    unread = λ none. absurd (let both : Some command ≡ None = sym is ∙ none in cc);
    untouched = λ none. absurd (let both : Some command ≡ None = sym is ∙ none in cc);
    read = λ e. absurd (omega (arith, e));
    write = λ e. absurd (omega (arith, e));
    known = inl refl;
  }
  command_ran source source2 sink sink2 clock clock2 command is (Err ReadFault) run read write = record {
    output = λ e. absurd (omega (arith, e));
    lost = λ e. (command, is, run);
    cut = λ e. absurd (omega (arith, e));
    starved = λ e. absurd (omega (arith, e));
    words = λ e. absurd (omega (arith, e));
    unread = λ none. absurd (let both : Some command ≡ None = sym is ∙ none in cc);
    untouched = λ none. absurd (let both : Some command ≡ None = sym is ∙ none in cc);
    read = λ e. read refl;
    write = λ e. absurd (omega (arith, e));
    known = inr (inr (inl refl));
  }
  command_ran source source2 sink sink2 clock clock2 command is (Err (WriteFault n)) run read write = record {
    output = λ e. absurd (omega (arith, e));
    lost = λ e. absurd (omega (arith, e));
    cut = λ e. (command, is, (run.0, run.1, (n, run.2)));
    starved = λ e. absurd (omega (arith, e));
    words = λ e. absurd (omega (arith, e));
    unread = λ none. absurd (let both : Some command ≡ None = sym is ∙ none in cc);
    untouched = λ none. absurd (let both : Some command ≡ None = sym is ∙ none in cc);
    read = λ e. absurd (omega (arith, e));
    write = λ e. write n refl;
    known = inr (inr (inr (inl refl)));
  }
  command_ran source source2 sink sink2 clock clock2 command is (Err Want) run read write = record {
    output = λ e. absurd (omega (arith, e));
    lost = λ e. absurd (omega (arith, e));
    cut = λ e. absurd (omega (arith, e));
    starved = λ e. inr (command, is, run);
    words = λ e. absurd (omega (arith, e));
    unread = λ none. absurd (let both : Some command ≡ None = sym is ∙ none in cc);
    untouched = λ none. absurd (let both : Some command ≡ None = sym is ∙ none in cc);
    read = λ e. absurd (omega (arith, e));
    write = λ e. absurd (omega (arith, e));
    known = inr (inr (inr (inr refl)));
  }
