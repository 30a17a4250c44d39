use Rattle.std.proofs.Common.{◌≡◌, ◌∙◌, ◌≤◌, ◌+◌, ◌++◌, ap, Err, arith, refl, length, drop, sym, subst, List, ℕ, length-append, length-drop}
use Rattle.std.specs.Prelude.{slice_range}
use Rattle.http_head.specs.declared.fields.Framing.TheVariants.{Chunks}
use Rattle.body_read.specs.Chunks.{Outcome, Piece, PieceAt}
use Rattle.body_read.proofs.BodyLaws.{IsReached, reached_start, chunk_fits}
use Rattle.http_conn.specs.declared.request.ConnNo.TheVariants.{ReadFault}
use Rattle.http_conn.specs.Body.{EndsInPart, IsCutAt, BodyFound, PartFound}
use Rattle.http_conn.specs.declared.body.Found.{Found}
use Rattle.body_read.specs.declared.part.Part.{Part}
use Rattle.body_read.specs.declared.part.Part.TheVariants as part
use Rattle.std.proofs.lemmas.List.{drop-drop}
use Rattle.http_conn.proofs.PatientLemmas.{never_read, read_on}
use Rattle.http_conn.proofs.BodyLemmas.{behind_same, behind_more, behind_long, reached_next, reached_out, part_cut, prompt_stays}
use Rattle.http_conn.proofs.body.read_chunks.Goals as goal

pub parts-init : goal.parts-init
parts-init g c = record {
  same = λ all is. is;
  behind = behind_same c.args.held.now;
  begins = c.requires.place;
  fits = c.requires.place;
  small = omega (arith, ap length c.new-body.ensures.items);
  reached =
      subst (λ (b : List ℕ). IsReached (drop c.args.first c.args.held.now) b (drop c.args.first c.args.held.now)) (sym c.new-body.ensures.items)
      (reached_start (drop c.args.first c.args.held.now));
  patient = never_read g.S.Source.left g.S.Source.asked c.args.held.now c.args.source.now c.args.source.now (IsCutAt Chunks c.args.first c.args.held.now) refl;
  prompt = λ body rest is. (refl, refl);
  faults = omega arith;
  beside = g.met.S.Source.beside_same c.args.source.now;
}

pub parts-preserved : goal.parts-preserved
parts-preserved g c =
    let was = c.parts.invariant in
    let sum : c.count.result ≡ length c.parts.body.items = c.count.ensures in
    let read = c.in-Ok-Chunk.ensures in
    let new : List ℕ = c.fill_part.new.held in
    let rest : List ℕ = drop c.parts.place new in
    let body : List ℕ = c.parts.body.items in
    let left = g.S.Source.left c.fill_part.new.source in
    let start : ℕ = c.in-Ok-Chunk.start in
    let end : ℕ = c.in-Ok-Chunk.end in
    let found : PartFound c.count.result rest left (part.Chunk start end) = subst (λ (p : Part). PartFound c.count.result rest left p) c.in-Ok-Chunk.field-0-is c.in-Ok-Chunk.ensures.part in
    let slice : List ℕ = slice_range rest start end in
    let piece : PieceAt (length body) rest (Piece.Chunk slice (drop (end + 2) rest)) = subst (λ (n : ℕ). PieceAt n rest (Piece.Chunk slice (drop (end + 2) rest))) sum found.2 in
    let gathered = c.in_ok-place-in-Ok-Chunk.ensures in
    let items : c.gather.new.body.items ≡ body ++ slice = gathered.value in
    let next : c.in_ok-place-in-Ok-Chunk.place ≡ c.parts.place + (end + 2) = gathered.place in
    let longer = behind_long c.parts.held new read.behind in
    let reached = reached_next c.args.first c.parts.place start end body c.parts.held new was.begins was.fits was.reached read.behind piece in
    let placed : IsReached (drop c.args.first new) (body ++ slice) (drop c.in_ok-place-in-Ok-Chunk.place new) =
    subst (λ (n : ℕ). IsReached (drop c.args.first new) (body ++ slice) (drop n new)) (sym next) reached in
    record {
      same = λ all is. read.same all (was.same all is);
      behind = behind_more c.args.held.now c.parts.held new was.behind read.behind;
      begins = omega (arith, was.begins, longer);
      fits = omega (arith, next, found.1, length-drop c.parts.place new, was.fits, longer);
      small = omega (arith, ap length items, length-append body slice, chunk_fits (length body) rest slice (drop (end + 2) rest) piece);
      reached = subst (λ (b : List ℕ). IsReached (drop c.args.first new) b (drop c.in_ok-place-in-Ok-Chunk.place new)) (sym items) placed;
      patient =
          read_on g.S.Source.left g.S.Source.asked c.args.held.now c.parts.held c.args.source.now c.parts.source c.fill_part.new.source
          (EndsInPart c.count.result c.parts.place c.parts.held) (IsCutAt Chunks c.args.first c.args.held.now) was.patient was.same c.fill_part.ensures.patient
          (λ l cut. part_cut c.args.first c.parts.place c.parts.body.items c.args.held.now c.parts.held l was.begins was.fits was.reached was.behind (subst (λ (n : ℕ). EndsInPart n c.parts.place c.parts.held l) sum cut));
      prompt =
          prompt_stays c.args.first c.parts.place c.parts.body.items c.args.held.now c.parts.held c.fill_part.new.held c.args.source.now c.parts.source c.fill_part.new.source was.begins was.fits was.reached was.prompt
          (λ none. c.fill_part.ensures.prompt (λ cut. none (subst (λ (n : ℕ). PieceAt n (drop c.parts.place c.parts.held) Piece.Cut) sum cut)));
      faults = omega (arith, was.faults, read.counts);
      beside = g.met.S.Source.beside_later c.args.source.now c.parts.source c.fill_part.new.source was.beside read.beside;
    }

pub gather-requires : goal.gather-requires
gather-requires g c =
    let was = c.parts.invariant in
    let sum : c.count.result ≡ length c.parts.body.items = c.count.ensures in
    let new : List ℕ = c.fill_part.new.held in
    let rest : List ℕ = drop c.parts.place new in
    let body : List ℕ = c.parts.body.items in
    let left = g.S.Source.left c.fill_part.new.source in
    let found : PartFound c.count.result rest left (part.Chunk c.in-Ok-Chunk.start c.in-Ok-Chunk.end) = subst (λ (p : Part). PartFound c.count.result rest left p) c.in-Ok-Chunk.field-0-is c.in-Ok-Chunk.ensures.part in
    let longer = behind_long c.parts.held new c.in-Ok-Chunk.ensures.behind in
    (found.0, omega (arith, found.1, length-drop c.parts.place new, was.fits, longer))

pub whole-requires : goal.whole-requires
whole-requires g c =
    let was = c.parts.invariant in
    let sum : c.count.result ≡ length c.parts.body.items = c.count.ensures in
    let new : List ℕ = c.fill_part.new.held in
    let rest : List ℕ = drop c.parts.place new in
    let body : List ℕ = c.parts.body.items in
    let left = g.S.Source.left c.fill_part.new.source in
    let found : PartFound c.count.result rest left (part.Last c.in-Ok-Last.size) = subst (λ (p : Part). PartFound c.count.result rest left p) c.in-Ok-Last.field-0-is c.in-Ok-Last.ensures.part in
    let longer = behind_long c.parts.held new c.in-Ok-Last.ensures.behind in
    omega (arith, found.0, length-drop c.parts.place new, was.fits, longer)

pub returns-in-Ok-Last-clause-found : goal.returns-in-Ok-Last-clause-found
returns-in-Ok-Last-clause-found g c =
    let was = c.parts.invariant in
    let sum : c.count.result ≡ length c.parts.body.items = c.count.ensures in
    let new : List ℕ = c.fill_part.new.held in
    let rest : List ℕ = drop c.parts.place new in
    let body : List ℕ = c.parts.body.items in
    let left = g.S.Source.left c.fill_part.new.source in
    let size : ℕ = c.in-Ok-Last.size in
    let found : PartFound c.count.result rest left (part.Last size) = subst (λ (p : Part). PartFound c.count.result rest left p) c.in-Ok-Last.field-0-is c.in-Ok-Last.ensures.part in
    let longer = behind_long c.parts.held new c.in-Ok-Last.ensures.behind in
    let piece : PieceAt (length body) rest (Piece.Last (drop size rest)) = subst (λ (n : ℕ). PieceAt n rest (Piece.Last (drop size rest))) sum found.1 in
    let last : PieceAt (length body) rest (Piece.Last (drop (c.parts.place + size) new)) = subst (λ (r : List ℕ). PieceAt (length body) rest (Piece.Last r)) (drop-drop size c.parts.place new) piece in
    let fits : c.parts.place + size ≤ length new = omega (arith, found.0, length-drop c.parts.place new, was.fits, longer) in
    let whole = reached_out c.args.first c.parts.place body c.parts.held new (Outcome.Whole body (drop (c.parts.place + size) new)) was.begins was.fits was.reached c.in-Ok-Last.ensures.behind (last, refl) in
    subst (λ (f : Found). BodyFound Chunks c.args.first new left f) (sym c.whole.ensures) (fits, whole)

pub returns-in-Ok-Bad-clause-found : goal.returns-in-Ok-Bad-clause-found
returns-in-Ok-Bad-clause-found g c =
    let was = c.parts.invariant in
    let sum : c.count.result ≡ length c.parts.body.items = c.count.ensures in
    let new : List ℕ = c.fill_part.new.held in
    let rest : List ℕ = drop c.parts.place new in
    let body : List ℕ = c.parts.body.items in
    let left = g.S.Source.left c.fill_part.new.source in
    let found : PartFound c.count.result rest left (part.Bad c.in-Ok-Bad.code) = subst (λ (p : Part). PartFound c.count.result rest left p) c.in-Ok-Bad.field-0-is c.in-Ok-Bad.ensures.part in
    reached_out c.args.first c.parts.place body c.parts.held new (Outcome.Refused c.in-Ok-Bad.code) was.begins was.fits was.reached c.in-Ok-Bad.ensures.behind
    (subst (λ (n : ℕ). PieceAt n rest (Piece.Bad c.in-Ok-Bad.code)) sum found)

pub returns-in-Ok-Cut-clause-found : goal.returns-in-Ok-Cut-clause-found
returns-in-Ok-Cut-clause-found g c =
    let was = c.parts.invariant in
    let sum : c.count.result ≡ length c.parts.body.items = c.count.ensures in
    let new : List ℕ = c.fill_part.new.held in
    let rest : List ℕ = drop c.parts.place new in
    let body : List ℕ = c.parts.body.items in
    let left = g.S.Source.left c.fill_part.new.source in
    let found : PartFound c.count.result rest left (part.Cut) = subst (λ (p : Part). PartFound c.count.result rest left p) c.in-Ok-Cut.field-0-is c.in-Ok-Cut.ensures.part in (
      reached_out c.args.first c.parts.place body c.parts.held new Outcome.Short was.begins was.fits was.reached c.in-Ok-Cut.ensures.behind (subst (λ (n : ℕ). PieceAt n rest Piece.Cut) sum found.0.0),
      found.1,
    )

pub returns-in-Err-clause-lost : goal.returns-in-Err-clause-lost
returns-in-Err-clause-lost g c = λ failed.
    let was = c.parts.invariant in
    let sum : c.count.result ≡ length c.parts.body.items = c.count.ensures in
    let no : c.in-Err.no ≡ ReadFault = cc in
    let lost = c.fill_part.ensures.lost (c.in-Err.is ∙ ap (λ e. Err e) no) in (
      part_cut c.args.first c.parts.place c.parts.body.items c.args.held.now c.parts.held c.fill_part.new.held was.begins was.fits was.reached was.behind
          (subst (λ (n : ℕ). EndsInPart n c.parts.place c.parts.held c.fill_part.new.held) sum lost.0),
      λ all comes. lost.1 all (was.same all comes),
    )

pub returns-in-Ok-Last-clause-patient : goal.returns-in-Ok-Last-clause-patient
returns-in-Ok-Last-clause-patient g c =
    let was = c.parts.invariant in
    let sum : c.count.result ≡ length c.parts.body.items = c.count.ensures in
    read_on g.S.Source.left g.S.Source.asked c.args.held.now c.parts.held c.args.source.now c.parts.source c.fill_part.new.source
    (EndsInPart c.count.result c.parts.place c.parts.held) (IsCutAt Chunks c.args.first c.args.held.now) was.patient was.same c.fill_part.ensures.patient
    (λ l cut. part_cut c.args.first c.parts.place c.parts.body.items c.args.held.now c.parts.held l was.begins was.fits was.reached was.behind (subst (λ (n : ℕ). EndsInPart n c.parts.place c.parts.held l) sum cut))

pub returns-in-Ok-Last-clause-prompt : goal.returns-in-Ok-Last-clause-prompt
returns-in-Ok-Last-clause-prompt g c = λ whole rest is.
    let was = c.parts.invariant in
    let sum : c.count.result ≡ length c.parts.body.items = c.count.ensures in
    let stays =
    prompt_stays c.args.first c.parts.place c.parts.body.items c.args.held.now c.parts.held c.fill_part.new.held c.args.source.now c.parts.source c.fill_part.new.source was.begins was.fits was.reached was.prompt
    (λ none. c.fill_part.ensures.prompt (λ cut. none (subst (λ (n : ℕ). PieceAt n (drop c.parts.place c.parts.held) Piece.Cut) sum cut))) in
    (stays whole rest is).0

pub returns-in-Ok-Bad-clause-patient : goal.returns-in-Ok-Bad-clause-patient
returns-in-Ok-Bad-clause-patient g c =
    let was = c.parts.invariant in
    let sum : c.count.result ≡ length c.parts.body.items = c.count.ensures in
    read_on g.S.Source.left g.S.Source.asked c.args.held.now c.parts.held c.args.source.now c.parts.source c.fill_part.new.source
    (EndsInPart c.count.result c.parts.place c.parts.held) (IsCutAt Chunks c.args.first c.args.held.now) was.patient was.same c.fill_part.ensures.patient
    (λ l cut. part_cut c.args.first c.parts.place c.parts.body.items c.args.held.now c.parts.held l was.begins was.fits was.reached was.behind (subst (λ (n : ℕ). EndsInPart n c.parts.place c.parts.held l) sum cut))

pub returns-in-Ok-Bad-clause-prompt : goal.returns-in-Ok-Bad-clause-prompt
returns-in-Ok-Bad-clause-prompt g c = λ whole rest is.
    let was = c.parts.invariant in
    let sum : c.count.result ≡ length c.parts.body.items = c.count.ensures in
    let stays =
    prompt_stays c.args.first c.parts.place c.parts.body.items c.args.held.now c.parts.held c.fill_part.new.held c.args.source.now c.parts.source c.fill_part.new.source was.begins was.fits was.reached was.prompt
    (λ none. c.fill_part.ensures.prompt (λ cut. none (subst (λ (n : ℕ). PieceAt n (drop c.parts.place c.parts.held) Piece.Cut) sum cut))) in
    (stays whole rest is).0

pub returns-in-Ok-Cut-clause-patient : goal.returns-in-Ok-Cut-clause-patient
returns-in-Ok-Cut-clause-patient g c =
    let was = c.parts.invariant in
    let sum : c.count.result ≡ length c.parts.body.items = c.count.ensures in
    read_on g.S.Source.left g.S.Source.asked c.args.held.now c.parts.held c.args.source.now c.parts.source c.fill_part.new.source
    (EndsInPart c.count.result c.parts.place c.parts.held) (IsCutAt Chunks c.args.first c.args.held.now) was.patient was.same c.fill_part.ensures.patient
    (λ l cut. part_cut c.args.first c.parts.place c.parts.body.items c.args.held.now c.parts.held l was.begins was.fits was.reached was.behind (subst (λ (n : ℕ). EndsInPart n c.parts.place c.parts.held l) sum cut))

pub returns-in-Ok-Cut-clause-prompt : goal.returns-in-Ok-Cut-clause-prompt
returns-in-Ok-Cut-clause-prompt g c = λ whole rest is.
    let was = c.parts.invariant in
    let sum : c.count.result ≡ length c.parts.body.items = c.count.ensures in
    let stays =
    prompt_stays c.args.first c.parts.place c.parts.body.items c.args.held.now c.parts.held c.fill_part.new.held c.args.source.now c.parts.source c.fill_part.new.source was.begins was.fits was.reached was.prompt
    (λ none. c.fill_part.ensures.prompt (λ cut. none (subst (λ (n : ℕ). PieceAt n (drop c.parts.place c.parts.held) Piece.Cut) sum cut))) in
    (stays whole rest is).0

pub returns-in-Err-clause-patient : goal.returns-in-Err-clause-patient
returns-in-Err-clause-patient g c =
    let was = c.parts.invariant in
    let sum : c.count.result ≡ length c.parts.body.items = c.count.ensures in
    read_on g.S.Source.left g.S.Source.asked c.args.held.now c.parts.held c.args.source.now c.parts.source c.fill_part.new.source
    (EndsInPart c.count.result c.parts.place c.parts.held) (IsCutAt Chunks c.args.first c.args.held.now) was.patient was.same c.fill_part.ensures.patient
    (λ l cut. part_cut c.args.first c.parts.place c.parts.body.items c.args.held.now c.parts.held l was.begins was.fits was.reached was.behind (subst (λ (n : ℕ). EndsInPart n c.parts.place c.parts.held l) sum cut))

pub returns-in-Err-clause-prompt : goal.returns-in-Err-clause-prompt
returns-in-Err-clause-prompt g c = λ whole rest is.
    let was = c.parts.invariant in
    let sum : c.count.result ≡ length c.parts.body.items = c.count.ensures in
    let stays =
    prompt_stays c.args.first c.parts.place c.parts.body.items c.args.held.now c.parts.held c.fill_part.new.held c.args.source.now c.parts.source c.fill_part.new.source was.begins was.fits was.reached was.prompt
    (λ none. c.fill_part.ensures.prompt (λ cut. none (subst (λ (n : ℕ). PieceAt n (drop c.parts.place c.parts.held) Piece.Cut) sum cut))) in
    (stays whole rest is).0

pub returns-in_err-place-in-Ok-Chunk-clause-patient : goal.returns-in_err-place-in-Ok-Chunk-clause-patient
returns-in_err-place-in-Ok-Chunk-clause-patient g c =
    let was = c.parts.invariant in
    let sum : c.count.result ≡ length c.parts.body.items = c.count.ensures in
    read_on g.S.Source.left g.S.Source.asked c.args.held.now c.parts.held c.args.source.now c.parts.source c.fill_part.new.source
    (EndsInPart c.count.result c.parts.place c.parts.held) (IsCutAt Chunks c.args.first c.args.held.now) was.patient was.same c.fill_part.ensures.patient
    (λ l cut. part_cut c.args.first c.parts.place c.parts.body.items c.args.held.now c.parts.held l was.begins was.fits was.reached was.behind (subst (λ (n : ℕ). EndsInPart n c.parts.place c.parts.held l) sum cut))

pub returns-in_err-place-in-Ok-Chunk-clause-prompt : goal.returns-in_err-place-in-Ok-Chunk-clause-prompt
returns-in_err-place-in-Ok-Chunk-clause-prompt g c = λ whole rest is.
    let was = c.parts.invariant in
    let sum : c.count.result ≡ length c.parts.body.items = c.count.ensures in
    let stays =
    prompt_stays c.args.first c.parts.place c.parts.body.items c.args.held.now c.parts.held c.fill_part.new.held c.args.source.now c.parts.source c.fill_part.new.source was.begins was.fits was.reached was.prompt
    (λ none. c.fill_part.ensures.prompt (λ cut. none (subst (λ (n : ℕ). PieceAt n (drop c.parts.place c.parts.held) Piece.Cut) sum cut))) in
    (stays whole rest is).0
