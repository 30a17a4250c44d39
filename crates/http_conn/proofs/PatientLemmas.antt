-- What was held when the last of several reads began.
use Rattle.std.proofs.Common.{◌≡◌, ℕ, ◌<◌, Bool, List, [], ◌∷◌, ◌++◌, length, drop, false, Option, refl, ap, sym, subst, ◌∙◌, arith, append_assoc, inl, inr}
use Rattle.std.specs.Prelude.{◌⊎◌, ◌||◌}
use Rattle.std.specs.List.{list_any}
use Rattle.std.proofs.lemmas.List.{append-nil}
use Rattle.std.proofs.lemmas.List.Folds.{list_any-append}
use Rattle.std.proofs.Math.Seq.{drop-append_seam}
use Rattle.httparse.specs.Grammar.{HasNoRequest, MayBecomeRequest}
use Rattle.httparse.specs.declared.spans.HeaderSpan.{HeaderSpan}
use Rattle.http_conn.specs.Told.{Comes, StillComes, LastRead}
use Rattle.http_conn.specs.Next.{IsHeadless, IsInHead, IsInLine, IsSettled, NeedsMore, is_line_end}
use Rattle.http_conn.specs.Body.{IsCutAt}
use Rattle.body_read.specs.Chunks.{Outcome}
use Rattle.http_head.specs.Head.{HasHead, HasNoHead, max_head}
use Rattle.http_head.specs.Parts.{IsHead}
use Rattle.http_head.specs.declared.verdict.Head.{Head}
use Rattle.http_conn.proofs.StreamLemmas.{IsHead-behind, body_held, settled_behind}
use Rattle.http_conn.proofs.LawLemmas.{headless_not_due, no_head_of_nothing}
use Rattle.http_conn.proofs.LineLemmas.{no_head_in_line}
use Rattle.http_head.proofs.HeadLemmas.{head_of, no_request_no_head}

-- nothing was read
pub never_read : {S : Type 0} (left asked : S → Option (List ℕ)) (held : List ℕ) (old new : S) (Is : List ℕ → Type 0) → new ≡ old → LastRead left asked held old new Is
unfolding LastRead
never_read left asked held old new Is same = λ all comes. inl same

-- one read, or none
pub one_read : {S : Type 0} (left asked : S → Option (List ℕ)) (held : List ℕ) (old new : S)
    → (new ≡ old) ⊎ (asked new ≡ left old) → LastRead left asked held old new (λ (was : List ℕ). was ≡ held)
unfolding LastRead
one_read left asked held old new (inl same) = λ all comes. inl same
one_read left asked held old new (inr is) = λ all comes. inr (held, subst (λ (l : Option (List ℕ)). Comes held l all) (sym is) comes, refl)

-- further reads, of which a fact is true that is enough for all of them
pub read_on : {S : Type 0} (left asked : S → Option (List ℕ)) (start held : List ℕ) (first mid last : S) (Is Was : List ℕ → Type 0)
    → LastRead left asked start first mid Was → StillComes start (left first) held (left mid) → LastRead left asked held mid last Is
    → ((l : List ℕ) → Is l → Was l) → LastRead left asked start first last Was
unfolding LastRead
read_on {S = S} left asked start held first mid last Is Was before comes behind enough = λ all is.
    elim (behind all (comes all is)) [
      | inl same ↦
          elim (before all is) [
            | inl none ↦ inl (same ∙ none)
            | inr was ↦ inr (was.0, subst (λ (s : S). Comes was.0 (asked s) all) (sym same) was.1, was.2)
          ]
      | inr was ↦ inr (was.0, was.1, enough was.0 was.2)
    ]

-- a fact that is enough
pub read_weaker : {S : Type 0} (left asked : S → Option (List ℕ)) (held : List ℕ) (old new : S) (Is Was : List ℕ → Type 0)
    → LastRead left asked held old new Is → ((l : List ℕ) → Is l → Was l) → LastRead left asked held old new Was
unfolding LastRead
read_weaker left asked held old new Is Was before enough = λ all comes.
    elim (before all comes) [
      | inl same ↦ inl same
      | inr was ↦ inr (was.0, was.1, enough was.0 was.2)
    ]

-- one read more
pub read_more : {S : Type 0} (left asked : S → Option (List ℕ)) (start held : List ℕ) (first mid last : S) (Was : List ℕ → Type 0)
    → LastRead left asked start first mid Was → StillComes start (left first) held (left mid)
    → LastRead left asked held mid last (λ (was : List ℕ). was ≡ held) → Was held → LastRead left asked start first last Was
read_more left asked start held first mid last Was before comes behind is =
    read_on left asked start held first mid last (λ (was : List ℕ). was ≡ held) Was before comes behind (λ l same. subst Was (sym same) is)

-- no line ends in nothing
pub line_starts : (held : List ℕ) → IsInLine held held
line_starts held = ([], sym (append-nil held), refl)

-- no line ends in what was read behind a line that isn't ended
pub line_goes_on : (start held new : List ℕ) (place : ℕ) → IsInLine start held → (more : List ℕ) × (new ≡ held ++ more) → place ≡ length held
    → list_any is_line_end (drop place new) ≡ false → IsInLine start new
line_goes_on start held new place line behind is none =
    let more : List ℕ = behind.0 in
    let tail : drop place new ≡ more = ap (λ (n : ℕ). drop n new) is ∙ ap (drop (length held)) behind.1 ∙ drop-append_seam held more in
    let no_end : list_any is_line_end more ≡ false = subst (λ (l : List ℕ). list_any is_line_end l ≡ false) tail none in
    let neither : (list_any is_line_end line.0 || list_any is_line_end more) ≡ false = rw (line.2, no_end) refl in (
      line.0 ++ more,
      behind.1 ∙ ap (λ (l : List ℕ). l ++ more) line.1 ∙ append_assoc start line.0 more,
      list_any-append is_line_end line.0 more ∙ neither,
    )

-- a front that may become a head waits
pub unfinished_waits : (held : List ℕ) → HasNoRequest held → MayBecomeRequest held → length held < max_head → IsHeadless held
unfinished_waits [] none may short = inl refl
unfinished_waits (b ∷ held) none may short =
    inr (record { some = omega arith; short = short; none = no_request_no_head (b ∷ held) none; may = may })

-- no head is whole yet
pub headless_none : (held : List ℕ) → IsHeadless held → HasNoHead held
headless_none held (inl none) head after at = no_head_of_nothing head after (subst (λ (l : List ℕ). HasHead l head after) none at)
headless_none held (inr cut) head after at = cut.none head after at

-- the interim response isn't due without a head
pub headless_settled : (c : Bool) (held : List ℕ) → IsHeadless held → IsSettled c held
headless_settled c held waits = λ due. absurd (headless_not_due held (headless_none held waits) due)

-- no head is whole in the line behind a front without one
pub line_settled : (c : Bool) (start held : List ℕ) → IsHeadless start → IsInLine start held → IsSettled c held
line_settled c start held waits line = λ due. absurd (headless_not_due held (λ h after at. no_head_in_line start held h after (headless_none start waits) line at) due)

pub settled_all : (c : Bool) (held : List ℕ) → NeedsMore false held → NeedsMore c held
settled_all c held needs = (needs.0, λ due. absurd (cc (needs.1 due)))

-- reads behind a front that waits, up to the end of a line
pub head_read_on : {S : Type 0} (left asked : S → Option (List ℕ)) (start held : List ℕ) (first mid last : S)
    → LastRead left asked start first mid (NeedsMore false) → StillComes start (left first) held (left mid)
    → LastRead left asked held mid last (IsInHead held) → IsHeadless held → LastRead left asked start first last (NeedsMore false)
head_read_on left asked start held first mid last before comes behind waits =
    read_on left asked start held first mid last (IsInHead held) (NeedsMore false) before comes behind (λ l line. (inr ((held, waits, line.0), line.1), line_settled false held l waits line.0))

-- a body that isn't whole
cut_waits : (c : Bool) (start held : List ℕ) (headers : List HeaderSpan) (h : Head) → IsHead start headers h → IsSettled c start → IsCutAt h.framing h.spans.len start held → NeedsMore c held
cut_waits c start held headers h head settled cut =
    let here : IsHead held headers h = IsHead-behind start held headers h head cut.0 in
    (inl (inr (inl (body_held held headers h Outcome.Short here cut.1))), settled_behind c start held head.head (drop h.spans.len start) (head_of start headers h head) cut.0 settled)

-- reads behind a head, up to the end of the body
pub body_read_on : {S : Type 0} (left asked : S → Option (List ℕ)) (c : Bool) (start held : List ℕ) (headers : List HeaderSpan) (h : Head) (first mid last : S)
    → LastRead left asked start first mid (NeedsMore false) → StillComes start (left first) held (left mid)
    → IsHead held headers h → IsSettled c held → LastRead left asked held mid last (IsCutAt h.framing h.spans.len held) → LastRead left asked start first last (NeedsMore c)
body_read_on left asked c start held headers h first mid last before comes head settled behind =
    read_on left asked start held first mid last (IsCutAt h.framing h.spans.len held) (NeedsMore c)
    (read_weaker left asked start first mid (NeedsMore false) (NeedsMore c) before (settled_all c)) comes behind (λ l short. cut_waits c held l headers h head settled short)

-- reads up to a head
pub head_read : {S : Type 0} (left asked : S → Option (List ℕ)) (c : Bool) (start : List ℕ) (first last : S)
    → LastRead left asked start first last (NeedsMore false) → LastRead left asked start first last (NeedsMore c)
head_read left asked c start first last before = read_weaker left asked start first last (NeedsMore false) (NeedsMore c) before (settled_all c)
