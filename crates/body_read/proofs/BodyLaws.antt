-- A body is one thing alone, and what is whole or refused is so whatever follows.
use Rattle.std.proofs.Common.{◌≡◌, ℕ, ◌+◌, ◌≤◌, List, [], ◌∷◌, ◌++◌, length, take, drop, refl, ap, sym, subst, ◌∙◌, arith, append_assoc, length-append, inl, inr}
use Rattle.std.proofs.lemmas.List.{append-nil}
use Rattle.std.proofs.Math.Seq.{take-append_seam, drop-append_seam}
use Rattle.http_head.specs.Fields.{max_body}
use Rattle.http_head.specs.declared.fields.Framing.{Framing}
use Rattle.http_head.specs.declared.fields.Framing.TheVariants.{Length, Chunks}
use Rattle.body_read.specs.Chunks.{Outcome, Piece, PieceAt, EndsIn, BodyComes}
use Rattle.body_read.specs.Body.{BodyIs}
use Rattle.body_read.proofs.ChunkLaws.{comes_one}
use Rattle.body_read.proofs.ChunkMore.{whole-append, refused-append, whole_cut, chunk-append}

-- the bytes behind a head come to one thing
pub body_one : (f : Framing) (bytes : List ℕ) (x y : Outcome) → BodyIs f bytes x → BodyIs f bytes y → x ≡ y
body_one (Length size) bytes (Outcome.Whole b r) (Outcome.Whole d q) is are =
    let long : length b ≡ length d = is.0 ∙ sym are.0 in
    let both : b ++ r ≡ d ++ q = sym is.1 ∙ are.1 in
    let body : b ≡ d = sym (take-append_seam b r) ∙ ap (take (length b)) both ∙ ap (λ (n : ℕ). take n (d ++ q)) long ∙ take-append_seam d q in
    let rest : r ≡ q = sym (drop-append_seam b r) ∙ ap (drop (length b)) both ∙ ap (λ (n : ℕ). drop n (d ++ q)) long ∙ drop-append_seam d q in
    λ i. Outcome.Whole (body i) (rest i)
body_one (Length size) bytes (Outcome.Whole b r) Outcome.Short is are = absurd (omega (arith, is.0, ap length is.1, length-append b r, are))
body_one (Length size) bytes Outcome.Short (Outcome.Whole b r) is are = absurd (omega (arith, are.0, ap length are.1, length-append b r, is))
body_one (Length size) bytes Outcome.Short Outcome.Short is are = refl
body_one (Length size) bytes (Outcome.Refused code) y is are = absurd is
body_one (Length size) bytes x (Outcome.Refused code) is are = absurd are
body_one Chunks bytes x y is are = comes_one [] bytes x y is are

pub body_whole-append : (f : Framing) (bytes more body rest : List ℕ) → BodyIs f bytes (Outcome.Whole body rest) → BodyIs f (bytes ++ more) (Outcome.Whole body (rest ++ more))
body_whole-append (Length size) bytes more body rest is = (is.0, ap (λ (l : List ℕ). l ++ more) is.1 ∙ append_assoc body rest more)
body_whole-append Chunks bytes more body rest is = whole-append [] bytes more body rest is

pub body_refused-append : (f : Framing) (bytes more : List ℕ) (code : ℕ) → BodyIs f bytes (Outcome.Refused code) → BodyIs f (bytes ++ more) (Outcome.Refused code)
body_refused-append (Length size) bytes more code is = absurd is
body_refused-append Chunks bytes more code is = refused-append [] bytes more code is

-- the same body stands in the bytes without those that are left
pub body_cut : (f : Framing) (all body h l : List ℕ) → BodyIs f all (Outcome.Whole body (h ++ l)) → (got : List ℕ) × (all ≡ got ++ l) × BodyIs f got (Outcome.Whole body h)
body_cut (Length size) all body h l is = (body ++ h, is.1 ∙ sym (append_assoc body h l), (is.0, refl))
body_cut Chunks all body h l is = whole_cut [] all body h l is

-- the content was read from the bytes, and the rest stands behind it: what comes of the rest comes of the bytes
abbrev pub IsReached : List ℕ → List ℕ → List ℕ → Type 0
IsReached bytes content rest = (more : List ℕ) (o : Outcome) → BodyComes content (rest ++ more) o → BodyComes [] (bytes ++ more) o

pub reached_start : (bytes : List ℕ) → IsReached bytes [] bytes
reached_start bytes = λ more o is. is

pub reached_more : (bytes content rest more : List ℕ) → IsReached bytes content rest → IsReached (bytes ++ more) content (rest ++ more)
reached_more bytes content rest more is = λ next o comes.
    subst (λ (l : List ℕ). BodyComes [] l o) (sym (append_assoc bytes more next))
    (is (more ++ next) o (subst (λ (l : List ℕ). BodyComes content l o) (append_assoc rest more next) comes))

pub reached_chunk : (bytes content rest c mid : List ℕ) → IsReached bytes content rest → PieceAt (length content) rest (Piece.Chunk c mid) → IsReached bytes (content ++ c) mid
reached_chunk bytes content rest c mid is piece = λ more o comes.
    is more o (c ∷ comes.0, (mid ++ more, chunk-append (length content) rest more c mid piece, comes.1))

pub reached_end : (bytes content rest : List ℕ) (o : Outcome) → IsReached bytes content rest → EndsIn content rest o → BodyComes [] bytes o
reached_end bytes content rest o is ends =
    let at : BodyComes content (rest ++ []) o = subst (λ (l : List ℕ). BodyComes content l o) (sym (append-nil rest)) ([], ends) in
    subst (λ (l : List ℕ). BodyComes [] l o) (append-nil bytes) (is [] o at)

-- a chunk fits with what stands before it
pub chunk_fits : (sum : ℕ) (bytes c mid : List ℕ) → PieceAt sum bytes (Piece.Chunk c mid) → sum + length c ≤ max_body
chunk_fits sum bytes c mid (inl none) = absurd none
chunk_fits sum bytes c mid (inr (line, behind, has, inl zero)) = absurd zero.1
chunk_fits sum bytes c mid (inr (line, behind, has, inr some)) = omega (arith, some.1.0, some.1.1)
