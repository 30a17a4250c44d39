-- The tables hold what each byte does.
use Rattle.std.proofs.Common.{◌≡◌, ℕ, zero, suc, ◌+◌, ◌<◌, Bool, true, List, [], ◌∷◌, ◌==◌, ◌&&◌, slice_index_or, length, refl, sym, ap, ◌∙◌, arith, add-zero, zero-add, false}
use Rattle.std.proofs.lemmas.Bool.{false≢true, eqb-true}
use Rattle.wire_prim.specs.Crc.{bit_step, steps, zero_bytes}
use Rattle.wire_prim.specs.declared.tables.TheConstants.{TABLES}

-- the rows from a byte on
abbrev pub rows_agree : ℕ → ℕ → List ℕ → Bool
rows_agree n byte [] = true
rows_agree n byte (row ∷ rows) = row == zero_bytes n byte && rows_agree n (byte + 1) rows

abbrev pub tables_agree : ℕ → List (List ℕ) → Bool
tables_agree n [] = true
tables_agree n (table ∷ tables) = rows_agree n 0 table && tables_agree (n + 1) tables

tables_hold : tables_agree 1 TABLES ≡ true
unfolding bit_step steps zero_bytes
tables_hold = refl

both : (a b : Bool) → (a && b) ≡ true → (a ≡ true) × (b ≡ true)
both true b h = (refl, h)
both false b h = absurd (false≢true h)

row_at : (n byte : ℕ) (rows : List ℕ) (k d : ℕ) → rows_agree n byte rows ≡ true → k < length rows → slice_index_or rows k d ≡ zero_bytes n (byte + k)
row_at n byte [] k d agree inside = absurd (omega arith)
row_at n byte (row ∷ rows) zero d agree inside = eqb-true row (zero_bytes n byte) (both _ _ agree).0 ∙ ap (zero_bytes n) (sym (add-zero byte))
row_at n byte (row ∷ rows) (suc k) d agree inside = row_at n (byte + 1) rows k d (both _ _ agree).1 (omega arith) ∙ ap (zero_bytes n) (omega arith)

abbrev pub all_full : List (List ℕ) → Bool
all_full [] = true
all_full (table ∷ tables) = length table == 256 && all_full tables

tables_full : all_full TABLES ≡ true
tables_full = refl

table_at : (n : ℕ) (tables : List (List ℕ)) (behind : ℕ) (e : List ℕ) (byte d : ℕ) → tables_agree n tables ≡ true → all_full tables ≡ true → behind < length tables → byte < 256
    → slice_index_or (slice_index_or tables behind e) byte d ≡ zero_bytes (n + behind) byte
table_at n [] behind e byte d agree full few small = absurd (omega arith)
table_at n (table ∷ tables) zero e byte d agree full few small =
    let size : length table ≡ 256 = eqb-true (length table) 256 (both _ _ full).0 in
    row_at n 0 table byte d (both _ _ agree).0 (omega arith) ∙ ap (zero_bytes n) (zero-add byte) ∙ ap (λ k. zero_bytes k byte) (sym (add-zero n))
table_at n (table ∷ tables) (suc behind) e byte d agree full few small =
    table_at (n + 1) tables behind e byte d (both _ _ agree).1 (both _ _ full).1 (omega arith) small ∙ ap (λ k. zero_bytes k byte) (omega arith)

pub looked_up : (behind byte d : ℕ) (e : List ℕ) → behind < 8 → byte < 256 → slice_index_or (slice_index_or TABLES behind e) byte d ≡ zero_bytes (behind + 1) byte
looked_up behind byte d e few small = table_at 1 TABLES behind e byte d tables_hold tables_full few small ∙ ap (λ k. zero_bytes k byte) (omega arith)
