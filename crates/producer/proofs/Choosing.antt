-- Records that are taken in turn, each put to its partition, and their partitions.
use Rattle.std.proofs.Common.{◌≡◌, ◌∙◌, ℕ, suc, ◌+◌, ◌<◌, List, [], ◌∷◌, ◌++◌, length, map, Option, Some, None, refl, ap, sym, subst, append_assoc, append-nil, arith}
use Rattle.std.specs.Prelude.{ℤ, All, reverse, nat_abs, option_map}
use Rattle.std.proofs.lemmas.List.{length_push}
use Rattle.std.proofs.lemmas.List.Elements.{All-tail}
use Rattle.std.proofs.Math.Nat.{mod-lt}
use Rattle.model.specs.state.Entry.{Given, Payload}
use Rattle.model.specs.step.Produced.{chosen, or_named, partition_of}
use Rattle.broker_link.specs.declared.link.PartRecords.{PartRecords}
use Rattle.rest_calls.specs.Views.{bytes_of, given_of, PartitionFits}
use Rattle.rest_calls.specs.declared.call.Row.{Row}
use Rattle.producer.specs.Groups.{grouped, put_in}
use Rattle.producer.specs.Payloads.{number_at, number_in, payload_at, payloads_of}
use Rattle.producer.proofs.ReversedLemmas.{reversed_last}

-- the partitions of records
abbrev pub partitions : List Payload → List ℕ
partitions payloads = map (λ p. p.partition) payloads

-- of the rows, those that are left stand reversed, and the others are put to the parts and have these numbers
pub record Turn (n : ℕ) (rows left : List Row) (parts : List PartRecords) (numbers : List ℕ) : Type 0 where
  pub fit : All PartitionFits (reverse left)
  pub parts_are : grouped [] (payloads_of n rows) ≡ grouped parts (chosen n (length numbers) (map given_of (reverse left)))
  pub numbers_are : partitions (payloads_of n rows) ≡ numbers ++ partitions (chosen n (length numbers) (map given_of (reverse left)))

pub turn_start : (n : ℕ) (rows left : List Row) (parts : List PartRecords) (numbers : List ℕ) → All PartitionFits rows → reverse left ≡ rows → parts ≡ [] → numbers ≡ [] → Turn n rows left parts numbers
turn_start n rows left parts numbers fit all none no_number = record {
  fit = subst (λ (rs : List Row). All PartitionFits rs) (sym all) fit;
  parts_are =
      ap (λ (rs : List Row). grouped [] (chosen n 0 (map given_of rs))) (sym all)
      ∙ (ap (λ (ps : List PartRecords). grouped ps (chosen n 0 (map given_of (reverse left)))) (sym none)
      ∙ ap (λ (ns : List ℕ). grouped parts (chosen n (length ns) (map given_of (reverse left)))) (sym no_number));
  numbers_are =
      ap (λ (rs : List Row). partitions (chosen n 0 (map given_of rs))) (sym all)
      ∙ ap (λ (ns : List ℕ). ns ++ partitions (chosen n (length ns) (map given_of (reverse left)))) (sym no_number);
}

pub turn_more : (n : ℕ) (rows left rest : List Row) (row : Row) (parts parts2 : List PartRecords) (numbers numbers2 : List ℕ) → left ≡ rest ++ row ∷ []
    → parts2 ≡ put_in (payload_at n (length numbers) row) parts → numbers2 ≡ numbers ++ number_at n (length numbers) row ∷ [] → Turn n rows left parts numbers → Turn n rows rest parts2 numbers2
turn_more n rows left rest row parts parts2 numbers numbers2 is put pushed turn =
    let last : reverse left ≡ row ∷ reverse rest = reversed_last left rest row is in
    let number : ℕ = number_at n (length numbers) row in
    let behind : ℕ → List Payload = λ k. chosen n k (map given_of (reverse rest)) in
    let longer : length numbers2 ≡ length numbers + 1 = ap length pushed ∙ length_push numbers number in
    record {
      fit = All-tail PartitionFits row (reverse rest) (subst (λ (rs : List Row). All PartitionFits rs) last turn.fit);
      parts_are =
          turn.parts_are
          ∙ (ap (λ (rs : List Row). grouped parts (chosen n (length numbers) (map given_of rs))) last
          ∙ (ap (λ (ps : List PartRecords). grouped ps (behind (length numbers + 1))) (sym put) ∙ ap (λ (k : ℕ). grouped parts2 (behind k)) (sym longer)));
      numbers_are =
          turn.numbers_are
          ∙ (ap (λ (rs : List Row). numbers ++ partitions (chosen n (length numbers) (map given_of rs))) last
          ∙ (sym (append_assoc numbers (number ∷ []) (partitions (behind (length numbers + 1))))
          ∙ (ap (λ (ns : List ℕ). ns ++ partitions (behind (length numbers + 1))) (sym pushed) ∙ ap (λ (k : ℕ). numbers2 ++ partitions (behind k)) (sym longer))));
    }

pub turn_end : (n : ℕ) (rows left : List Row) (parts : List PartRecords) (numbers : List ℕ) → left ≡ [] → Turn n rows left parts numbers
    → (parts ≡ grouped [] (payloads_of n rows)) × (numbers ≡ partitions (payloads_of n rows))
turn_end n rows left parts numbers none turn = (
  sym (turn.parts_are ∙ ap (λ (rs : List Row). grouped parts (chosen n (length numbers) (map given_of (reverse rs)))) none),
  sym (turn.numbers_are ∙ (ap (λ (rs : List Row). numbers ++ partitions (chosen n (length numbers) (map given_of (reverse rs)))) none ∙ append-nil numbers)),
)

-- ---- how many there are, and which partitions

pub as_many_chosen : (n i : ℕ) (records : List Given) → length (chosen n i records) ≡ length records
as_many_chosen n i [] = refl
as_many_chosen n i (g ∷ records) = ap (λ k. suc k) (as_many_chosen n (i + 1) records)

given_as_many : (rows : List Row) → length (map given_of rows) ≡ length rows
given_as_many [] = refl
given_as_many (r ∷ rows) = ap (λ k. suc k) (given_as_many rows)

pub as_many : (n : ℕ) (rows : List Row) → length (payloads_of n rows) ≡ length rows
as_many n rows = as_many_chosen n 0 (map given_of rows) ∙ given_as_many rows

-- a partition that is chosen is one of those that are there
pub chosen_low : (n i : ℕ) (key : Option (List ℕ)) → 0 < n → partition_of key i n < n
chosen_low n i None some = mod-lt i some
chosen_low n i (Some k) some = mod-lt _ some

-- so is each record's, if the one that it names is
pub number_low : (n i : ℕ) (r : Row) → number_in r < n → number_at n i r < n
number_low n i r low = go r.partition low
  where
    go : (named : Option ℤ) → or_named (option_map nat_abs named) 0 < n → or_named (option_map nat_abs named) (partition_of (bytes_of r.key) i n) < n
    go None low = chosen_low n i (bytes_of r.key) low
    go (Some p) low = low
