-- A node with parts, what stops it, and the parts that are left.
use Rattle.std.proofs.Common.{◌≡◌, ℕ, suc, ◌+◌, ◌-◌, ◌<◌, ◌≤◌, ◌≢◌, eqb, Bool, false, List, [], ◌∷◌, length, map, drop, get_or, Option, Some, None, Result, Ok, Err, inl, inr, refl, sym, ap, ◌∙◌, arith, add-one, drop-cons}
use Rattle.std.proofs.lemmas.Bool.{eqb-false}
use Rattle.std.proofs.Math.ListN.{drop_of_length-le}
use Rattle.avro_value.specs.declared.error.AvroNo.{AvroNo}
use Rattle.avro_value.specs.declared.error.AvroNo.TheVariants.{Mismatch}
use Rattle.avro_value.specs.Steps.{◌>>=◌, Fails}
use Rattle.avro_value.specs.Judging.{Verdict, opened, inside, node}

-- ---- a node with parts

pub node_is : {T A : Type 0} (levels k below : ℕ) (o : Option T) (u : T) (parts : ℕ → T → Result A AvroNo) → opened levels k ≡ Ok below → o ≡ Some u → node levels k o parts ≡ parts below u
node_is {T} {A} levels k below o u parts at_below some =
    ap (λ (v : Verdict). v >>= λ b. inside k o (parts b)) at_below ∙ ap (λ (x : Option T). inside k x (parts below)) some

pub node_lacks : {T A : Type 0} (levels k below : ℕ) (o : Option T) (parts : ℕ → T → Result A AvroNo) → opened levels k ≡ Ok below → o ≡ None → node levels k o parts ≡ Err (Mismatch k)
node_lacks {T} {A} levels k below o parts at_below none =
    ap (λ (v : Verdict). v >>= λ b. inside k o (parts b)) at_below ∙ ap (λ (x : Option T). inside k x (parts below)) none

pub node_fails : {T A : Type 0} (levels k : ℕ) (o : Option T) (parts : ℕ → T → Result A AvroNo) (e : AvroNo) → Fails e (opened levels k) → Fails e (node levels k o parts)
node_fails levels k o parts e (inl want) = inl want
node_fails levels k o parts e (inr is) = inr (ap (λ (v : Verdict). v >>= λ b. inside k o (parts b)) is)

pub fails_along : {A : Type 0} (e : AvroNo) (v w : Result A AvroNo) → v ≡ w → Fails e v → Fails e w
fails_along e v w same (inl want) = inl want
fails_along e v w same (inr is) = inr (sym same ∙ is)

-- what stops a part stops what follows
pub fails_on : {A B : Type 0} (e : AvroNo) (v : Result A AvroNo) (f : A → Result B AvroNo) → Fails e v → Fails e (v >>= f)
fails_on e v f (inl want) = inl want
fails_on {A} e v f (inr is) = inr (ap (λ (x : Result A AvroNo). x >>= f) is)

-- ---- the next part of those left

pub rest_is : {A : Type 0} (xs : List A) (i : ℕ) (x : A) → i < length xs → x ≡ get_or xs i x → drop i xs ≡ x ∷ drop (i + 1) xs
rest_is xs i x inside is = drop-cons xs i x inside ∙ rw (← is, add-one) refl

pub none_left : {A : Type 0} (xs : List A) (i : ℕ) → length xs ≤ i → drop i xs ≡ []
none_left xs i past = drop_of_length-le xs past

-- a list that isn't empty
pub some_there : {A : Type 0} (xs : List A) (empty : Bool) → empty ≡ eqb (length xs) 0 → empty ≡ false → length xs ≡ suc (length xs - 1)
some_there xs empty is not = let some : length xs ≢ 0 = eqb-false _ _ (sym is ∙ not) in omega arith
