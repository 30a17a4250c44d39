-- From the pieces that were written to the canonical form of the type at a node.
use Rattle.std.proofs.Common.{◌≡◌, ℕ, ◌<◌, List, ◌++◌, length, get_or, Result, Ok, Err, OnOk, refl, sym, ap, ◌∙◌, subst, append_assoc, arith}
use Rattle.avro_schema.specs.Types.{AvroType}
use Rattle.avro_schema.specs.Canonical.{canonical_form, quote}
use Rattle.avro_schema.specs.Forms.{type_at, type_of, types_of, AreBefore, EachBefore}
use Rattle.avro_schema.specs.Picks.{name_in}
use Rattle.avro_schema.specs.declared.parts.Form.{Form}
use Rattle.avro_schema.specs.declared.parts.Form.TheVariants.{Null, Boolean, Int, Long, Bytes, Text, Array, Map, Union, Fixed, Enum, Record, Named}
use Rattle.avro_schema.proofs.Grown.{type_is, before_is}
use Rattle.avro_schema.proofs.Found.{read_is}

pub on_ok : {T E : Type 0} (res : Result T E) (P Q : Type 0) → (P → Q) → OnOk res P → OnOk res Q
on_ok (Ok x) P Q f h = f h
on_ok (Err e) P Q f h = h

pub two : (old a b x y : List ℕ) → a ≡ old ++ x → b ≡ a ++ y → b ≡ old ++ (x ++ y)
two old a b x y p q = q ∙ ap (λ l. l ++ y) p ∙ append_assoc old x y

pub three : (old a b c x y z : List ℕ) → a ≡ old ++ x → b ≡ a ++ y → c ≡ b ++ z → c ≡ old ++ (x ++ (y ++ z))
three old a b c x y z p q r = two old a c x (y ++ z) p (two a b c y z q r)

pub four : (old a b c d x y z w : List ℕ) → a ≡ old ++ x → b ≡ a ++ y → c ≡ b ++ z → d ≡ c ++ w → d ≡ old ++ (x ++ (y ++ (z ++ w)))
four old a b c d x y z w p q r s = two old a d x (y ++ (z ++ w)) p (three a b c d y z w q r s)

-- the head of a named type has three pieces
pub head_and : (old a b x y z w : List ℕ) → a ≡ old ++ (x ++ (y ++ z)) → b ≡ a ++ w → b ≡ old ++ (x ++ (y ++ (z ++ w)))
head_and old a b x y z w p q = two old a b (x ++ (y ++ z)) w p q ∙ ap (λ l. old ++ l) (append_assoc x (y ++ z) w ∙ ap (λ l. x ++ l) (append_assoc y z w))

module _ (nodes : List Form) (k : ℕ) (f g : Form) (before : EachBefore 0 nodes) (inside : k < length nodes) (found : f ≡ get_or nodes k f) (is : f ≡ g) where
  pub form_before : AreBefore k g
  form_before = let P : Form → Type 0 = λ x. AreBefore k x in subst P is (before_is 0 k nodes f before (read_is nodes k f inside found) k (omega arith))

  pub form_type : type_at (types_of nodes) k ≡ type_of (types_of nodes) g
  form_type = type_is nodes k f before (read_is nodes k f inside found) ∙ ap (λ x. type_of (types_of nodes) x) is

  pub written : (old now form : List ℕ) → canonical_form (type_of (types_of nodes) g) ≡ form → now ≡ old ++ form → now ≡ old ++ canonical_form (type_at (types_of nodes) k)
  written old now form spells e = e ∙ ap (λ l. old ++ l) (sym (ap canonical_form form_type ∙ spells))

-- a form that is written as its name
pub plain_written : (ts : List AvroType) (f : Form) → ((k : ℕ) → f ≡ Array k → ⊥) → ((k : ℕ) → f ≡ Map k → ⊥) → ((v : _) (names : _) → f ≡ Union v names → ⊥) → ((n : List ℕ) (s : ℕ) → f ≡ Fixed n s → ⊥) → ((n : List ℕ) (v : _) → f ≡ Enum n v → ⊥)
    → ((n : List ℕ) (v : _) → f ≡ Record n v → ⊥) → canonical_form (type_of ts f) ≡ quote (name_in f)
plain_written ts Null a b c d e g = refl
plain_written ts Boolean a b c d e g = refl
plain_written ts Int a b c d e g = refl
plain_written ts Long a b c d e g = refl
plain_written ts Bytes a b c d e g = refl
plain_written ts Text a b c d e g = refl
plain_written ts (Array k) a b c d e g = absurd (a k refl)
plain_written ts (Map k) a b c d e g = absurd (b k refl)
plain_written ts (Union v names) a b c d e g = absurd (c v names refl)
plain_written ts (Fixed n s) a b c d e g = absurd (d n s refl)
plain_written ts (Enum n v) a b c d e g = absurd (e n v refl)
plain_written ts (Record n v) a b c d e g = absurd (g n v refl)
plain_written ts (Named n i) a b c d e g = refl
