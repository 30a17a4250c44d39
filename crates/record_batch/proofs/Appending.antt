-- From one item written after another, to all of them.
use Rattle.std.proofs.Common.{◌≡◌, List, ℕ, ◌++◌, Result, Ok, Err, ap, ◌∙◌, append_assoc}
use Rattle.std.specs.Prelude.{OnOk}

pub on_ok : {T E : Type 0} (result : Result T E) (P Q : Type 0) → (P → Q) → OnOk result P → OnOk result Q
on_ok (Ok value) P Q more held = more held
on_ok (Err cause) P Q more held = tt

grown : (base so_far item mid new : List ℕ) → mid ≡ base ++ so_far → new ≡ mid ++ item → new ≡ base ++ (so_far ++ item)
grown base so_far item mid new held next = next ∙ ap (λ l. l ++ item) held ∙ append_assoc base so_far item

pub four : (base a b c d first second third last : List ℕ) → first ≡ base ++ a → second ≡ first ++ b → third ≡ second ++ c → last ≡ third ++ d → last ≡ base ++ (((a ++ b) ++ c) ++ d)
four base a b c d first second third last e f g h =
    grown base ((a ++ b) ++ c) d third last (grown base (a ++ b) c second third (grown base a b first second e f) g) h

-- two items in turn
pub two : (base a b first second : List ℕ) → first ≡ base ++ a → second ≡ first ++ b → second ≡ base ++ (a ++ b)
two base a b first second e f = grown base a b first second e f
