use Rattle.std.proofs.Common.{◌≡◌, ℕ, suc, ◌+◌, ◌<◌, ◌≤◌, ◌++◌, List, [], ◌∷◌, length, get_or, take, nat_lt, true, false, Ok, Err, inr, refl, sym, ap, subst, ◌∙◌, arith, lt-ltb}
use Rattle.std.specs.List.{list_all}
use Rattle.std.specs.Str.{chars, IsAscii}
use Rattle.std.proofs.lemmas.Bool.Decides.{nat_tests}
use Rattle.std.proofs.lemmas.Iterator.{YieldsList-from_chars}
use Rattle.std.proofs.lemmas.Iterator.Consumers.{YieldsList-turn, YieldsList-end}
use Rattle.std.proofs.lemmas.Str.{chars-IsAscii}
use Rattle.std.proofs.lemmas.List.{length_push, take_more, take_all}
use Rattle.std.proofs.lemmas.List.Folds.{list_all_more, list_all_at}
use Rattle.avro_value.specs.declared.error.AvroNo.TheVariants.{Mismatch}
use Rattle.avro_value.specs.Reading.{points_of}
use Rattle.avro_value.proofs.json_leaf.points.Goals as goal

points_more : (cs out more : List ℕ) (n m c b : ℕ) → n < length cs → c ≡ get_or cs n c → m ≡ n + 1 → out ≡ take n cs → more ≡ out ++ b ∷ [] → b ≡ c → more ≡ take m cs
points_more cs out more n m c b inside is next so_far pushed same =
    pushed ∙ ap (λ (x : List ℕ). x ++ b ∷ []) so_far ∙ ap (λ (x : ℕ). take n cs ++ x ∷ []) (same ∙ is) ∙ sym (take_more cs n c inside) ∙ ap (λ (x : ℕ). take x cs) (sym next)

small_more : (cs : List ℕ) (n m c : ℕ) → n < length cs → c ≡ get_or cs n c → m ≡ n + 1 → c < 256 → list_all (λ x. nat_lt x 256) (take n cs) ≡ true → list_all (λ x. nat_lt x 256) (take m cs) ≡ true
small_more cs n m c inside is next small so_far =
    let test : nat_lt (get_or cs n c) 256 ≡ true = lt-ltb _ _ (subst (λ (x : ℕ). x < 256) is small) in
    ap (λ (x : ℕ). list_all (λ y. nat_lt y 256) (take x cs)) next ∙ list_all_more (λ x. nat_lt x 256) cs n c inside ∙ rw (so_far, test) refl

points_done : (k : ℕ) (text out : List ℕ) (n : ℕ) → n ≡ length (chars text) → out ≡ take n (chars text) → list_all (λ x. nat_lt x 256) (take n (chars text)) ≡ true → points_of k text ≡ Ok out
points_done k text out n all so_far small =
    let whole : take n (chars text) ≡ chars text = take_all n (chars text) (omega arith) in
    let test : list_all (λ x. nat_lt x 256) (chars text) ≡ true = ap (list_all (λ x. nat_lt x 256)) (sym whole) ∙ small in
    rw test (ap (λ (x : List ℕ). Ok x) (sym (so_far ∙ whole)))

points_stop : (k : ℕ) (text : List ℕ) (n c : ℕ) → n < length (chars text) → c ≡ get_or (chars text) n c → 256 ≤ c → points_of k text ≡ Err (Mismatch k)
points_stop k text n c inside is large =
    let test : nat_lt (get_or (chars text) n c) 256 ≡ false = rw (← is) (grind (arith, nat_tests)) in
    rw (list_all_at (λ x. nat_lt x 256) (chars text) n c inside test) refl

small_ascii : (bs : List ℕ) → IsAscii bs → list_all (λ x. nat_lt x 256) bs ≡ true
small_ascii [] ascii = refl
small_ascii (b ∷ bs) ascii =
    let first : b < 128 = ascii 0 in
    let test : nat_lt b 256 ≡ true = lt-ltb _ _ (omega arith) in
    rw test (small_ascii bs (λ i. ascii (suc i)))

points_ascii : (k : ℕ) (text out : List ℕ) → IsAscii text → out ≡ text → points_of k text ≡ Ok out
points_ascii k text out ascii same =
    let plain : chars text ≡ text = chars-IsAscii text ascii in
    let test : list_all (λ x. nat_lt x 256) (chars text) ≡ true = ap (list_all (λ x. nat_lt x 256)) plain ∙ small_ascii text ascii in
    rw test (ap (λ (x : List ℕ). Ok x) (plain ∙ sym same))

pub returns-then-is_ascii : goal.returns-then-is_ascii
returns-then-is_ascii c =
    points_ascii c.args.number c.args.text.now c.extend_from_slice.new.self.items c.if-is_ascii.ensures.cases
    (c.in_ok-extend_from_slice.ensures.items ∙ ap (λ (x : List ℕ). x ++ c.as_bytes.result.now) c.in_ok-out.ensures.items ∙ c.as_bytes.ensures.value)

pub loop-c-preserved : goal.loop-c-preserved
loop-c-preserved c =
    let t = YieldsList-turn (YieldsList-from_chars c.args.text.now c.utf8.text cc) c.loop-c.yielded _ c.loop-c.yielded_by _ _ c.in-Some.c c.in-Some.is c.next.ensures.steps in
    let next = length_push c.loop-c.yielded c.in-Some.c in
    record {
      out = points_more (chars c.args.text.now) c.loop-c.out.items c.push.new.self.items (length c.loop-c.yielded) _ c.in-Some.c c.in-Ok.byte t.0 t.1 next c.loop-c.invariant.out c.in_ok-push.ensures.items c.in-Ok.ensures.1;
      small = small_more (chars c.args.text.now) (length c.loop-c.yielded) _ c.in-Some.c t.0 t.1 next c.in-Ok.ensures.0 c.loop-c.invariant.small;
    }

pub returns-in_default : goal.returns-in_default
returns-in_default c =
    let t = YieldsList-turn (YieldsList-from_chars c.args.text.now c.utf8.text cc) c.loop-c.yielded _ c.loop-c.yielded_by _ _ c.in-Some.c c.in-Some.is c.next.ensures.steps in
    let small : c.in-Some.c < 256 → ⊥ = c.in_default.ensures in
    let large : 256 ≤ c.in-Some.c = omega arith in
    inr (points_stop c.args.number c.args.text.now (length c.loop-c.yielded) c.in-Some.c t.0 t.1 large)

pub returns : goal.returns
returns c =
    let t = YieldsList-end (YieldsList-from_chars c.args.text.now c.utf8.text cc) c.loop-c.yielded _ c.loop-c.yielded_by _ _ c.in-None.is c.next.ensures.steps in
    points_done c.args.number c.args.text.now c.loop-c.out.items (length c.loop-c.yielded) t.1 c.loop-c.invariant.out c.loop-c.invariant.small
