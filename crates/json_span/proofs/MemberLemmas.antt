-- From one member more to the last of a name.
use Rattle.std.proofs.Common.{◌≡◌, ℕ, suc, ◌+◌, ◌<◌, List, [], ◌∷◌, length, get_or, drop, Bool, true, false, cond, Option, Some, None, refl, sym, ap, ◌∙◌, subst, add-one}
use Rattle.std.specs.Option.{IfSome}
use Rattle.std.specs.Str.{bytes_eq}
use Rattle.std.proofs.Math.Seq.{drop-cons}
use Rattle.json_span.specs.Json.{Json, Members, no_members, member}
use Rattle.json_token.specs.Chars.{content}
use Rattle.json_span.specs.Nodes.{Stands, StandForMembers, HasNode}
use Rattle.json_span.specs.declared.tree.Tree.{Tree}
use Rattle.json_span.specs.declared.tree.Member.{Member}
use Rattle.json_span.specs.Parts.{last_member, later, IsMember, FoundBefore}

later_later : (a b c : Option Json) → later (later a b) c ≡ later a (later b c)
later_later (Some j) b c = refl
later_later None b c = refl

later_cond : (t : Bool) (j : Json) (c : Option Json) → later (cond t (Some j) None) c ≡ cond t (Some j) c
later_cond true j c = refl
later_cond false j c = refl

later_none : (a : Option Json) → later a None ≡ a
later_none (Some j) = refl
later_none None = refl

cond_member : (tree : Tree) (t : Bool) (j : Json) (k : ℕ) (so_far : Option Json) (found : Option ℕ) → Stands tree k j → IsMember tree so_far found → IsMember tree (cond t (Some j) so_far) (cond t (Some k) found)
cond_member tree true j k so_far found s h = s
cond_member tree false j k so_far found s h = h

found_behind : (tree : Tree) (m : Member) (rest : List Member) (left : Members) (ms : Members) (key : List ℕ) (found : Option ℕ) (so_far : Option Json) → StandForMembers tree (m ∷ rest) left
    → last_member key ms ≡ later (last_member key left) so_far → IsMember tree so_far found → FoundBefore tree rest ms key (cond (bytes_eq m.name key) (Some m.node) found)
found_behind tree m rest no_members ms key found so_far h is node = absurd cc
found_behind tree m rest (member s j left) ms key found so_far h is node =
    let first : h.0 ≡ m = cc (h.2) in
    let others : h.1 ≡ rest = cc (h.2) in
    let named : m.name ≡ content s = ap (λ (x : Member). x.name) (sym first) ∙ h.3 in
    let P : List Member → Type 0 = λ xs. StandForMembers tree xs left in
    let Q : Member → Type 0 = λ x. Stands tree x.node j in
    let R : List ℕ → Type 0 = λ name. IsMember tree (cond (bytes_eq (content s) key) (Some j) so_far) (cond (bytes_eq name key) (Some m.node) found) in
    record {
      left = left;
      stand = subst P others h.6;
      so_far = cond (bytes_eq (content s) key) (Some j) so_far;
      is = is ∙ later_later (last_member key left) (cond (bytes_eq (content s) key) (Some j) None) so_far ∙ ap (λ o. later (last_member key left) o) (later_cond (bytes_eq (content s) key) j so_far);
      node = subst R (sym named) (cond_member tree (bytes_eq (content s) key) j m.node so_far found (subst Q first h.5) node);
    }

pub found_more : (tree : Tree) (xs : List Member) (i : ℕ) (m : Member) (ms : Members) (key : List ℕ) (found : Option ℕ) → i < length xs → m ≡ get_or xs i m → FoundBefore tree (drop i xs) ms key found
    → FoundBefore tree (drop (i + 1) xs) ms key (cond (bytes_eq m.name key) (Some m.node) found)
found_more tree xs i m ms key found lt e f =
    let split : drop i xs ≡ m ∷ drop (i + 1) xs = drop-cons xs i m lt ∙ ap (λ y. y ∷ drop (suc i) xs) (sym e) ∙ ap (λ n. m ∷ drop n xs) (sym (add-one i)) in
    let P : List Member → Type 0 = λ ys. StandForMembers tree ys f.left in
    found_behind tree m (drop (i + 1) xs) f.left ms key found f.so_far (subst P split f.stand) f.is f.node

pub found_first : (tree : Tree) (xs : List Member) (ms : Members) (key : List ℕ) → StandForMembers tree xs ms → FoundBefore tree xs ms key None
found_first tree xs ms key h = record { left = ms; stand = h; so_far = None; is = sym (later_none (last_member key ms)); node = tt }

none_left : (tree : Tree) (left : Members) → StandForMembers tree [] left → left ≡ no_members
none_left tree no_members h = refl
none_left tree (member s j left) h = absurd (cc (h.2))

pub found_last : (tree : Tree) (rest : List Member) (ms : Members) (key : List ℕ) (found : Option ℕ) → rest ≡ [] → FoundBefore tree rest ms key found → IsMember tree (last_member key ms) found
found_last tree rest ms key found e f =
    let P : List Member → Type 0 = λ ys. StandForMembers tree ys f.left in
    let Q : Option Json → Type 0 = λ o. IsMember tree o found in
    let none = none_left tree f.left (subst P e f.stand) in
    subst Q (sym (f.is ∙ ap (λ left. later (last_member key left) f.so_far) none)) f.node

pub below_cond : (t : Bool) (k limit : ℕ) (found : Option ℕ) → k < limit → IfSome found (λ n. n < limit) → IfSome (cond t (Some k) found) (λ n. n < limit)
below_cond true k limit found l h = l
below_cond false k limit found l h = h

pub member_node : (tree : Tree) (o : Option Json) (r : Option ℕ) → IsMember tree o r → IfSome r (HasNode tree)
member_node tree None None h = tt
member_node tree None (Some k) h = absurd h
member_node tree (Some j) None h = absurd h
member_node tree (Some j) (Some k) h = (j, h)
