-- From the texts of what was found for a question to the bodies that the model writes.
use Rattle.std.proofs.Common.{◌≡◌, ℕ, ◌+◌, ◌<◌, ◌≤◌, List, [], ◌∷◌, ◌++◌, length, map, take, get_or, refl, ap, sym, ◌∙◌, append_assoc, arith}
use Rattle.std.specs.Prelude.{codes, ◌==◌, ℤ, nat_abs}
use Rattle.std.specs.List.{list_any}
use Rattle.std.proofs.lemmas.List.{length-take, take_all, take_more}
use Rattle.model.specs.state.Forms.{Forms}
use Rattle.model.specs.state.Entry.Call.{Ask}
use Rattle.model.specs.texts.Bodies.{array, bool_text, joined, same_node, told_text}
use Rattle.model.specs.texts.Texts.{plain, response_of}
use Rattle.rest_calls.specs.Questions.{question_of}
use Rattle.rest_calls.specs.declared.question.Question.{Question}
use Rattle.rest_calls.specs.declared.question.Question.TheVariants as question
use Rattle.json.specs.Print.{quoted}
use Rattle.broker_link.specs.declared.link.PartInfo.{PartInfo}
use Rattle.broker_link.specs.declared.link.TopicInfo.{TopicInfo}
use Rattle.rest_replies.specs.Found.{name_in, reply_in, told_in}
use Rattle.rest_replies.specs.Topics.{Fits, body_of, edges_line, node_in, nodes_line, part_line, quoted_name, replica_line, text_of, topic_in, topic_line}
use Rattle.rest_replies.specs.declared.found.Found.{Found}
use Rattle.rest_replies.specs.declared.found.Found.TheVariants as found
use Rattle.rest_replies.proofs.JoinedLemmas.{joined_push, mark}

same_text : (q : Question) (x y : Found) → x ≡ y → (advertise : List ℕ) (forms : Forms) → plain (body_of (topic_in q) y) ≡ response_of advertise forms (Ask (question_of q)) (reply_in y)
    → plain (body_of (topic_in q) x) ≡ response_of advertise forms (Ask (question_of q)) (reply_in x)
same_text q x y e advertise forms is = rw e is

-- the body is the one that the model writes
pub text_is : (q : Question) (x : Found) → Fits q x → (advertise : List ℕ) (forms : Forms) → plain (body_of (topic_in q) x) ≡ response_of advertise forms (Ask (question_of q)) (reply_in x)
unfolding edges_line nodes_line topic_line
text_is question.Brokers x (ids, e) advertise forms = same_text question.Brokers x (found.Brokers ids) e advertise forms refl
text_is question.Topics x (infos, e) advertise forms = same_text question.Topics x (found.Topics infos) e advertise forms refl
text_is (question.Topic name) x (info, e) advertise forms = same_text (question.Topic name) x (found.Topic info) e advertise forms refl
text_is (question.Partitions name) x (info, e) advertise forms = same_text (question.Partitions name) x (found.Partitions info) e advertise forms refl
text_is (question.Partition at) x (part, e) advertise forms = same_text (question.Partition at) x (found.Partition part) e advertise forms refl
text_is (question.EndOffsets at) x (start, (end, e)) advertise forms = same_text (question.EndOffsets at) x (found.Edges start end) e advertise forms refl

pub names_are : (infos : List TopicInfo) → map quoted_name infos ≡ map quoted (map name_in infos)
names_are [] = refl
names_are (i ∷ is) = ap (λ l. quoted_name i ∷ l) (names_are is)

pub parts_are : (parts : List PartInfo) → map text_of parts ≡ map told_text (map told_in parts)
parts_are [] = refl
parts_are (p ∷ ps) = ap (λ l. text_of p ∷ l) (parts_are ps)

-- a node that has a partition
pub replica_is : (part : PartInfo) (node : ℤ) (leader in_sync : List ℕ) → leader ≡ bool_text (same_node node part.leader) → in_sync ≡ bool_text (list_any (same_node node) part.in_sync)
    → replica_line node leader in_sync ≡ node_in part node
unfolding node_in replica_line
replica_is part node leader in_sync leads syncs = rw (leads, syncs) refl

-- a partition
pub part_is : (part : PartInfo) (number : ℕ) (leader : ℤ) (replicas : List ℕ) → number ≡ nat_abs part.number → leader ≡ part.leader → replicas ≡ array (map (node_in part) part.replicas)
    → part_line number leader replicas ≡ told_text (told_in part)
unfolding node_in part_line
part_is part number leader replicas number_is leads replicas_are = rw (number_is, leads, replicas_are) refl

-- ---- texts in brackets

pub texts_more : (texts : List (List ℕ)) (i : ℕ) (one : List ℕ) (text more : List ℕ) → i < length texts → one ≡ get_or texts i one → text ≡ codes "[" ++ joined (take i texts)
    → more ≡ text ++ (mark (i == 0) ++ one) → more ≡ codes "[" ++ joined (take (i + 1) texts)
texts_more texts i one text more lt here is added =
    let long : length (take i texts) ≡ i = omega (arith, lt, length-take i texts) in
    let next : take (i + 1) texts ≡ take i texts ++ one ∷ [] = take_more texts i one lt ∙ ap (λ (t : List ℕ). take i texts ++ t ∷ []) (sym here) in
    let joined_is : joined (take (i + 1) texts) ≡ joined (take i texts) ++ (mark (i == 0) ++ one) = ap joined next ∙ joined_push (take i texts) one i long in
    added ∙ (ap (λ l. l ++ (mark (i == 0) ++ one)) is ∙ (append_assoc (codes "[") (joined (take i texts)) (mark (i == 0) ++ one) ∙ ap (λ l. codes "[" ++ l) (sym joined_is)))

pub texts_whole : (texts : List (List ℕ)) (i : ℕ) (text whole : List ℕ) → length texts ≤ i → text ≡ codes "[" ++ joined (take i texts) → whole ≡ text ++ codes "]" → whole ≡ array texts
texts_whole texts i text whole le is added =
    added ∙ (ap (λ l. l ++ codes "]") (is ∙ ap (λ ts. codes "[" ++ joined ts) (take_all i texts le)) ∙ append_assoc (codes "[") (joined texts) (codes "]"))
