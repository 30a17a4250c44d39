-- What a produce leaves, after rows of others came.
use Rattle.std.proofs.Common.{◌≡◌, ℕ, ◌+◌, List, [], subst, arith}
use Rattle.std.specs.List.{AllZip}
use Rattle.model.specs.state.Log.{Log, Topic, Keeps, rows_in_all}
use Rattle.model.proofs.Stretches.{keeps_on}
use Rattle.broker_link.specs.Produced.{at_of, IsAsked, IsPlaced, IsPlainly, MayBePlaced, Takes, taken_of}
use Rattle.broker_link.specs.Stored.{ArePut, log_of, log_with, OthersCame, SomePut}
use Rattle.broker_link.specs.declared.link.PartRecords.{PartRecords}
use Rattle.broker_link.specs.declared.link.PartPlaced.{PartPlaced}
use Rattle.broker_link.proofs.Answered.{put_first, some_of, some_put, zip_weaker}
use Rattle.broker_link.proofs.Others.{keeps_with}

takes_after : (a t b : List Topic) (n m : ℕ) (topic : List ℕ) (part : PartRecords) (placed : PartPlaced) → Keeps (log_with a n) (log_with t m) → Takes (log_of t) (log_of b) topic part placed → Takes (log_with a n) (log_with b m) topic part placed
takes_after a t b n m topic part placed keeps is = record {
  same = is.same;
  based = is.based;
  behind = λ z. omega (arith, (keeps.part (at_of topic part)).end, is.behind z);
  stand = is.stand;
}

pub placed_after : (a t b : List Topic) (n m : ℕ) (topic : List ℕ) (parts : List PartRecords) (placed : List PartPlaced) → OthersCame (log_with a n) (log_with t m)
    → AllZip (Takes (log_of t) (log_of b) topic) parts placed → rows_in_all (log_of b) ≡ rows_in_all (log_of t) + taken_of parts placed
    → IsPlaced (log_with a n) (log_with b m) topic parts placed
placed_after a t b n m topic parts placed came takes added = record {
  each = zip_weaker (Takes (log_of t) (log_of b) topic) (Takes (log_with a n) (log_with b m) topic) parts placed (λ part p is. takes_after a t b n m topic part p came.keeps is) takes;
  added = omega (arith, came.none, added);
}

pub some_placed : (a t b : List Topic) (n m : ℕ) (topic : List ℕ) (parts : List PartRecords) → OthersCame (log_with a n) (log_with t m) → SomePut (log_of t) (log_of b) topic parts
    → MayBePlaced (log_with a n) (log_with b m) topic parts
some_placed a t b n m topic parts came some = (some.placed, placed_after a t b n m topic parts some.placed came some.takes some.added)

pub all_placed : (a t b : List Topic) (n m : ℕ) (topic : List ℕ) (parts : List PartRecords) (placed : List PartPlaced) → OthersCame (log_with a n) (log_with t m) → ArePut (log_of t) (log_of b) topic parts placed
    → MayBePlaced (log_with a n) (log_with b m) topic parts
all_placed a t b n m topic parts placed came are = some_placed a t b n m topic parts came (some_put (log_of t) (log_of b) topic parts placed are)

pub none_placed : (a t : List Topic) (n m : ℕ) (topic : List ℕ) (parts : List PartRecords) → OthersCame (log_with a n) (log_with t m) → MayBePlaced (log_with a n) (log_with t m) topic parts
none_placed a t n m topic parts came = some_placed a t t n m topic parts came (some_of (log_of t) (log_of t) topic parts 0 [] (put_first t topic))

pub keeps_after : (a t b : List Topic) (n m : ℕ) → OthersCame (log_with a n) (log_with t m) → Keeps (log_of t) (log_of b) → Keeps (log_with a n) (log_with b m)
keeps_after a t b n m came keeps = keeps_on (log_with a n) (log_with t m) (log_with b m) came.keeps (keeps_with t b m m (omega arith) keeps)

pub plainly_after : (a t b : List Topic) (n : ℕ) (topic : List ℕ) (parts : List PartRecords) (placed : List PartPlaced) → t ≡ a → ArePut (log_of t) (log_of b) topic parts placed
    → AllZip (IsPlainly (log_with a n) topic) parts placed
plainly_after a t b n topic parts placed is are = subst (λ (x : List Topic). AllZip (IsPlainly (log_with x n) topic) parts placed) is are.plainly

pub asked_by : (a b : Log) (topic : List ℕ) (parts : List PartRecords) (placed : List PartPlaced) → ArePut a b topic parts placed → AllZip IsAsked parts placed
asked_by a b topic parts placed are = zip_weaker (Takes a b topic) IsAsked parts placed (λ x y t. t.same) are.takes
