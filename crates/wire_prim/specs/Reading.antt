-- How far a cursor has come.
use Rattle.std.specs.Prelude.{ℕ, ◌≡◌, ◌+◌, List, ◌++◌, length}

-- how many bytes have been read, and the bytes that are left
pub record Reading : Type 0 where
  pub place : ℕ
  pub left : List ℕ

-- the item stood at the front, and has been read
pub record Takes (item : List ℕ) (old new : Reading) : Type 0 where
  pub left : old.left ≡ item ++ new.left
  pub place : new.place ≡ old.place + length item
