-- Words about lists: a test of every element, a piece written over a list, a text in a room.
use Rattle.std.specs.Prelude.{ℕ, ◌+◌, ◌-◌, Bool, true, ◌&&◌, List, [], ◌∷◌, ◌++◌, length, take, drop, replicate}

module _ {ℓ} {A : Type ℓ} where
  -- every element passes the test
  unfoldable pub every : (A → Bool) → List A → Bool
  every f [] = true
  every f (x ∷ xs) = f x && every f xs

  -- d with the piece p written over it from place n on
  unfoldable pub pasted : List A → ℕ → List A → List A
  pasted d n p = take n d ++ (p ++ drop (n + length p) d)

  -- the elements of d from place n on, k of them
  unfoldable pub part : ℕ → ℕ → List A → List A
  part n k d = take k (drop n d)

-- a text in a room of n units: zeros stand after it
unfoldable pub roomed : ℕ → List ℕ → List ℕ
roomed n s = s ++ replicate (n - length s) 0
