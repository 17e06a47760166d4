-- Shapes of the code, proved equal to the rules; nothing here is to be believed.
use Rattle.std.specs.Prelude.{ℕ, ◌+◌, ◌/◌, ◌%◌, zero, suc, Bool, true, false, ◌&&◌, ◌||◌, not, List, [], ◌∷◌, map, eqb, drop}
use Rattle.laws.specs.Choice.{choose}
use Rattle.unc.specs.names.Names.{same_name}
use Rattle.unc.specs.names.Paths.{Target}
use Rattle.cache.specs.order.Memory.{referrals}
use Rattle.cache_lookup.specs.Code.{entry_at}
use Rattle.reply_bytes.specs.texts.Code.{spanned}
use Rattle.reply_read.specs.declared.referral.Kept.{Kept}

-- Matching one target at a time: each of the first list is equal to one of the second that was not taken before.
unfoldable pub is_in : List ℕ → List (List ℕ) → Bool
is_in x [] = false
is_in x (y ∷ ys) = same_name x y || is_in x ys

-- the list without the first that is equal to x
unfoldable pub without : List ℕ → List (List ℕ) → List (List ℕ)
without x [] = []
without x (y ∷ ys) = choose (same_name x y) ys (y ∷ without x ys)

unfoldable pub matched : List (List ℕ) → List (List ℕ) → Bool
matched [] ys = true
matched (x ∷ xs) ys = is_in x ys && matched xs (without x ys)

-- Words of the comparison that marks one target at a time.

-- the names that are not marked
unfoldable pub unmarked : List Bool → List (List ℕ) → List (List ℕ)
unmarked [] ys = ys
unmarked (m ∷ ms) [] = []
unmarked (m ∷ ms) (y ∷ ys) = choose m (unmarked ms ys) (y ∷ unmarked ms ys)

-- the place, counted from n, of the first unmarked name equal to x; the place past the last where there is none
unfoldable pub first_place : ℕ → List ℕ → List Bool → List (List ℕ) → ℕ
first_place n x ms [] = n
first_place n x [] (y ∷ ys) = choose (same_name x y) n (first_place (suc n) x [] ys)
first_place n x (m ∷ ms) (y ∷ ys) = choose (not m && same_name x y) n (first_place (suc n) x ms ys)

-- the marks of n names, as the bits of a number, the lowest first: a name is marked where its bit is 0
unfoldable pub marks_in : ℕ → ℕ → List Bool
marks_in zero m = []
marks_in (suc n) m = eqb (m % 2) 0 ∷ marks_in n (m / 2)

-- The two target lists that are compared: that of an entry, and that of a reply.

-- the TargetList of the entry at place i
unfoldable pub held_targets : ℕ → List ℕ → List Target
held_targets i raw = (entry_at referrals i raw).targets

-- the path of a kept target of a reply
unfoldable pub given_path : List ℕ → Kept → List ℕ
given_path r k = spanned r k.path

-- the set boundaries of the two lists
unfoldable pub boundaries : List Target → List Bool
boundaries ts = map (λ t. t.opens) ts

unfoldable pub given_boundaries : List Kept → List Bool
given_boundaries ks = map (λ k. k.opens) ks

-- how many targets stand before the next set boundary
unfoldable pub before_boundary : List Bool → ℕ
before_boundary [] = 0
before_boundary (b ∷ bs) = choose b 0 (suc (before_boundary bs))

-- where the set that starts at place a ends
unfoldable pub set_end : ℕ → List Bool → ℕ
set_end a bs = a + 1 + before_boundary (drop (a + 1) bs)
