-- The link "train": worked examples of the equivalence check, as closed computations on the definitions.
use mathlib.Core.Path.{◌≡◌, refl}
use mathlib.Core.Bool.{true, false}
use mathlib.Core.List.{List, [], ◌∷◌}
use Prim.Native.Nat.{ℕ}
use Rattle.laws.specs.Choice.{choose}
use Rattle.laws.specs.Lists.{every}
use Rattle.unc.specs.names.Names.{folded, same_unit, same_name}
use Rattle.unc.specs.names.Paths.{Target}
use Rattle.cache_entry.specs.equivalent_targets.Equivalence.{times_in, same_targets, paths, join_set, next_opens, sets, same_sets, equivalent}

-- `\o1\train` and `\o2\train` were moved to `\n1\train` and `\n2\train`
abbrev share : ℕ → ℕ → List ℕ
share a b = 92 ∷ a ∷ b ∷ 92 ∷ 116 ∷ 114 ∷ 97 ∷ 105 ∷ 110 ∷ []

-- a target in the set of the one before it, and one that opens a set
abbrev here : ℕ → ℕ → Target
here a b = record { path = share a b; opens = false }

abbrev opening : ℕ → ℕ → Target
opening a b = record { path = share a b; opens = true }

abbrev old_servers : List Target
old_servers = here 111 49 ∷ here 111 50 ∷ []

abbrev new_servers : List Target
new_servers = here 110 49 ∷ here 110 50 ∷ []

-- two targets exchanged for two others are not equivalent, though two equals two
pub train_moved : equivalent 4 old_servers new_servers ≡ false
unfolding equivalent sets next_opens join_set same_sets same_targets times_in every same_name same_unit folded choose
train_moved = refl

pub train_moved_3 : equivalent 3 old_servers new_servers ≡ false
unfolding equivalent paths same_targets times_in every same_name same_unit folded choose
train_moved_3 = refl

-- nor is one of two exchanged
pub train_half_moved : equivalent 3 old_servers (here 111 49 ∷ here 110 50 ∷ []) ≡ false
unfolding equivalent paths same_targets times_in every same_name same_unit folded choose
train_half_moved = refl

-- the same two in another order, one of them spelled `\O2\train`, are equivalent
pub train_turned : equivalent 4 old_servers (here 79 50 ∷ here 111 49 ∷ []) ≡ true
unfolding equivalent sets next_opens join_set same_sets same_targets times_in every same_name same_unit folded choose
train_turned = refl

pub train_turned_3 : equivalent 3 old_servers (here 79 50 ∷ here 111 49 ∷ []) ≡ true
unfolding equivalent paths same_targets times_in every same_name same_unit folded choose
train_turned_3 = refl

-- a repeated target differs, where the numbers are equal too
pub train_repeated : equivalent 3 (here 111 49 ∷ old_servers) (here 111 50 ∷ old_servers) ≡ false
unfolding equivalent paths same_targets times_in every same_name same_unit folded choose
train_repeated = refl

-- two sets in another order differ in version 4, and not in version 3
pub train_sets : equivalent 4 (here 111 49 ∷ opening 111 50 ∷ []) (here 111 50 ∷ opening 111 49 ∷ []) ≡ false
unfolding equivalent sets next_opens join_set same_sets same_targets times_in every same_name same_unit folded choose
train_sets = refl

pub train_sets_3 : equivalent 3 (here 111 49 ∷ opening 111 50 ∷ []) (here 111 50 ∷ opening 111 49 ∷ []) ≡ true
unfolding equivalent paths same_targets times_in every same_name same_unit folded choose
train_sets_3 = refl

-- so do one set and the same targets in two
pub train_split : equivalent 4 old_servers (here 111 49 ∷ opening 111 50 ∷ []) ≡ false
unfolding equivalent sets next_opens join_set same_sets same_targets times_in every same_name same_unit folded choose
train_split = refl
