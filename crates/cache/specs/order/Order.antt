-- When an entry and a cache are good: document 01, "A cache is in order when every entry meets this, no two prefixes (or names) are equal".
use Rattle.std.specs.Prelude.{ℕ, Bool, true, ◌&&◌, not, List, [], ◌∷◌, length, leb, ltb, eqb}
use Rattle.laws.specs.Choice.{choose}
use Rattle.laws.specs.Lists.{every}
use Rattle.unc.specs.names.Names.{same_name, good_name}
use Rattle.unc.specs.names.Paths.{normalised_count, Target}
use Rattle.cache.specs.order.Entries.{Referral, Domain}

-- "normalised, 2 components or more": a prefix, and each target likewise
unfoldable pub good_prefix : List ℕ → Bool
good_prefix s = leb 2 (normalised_count s)

-- a target
unfoldable pub good_target : Target → Bool
good_target t = good_prefix t.path

-- set boundaries: "none held for the first"
unfoldable pub first_opens_none : List Target → Bool
first_opens_none [] = true
first_opens_none (t ∷ ts) = not t.opens

-- "1 to 8 targets"; TargetHint is one of them
unfoldable pub good_referral : Referral → Bool
good_referral e =
    good_prefix e.prefix
    && (leb 1 (length e.targets)
    && (leb (length e.targets) 8
    && (every good_target e.targets && (first_opens_none e.targets && ltb e.hint (length e.targets)))))

-- DCHint is a DC, and "not valid exactly when there are no DCs"; it is then held as 0
unfoldable pub good_dc_hint : List (List ℕ) → ℕ → Bool
good_dc_hint dcs hint = choose (eqb (length dcs) 0) (eqb hint 0) (ltb hint (length dcs))

-- a name and "0 to 8 DCs", each one good component of at most 255 units
unfoldable pub good_domain : Domain → Bool
good_domain d = good_name d.name && (leb (length d.dcs) 8 && (every good_name d.dcs && good_dc_hint d.dcs d.hint))

-- no two of the names are equal
unfoldable pub distinct : List (List ℕ) → Bool
distinct [] = true
distinct (n ∷ ns) = every (λ m. not (same_name n m)) ns && distinct ns
