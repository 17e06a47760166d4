-- Laws of the search for the longest match: what the last units of prefixes tell, and where it may end.
use Rattle.std.specs.Prelude.{Option}
use Rattle.std.proofs.Common.{◌≡◌, ℕ, zero, suc, ◌+◌, ◌-◌, ◌*◌, ◌/◌, ◌%◌, ◌<◌, ◌≤◌, min, false, eqb, List, length, get_or, drop, sym, refl, ap, ◌∙◌, ap₂, arith, eq-eqb}
use lib.Bits.{bit_and, bit_xor, and_mask, and_block, xor_mod, xor_shr, xor_self}
use Rattle.laws.proofs.Tests.{not_both}
use Rattle.unc.proofs.names.WithinLaws.{within_low}
use Rattle.cache.specs.places.Layout.{place_count, place_at, unit_at, room_at}
use Rattle.cache.specs.order.Memory.{referrals, place_of, decode}
use Rattle.cache_lookup.specs.Lookup.{longer_match, longest_from}
use Rattle.cache_lookup.specs.Code.{LowBits, Passed}
use Rattle.cache_lookup.proofs.FindLaws.{no_longer, place_unlike, units_unlike, find_miss, find_end}

-- where the low bits are the same, nothing differs in them
low_same : (a b : ℕ) → a % 32 ≡ b % 32 → bit_and (bit_xor a b) 31 ≡ 0
low_same a b e = and_mask (bit_xor a b) 5 ∙ (xor_mod a b 5 ∙ (ap (λ (x : ℕ). bit_xor x (b % 32)) e ∙ xor_self (b % 32)))

two_same : (a b : ℕ) → a % 32 ≡ b % 32 → a / 65536 % 32 ≡ b / 65536 % 32 → bit_and (bit_xor a b) 2031647 ≡ 0
two_same a b e f =
    let x : ℕ = bit_xor a b in
    let split : x ≡ x / 65536 * 65536 + x % 65536 = omega arith in
    let high : bit_and (x / 65536) 31 ≡ 0 = ap (λ (y : ℕ). bit_and y 31) (xor_shr a b 16) ∙ low_same (a / 65536) (b / 65536) f in
    let low : bit_and (x % 65536) 31 ≡ 0 = ap (λ (y : ℕ). bit_and y 31) (xor_mod a b 16) ∙ low_same (a % 65536) (b % 65536) (omega arith) in
    ap (λ (y : ℕ). bit_and y 2031647) split
    ∙ (and_block 16 (x / 65536) 31 (x % 65536) 31 (omega arith) (omega arith) ∙ ap₂ (λ (y z : ℕ). y * 65536 + z) high low)

-- four units in a number
four_same : {s t : List ℕ} {k l a b : ℕ} → LowBits s k a → LowBits t l b → ((d : ℕ) → d < 4 → get_or s (k + d) 0 % 32 ≡ get_or t (l + d) 0 % 32)
    → bit_and (bit_xor a b) 8725857424048159 ≡ 0
four_same {s} {t} {k} {l} {a} {b} p q same =
    let x : ℕ = bit_xor a b in
    let split : x ≡ x / 4294967296 * 4294967296 + x % 4294967296 = omega arith in
    let high : bit_and (x / 4294967296) 2031647 ≡ 0 =
    ap (λ (y : ℕ). bit_and y 2031647) (xor_shr a b 32)
    ∙ two_same (a / 4294967296) (b / 4294967296) (p.third ∙ (same 2 (omega arith) ∙ sym q.third))
    (omega (arith, p.fourth, q.fourth, same 3 (omega arith))) in
    let low : bit_and (x % 4294967296) 2031647 ≡ 0 =
    ap (λ (y : ℕ). bit_and y 2031647) (xor_mod a b 32)
    ∙ two_same (a % 4294967296) (b % 4294967296) (omega (arith, p.first, q.first, first_same)) (omega (arith, p.second, q.second, same 1 (omega arith))) in
    ap (λ (y : ℕ). bit_and y 8725857424048159) split
    ∙ (and_block 32 (x / 4294967296) 2031647 (x % 4294967296) 2031647 (omega arith) (omega arith) ∙ ap₂ (λ (y z : ℕ). y * 4294967296 + z) high low)
  where
    first_same : get_or s k 0 % 32 ≡ get_or t l 0 % 32
    first_same = let e : k + 0 ≡ k = omega arith in let f : l + 0 ≡ l = omega arith in rw (← e, ← f) (same 0 (omega arith))

module _ (raw path : List ℕ) where
  -- a place whose last units are not those of the path
  pub ends_apart : (i : ℕ) → i < place_count raw → {u start a b : ℕ} {room : List ℕ} → u ≡ unit_at 0 (place_at i raw) → room ≡ room_at 0 (place_at i raw)
      → length path ≤ 256 → start + 4 ≡ min u (length path) → LowBits room start a → LowBits path start b → eqb (bit_and (bit_xor a b) 8725857424048159) 0 ≡ false
      → longer_match path 0 (place_of referrals (place_at i raw)) ≡ false
  ends_apart i fits {start = start} eu er short e p q h =
      units_unlike raw path i fits eu er (λ units within same.
      not_both (eq-eqb _ _ (four_same p q (λ d v. within_low _ _ (start + d) (omega arith) (omega arith) same))) h)

  -- places that are passed over
  pub passed_none : {i j : ℕ} → j ≡ i → Passed raw path i j
  passed_none e = rw e (record { same = λ best n. refl })

  pub passed_on : {i j k : ℕ} → Passed raw path i j → Passed raw path j k → Passed raw path i k
  passed_on p q = record { same = λ best n. p.same best n ∙ q.same best n }

  pub passed_one : {h i j : ℕ} → Passed raw path h i → longer_match path 0 (place_of referrals (place_at i raw)) ≡ false → i < place_count raw → j ≡ i + 1
      → Passed raw path h j
  passed_one {i = i} p unmatched fits e =
      passed_on p (rw e (record { same = λ best n. find_miss raw path i best n (place_unlike (place_at i raw) path n unmatched (omega arith)) refl refl refl fits }))

  -- the loop, with the best so far: at first none
  -- none is longer than the path
  find_over : (d i : ℕ) (best : Option ℕ) (n : ℕ) → length path ≤ n → i + d ≡ place_count raw → longest_from path i best n (drop i (decode referrals raw)) ≡ best
  find_over zero i best n l e = find_end raw path i best n (omega arith)
  find_over (suc d) i best n l e =
      find_miss raw path i best n refl (no_longer (place_at i raw) path n l) refl refl (omega arith) ∙ find_over d (i + 1) best n l (omega arith)

  pub find_whole : (i : ℕ) (best : Option ℕ) (n : ℕ) → n ≡ length path → i ≤ place_count raw → longest_from path i best n (drop i (decode referrals raw)) ≡ best
  find_whole i best n e u = find_over (place_count raw - i) i best n (omega arith) (omega arith)
