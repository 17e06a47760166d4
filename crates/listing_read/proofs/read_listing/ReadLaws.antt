-- Laws of the answers, one for each, and of what they leave in the cache.
use mathlib.Core.Path.{◌≡◌, sym, ◌∙◌}
use mathlib.Core.Bool.{true, false}
use mathlib.Core.List.{List}
use Prim.Native.Nat.{ℕ, ◌≤◌, ◌<◌}
use native.Mathlib.Omega.{arith}
use lib.ListN.{length}
use borrow.Author.Tests.{le-leb, lt-leb, ne_eqb, eq-eqb}
use Rattle.std.specs.Prelude.{Ok, Err}
use Rattle.laws.proofs.Choices.{choose_yes, choose_no}
use Rattle.cache.specs.places.Layout.{place_count}
use Rattle.cache.specs.order.Memory.{referrals, right_size, encode}
use Rattle.listing_read.specs.listing_rules.Entries.{entries_said}
use Rattle.listing_read.specs.listing_rules.Read.{is_listing, placed, read_number, read_after}
use Rattle.listing_read.specs.check_listing.Code.{checked}
use Rattle.listing_read.proofs.line.LineLaws.{chosen, not_chosen}
use Rattle.std.specs.Prelude.{Option, Some, None}
use Rattle.listing_read.specs.read_listing.Code.{load_refusal}
use Rattle.listing_read.specs.declared.read_listing.ReadError.TheVariants.{NotInOrder, NotListing, TooMany}

-- what the test of a text tells
pub text_good : (text : List ℕ) {r : Option ℕ} {n : ℕ} → r ≡ checked text → r ≡ Some n → (is_listing text ≡ true) × (n ≡ length (entries_said text))
unfolding checked
text_good text e h = chosen (is_listing text) (sym e ∙ h)

pub text_bad : (text : List ℕ) {r : Option ℕ} → r ≡ checked text → r ≡ None → is_listing text ≡ false
unfolding checked
text_bad text e h = not_chosen (is_listing text) (length (entries_said text)) (sym e ∙ h)

module _ (text raw : List ℕ) where
  -- a number that is not 0 leaves the cache as it was
  kept : (n : ℕ) → 1 ≤ n → n ≡ read_number text raw → raw ≡ read_after text raw
  unfolding read_after
  kept n h e = sym (choose_no _ raw (ne_eqb (read_number text raw) 0 (λ z. omega arith)))

  pub no_places : right_size raw ≡ false → (load_refusal (Err NotInOrder) ≡ read_number text raw) × (raw ≡ read_after text raw)
  unfolding load_refusal read_number
  no_places h = let e : 4 ≡ read_number text raw = sym (choose_no _ 4 h) in (e, kept 4 (omega arith) e)

  module _ (size : right_size raw ≡ true) where
    pub no_listing : is_listing text ≡ false → (load_refusal (Err NotListing) ≡ read_number text raw) × (raw ≡ read_after text raw)
    unfolding load_refusal read_number
    no_listing h = let e : 8 ≡ read_number text raw = sym (choose_yes _ 4 size ∙ choose_no _ 8 h) in (e, kept 8 (omega arith) e)

    module _ (form : is_listing text ≡ true) where
      pub too_many : place_count raw < length (entries_said text) → (load_refusal (Err TooMany) ≡ read_number text raw) × (raw ≡ read_after text raw)
      unfolding load_refusal read_number
      too_many h = let e : 9 ≡ read_number text raw = sym (choose_yes _ 4 size ∙ (choose_yes _ 8 form ∙ choose_no 0 9 (lt-leb _ _ h))) in (e, kept 9 (omega arith) e)

      pub was_read : {o : List ℕ} → length (entries_said text) ≤ place_count raw → o ≡ encode referrals (placed (place_count raw) (entries_said text))
          → (load_refusal (Ok tt) ≡ read_number text raw) × (o ≡ read_after text raw)
      unfolding load_refusal read_number read_after
      was_read h e =
          let z : read_number text raw ≡ 0 = choose_yes _ 4 size ∙ (choose_yes _ 8 form ∙ choose_yes 0 9 (le-leb _ _ h)) in
          (sym z, e ∙ sym (choose_yes _ raw (eq-eqb _ 0 z)))
