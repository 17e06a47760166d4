-- Laws of the ways in which listing ends.
use mathlib.Core.Path.{◌≡◌, refl, sym, ap, ◌∙◌}
use mathlib.Core.Bool.{Bool, true, false}
use mathlib.Core.List.{List}
use Prim.Native.Nat.{ℕ, ◌≤◌, ◌<◌}
use native.Mathlib.Nat.{zero-add}
use native.Mathlib.Omega.{arith}
use lib.ListN.{length}
use lib.Dec.{leb}
use borrow.Author.Tests.{le-leb, lt-leb}
use Rattle.laws.specs.Choice.{choose}
use Rattle.laws.proofs.Choices.{choose_yes, choose_no}
use Rattle.cache.specs.places.Layout.{place_count}
use Rattle.cache.specs.order.Memory.{referrals, decode, in_order}
use Rattle.cache.proofs.order.MemoryLaws.{cache_told, order_good, length_decode}
use Rattle.std.specs.Prelude.{Result, Ok, Err}
use Rattle.listing_spelling.specs.spell.Spelling.{Put}
use Rattle.listing_write.specs.Listed.{listed_text, list_refusal, list_answer, buffer_after}
use Rattle.listing_write.specs.Code.{list_number}
use Rattle.listing_write.specs.declared.ListError.{ListError}
use Rattle.listing_write.specs.declared.ListError.TheVariants.{NotInOrder, TooShort}

pub few_places : (raw : List ℕ) → in_order referrals raw ≡ true → place_count raw ≤ 32
few_places raw h = omega (arith, (cache_told referrals (decode referrals raw) (order_good referrals raw h)).most, length_decode referrals raw)

module _ (raw out : List ℕ) where
  pub no_order : in_order referrals raw ≡ false → (Err NotInOrder ≡ list_answer raw (length out)) × (out ≡ buffer_after raw out)
  unfolding list_answer buffer_after
  no_order h = (sym (choose_no _ _ h), sym (choose_no _ _ h))

  pub no_room : {n : ℕ} → in_order referrals raw ≡ true → n ≡ length (listed_text raw) → length out < n → (Err TooShort ≡ list_answer raw (length out)) × (out ≡ buffer_after raw out)
  unfolding list_answer buffer_after
  no_room h e l =
      let s = lt-leb (length (listed_text raw)) (length out) (omega arith) in
      (sym (choose_yes _ _ h ∙ choose_no _ _ s), sym (choose_yes _ _ h ∙ choose_no _ _ s))

  pub was_listed : {n r : ℕ} {o : List ℕ} → in_order referrals raw ≡ true → n ≡ length (listed_text raw) → n ≤ length out → Put out 0 (listed_text raw) o r
      → (Ok r ≡ list_answer raw (length out)) × (o ≡ buffer_after raw out)
  unfolding list_answer buffer_after
  was_listed h e l w =
      let s = le-leb (length (listed_text raw)) (length out) (omega arith) in
      (ap Ok (w.end ∙ zero-add (length (listed_text raw))) ∙ sym (choose_yes _ _ h ∙ choose_yes _ _ s), w.memory ∙ sym (choose_yes _ _ h ∙ choose_yes _ _ s))

numbers : (a b : Bool) (n : ℕ) → list_refusal (choose a (choose b (Ok n) (Err TooShort)) (Err NotInOrder)) ≡ choose a (choose b 0 10) 4
unfolding list_refusal choose
numbers true true n = refl
numbers true false n = refl
numbers false b n = refl

-- the number of the answer, beside the answer and the buffer
pub numbered : (raw out : List ℕ) {v : Result ℕ ListError} {o : List ℕ} → (v ≡ list_answer raw (length out)) × (o ≡ buffer_after raw out)
    → (list_refusal v ≡ list_number raw (length out)) × ((v ≡ list_answer raw (length out)) × (o ≡ buffer_after raw out))
unfolding list_answer list_number
numbered raw out w = (ap list_refusal w.0 ∙ numbers (in_order referrals raw) (leb (length (listed_text raw)) (length out)) (length (listed_text raw)), w)
