-- Where a walk rests, read back.
use mathlib.Core.Path.{◌≡◌, refl, sym, ap, ◌∙◌}
use mathlib.Core.Bool.{Bool, true, false, ◌&&◌}
use mathlib.Core.List.{List}
use mathlib.Core.Logic.{◌⊎◌, inl, inr}
use Prim.Native.Nat.{ℕ}
use native.Mathlib.Omega.{arith}
use Rattle.std.specs.Prelude.{Option, Some, None}
use Rattle.laws.proofs.Choices.{choose_yes, choose_no, and_no_left, and_yes_left}
use Rattle.laws.proofs.Orders.{told}
use Rattle.walk_steps.specs.declared.steps.Asking.{Asking}
use Rattle.walk_steps.specs.declared.steps.End.{End}
use Rattle.walk_steps.specs.declared.steps.Next.{Next}
use Rattle.walk_steps.specs.declared.steps.Next.TheVariants.{Asks, Ends}
use Rattle.walk_form.specs.held.Walks.{in_form}
use Rattle.walk_form.specs.declared.held.Walk.{Walk}
use Rattle.walk_calls.specs.resting.Code.{question_next, end_next, walk_question, walk_end}

-- both caches
module _ (a b : Bool) {r : Bool} (e : r ≡ a) where
  pub order_no : r ≡ false → false ≡ (a && b)
  order_no h = sym (and_no_left b (sym e ∙ h))

  pub order_yes : r ≡ true → {s : Bool} → s ≡ b → s ≡ (a && b)
  order_yes h f = f ∙ sym (and_yes_left b (sym e ∙ h))

ends_as : Next → Option (End × ℕ) → Next
ends_as n None = n
ends_as n (Some p) = Ends p.0 p.1

module _ (walk : Walk) (texts : List ℕ) where
  module _ {b : Bool} (e : b ≡ in_form walk texts) where
    pub no_question : b ≡ false → None ≡ walk_question walk texts
    unfolding walk_question
    no_question h = sym (choose_no _ _ (sym e ∙ h))

    pub no_end : b ≡ false → None ≡ walk_end walk texts
    unfolding walk_end
    no_end h = sym (choose_no _ _ (sym e ∙ h))

    module _ (h : b ≡ true) where
      pub question_asked : (q : Asking) → walk.next ≡ Asks q → Some q ≡ walk_question walk texts
      unfolding walk_question question_next
      question_asked q n = sym (choose_yes _ _ (sym e ∙ h) ∙ ap question_next n)

      pub question_ended : (x : End) (s : ℕ) → walk.next ≡ Ends x s → None ≡ walk_question walk texts
      unfolding walk_question question_next
      question_ended x s n = sym (choose_yes _ _ (sym e ∙ h) ∙ ap question_next n)

      pub end_asked : (q : Asking) → walk.next ≡ Asks q → None ≡ walk_end walk texts
      unfolding walk_end end_next
      end_asked q n = sym (choose_yes _ _ (sym e ∙ h) ∙ ap end_next n)

      pub end_ended : (x : End) (s : ℕ) → walk.next ≡ Ends x s → Some (x, s) ≡ walk_end walk texts
      unfolding walk_end end_next
      end_ended x s n = sym (choose_yes _ _ (sym e ∙ h) ∙ ap end_next n)

  pub question_told : (q : Asking) → walk_question walk texts ≡ Some q → (in_form walk texts ≡ true) × (walk.next ≡ Asks q)
  unfolding walk_question question_next
  question_told q h = go (told (in_form walk texts)) walk.next refl
    where
      go : (in_form walk texts ≡ true) ⊎ (in_form walk texts ≡ false) → (n : Next) → walk.next ≡ n → (in_form walk texts ≡ true) × (walk.next ≡ Asks q)
      go (inr f) n e = absurd (let a : None ≡ Some q = sym (choose_no _ _ f) ∙ h in let z : ◌≡◌ {A = ℕ} 0 1 = cc in omega arith)
      go (inl f) (Ends x s) e = absurd (let a : None ≡ Some q = sym (choose_yes _ _ f ∙ ap question_next e) ∙ h in let z : ◌≡◌ {A = ℕ} 0 1 = cc in omega arith)
      go (inl f) (Asks p) e = (f, e ∙ ap Asks (let a : Some p ≡ Some q = sym (choose_yes _ _ f ∙ ap question_next e) ∙ h in cc))

  pub question_none : walk_question walk texts ≡ None → (in_form walk texts ≡ false) ⊎ ((in_form walk texts ≡ true) × ((e : End) × ((s : ℕ) × (walk.next ≡ Ends e s))))
  unfolding walk_question question_next
  question_none h = go (told (in_form walk texts)) walk.next refl
    where
      go : (in_form walk texts ≡ true) ⊎ (in_form walk texts ≡ false) → (n : Next) → walk.next ≡ n
          → (in_form walk texts ≡ false) ⊎ ((in_form walk texts ≡ true) × ((e : End) × ((s : ℕ) × (walk.next ≡ Ends e s))))
      go (inr f) n e = inl f
      go (inl f) (Ends x s) e = inr (f, (x, (s, e)))
      go (inl f) (Asks p) e = absurd (let a : Some p ≡ None = sym (choose_yes _ _ f ∙ ap question_next e) ∙ h in let z : ◌≡◌ {A = ℕ} 0 1 = cc in omega arith)

  pub end_told : (x : End) (s : ℕ) → walk_end walk texts ≡ Some (x, s) → (in_form walk texts ≡ true) × (walk.next ≡ Ends x s)
  unfolding walk_end end_next ends_as
  end_told x s h = go (told (in_form walk texts)) walk.next refl
    where
      go : (in_form walk texts ≡ true) ⊎ (in_form walk texts ≡ false) → (n : Next) → walk.next ≡ n → (in_form walk texts ≡ true) × (walk.next ≡ Ends x s)
      go (inr f) n e = absurd (let a : None ≡ Some (x, s) = sym (choose_no _ _ f) ∙ h in let z : ◌≡◌ {A = ℕ} 0 1 = cc in omega arith)
      go (inl f) (Asks q) e = absurd (let a : None ≡ Some (x, s) = sym (choose_yes _ _ f ∙ ap end_next e) ∙ h in let z : ◌≡◌ {A = ℕ} 0 1 = cc in omega arith)
      go (inl f) (Ends y t) e = (f, e ∙ ap (ends_as walk.next) (sym (choose_yes _ _ f ∙ ap end_next e) ∙ h))

  pub end_none : walk_end walk texts ≡ None → (in_form walk texts ≡ false) ⊎ ((in_form walk texts ≡ true) × ((q : Asking) × (walk.next ≡ Asks q)))
  unfolding walk_end end_next
  end_none h = go (told (in_form walk texts)) walk.next refl
    where
      go : (in_form walk texts ≡ true) ⊎ (in_form walk texts ≡ false) → (n : Next) → walk.next ≡ n
          → (in_form walk texts ≡ false) ⊎ ((in_form walk texts ≡ true) × ((q : Asking) × (walk.next ≡ Asks q)))
      go (inr f) n e = inl f
      go (inl f) (Asks p) e = inr (f, (p, e))
      go (inl f) (Ends x s) e = absurd (let a : Some (x, s) ≡ None = sym (choose_yes _ _ f ∙ ap end_next e) ∙ h in let z : ◌≡◌ {A = ℕ} 0 1 = cc in omega arith)
