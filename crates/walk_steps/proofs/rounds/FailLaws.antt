-- Laws of what comes after a failure.
use mathlib.Core.Path.{◌≡◌, sym, ap, ◌∙◌}
use mathlib.Core.List.{List, []}
use Prim.Native.Nat.{ℕ}
use lib.ListN.{take}
use borrow.Author.Tests.{eq-eqb, ne_eqb}
use Rattle.laws.proofs.Choices.{choose_yes, choose_no}
use Rattle.walk_steps.specs.steps.Steps.{Core, Question, Called, asks, next_place, onward, party_count, domain_in_use, referral_in_use, failed}
use Rattle.walk_steps.specs.steps.Held.{caches_of, question_of}
use Rattle.walk_steps.specs.declared.steps.Kind.{Kind}
use Rattle.walk_steps.specs.declared.steps.Kind.TheVariants.{Root, Link}
use Rattle.walk_steps.specs.declared.steps.Asking.{Asking}
use Rattle.walk_steps.specs.rounds.Code.{dcs_named, targets_under, failed_dc, failed_root, failed_link}

-- the next party, or the round is exhausted
module _ {n m : ℕ} (q : Question) {next : ℕ} (e : next ≡ next_place m q.party) (k : m ≡ n) (ask : ℕ → Question) (a : Called) where
  placed : next ≡ next_place n q.party
  placed = e ∙ ap (λ (x : ℕ). next_place x q.party) k

  pub onward_end : next ≡ q.began → a ≡ onward n q ask a
  unfolding onward
  onward_end h = sym (choose_yes _ _ (eq-eqb _ _ (sym placed ∙ h)))

  pub onward_next : (next ≡ q.began → ⊥) → asks (ask next) ≡ onward n q ask a
  unfolding onward
  onward_next h = ap (λ (x : ℕ). asks (ask x)) placed ∙ sym (choose_no _ _ (ne_eqb _ _ (λ z. h (placed ∙ z))))

-- by the kind of the question
module _ (refs doms : List ℕ) (w : Core) (q : Asking) (status : ℕ) where
  failing : Kind → Called
  failing k =
      failed (caches_of refs doms) w
      (record { kind = k; entry = q.entry; party = q.party; began = q.began; size = q.size; tried = []; uncovered = q.uncovered })
      status

  kinded : {k : Kind} → q.kind ≡ k → failing k ≡ failed (caches_of refs doms) w (question_of q []) status
  unfolding question_of failing
  kinded h = ap failing (sym h)

  module _ {x : Called} where
    pub failed_root_lem : q.kind ≡ Root → x ≡ failed_root (dcs_named w.path doms) w (question_of q []) status
        → x ≡ failed (caches_of refs doms) w (question_of q []) status
    unfolding failing failed failed_root failed_dc question_of party_count domain_in_use dcs_named caches_of onward
    failed_root_lem k e = e ∙ kinded k

    pub failed_link_lem : q.kind ≡ Link → x ≡ failed_link (targets_under (take q.entry w.path) refs) w (question_of q []) status
        → x ≡ failed (caches_of refs doms) w (question_of q []) status
    unfolding failing failed failed_link question_of party_count referral_in_use targets_under caches_of onward
    failed_link_lem k e = e ∙ kinded k
