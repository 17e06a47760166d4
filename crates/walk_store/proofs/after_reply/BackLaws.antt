-- Laws of what comes after a reply that was taken: where the steps rest, and both caches put back.
use mathlib.Core.Path.{◌≡◌, refl, sym, ap, ◌∙◌}
use mathlib.Core.Bool.{Bool, true}
use mathlib.Core.List.{List, []}
use Prim.Native.Nat.{ℕ}
use lib.ListN.{take}
use Rattle.cache.specs.places.Code.{changed}
use Rattle.cache.specs.order.Entries.{Referral}
use Rattle.cache.specs.order.Memory.{referrals, domains, decode}
use Rattle.cache_lookup.specs.Code.{entry_at}
use Rattle.walk_steps.specs.walk_texts.Code.{Standing}
use Rattle.walk_steps.specs.steps.Steps.{Core, Called, asks, goes, turned, with_hit, step5, after_store}
use Rattle.walk_steps.specs.steps.Held.{caches_of, core_of}
use Rattle.walk_steps.specs.steps.Code.{core_at, rested_at}
use Rattle.walk_steps.specs.declared.steps.Kind.{Kind}
use Rattle.walk_steps.specs.declared.steps.Kind.TheVariants.{Dc, Root, Link, Sysvol, Io}
use Rattle.walk_steps.specs.declared.steps.End.{End}
use Rattle.walk_steps.specs.declared.steps.Next.TheVariants as next
use Rattle.walk_steps.specs.declared.steps.Progress.{Progress}
use Rattle.walk_steps.specs.declared.steps.Rested.{Rested}
use Rattle.walk_steps.specs.cycle.Code.{Packed, rested_with, packed, called_after}
use Rattle.walk_steps.proofs.cycle.MoveLaws.{packed_end, goes_stops}
use Rattle.walk_store.specs.declared.party_hint.Hinted.{Hinted}
use Rattle.walk_store.specs.declared.reply_taken.Taken.{Taken}
use Rattle.walk_store.specs.declared.reply_taken.Taken.TheVariants.{Ends, Dcs, Entry}
use Rattle.walk_store.specs.party_hint.Code.{Lent, lent_caches, unhinted}
use Rattle.walk_store.specs.reply_taken.Code.{taken_turn, put_back}
use Rattle.walk_store.specs.after_reply.Code.{is_for_sysvol}

after_kind : (k : Kind) (w : Core) (e : Referral) → called_after (is_for_sysvol k) w e ≡ after_store k w e
unfolding called_after is_for_sysvol after_store
after_kind Dc w e = refl
after_kind Root w e = refl
after_kind Link w e = refl
after_kind Sysvol w e = refl
after_kind Io w e = refl

-- on from what was taken
module _ (refs doms rooms : List ℕ) (g : Progress) (kind : Kind) (t : Taken) where
  abbrev rest : Packed
  rest = packed (turned g.left g.clock (taken_turn (core_at g rooms) kind t refs doms))

  as_taken : {x : Taken} → t ≡ x → packed (turned g.left g.clock (taken_turn (core_at g rooms) kind x refs doms)) ≡ rest
  as_taken h = ap (λ (x : Taken). packed (turned g.left g.clock (taken_turn (core_at g rooms) kind x refs doms))) (sym h)

  pub on_ends : Standing g.len rooms → (e : End) (status : ℕ) {r : Rested} → t ≡ Ends e status → r ≡ rested_at (next.Ends e status) g.len g.left g.hit → rested_with r rooms ≡ rest
  unfolding turned taken_turn rested_at
  on_ends s e status h k =
      packed_end g.len rooms s e status g.left g.size g.hit k
      ∙ (ap packed (sym (goes_stops g.left (caches_of refs doms) g.clock (core_at g rooms) e status [])) ∙ as_taken h)

  pub on_dcs : (i : ℕ) {x : Packed} → t ≡ Dcs i
      → x ≡ packed (goes g.left (caches_of refs doms) g.clock (core_of (take g.len rooms) g.size true) (asks (step5 (decode domains doms) (core_of (take g.len rooms) g.size true))))
      → x ≡ rest
  unfolding turned taken_turn with_hit
  on_dcs i h k = k ∙ as_taken h

  pub on_entry_lem : (i : ℕ) (a : Hinted) {sysvol : Bool} {x : Packed} → t ≡ Entry i a → sysvol ≡ is_for_sysvol kind
      → x ≡ packed (goes g.left (caches_of refs doms) g.clock (core_of (take g.len rooms) g.size true) (called_after sysvol (core_of (take g.len rooms) g.size true) (entry_at referrals i refs)))
      → x ≡ rest
  unfolding turned taken_turn with_hit
  on_entry_lem i a h s k =
      k
      ∙ (ap (λ (b : Called). packed (goes g.left (caches_of refs doms) g.clock (core_of (take g.len rooms) g.size true) b))
      (ap (λ (b : Bool). called_after b (core_of (take g.len rooms) g.size true) (entry_at referrals i refs)) s
      ∙ after_kind kind (core_of (take g.len rooms) g.size true) (entry_at referrals i refs))
      ∙ as_taken h)

-- both caches put back
module _ (t : Taken) (saved refs doms : List ℕ) where
  as_put : {x : Taken} → t ≡ x → put_back x saved refs doms ≡ put_back t saved refs doms
  as_put h = ap (λ (x : Taken). put_back x saved refs doms) (sym h)

  pub back_ends : {e : End} {status : ℕ} → t ≡ Ends e status → lent_caches refs doms ≡ put_back t saved refs doms
  unfolding put_back
  back_ends h = as_put h

  pub back_dcs : {i : ℕ} {m : List ℕ} → t ≡ Dcs i → m ≡ changed i (λ q. saved) doms → lent_caches refs m ≡ put_back t saved refs doms
  unfolding put_back
  back_dcs h e = (λ j. lent_caches refs (e j)) ∙ as_put h

  pub back_entry : {i : ℕ} {a : Hinted} {m : List ℕ} {x : Lent} → t ≡ Entry i a → m ≡ changed i (λ q. saved) refs → x ≡ unhinted a m doms → x ≡ put_back t saved refs doms
  unfolding put_back
  back_entry {i} {a} h e k = k ∙ (ap (λ (r : List ℕ). unhinted a r doms) e ∙ as_put h)
