-- What the events of an answer keep: the path and the size of the walk.
use Rattle.std.specs.Prelude.{Option, None, Some}
use mathlib.Core.Path.{◌≡◌, refl, sym, ◌∙◌, subst}
use mathlib.Core.Bool.{Bool, true, false}
use mathlib.Core.List.{List}
use Prim.Native.Nat.{ℕ, ◌≤◌}
use lib.ListN.{length}
use Rattle.laws.specs.Choice.{choose}
use Rattle.cache.specs.order.Entries.{Referral}
use Rattle.reply_read.specs.referral.Replies as replies
use Rattle.reply_read.specs.referral.Replies.{malformed, nothing, says}
use Rattle.walk_steps.specs.steps.Steps.{Caches, Core, Question, Called, Turn, turned, goes, with_hit, dc_answer, referral_answer, stored_turn, referral_succeeds, referral_answered, io_with, io_answered}
use Rattle.walk_steps.specs.declared.steps.Kind.{Kind}
use Rattle.walk_steps.specs.declared.steps.Kind.TheVariants.{Dc, Root, Link, Sysvol, Io}
use Rattle.walk_store.proofs.after_reply.RestLaws.{Kept, kept_goes}

chosen : {A : Type 0} (P : A → Type 0) (b : Bool) {x y : A} → P x → P y → P (choose b x y)
unfolding choose
chosen P true p q = p
chosen P false p q = q

-- the path and the size stay
record Same (w : Core) (t : Turn) : Type 0 where
  path_same : t.core.path ≡ w.path
  size_same : t.core.size ≡ w.size

same_turn : (w : Core) (c : Caches) (a : Called) → Same w (record { caches = c; core = w; called = a })
same_turn w c a = record { path_same = refl; size_same = refl }

same_hit : (w : Core) (c : Caches) (hit : Bool) (a : Called) → Same w (record { caches = c; core = with_hit hit w; called = a })
unfolding with_hit
same_hit w c hit a = record { path_same = refl; size_same = refl }

same_dcs : (c : Caches) (w : Core) (r : replies.Reply (List (List ℕ))) → Same w (dc_answer c w r)
unfolding dc_answer
same_dcs c w malformed = same_turn w _ _
same_dcs c w nothing = same_turn w _ _
same_dcs c w (says names) = same_hit w _ true _

same_stored : (c : Caches) (w : Core) (q : Question) (clock : ℕ) (r : replies.Reply replies.ReferralReply) → Same w (referral_answer c w q clock r)
unfolding referral_answer stored_turn
same_stored c w q clock malformed = same_turn w _ _
same_stored c w q clock nothing = same_turn w _ _
same_stored c w q clock (says r) = chosen (Same w) _ (same_turn w _ _) (same_hit w _ true _)

same_success : (c : Caches) (w : Core) (q : Question) (reply : List ℕ) (clock : ℕ) → Same w (referral_succeeds c w q reply clock)
unfolding referral_succeeds
same_success c w q reply clock = go q.kind
  where
    go : (k : Kind)
        → Same w (referral_succeeds c w (record { kind = k; entry = q.entry; party = q.party; began = q.began; size = q.size; tried = q.tried; uncovered = q.uncovered }) reply clock)
    go Dc = same_dcs c w _
    go Root = same_stored c w _ clock _
    go Link = same_stored c w _ clock _
    go Sysvol = same_stored c w _ clock _
    go Io = same_turn w _ _

same_referral : (c : Caches) (w : Core) (q : Question) (status : ℕ) (reply : List ℕ) (clock : ℕ) → Same w (referral_answered c w q status reply clock)
unfolding referral_answered
same_referral c w q status reply clock =
    chosen (Same w) _ (chosen (Same w) _ (same_turn w _ _) (same_success c w q reply clock)) (same_turn w _ _)

same_with : (c : Caches) (w : Core) (q : Question) (status : ℕ) (o : Option Referral) → Same w (io_with c w q status o)
unfolding io_with
same_with c w q status None = same_turn w _ _
same_with c w q status (Some e) = chosen (Same w) _ (same_turn w _ _) (same_turn w _ _)

same_io : (c : Caches) (w : Core) (q : Question) (status : ℕ) → Same w (io_answered c w q status)
unfolding io_answered
same_io c w q status = chosen (Same w) _ (same_with c w q status _) (same_turn w _ _)

kept_turned : (n clock : ℕ) (w : Core) (t : Turn) → Same w t → length w.path ≤ 256 → Kept n w (turned n clock t)
unfolding turned
kept_turned n clock w t s h =
    let k : Kept n t.core (goes n t.caches clock t.core t.called) =
    kept_goes n t.caches clock t.core t.called (subst (λ (p : List ℕ). length p ≤ 256) (sym s.path_same) h) in
    record { size_kept = k.size_kept ∙ s.size_same; left_kept = k.left_kept; path_kept = k.path_kept }

pub kept_referral : (n clock : ℕ) (c : Caches) (w : Core) (q : Question) (status : ℕ) (reply : List ℕ) → length w.path ≤ 256
    → Kept n w (turned n clock (referral_answered c w q status reply clock))
kept_referral n clock c w q status reply h = kept_turned n clock w _ (same_referral c w q status reply clock) h

pub kept_io : (n clock : ℕ) (c : Caches) (w : Core) (q : Question) (status : ℕ) → length w.path ≤ 256 → Kept n w (turned n clock (io_answered c w q status))
kept_io n clock c w q status h = kept_turned n clock w _ (same_io c w q status) h
