-- What a refresh leaves of the target list.
use mathlib.Core.Path.{◌≡◌}
use mathlib.Core.Bool.{Bool, true, false}
use Prim.Native.Nat.{ℕ}
use Rattle.laws.proofs.Choices.{choose_yes, choose_no}
use Rattle.cache.specs.order.Entries.{Referral}
use Rattle.reply_read.specs.referral.Replies as replies
use Rattle.cache_entry.specs.equivalent_targets.Equivalence.{equivalent}
use Rattle.cache_store.specs.entry_after_reply.Stored.{targets_after, refreshed}

module _ (e : Referral) (q : replies.ReferralReply) (interlink : Bool) (clock : ℕ) where
  -- an equivalent list stays as it was: order, spelling, boundaries
  pub targets_stay : equivalent q.version e.targets q.targets ≡ true → (refreshed e q interlink clock).targets ≡ e.targets
  unfolding refreshed targets_after
  targets_stay h = choose_yes e.targets q.targets h

  -- any other is the reply's, however many targets either has
  pub targets_replaced : equivalent q.version e.targets q.targets ≡ false → (refreshed e q interlink clock).targets ≡ q.targets
  unfolding refreshed targets_after
  targets_replaced h = choose_no e.targets q.targets h
