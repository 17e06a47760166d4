use Rattle.cache_store.specs.entry_after_reply.Stored.{in_first_set}
use Rattle.laws.specs.Lists.{every}
use mathlib.Core.Bool.{not}
use Rattle.cache_lookup.specs.Code.{entry_at}
use Rattle.cache.specs.order.Memory.{referrals}
use Prim.Native.Nat.{◌≤◌}
use mathlib.Core.Path.{◌≡◌}
use Rattle.cache_store.proofs.entry_after_reply.HintLaws.{rest_from}
use Rattle.cache_store.proofs.entry_after_reply.in_first_set.Given as goal

abbrev pub invariant-loop-k : goal.invariant-loop-k
invariant-loop-k l = (l.k ≤ l.hint) × (in_first_set l.hint (entry_at referrals l.i l.cache).targets ≡ every (λ t. not t.opens) (rest_from l.hint l.k (entry_at referrals l.i l.cache).targets))
