-- Shapes of the code, proved equal to the rules; nothing here is to be believed.
-- What is known of a walk that waits for the answer to a referral request.
use Rattle.std.specs.Prelude.{ℕ, ◌≤◌, ◌≡◌, true, List, take}
use Rattle.cache.specs.order.Order.{good_prefix}
use Rattle.cache.specs.order.Memory.{referrals, domains, in_order}
use Rattle.walk_steps.specs.walk_texts.Code.{Standing}
use Rattle.walk_steps.specs.declared.steps.Asking.{Asking}
use Rattle.walk_steps.specs.declared.steps.Progress.{Progress}
use Rattle.walk_store.specs.party_hint.Code.{Using}

-- both caches are in order, the path stands in its room and is good, and what names the entry in use is a part of it
pub record Awaiting (refs doms rooms : List ℕ) (g : Progress) (q : Asking) : Type 0 where
  pub refs_order : in_order referrals refs ≡ true
  pub doms_order : in_order domains doms ≡ true
  pub standing : Standing g.len rooms
  pub good : good_prefix (take g.len rooms) ≡ true
  pub inside : q.entry ≤ g.len

-- the entry in use is there
pub record Succeeding (refs doms rooms : List ℕ) (g : Progress) (q : Asking) : Type 0 where
  pub standing : Standing g.len rooms
  pub in_use : Using refs doms (take g.len rooms) q
