-- Shapes of the code, proved equal to the rules; nothing here is to be believed.
use Rattle.std.specs.Prelude.{◌≡◌, true}
use Rattle.cache.specs.order.Memory.{referrals, domains, good_cache}
use Rattle.cache_store.specs.domain_cache.Domains.{good_size}
use Rattle.walk_steps.specs.steps.Steps.{Caches, Core, Rest}
use Rattle.walk_steps.specs.steps.Held.{next_of, tried_of}
use Rattle.walk_form.specs.held.Walks.{next_in_form}

-- both caches are in order, as what they hold
pub record GoodCaches (c : Caches) : Type 0 where
  pub refs : good_cache referrals c.referrals ≡ true
  pub doms : good_cache domains c.domains ≡ true

-- a rest is proper where its walk is in form, whatever the limit and the bootstrap DC
pub record Proper (w : Core) (r : Rest) : Type 0 where
  pub size : good_size w.size ≡ true
  pub next : next_in_form w.path (tried_of r) (next_of r) ≡ true
