-- A walk that is held, read back: a proper rest comes back as it was, and a walk in form rests properly.
use mathlib.Core.Path.{◌≡◌, refl, ap, ◌∙◌}
use mathlib.Core.Bool.{true, ◌&&◌}
use mathlib.Core.List.{List}
use Prim.Native.Nat.{ℕ, ◌-◌, ◌≤◌}
use native.Mathlib.Omega.{arith}
use lib.ListN.{length}
use borrow.Author.Tests.{le-leb}
use Rattle.laws.proofs.Choices.{and_left, and_right, and_both}
use Rattle.unc.specs.names.Names.{good_name}
use Rattle.cache.specs.order.Memory.{referrals, domains, encode, in_order}
use Rattle.cache.proofs.order.MemoryLaws.{cache_told, order_good, decode_encode, encoded_in_order}
use Rattle.cache.proofs.order.KindLaws.{referrals_lawful, domains_lawful}
use Rattle.cache_store.specs.domain_cache.Domains.{good_size}
use Rattle.walk_steps.specs.steps.Steps.{Caches, Rest, waits, ended, Resting}
use Rattle.walk_steps.specs.steps.Held.{caches_of, core_of, asking_of, next_of, tried_of, question_of}
use Rattle.walk_steps.specs.declared.steps.Next.{Next}
use Rattle.walk_steps.specs.declared.steps.Next.TheVariants.{Asks, Ends}
use Rattle.walk_form.specs.held.Walks.{good_limit, good_settings, path_in, tried_in, boot_in, next_in_form, in_form, walk_of, texts_after}
use Rattle.walk_form.specs.declared.held.Walk.{Walk}
use Rattle.walk_form.proofs.held.FormLaws.{Formed, form_told, texts_short, lent_path_in, lent_tried_in, lent_boot_in, form_of_rest}
use Rattle.walk_form.specs.held.Walks.{core_in}
use Rattle.walk_calls.specs.calls.Calls.{rest_at, rest_in}
use Rattle.theorems.specs.keeps.Code.{GoodCaches, Proper}

-- memory in order holds good caches
pub caches_good : (refs doms : List ℕ) → (in_order referrals refs && in_order domains doms) ≡ true → GoodCaches (caches_of refs doms)
unfolding caches_of
caches_good refs doms h = record {
  refs = order_good referrals refs (and_left (in_order referrals refs) _ h);
  doms = order_good domains doms (and_right (in_order referrals refs) _ h);
}

-- and good caches are what their memory holds, which is in order
pub caches_order : (c : Caches) → GoodCaches c → (in_order referrals (encode referrals c.referrals) && in_order domains (encode domains c.domains)) ≡ true
caches_order c cs =
    and_both (encoded_in_order referrals referrals_lawful c.referrals cs.refs) (encoded_in_order domains domains_lawful c.domains cs.doms)

pub caches_back : (c : Caches) → GoodCaches c → caches_of (encode referrals c.referrals) (encode domains c.domains) ≡ c
unfolding caches_of
caches_back c cs =
    λ i.
    record {
      referrals = decode_encode referrals referrals_lawful c.referrals (cache_told referrals c.referrals cs.refs).places i;
      domains = decode_encode domains domains_lawful c.domains (cache_told domains c.domains cs.doms).places i;
    }

-- a rest, by its next move and its path tried
rest_shown : (r : Rest) → rest_at (tried_of r) (next_of r) ≡ r
unfolding rest_at tried_of next_of asking_of question_of
rest_shown (waits q) = refl
rest_shown (ended e status tried) = refl

shown_rest : (path tried : List ℕ) (n : Next) → next_in_form path tried n ≡ true → next_in_form path (tried_of (rest_at tried n)) (next_of (rest_at tried n)) ≡ true
unfolding rest_at tried_of next_of asking_of question_of
shown_rest path tried (Asks q) h = h
shown_rest path tried (Ends e status) h = h

-- a walk in form rests properly
pub form_proper : (w : Walk) (texts : List ℕ) → in_form w texts ≡ true → Proper (core_in w texts) (rest_in w texts)
unfolding core_in rest_in good_size
form_proper w texts h =
    let f : Formed w texts = form_told w texts h in
    record {
      size = and_both (le-leb 1024 w.size f.size_least) (le-leb w.size 57344 f.size_most);
      next = shown_rest (path_in w texts) (tried_in w texts) w.next f.next;
    }

-- the walk of a proper rest
module _ (limit : ℕ) (boot : List ℕ) (x : Resting) (p : Proper x.core x.rest) where
  short : (length x.core.path ≤ 256) × (length (tried_of x.rest) ≤ 256)
  short = texts_short x.core.path (tried_of x.rest) (next_of x.rest) p.next

  pub core_back : core_in (walk_of limit boot x) (texts_after boot x) ≡ x.core
  unfolding core_in walk_of texts_after path_in
  core_back = λ i. core_of (lent_path_in x.core.path (tried_of x.rest) boot short.0 short.1 i) x.core.size x.core.hit

  pub rest_back : rest_in (walk_of limit boot x) (texts_after boot x) ≡ x.rest
  unfolding rest_in walk_of texts_after tried_in
  rest_back =
      ap (λ (l : List ℕ). rest_at l (next_of x.rest)) (lent_tried_in x.core.path (tried_of x.rest) boot short.0 short.1) ∙ rest_shown x.rest

  pub boot_back : boot_in (walk_of limit boot x) (texts_after boot x) ≡ boot
  unfolding walk_of texts_after boot_in
  boot_back = lent_boot_in x.core.path (tried_of x.rest) boot short.0 short.1

  pub limit_back : (walk_of limit boot x).limit ≡ limit
  unfolding walk_of
  limit_back = refl

  pub moves_back : (walk_of limit boot x).moves ≡ limit - x.left
  unfolding walk_of
  moves_back = refl

  pub left_back : x.left ≤ limit → (walk_of limit boot x).limit - (walk_of limit boot x).moves ≡ x.left
  unfolding walk_of
  left_back h = omega arith

  -- it is in form
  pub proper_form : good_limit limit ≡ true → good_name boot ≡ true → in_form (walk_of limit boot x) (texts_after boot x) ≡ true
  unfolding good_settings
  proper_form l b = form_of_rest limit boot x (and_both l (and_both p.size b)) p.next

-- its settings
pub settings_parts : (limit size : ℕ) (boot : List ℕ) → good_settings limit size boot ≡ true
    → (good_limit limit ≡ true) × ((good_size size ≡ true) × (good_name boot ≡ true))
unfolding good_settings
settings_parts limit size boot h =
    let r = and_right (good_limit limit) _ h in (and_left (good_limit limit) _ h, (and_left (good_size size) _ r, and_right (good_size size) _ r))

pub form_settings : (w : Walk) (texts : List ℕ) → in_form w texts ≡ true → (good_limit w.limit ≡ true) × (good_name (boot_in w texts) ≡ true)
unfolding good_limit
form_settings w texts h =
    let f : Formed w texts = form_told w texts h in
    (and_both (le-leb 1 w.limit f.limit_least) (le-leb w.limit 64 f.limit_most), f.boot_good)
