-- The places that an answer names: those of the caches as it finds them, at which alone an entry may change.
use Rattle.std.specs.Prelude.{ℕ, ◌≡◌, Bool, false, ◌||◌, List, [], get_or, take, eqb, Option, Some, None}
use Rattle.unc.specs.names.Paths.{components}
use Rattle.cache.specs.order.Entries.{free}
use Rattle.cache.specs.order.Memory.{referrals, domains}
use Rattle.cache_lookup.specs.Lookup.{with_key}
use Rattle.reply_read.specs.referral.Replies as replies
use Rattle.reply_read.specs.referral.Replies.{malformed, nothing, says, read_referral}
use Rattle.cache_store.specs.entry_after_reply.Stored.{store_place}
use Rattle.walk_steps.specs.steps.Steps.{Caches, Core, Question, Rest, waits, ended, name_asked}
use Rattle.walk_steps.specs.declared.steps.Kind.{Kind}
use Rattle.walk_steps.specs.declared.steps.Kind.TheVariants.{Dc, Root, Link, Sysvol, Io}

-- a place that a look-up found
unfoldable pub is_at : ℕ → Option ℕ → Bool
is_at i None = false
is_at i (Some j) = eqb i j

-- the prefix in use, of a link request and of an I/O try: a success sets its TargetHint
unfoldable pub uses_prefix : Caches → Core → Question → ℕ → Bool
uses_prefix c w q i = by q.kind
  where
    by : Kind → Bool
    by Dc = false
    by Root = false
    by Link = is_at i (with_key referrals (take q.entry w.path) c.referrals)
    by Sysvol = false
    by Io = is_at i (with_key referrals (take q.entry w.path) c.referrals)

-- the domain in use, of a DC, root and SYSVOL request: a success sets its DCs or its DCHint
unfoldable pub uses_domain : Caches → Core → Question → ℕ → Bool
uses_domain c w q i = by q.kind
  where
    by : Kind → Bool
    by Dc = is_at i (with_key domains (get_or (components w.path) 0 []) c.domains)
    by Root = is_at i (with_key domains (get_or (components w.path) 0 []) c.domains)
    by Link = false
    by Sysvol = is_at i (with_key domains (get_or (components w.path) 0 []) c.domains)
    by Io = false

-- the place that a reply is stored at: that of an equal prefix, else the lowest free one, else that of the greatest age
unfoldable pub stores_at : Caches → ℕ → replies.Reply replies.ReferralReply → ℕ → Bool
stores_at c clock malformed i = false
stores_at c clock nothing i = false
stores_at c clock (says r) i = eqb i (store_place clock r.prefix c.referrals)

-- root, link and SYSVOL replies are stored
unfoldable pub stores : Caches → Core → Question → List ℕ → ℕ → ℕ → Bool
stores c w q reply clock i = by q.kind
  where
    by : Kind → Bool
    by Dc = false
    by Root = stores_at c clock (read_referral q.size (name_asked w q) reply) i
    by Link = stores_at c clock (read_referral q.size (name_asked w q) reply) i
    by Sysvol = stores_at c clock (read_referral q.size (name_asked w q) reply) i
    by Io = false

-- the places of the referral cache that the answer to a referral request names, and the answer to an I/O try
unfoldable pub referral_names : Caches → Core → Rest → List ℕ → ℕ → ℕ → Bool
referral_names c w (ended e status tried) reply clock i = false
referral_names c w (waits q) reply clock i = uses_prefix c w q i || stores c w q reply clock i

unfoldable pub io_names : Caches → Core → Rest → ℕ → Bool
io_names c w (ended e status tried) i = false
io_names c w (waits q) i = uses_prefix c w q i

-- and those of the domain cache
unfoldable pub domain_names : Caches → Core → Rest → ℕ → Bool
domain_names c w (ended e status tried) i = false
domain_names c w (waits q) i = uses_domain c w q i

-- every place but those named holds what it held
pub record Elsewhere (refs doms : ℕ → Bool) (c d : Caches) : Type 0 where
  pub prefixes : (i : ℕ) → refs i ≡ false → get_or d.referrals i free ≡ get_or c.referrals i free
  pub names : (i : ℕ) → doms i ≡ false → get_or d.domains i free ≡ get_or c.domains i free
