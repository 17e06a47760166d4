-- Shapes of the code, proved equal to the rules; nothing here is to be believed.
use Rattle.std.specs.Prelude.{ℕ, Bool, ◌&&◌, List, [], get_or, ltb, eqb}
use Rattle.laws.specs.Choice.{choose}
use Rattle.unc.specs.names.Paths.{components}
use Rattle.cache.specs.order.Memory.{referrals, domains, decode}
use Rattle.cache_store.specs.entry_after_reply.Stored.{prefixed}
use Rattle.reply_read.specs.referral.Request.{most_size}
use Rattle.walk_steps.specs.steps.Steps.{Core, Question, Called, ends, dc_count, target_count, domain_named, is_there, onward, step6, link_request, failed_host, buffer_overflow, path_not_found}
use Rattle.walk_steps.specs.declared.steps.End.TheVariants.{NoDc, Failed}

-- the domain of a path's first component, and how many DCs it has; how many targets the entry of a prefix has
unfoldable pub domain_there : List ℕ → List ℕ → Bool
domain_there path doms = is_there (domain_named (get_or (components path) 0 []) (decode domains doms))

unfoldable pub dcs_named : List ℕ → List ℕ → ℕ
dcs_named path doms = dc_count (domain_named (get_or (components path) 0 []) (decode domains doms))

unfoldable pub targets_under : List ℕ → List ℕ → ℕ
targets_under prefix refs = target_count (prefixed prefix (decode referrals refs))

-- the party asked and the one with which the round began are among n
unfoldable pub in_round : ℕ → ℕ → ℕ → Bool
in_round n party began = ltb party n && ltb began n

-- a request is put again, with a greater size
unfoldable pub again : ℕ → ℕ → Bool
again status size = eqb status buffer_overflow && ltb size most_size

-- what comes after a root request through a domain, any root request, and a link request, of n parties
unfoldable pub failed_dc : ℕ → Core → Question → Called
failed_dc n w q = onward n q (λ place. step6 w place q.began) (ends NoDc path_not_found)

unfoldable pub failed_root : ℕ → Core → Question → ℕ → Called
failed_root n w q status = choose (eqb q.entry 0) (failed_host w status) (failed_dc n w q)

unfoldable pub failed_link : ℕ → Core → Question → ℕ → Called
failed_link n w q status = onward n q (λ place. link_request w q.entry place q.began q.uncovered) (ends Failed status)
