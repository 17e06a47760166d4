-- Each refusal's number.
use mathlib.Core.Path.{sym, ap}
use Rattle.std.specs.Prelude.{Err}
use Rattle.cache_store.specs.declared.domain_cache.DomainsError.{DomainsError}
use Rattle.cache_store.specs.domain_cache.Code.{domains_refusal}
use Rattle.cache_store.proofs.domain_cache.U32FromDomainsError.from.Goals as goal

pub returns-in-BadSize : goal.returns-in-BadSize
unfolding domains_refusal
returns-in-BadSize c = ap (λ (e : DomainsError). domains_refusal (Err e)) (sym c.in-BadSize.is)

pub returns-in-NotInOrder : goal.returns-in-NotInOrder
unfolding domains_refusal
returns-in-NotInOrder c = ap (λ (e : DomainsError). domains_refusal (Err e)) (sym c.in-NotInOrder.is)

pub returns-in-TooMany : goal.returns-in-TooMany
unfolding domains_refusal
returns-in-TooMany c = ap (λ (e : DomainsError). domains_refusal (Err e)) (sym c.in-TooMany.is)

pub returns-in-Unreadable : goal.returns-in-Unreadable
unfolding domains_refusal
returns-in-Unreadable c = ap (λ (e : DomainsError). domains_refusal (Err e)) (sym c.in-Unreadable.is)
