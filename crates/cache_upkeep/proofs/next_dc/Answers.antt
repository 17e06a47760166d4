-- Finds the domain, and sets its DCHint to the DC after the one hinted at.
use native.Mathlib.Omega.{arith}
use mathlib.Core.Path.{sym, ◌∙◌}
use Rattle.cache_lookup.proofs.EntryLaws.{count_dcs}
use Rattle.cache_upkeep.proofs.CallLaws.{dc_refused, dc_none, dc_fits, dc_bare, dc_below, dc_moved}
use Rattle.cache_upkeep.proofs.next_dc.Goals as goal

pub returns-then-not-domains_in_order : goal.returns-then-not-domains_in_order
returns-then-not-domains_in_order c = dc_refused _ _ c.domains_in_order.ensures c.if-not-domains_in_order.true

pub returns-in_default : goal.returns-in_default
returns-in_default c = dc_none _ _ c.domains_in_order.ensures c.if-not-domains_in_order.false c.find_domain.ensures c.in_default.is

pub dc_count-count-requires : goal.dc_count-count-requires
dc_count-count-requires c =
    dc_fits c.args.doms.now c.args.name.now c.domains_in_order.ensures c.if-not-domains_in_order.false c.find_domain.ensures _ c.in-Some.is

pub returns-then-count-eq0 : goal.returns-then-count-eq0
returns-then-count-eq0 c =
    dc_bare _ _ c.domains_in_order.ensures c.if-not-domains_in_order.false c.find_domain.ensures _ c.in-Some.is
    c.dc_count-count.ensures c.if-count-eq0.true

pub dc_hint-requires : goal.dc_hint-requires
dc_hint-requires c =
    dc_fits c.args.doms.now c.args.name.now c.domains_in_order.ensures c.if-not-domains_in_order.false c.find_domain.ensures _ c.in-Some.is

pub after-hint-requires : goal.after-hint-requires
after-hint-requires c = omega (arith, c.dc_count-count.ensures, count_dcs c.args.doms.now c.in-Some.i)

pub set_dc_hint-requires : goal.set_dc_hint-requires
set_dc_hint-requires c =
    let order = c.domains_in_order.ensures in
    let found = c.find_domain.ensures in (
      sym order ∙ c.if-not-domains_in_order.false,
      (
        dc_fits c.args.doms.now c.args.name.now order c.if-not-domains_in_order.false found _ c.in-Some.is,
        dc_below c.args.doms.now c.args.name.now order c.if-not-domains_in_order.false found _ c.in-Some.is
            c.dc_count-count.ensures c.if-count-eq0.false c.dc_hint.ensures c.after-hint.ensures,
      ),
    )

pub returns : goal.returns
returns c =
    dc_moved _ _ c.domains_in_order.ensures c.if-not-domains_in_order.false c.find_domain.ensures _ c.in-Some.is
    c.dc_count-count.ensures c.if-count-eq0.false c.dc_hint.ensures c.after-hint.ensures c.set_dc_hint.ensures
