use Rattle.walk_steps.proofs.cycle.PointLaws.{dc_none, dc_bare, dc_there}
use Rattle.walk_steps.proofs.cycle.CaseLaws.{dc_host, dc_fits, dc_without, dc_hinted_lem}
use borrow.Author.Tests.{eq-eqb, ne_eqb}
use mathlib.Core.Path.{sym, ◌∙◌}
use borrow.Author.Rules.{rules}
use Rattle.walk_steps.proofs.cycle.dc_sought.Goals as goal

pub returns-in_default : goal.returns-in_default
returns-in_default c = dc_none c.args.doms.now c.args.path.now (dc_host c.args.doms.now c.args.path.now c.host.ensures c.find_domain.ensures c.in_default.is)

pub dc_count-requires : goal.dc_count-requires
dc_count-requires c = dc_fits c.args.doms.now c.args.path.now c.host.ensures c.find_domain.ensures _ c.in-Some.is

pub returns-then-dc_count-eq0 : goal.returns-then-dc_count-eq0
returns-then-dc_count-eq0 c = dc_bare c.args.doms.now c.args.path.now (dc_without c.args.doms.now c.args.path.now c.host.ensures c.find_domain.ensures _ c.in-Some.is (eq-eqb _ 0 (sym c.dc_count.ensures ∙ c.if-dc_count-eq0.true)))

pub dc_hint-requires : goal.dc_hint-requires
dc_hint-requires c = dc_fits c.args.doms.now c.args.path.now c.host.ensures c.find_domain.ensures _ c.in-Some.is

pub returns-else-dc_count-eq0 : goal.returns-else-dc_count-eq0
returns-else-dc_count-eq0 c = dc_there c.args.doms.now c.args.path.now _ (search rules) c.dc_hint.ensures (dc_hinted_lem c.args.doms.now c.args.path.now c.host.ensures c.find_domain.ensures _ c.in-Some.is (ne_eqb _ 0 (λ z. c.if-dc_count-eq0.false (c.dc_count.ensures ∙ z))))
