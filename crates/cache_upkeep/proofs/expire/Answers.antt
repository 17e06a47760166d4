-- Tests the cache and the path, and looks for the path normalised.
use native.Mathlib.Omega.{arith}
use mathlib.Core.Path.{sym, ◌∙◌}
use lib.Seq.{length-take-le}
use Rattle.std.proofs.lemmas.Result.{err_from_is_err_and}
use Rattle.cache_upkeep.proofs.CallLaws.{one_refused, one_formless, one_fits, one_good}
use borrow.Author.Rules.{rules}
use Rattle.cache_upkeep.proofs.expire.Goals as goal

pub returns-then-not-referrals_in_order : goal.returns-then-not-referrals_in_order
returns-then-not-referrals_in_order c = one_refused _ _ c.referrals_in_order.ensures c.if-not-referrals_in_order.true

pub returns-in_err-form : goal.returns-in_err-form
returns-in_err-form c =
    let p = err_from_is_err_and c.from_residual.result c.from_residual.ensures.1 in
    rw (p.1, p.2)
    (one_formless _ _ c.referrals_in_order.ensures c.if-not-referrals_in_order.false c.normalise.ensures.form (search rules) _ c.in_err-form.was)

pub slice_bounds-room-end : goal.slice_bounds-room-end
slice_bounds-room-end c =
    let u = one_fits c.args.refs.now c.args.path.now c.referrals_in_order.ensures c.if-not-referrals_in_order.false
    c.normalise.ensures.form (search rules) c.in_ok-form.was in
    omega arith

pub slice_bounds-expire_prefix-end : goal.slice_bounds-expire_prefix-end
slice_bounds-expire_prefix-end c =
    let u = one_fits c.args.refs.now c.args.path.now c.referrals_in_order.ensures c.if-not-referrals_in_order.false
    c.normalise.ensures.form (search rules) c.in_ok-form.was in
    sym (length-take-le _ _ (omega arith))

pub expire_prefix-requires : goal.expire_prefix-requires
expire_prefix-requires c = sym c.referrals_in_order.ensures ∙ c.if-not-referrals_in_order.false

pub returns : goal.returns
returns c =
    one_good _ _ c.referrals_in_order.ensures c.if-not-referrals_in_order.false c.normalise.ensures.form (search rules)
    c.in_ok-form.was _ c.normalise.ensures.room c.expire_prefix.ensures (search rules)
