use Rattle.walk_calls.proofs.calls.StartLaws.{start_order, start_formless, start_good, put_taken, put_begun}
use Rattle.std.proofs.lemmas.Result.{err_from_is_err_and}
use Rattle.laws.proofs.Choices.{and_left}
use mathlib.Core.Path.{refl, sym, ◌∙◌}
use Rattle.walk_calls.proofs.calls.start.Goals as goal

pub returns-then-not-caches_in_order : goal.returns-then-not-caches_in_order
returns-then-not-caches_in_order c = λ walk. start_order _ c.args.doms.now _ walk c.args.path.now c.args.boot.now c.args.limit c.args.size c.args.clock _ c.caches_in_order.ensures c.if-not-caches_in_order.true

pub returns-in_err-form : goal.returns-in_err-form
returns-in_err-form c =
    let p = err_from_is_err_and c.from_residual.result c.from_residual.ensures.1 in
    rw (p.1, p.2)
    (λ walk. start_formless _ c.args.doms.now _ walk c.args.path.now c.args.boot.now c.args.limit c.args.size c.args.clock _ c.caches_in_order.ensures c.if-not-caches_in_order.false c.put_path.ensures.form _ c.in_err-form.was)

pub start_at-requires : goal.start_at-requires
start_at-requires c = put_begun c.args.path.now c.put_path.ensures.form c.in_ok-form.was _ refl c.put_path.ensures.rooms c.args.refs.now (and_left _ _ (sym c.caches_in_order.ensures ∙ c.if-not-caches_in_order.false))

pub returns : goal.returns
returns c = λ walk. start_good _ c.args.doms.now _ walk c.args.path.now c.args.boot.now c.args.limit c.args.size c.args.clock _ c.caches_in_order.ensures c.if-not-caches_in_order.false c.put_path.ensures.form c.in_ok-form.was (put_taken c.args.path.now c.put_path.ensures.form c.in_ok-form.was _ refl c.put_path.ensures.rooms) (c.start_at.ensures.walk walk)
