use mathlib.Core.Path.{◌≡◌, refl, sym, ap, ◌∙◌}
use native.Mathlib.Omega.{arith}
use Rattle.std.specs.Prelude.{Result, Err, Some, None}
use Rattle.walk_form.specs.declared.held.Walk.{Walk}
use Rattle.walk_calls.specs.declared.call_end.Refusal.{Refusal}
use Rattle.walk_calls.specs.declared.call_end.Refusal.TheVariants.{OutOfForm}
use Rattle.walk_calls.specs.calls.Code.{answered}
use Rattle.walk_calls.specs.calls.Calls.{io_call}
use Rattle.walk_calls.proofs.resting.RestingLaws.{question_told}
use Rattle.walk_calls.proofs.calls.AnswerLaws.{call_order, call_unasked, call_none, io_ended, io_other, due, io_taken}
use Rattle.walk_calls.proofs.calls.answer_io.Goals as goal

pub returns-then-not-caches_in_order : goal.returns-then-not-caches_in_order
unfolding io_call
returns-then-not-caches_in_order c = call_order _ c.args.clock c.args.walk c.args.texts.now c.args.out.now c.args.refs.now c.args.doms.now c.caches_in_order.ensures c.if-not-caches_in_order.true

pub returns-in_err-q : goal.returns-in_err-q
unfolding io_call
returns-in_err-q c =
    let none : c.question.result ≡ None = grind arith in
    let refused : c.from_residual.result ≡ Err OutOfForm = grind arith in
    ap (λ (r : Result Walk Refusal). answered r c.args.walk c.args.texts.now c.args.out.now c.args.refs.now c.args.doms.now) refused
    ∙ call_unasked _ c.args.clock c.args.walk c.args.texts.now c.args.out.now c.args.refs.now c.args.doms.now c.caches_in_order.ensures c.if-not-caches_in_order.false (sym c.question.ensures ∙ none) (io_ended _ c.args.walk c.args.texts.now c.args.status)

pub returns-then-not-has_tried : goal.returns-then-not-has_tried
unfolding io_call
returns-then-not-has_tried c =
    let asked : c.question.result ≡ Some c.in_ok-q.q = grind arith in
    let t = question_told c.args.walk c.args.texts.now _ (sym c.question.ensures ∙ asked) in
    call_none _ c.args.clock c.args.walk c.args.texts.now c.args.out.now c.args.refs.now c.args.doms.now c.caches_in_order.ensures c.if-not-caches_in_order.false refl t.0 (io_other _ c.args.walk c.args.texts.now c.args.status _ t.1 c.has_tried.ensures c.if-not-has_tried.true)

pub io_turn-requires : goal.io_turn-requires
io_turn-requires c =
    let asked : c.question.result ≡ Some c.in_ok-q.q = grind arith in
    let t = question_told c.args.walk c.args.texts.now _ (sym c.question.ensures ∙ asked) in
    due c.args.refs.now c.args.doms.now c.args.texts.now c.args.walk c.args.out.now c.caches_in_order.ensures c.if-not-caches_in_order.false refl t.0 _ t.1 c.has_tried.ensures c.if-not-has_tried.false

pub returns : goal.returns
returns c =
    let asked : c.question.result ≡ Some c.in_ok-q.q = grind arith in
    let t = question_told c.args.walk c.args.texts.now _ (sym c.question.ensures ∙ asked) in
    io_taken c.args.refs.now c.args.doms.now c.args.texts.now c.args.walk c.args.out.now c.caches_in_order.ensures c.if-not-caches_in_order.false refl t.0 _ t.1 c.has_tried.ensures c.args.status c.args.clock c.if-not-has_tried.false c.io_turn.ensures
