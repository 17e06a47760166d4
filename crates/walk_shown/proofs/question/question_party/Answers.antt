use mathlib.Core.Path.{◌≡◌, refl, sym, ap, ◌∙◌}
use Prim.Native.Nat.{ℕ}
use native.Mathlib.Omega.{arith}
use Rattle.std.specs.Prelude.{Result, Err, Some, None}
use Rattle.walk_calls.proofs.resting.RestingLaws.{question_told}
use Rattle.walk_shown.specs.question.Shown.{given}
use Rattle.walk_shown.specs.declared.question.ShowError.{ShowError}
use Rattle.walk_shown.specs.declared.question.ShowError.TheVariants.{OutOfForm}
use Rattle.walk_shown.proofs.question.ShownLaws.{party_order, party_shown, path_ends, boot_within, boot_few, waiting_good, waiting_entry, party_unasked}
use Rattle.walk_shown.proofs.question.question_party.Goals as goal

pub returns-then-not-caches_in_order : goal.returns-then-not-caches_in_order
returns-then-not-caches_in_order c = party_order _ _ _ _ _ c.caches_in_order.ensures c.if-not-caches_in_order.true

pub returns-in_err-q : goal.returns-in_err-q
returns-in_err-q c =
    let none : c.question.result ≡ None = grind arith in
    let refused : c.from_residual.result ≡ Err OutOfForm = grind arith in
    ap (λ (r : Result ℕ ShowError). given r c.args.out.now) refused ∙ party_unasked _ _ c.args.walk c.args.texts.now _ c.caches_in_order.ensures c.if-not-caches_in_order.false (sym c.question.ensures ∙ none)

pub slice_bounds-path-end : goal.slice_bounds-path-end
slice_bounds-path-end c =
    let asked : c.question.result ≡ Some c.in_ok-q.q = grind arith in
    let t = question_told c.args.walk c.args.texts.now _ (sym c.question.ensures ∙ asked) in
    path_ends _ _ refl t.0

pub slice_bounds-boot-end : goal.slice_bounds-boot-end
slice_bounds-boot-end c =
    let asked : c.question.result ≡ Some c.in_ok-q.q = grind arith in
    let t = question_told c.args.walk c.args.texts.now _ (sym c.question.ensures ∙ asked) in
    boot_within _ _ refl t.0

pub put_waiting-requires : goal.put_waiting-requires
put_waiting-requires c =
    let asked : c.question.result ≡ Some c.in_ok-q.q = grind arith in
    let t = question_told c.args.walk c.args.texts.now _ (sym c.question.ensures ∙ asked) in
    (waiting_good _ _ refl t.0 _ t.1, (waiting_entry _ _ refl t.0 _ t.1, boot_few _ _ refl t.0))

pub returns : goal.returns
returns c =
    let asked : c.question.result ≡ Some c.in_ok-q.q = grind arith in
    let t = question_told c.args.walk c.args.texts.now _ (sym c.question.ensures ∙ asked) in
    party_shown _ _ _ _ _ c.caches_in_order.ensures c.if-not-caches_in_order.false refl t.0 _ t.1 c.put_waiting.ensures
