use Rattle.walk_form.proofs.packed.PackLaws.{form_length, form_other, form_held}
use mathlib.Core.Path.{refl}
use Rattle.walk_form.proofs.packed.unpack.Goals as goal

pub returns-in_default : goal.returns-in_default
returns-in_default c = form_length _ c.in_default.ensures.1

pub returns-then-eq : goal.returns-then-eq
returns-then-eq c =
    form_held _ _ refl c.in-Ok.ensures.1.same c.walk_at-walk.ensures c.pack.ensures c.eq.ensures c.if-eq.true

pub returns-else-eq : goal.returns-else-eq
returns-else-eq c =
    form_other _ _ refl c.in-Ok.ensures.1.same c.walk_at-walk.ensures c.pack.ensures c.eq.ensures c.if-eq.false
