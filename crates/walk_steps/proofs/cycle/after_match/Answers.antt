use Rattle.walk_steps.proofs.cycle.CaseLaws.{after_fresh, after_root, after_link}
use mathlib.Core.Path.{sym, ◌∙◌}
use Rattle.walk_steps.proofs.cycle.after_match.Goals as goal

pub returns-then-not-is_expired : goal.returns-then-not-is_expired
returns-then-not-is_expired c = after_fresh _ _ (sym c.is_expired.ensures ∙ c.if-not-is_expired.true)

pub returns-then-is_root : goal.returns-then-is_root
returns-then-is_root c = after_root _ _ (sym c.is_expired.ensures ∙ c.if-not-is_expired.false) (sym c.is_root.ensures ∙ c.if-is_root.true)

pub returns-else-is_root : goal.returns-else-is_root
returns-else-is_root c = after_link _ _ (sym c.is_expired.ensures ∙ c.if-not-is_expired.false) (sym c.is_root.ensures ∙ c.if-is_root.false)
