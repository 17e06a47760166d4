use Rattle.cache.proofs.order.KindLaws.{name_short}
use Rattle.walk_calls.proofs.start_steps.StartLaws.{at_settings, at_texts, at_taken, rooms_settings, rooms_texts, rooms_taken, first_left, first_path, first_closed}
use Rattle.walk_form.proofs.held.FormLaws.{settings_told}
use Rattle.walk_steps.proofs.cycle.MoveLaws.{standing_long}
use mathlib.Core.Path.{sym, ◌∙◌}
use native.Mathlib.Omega.{arith}
use Rattle.walk_calls.proofs.start_steps.start_at.Goals as goal

pub returns-then-not-good_settings : goal.returns-then-not-good_settings
returns-then-not-good_settings c = record { walk = λ walk. at_settings _ c.args.doms.now _ walk _ c.args.boot.now c.args.limit c.args.size _ _ c.good_settings.ensures c.if-not-good_settings.true; rooms = rooms_settings _ c.args.doms.now c.args.texts.now _ c.args.boot.now c.args.limit c.args.size _ _ c.good_settings.ensures c.if-not-good_settings.true }

pub returns-then-texts-ne-TEXTS : goal.returns-then-texts-ne-TEXTS
returns-then-texts-ne-TEXTS c = record { walk = λ walk. at_texts _ c.args.doms.now c.args.texts.now walk _ c.args.boot.now c.args.limit c.args.size _ _ c.good_settings.ensures c.if-not-good_settings.false c.if-texts-ne-TEXTS.true; rooms = rooms_texts _ c.args.doms.now c.args.texts.now _ c.args.boot.now c.args.limit c.args.size _ _ c.good_settings.ensures c.if-not-good_settings.false c.if-texts-ne-TEXTS.true }

pub overflow_cast-g : goal.overflow_cast-g
overflow_cast-g c = omega (arith, (settings_told _ _ _ (sym c.good_settings.ensures ∙ c.if-not-good_settings.false)).limit_most)

pub close_start-requires : goal.close_start-requires
close_start-requires c = ((settings_told _ _ _ (sym c.good_settings.ensures ∙ c.if-not-good_settings.false)).limit_most, (first_left _ _ c.args.rooms.now _ c.args.k _ c.args.size _ c.requires _ _ c.first_rest-r.ensures, (name_short _ (settings_told _ _ _ (sym c.good_settings.ensures ∙ c.if-not-good_settings.false)).boot_good, (omega (arith, standing_long _ _ c.requires.standing), (first_path _ _ c.args.rooms.now _ c.args.k _ c.args.size _ c.requires _ _ c.first_rest-r.ensures, c.if-texts-ne-TEXTS.false)))))

pub returns : goal.returns
returns c = record { walk = λ walk. at_taken _ c.args.doms.now c.args.texts.now walk _ c.args.boot.now c.args.limit c.args.size _ _ c.good_settings.ensures c.if-not-good_settings.false c.if-texts-ne-TEXTS.false (first_closed _ _ c.args.rooms.now _ c.args.k _ c.args.size _ c.requires _ _ c.first_rest-r.ensures _ walk _ _ (c.close_start.ensures walk)); rooms = rooms_taken _ c.args.doms.now c.args.texts.now _ c.args.boot.now c.args.limit c.args.size _ _ c.good_settings.ensures c.if-not-good_settings.false c.if-texts-ne-TEXTS.false c.first_rest-r.ensures }
