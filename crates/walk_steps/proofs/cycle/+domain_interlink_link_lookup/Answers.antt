use Rattle.walk_steps.proofs.cycle.PointLaws.{match_fits, looked_next, rests_on, halts_after, fits7, fewer, rank_falls, moves_fall, past5, is_due7, try_few, turn_few, long_few, look_few, first_few, place_in_few, root_read, tries_root, tries_sysvol, tries_other, interlink_is, turns, halts_here, long_halts, len_few, next_point, next_halts}
use mathlib.Core.Path.{refl, sym, ◌∙◌}
use Rattle.walk_steps.proofs.cycle.+domain_interlink_link_lookup.Goals as goal
use Rattle.walk_steps.proofs.cycle.+domain_interlink_link_lookup.Goals.{domain-else-n-eq-DUE7-via-then-n-eq-DUE7+else-is_root, domain-else-n-eq-DUE7-via-else-n-eq-DUE7}
use Rattle.walk_steps.proofs.cycle.+domain_interlink_link_lookup.Goals.{link-then-for_sysvol-via-then-for_sysvol, link-then-for_sysvol-via-else-for_sysvol+then-not-is_interlink}

pub domain-step5-requires : goal.domain-step5-requires
domain-step5-requires t c = (c.requires.0, c.if-n-eq-DUE5.true)

pub domain-returns-then-n-eq-DUE5 : goal.domain-returns-then-n-eq-DUE5
domain-returns-then-n-eq-DUE5 t c = halts_after c.args.refs.now c.args.doms.now c.args.texts.now c.args.clock c.args.n (c.step5.ensures.0 c.args.clock) c.step5.ensures.1

pub domain-is_root-requires : goal.domain-is_root-requires
domain-is_root-requires t c = fits7 c.args.refs.now c.args.doms.now c.args.texts.now c.args.clock c.args.n c.requires.0 c.if-n-eq-DUE7.true c.place.ensures

pub domain-case_at-requires : goal.domain-case_at-requires
domain-case_at-requires t c = (try_few, (place_in_few c.args.n c.place-then-is_root.ensures, c.requires.0.counted))

pub domain-returns-then-is_root : goal.domain-returns-then-is_root
domain-returns-then-is_root t c = tries_root c.args.refs.now c.args.doms.now c.args.texts.now c.args.clock c.args.n c.requires.0 c.if-n-eq-DUE7.true c.place-then-is_root.ensures c.case_at.ensures (root_read c.args.refs.now c.args.n c.place.ensures c.is_root.ensures c.if-is_root.true)

pub domain-link-requires : goal.domain-link-requires
domain-link-requires t c = (
  rank_falls c.args.n c.args.n 1 c.decreases refl,
  (
    c.requires.0,
    (
      past5 c.args.n c.if-n-eq-DUE5.false c.requires.1.0,
      (
        c.requires.1.1,
        λ w.
            elim c.else-n-eq-DUE7.branch [
              | domain-else-n-eq-DUE7-via-then-n-eq-DUE7+else-is_root h ↦ root_read c.args.refs.now c.args.n h.place.ensures h.is_root.ensures h.if-is_root.false
              | domain-else-n-eq-DUE7-via-else-n-eq-DUE7 h ↦ absurd (h.if-n-eq-DUE7.false w)
            ],
      ),
    ),
  ),
)

pub domain-returns : goal.domain-returns
domain-returns t c = c.link.ensures

pub interlink-returns-then-n-eq0 : goal.interlink-returns-then-n-eq0
interlink-returns-then-n-eq0 t c = halts_here c.args.refs.now c.args.doms.now c.args.texts.now c.args.clock c.args.n c.requires.0 c.requires.1 c.if-n-eq0.true

pub interlink-step11-requires : goal.interlink-step11-requires
interlink-step11-requires t c = (c.requires.0, c.requires.1)

pub interlink-case_at-requires : goal.interlink-case_at-requires
interlink-case_at-requires t c = (long_few, (first_few, c.requires.0.counted))

pub interlink-returns-in_default : goal.interlink-returns-in_default
interlink-returns-in_default t c = long_halts c.args.refs.now c.args.texts.now c.args.n c.requires.0 c.requires.1 c.args.doms.now c.args.clock c.if-n-eq0.false c.step11.ensures.answer c.step11.ensures.texts c.in_default.is c.case_at.ensures

pub interlink-point-requires : goal.interlink-point-requires
interlink-point-requires t c = (look_few, (first_few, (len_few c.args.refs.now c.args.texts.now c.args.n c.requires.0 c.requires.1 c.args.doms.now c.args.clock c.if-n-eq0.false c.step11.ensures.answer c.step11.ensures.texts _ c.in-Some.is, fewer c.args.n c.requires.0.counted)))

pub interlink-lookup-requires : goal.interlink-lookup-requires
interlink-lookup-requires t c = (moves_fall c.args.n _ c.decreases c.if-n-eq0.false c.point.ensures.its_left, (next_point c.args.refs.now c.args.texts.now c.args.n c.requires.0 c.requires.1 c.args.doms.now c.args.clock c.if-n-eq0.false c.step11.ensures.answer c.step11.ensures.texts _ c.in-Some.is c.had_hit.ensures c.point.ensures, c.point.ensures.its_case))

pub interlink-returns : goal.interlink-returns
interlink-returns t c = next_halts c.args.refs.now c.args.texts.now c.args.n c.requires.0 c.requires.1 c.args.doms.now c.args.clock c.if-n-eq0.false c.step11.ensures.answer c.step11.ensures.texts _ c.in-Some.is c.had_hit.ensures c.point.ensures c.lookup.ensures

pub link-step9-requires : goal.link-step9-requires
link-step9-requires t c = (c.requires.0, c.if-n-eq-DUE9.true)

pub link-returns-then-n-eq-DUE9 : goal.link-returns-then-n-eq-DUE9
link-returns-then-n-eq-DUE9 t c = halts_after c.args.refs.now c.args.doms.now c.args.texts.now c.args.clock c.args.n (c.step9.ensures.0 c.args.clock) c.step9.ensures.1

pub link-for_sysvol-requires : goal.link-for_sysvol-requires
link-for_sysvol-requires t c = c.requires.0.ready.standing

pub link-case_at-requires : goal.link-case_at-requires
link-case_at-requires t c = (try_few, (place_in_few c.args.n c.place-then-for_sysvol.ensures, c.requires.0.counted))

pub link-returns-then-for_sysvol : goal.link-returns-then-for_sysvol
link-returns-then-for_sysvol t c =
    elim c.then-for_sysvol.branch [
      | link-then-for_sysvol-via-then-for_sysvol h ↦ tries_sysvol c.args.refs.now c.args.doms.now c.args.texts.now c.args.clock c.args.n c.requires.0 (is_due7 c.args.n c.if-n-eq-DUE9.false c.requires.1.0 c.requires.1.1.0) c.place-then-for_sysvol.ensures c.case_at.ensures (c.requires.1.1.1 (is_due7 c.args.n c.if-n-eq-DUE9.false c.requires.1.0 c.requires.1.1.0)) (sym c.for_sysvol.ensures ∙ h.if-for_sysvol.true)
      | link-then-for_sysvol-via-else-for_sysvol+then-not-is_interlink h ↦ tries_other c.args.refs.now c.args.doms.now c.args.texts.now c.args.clock c.args.n c.requires.0 (is_due7 c.args.n c.if-n-eq-DUE9.false c.requires.1.0 c.requires.1.1.0) c.place-then-for_sysvol.ensures c.case_at.ensures (c.requires.1.1.1 (is_due7 c.args.n c.if-n-eq-DUE9.false c.requires.1.0 c.requires.1.1.0)) (sym c.for_sysvol.ensures ∙ h.if-for_sysvol.false) (interlink_is c.args.refs.now c.args.n h.place.ensures h.is_interlink.ensures h.if-not-is_interlink.true)
    ]

pub link-is_interlink-requires : goal.link-is_interlink-requires
link-is_interlink-requires t c = fits7 c.args.refs.now c.args.doms.now c.args.texts.now c.args.clock c.args.n c.requires.0 (is_due7 c.args.n c.if-n-eq-DUE9.false c.requires.1.0 c.requires.1.1.0) c.place.ensures

pub link-case_at-requires-2 : goal.link-case_at-requires-2
link-case_at-requires-2 t c = (turn_few, (place_in_few c.args.n c.place-2.ensures, c.requires.0.counted))

pub link-interlink-requires : goal.link-interlink-requires
link-interlink-requires t c = (rank_falls c.args.n _ 0 c.decreases c.case_at-2.ensures.its_left, ((turns c.args.refs.now c.args.doms.now c.args.texts.now c.args.clock c.args.n c.requires.0 (is_due7 c.args.n c.if-n-eq-DUE9.false c.requires.1.0 c.requires.1.1.0) c.place-2.ensures c.case_at-2.ensures (c.requires.1.1.1 (is_due7 c.args.n c.if-n-eq-DUE9.false c.requires.1.0 c.requires.1.1.0)) (sym c.for_sysvol.ensures ∙ c.if-for_sysvol.false) (interlink_is c.args.refs.now c.args.n c.place.ensures c.is_interlink.ensures c.if-not-is_interlink.false)).point, c.case_at-2.ensures.its_case))

pub link-returns : goal.link-returns
link-returns t c = rests_on c.args.refs.now c.args.doms.now c.args.texts.now c.args.clock c.args.n (turns c.args.refs.now c.args.doms.now c.args.texts.now c.args.clock c.args.n c.requires.0 (is_due7 c.args.n c.if-n-eq-DUE9.false c.requires.1.0 c.requires.1.1.0) c.place-2.ensures c.case_at-2.ensures (c.requires.1.1.1 (is_due7 c.args.n c.if-n-eq-DUE9.false c.requires.1.0 c.requires.1.1.0)) (sym c.for_sysvol.ensures ∙ c.if-for_sysvol.false) (interlink_is c.args.refs.now c.args.n c.place.ensures c.is_interlink.ensures c.if-not-is_interlink.false)) c.interlink.ensures

pub lookup-sought-found-requires : goal.lookup-sought-found-requires
lookup-sought-found-requires t c = c.requires.0.ready

pub lookup-matched-requires : goal.lookup-matched-requires
lookup-matched-requires t c = (c.requires.0.counted, match_fits c.args.refs.now c.args.doms.now c.args.texts.now c.args.clock c.args.n c.requires.0 c.requires.1 c.sought-found.ensures)

pub lookup-domain-requires : goal.lookup-domain-requires
lookup-domain-requires t c = (rank_falls c.args.n _ 2 c.decreases (looked_next c.args.refs.now c.args.doms.now c.args.texts.now c.args.clock c.args.n c.requires.0 c.requires.1 c.sought-found.ensures c.matched.ensures).0.left, ((looked_next c.args.refs.now c.args.doms.now c.args.texts.now c.args.clock c.args.n c.requires.0 c.requires.1 c.sought-found.ensures c.matched.ensures).0.point, (looked_next c.args.refs.now c.args.doms.now c.args.texts.now c.args.clock c.args.n c.requires.0 c.requires.1 c.sought-found.ensures c.matched.ensures).1))

pub lookup-returns : goal.lookup-returns
lookup-returns t c = rests_on c.args.refs.now c.args.doms.now c.args.texts.now c.args.clock c.args.n (looked_next c.args.refs.now c.args.doms.now c.args.texts.now c.args.clock c.args.n c.requires.0 c.requires.1 c.sought-found.ensures c.matched.ensures).0 c.domain.ensures
