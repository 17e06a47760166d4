use Rattle.walk_store.proofs.party_hint.unset_hint.Goals as goal

pub set_target_hint-requires : goal.set_target_hint-requires
set_target_hint-requires c = c.requires.of_target _ _ c.in-Target.is

pub set_dc_hint-requires : goal.set_dc_hint-requires
set_dc_hint-requires c = c.requires.of_dc _ _ c.in-Dc.is
