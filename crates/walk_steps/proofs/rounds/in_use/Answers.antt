use Rattle.walk_steps.proofs.rounds.RoundLaws.{in_use_dc, in_use_root, in_use_link, in_use_sysvol, in_use_io}
use lib.Seq.{length-take-le}
use mathlib.Core.Path.{sym}
use mathlib.Core.Logic.{inl, inr}
use Rattle.walk_steps.proofs.rounds.in_use.Goals as goal

pub slice_bounds-prefix-end : goal.slice_bounds-prefix-end
slice_bounds-prefix-end c = sym (length-take-le _ _ c.requires.1)

pub returns-in-Dc : goal.returns-in-Dc
returns-in-Dc c = in_use_dc _ _ _ _ c.in-Dc.is c.domain_there.ensures

pub returns-in-Root : goal.returns-in-Root
returns-in-Root c = in_use_root _ _ _ _ c.in-Root.is c.root_round.ensures

pub returns-in-Link : goal.returns-in-Link
returns-in-Link c =
    elim c.in-Link.is [
      | inl h ↦ in_use_link _ _ _ _ c.in_round-in-Link.ensures h c.targets.ensures
      | inr h ↦ in_use_io _ _ _ _ c.in_round-in-Link.ensures h c.targets.ensures
    ]

pub returns-in-Sysvol : goal.returns-in-Sysvol
returns-in-Sysvol c = in_use_sysvol _ _ _ _ c.in_round.ensures c.in-Sysvol.is c.dcs.ensures
