use Rattle.walk_shown.proofs.question.ShownLaws.{party_dc, party_root, party_link, party_sysvol, party_io, root_there, dc_there, link_there, io_there}
use lib.Seq.{length-take-le}
use mathlib.Core.Path.{sym}
use Rattle.walk_shown.proofs.question.put_party.Goals as goal

pub put_root-requires : goal.put_root-requires
put_root-requires c = (c.requires.good, root_there _ _ _ _ _ c.requires c.in-Root.is)

pub slice_bounds-put_target-end : goal.slice_bounds-put_target-end
slice_bounds-put_target-end c = sym (length-take-le _ _ c.requires.within)

pub put_target-requires : goal.put_target-requires
put_target-requires c = link_there _ _ _ _ _ c.requires c.in-Link.is

pub slice_bounds-put_target-end-in-Io : goal.slice_bounds-put_target-end-in-Io
slice_bounds-put_target-end-in-Io c = sym (length-take-le _ _ c.requires.within)

pub put_target-requires-in-Io : goal.put_target-requires-in-Io
put_target-requires-in-Io c = io_there _ _ _ _ _ c.requires c.in-Io.is

pub put_dc-requires : goal.put_dc-requires
put_dc-requires c = (c.requires.good, dc_there _ _ _ _ _ c.requires c.in-Sysvol.is)

pub returns-in-Dc : goal.returns-in-Dc
returns-in-Dc c = party_dc _ _ _ _ _ _ c.in-Dc.is c.put.ensures

pub returns-in-Root : goal.returns-in-Root
returns-in-Root c = party_root _ _ _ _ _ _ c.in-Root.is c.put_root.ensures

pub returns-in-Link : goal.returns-in-Link
returns-in-Link c = party_link _ _ _ _ _ _ c.in-Link.is c.put_target.ensures

pub returns-in-Io : goal.returns-in-Io
returns-in-Io c = party_io _ _ _ _ _ _ c.in-Io.is c.put_target-in-Io.ensures

pub returns-in-Sysvol : goal.returns-in-Sysvol
returns-in-Sysvol c = party_sysvol _ _ _ _ _ _ c.in-Sysvol.is c.put_dc.ensures
