use Rattle.walk_store.proofs.after_reply.BackLaws.{back_ends, back_dcs, back_entry}
use mathlib.Core.Path.{sym, subst}
use mathlib.Core.List.{List}
use Prim.Native.Nat.{ℕ}
use Rattle.walk_store.specs.party_hint.Code.{Unhintable}
use Rattle.walk_store.proofs.after_reply.put_back.Goals as goal

pub put_place-requires : goal.put_place-requires
put_place-requires c = (c.requires.dcs_fit _ c.in-Dcs.is, c.requires.long)

pub put_place-requires-in-Entry : goal.put_place-requires-in-Entry
put_place-requires-in-Entry c = ((c.requires.entry_fits _ _ c.in-Entry.is).0, c.requires.long)

pub unset_hint-requires : goal.unset_hint-requires
unset_hint-requires c = subst (λ (r : List ℕ). Unhintable c.in-Entry.hinted r c.args.doms.now) (sym c.put_place-in-Entry.ensures) (c.requires.entry_fits _ _ c.in-Entry.is).1

pub returns-in-Ends : goal.returns-in-Ends
returns-in-Ends c = back_ends _ c.args.saved.now c.args.refs.now c.args.doms.now c.in-Ends.is

pub returns-in-Dcs : goal.returns-in-Dcs
returns-in-Dcs c = back_dcs _ c.args.saved.now c.args.refs.now c.args.doms.now c.in-Dcs.is c.put_place.ensures

pub returns-in-Entry : goal.returns-in-Entry
returns-in-Entry c = back_entry _ c.args.saved.now c.args.refs.now c.args.doms.now c.in-Entry.is c.put_place-in-Entry.ensures c.unset_hint.ensures
