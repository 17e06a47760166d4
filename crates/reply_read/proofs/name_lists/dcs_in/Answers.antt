-- What a good DC reply says.
use Rattle.std.specs.Prelude.{Some}
use native.Mathlib.Omega.{arith}
use mathlib.Core.Path.{refl, ap, sym, ◌∙◌}
use mathlib.Core.List.{map}
use Prim.Native.Nat.{ℕ, ◌+◌}
use lib.ListN.{take}
use Rattle.laws.specs.Lists.{every}
use Rattle.reply_bytes.specs.declared.reader.Offsets.{Offsets}
use Rattle.reply_bytes.specs.texts.Code.{spanned}
use Rattle.reply_read.specs.name_lists.NameLists.{dc_of, texts_at, dc_names}
use Rattle.reply_read.specs.referral.Replies.{is_read}
use Rattle.reply_read.specs.referral.Code.{units_read}
use Rattle.reply_read.specs.name_lists.Code.{dcs_shown}
use Rattle.reply_read.proofs.name_lists.ListLaws.{dcs_long}
use Rattle.reply_read.proofs.name_lists.SaysLaws.{dcs_read, dcs_kept}
use Rattle.reply_read.proofs.name_lists.dcs_in.Goals as goal

pub read_offsets-f-requires : goal.read_offsets-f-requires
read_offsets-f-requires c = omega (arith, dcs_long c.args.r.now refl c.requires)

pub names-requires : goal.names-requires
unfolding dc_names
names-requires c =
    ap (λ (z : Offsets). every is_read (map dc_of (texts_at z.second (8 + z.third) c.args.r.now))) c.read_offsets-f.ensures ∙ (dcs_read c.args.r.now c.requires).0

pub returns-clause-found : goal.returns-clause-found
unfolding dcs_shown dc_names
returns-clause-found c =
    let r = c.args.r.now in
    dcs_kept r c.requires
    ∙ sym (λ x. Some ((ap (λ (k : ℕ). map (spanned r) (take k c.names.result)) c.kept_of.ensures ∙ (c.names.ensures.names ∙ ap (λ (z : Offsets). map units_read (take 8 (map dc_of (texts_at z.second (8 + z.third) r)))) c.read_offsets-f.ensures)) x))
