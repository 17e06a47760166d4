-- What a reply says, field by field.
use Rattle.std.specs.Prelude.{Some}
use mathlib.Core.Path.{ap, sym, ◌∙◌}
use Prim.Native.Nat.{ℕ}
use lib.ListN.{take}
use Rattle.reply_bytes.specs.declared.reader.Marks.{Marks}
use Rattle.reply_bytes.specs.declared.reader.Header.{Header}
use Rattle.reply_bytes.specs.texts.Bytes.{flag}
use mathlib.Core.List.{map}
use mathlib.Core.Bool.{◌&&◌}
use Prim.Native.Nat.{min}
use lib.Dec.{eqb}
use Rattle.reply_read.specs.referral.Code.{target_shown, referral_shown}
use Rattle.reply_read.specs.referral.Replies.{version_at, server_type_at, referral_said, header_flag, ttl_at}
use Rattle.reply_bytes.specs.texts.Code.{spanned}
use Rattle.reply_read.proofs.referral.TargetLaws.{referral_read}
use Rattle.reply_read.proofs.referral.referral_in.Goals as goal

pub targets-requires : goal.targets-requires
targets-requires c = (c.requires.0.short, (c.requires.1, c.requires.0.good))

pub returns-clause-found : goal.returns-clause-found
unfolding referral_shown referral_said version_at server_type_at header_flag ttl_at
returns-clause-found c =
    let r = c.args.r.now in
    let f = c.requires.0.firstly in
    referral_read r _ f.first_is c.requires.0.good ∙ sym (λ x. Some (record {
      version = f.version_is x;
      root = eqb (f.kind_is x) 1;
      referral_servers = (c.has_flag.ensures ∙ ap (flag 1) (ap (λ (z : Header). z.flags) c.read_header-flags.ensures)) x;
      storage_servers = (c.has_flag-2.ensures ∙ ap (flag 2) (ap (λ (z : Header). z.flags) c.read_header-flags.ensures)) x;
      failback = (c.failback_in.ensures ∙ (λ y. eqb (f.version_is y) 4 && flag 4 (ap (λ (z : Header). z.flags) c.read_header-flags.ensures y))) x;
      count = c.requires.1 x;
      ttl = ap (λ (z : Marks). z.ttl) c.read_marks.ensures x;
      prefix = spanned r c.args.first.prefix;
      targets = (ap (λ (k : ℕ). map (target_shown r) (take k c.targets.result)) (c.kept_of.ensures ∙ ap (λ (k : ℕ). min k 8) c.requires.1) ∙ c.targets.ensures.targets) x;
    }))
