-- The link "train", moved from two servers to two others: the refreshed entry has the new ones.
use mathlib.Core.Path.{◌≡◌, refl}
use mathlib.Core.Bool.{true, false}
use mathlib.Core.List.{List, [], ◌∷◌}
use Prim.Native.Nat.{ℕ}
use Rattle.laws.specs.Choice.{choose}
use Rattle.laws.specs.Lists.{every}
use Rattle.unc.specs.names.Names.{folded, same_unit, same_name}
use Rattle.unc.specs.names.Paths.{Target}
use Rattle.cache.specs.order.Entries.{Referral}
use Rattle.reply_read.specs.referral.Replies as replies
use Rattle.cache_entry.specs.equivalent_targets.Equivalence.{times_in, same_targets, paths, join_set, next_opens, sets, same_sets, equivalent}
use Rattle.cache_store.specs.entry_after_reply.Stored.{first_equal, hinted, in_first_set, failed_back, targets_after, refreshed, settings_said}

abbrev share : ℕ → ℕ → List ℕ
share a b = 92 ∷ a ∷ b ∷ 92 ∷ 116 ∷ 114 ∷ 97 ∷ 105 ∷ 110 ∷ []

abbrev target : ℕ → ℕ → Target
target a b = record { path = share a b; opens = false }

-- \w\train at \o1\train and \o2\train, the second of them in use
abbrev train : Referral
train = record {
  prefix = share 119 49;
  settings = record {
    root = false;
    interlink = false;
    failback = false;
    ttl = 300;
    taken = 100;
  };
  targets = target 111 49 ∷ target 111 50 ∷ [];
  hint = 1;
}

-- a reply with as many targets, \n1\train and \n2\train
abbrev moved : replies.ReferralReply
moved = record {
  version = 4;
  count = 2;
  prefix = share 119 49;
  root = false;
  referral_servers = false;
  storage_servers = true;
  failback = false;
  ttl = 300;
  targets = record { path = share 110 49; opens = false } ∷ record { path = share 110 50; opens = false } ∷ [];
}

pub train_refreshed : refreshed train moved false 500
    ≡ record {
      prefix = share 119 49;
      settings = record {
        root = false;
        interlink = false;
        failback = false;
        ttl = 300;
        taken = 500;
      };
      targets = target 110 49 ∷ target 110 50 ∷ [];
      hint = 0;
    }
unfolding refreshed targets_after hinted first_equal failed_back in_first_set equivalent sets next_opens join_set same_sets same_targets paths times_in every same_name same_unit folded choose settings_said
train_refreshed = refl
