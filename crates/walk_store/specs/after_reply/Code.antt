-- Shapes of the code, proved equal to the rules; nothing here is to be believed.
-- Words of what comes after a reply: what a call leaves of the steps and of both caches.
use Rattle.std.specs.Prelude.{ℕ, ◌≡◌, Bool, true, false, List, take}
use Rattle.laws.specs.Choice.{choose}
use Rattle.cache.specs.order.Memory.{referrals, domains, encode}
use Rattle.walk_steps.specs.steps.Steps.{Turn, turned}
use Rattle.walk_steps.specs.declared.steps.Kind.{Kind}
use Rattle.walk_steps.specs.declared.steps.Kind.TheVariants.{Dc, Root, Link, Sysvol, Io}
use Rattle.walk_steps.specs.declared.steps.Progress.{Progress}
use Rattle.walk_steps.specs.declared.steps.Rested.{Rested}
use Rattle.walk_steps.specs.cycle.Code.{Packed, rested_with, packed, Ready, Usable}
use Rattle.walk_steps.specs.question_request.Questions.{rest_fits}
use Rattle.walk_store.specs.declared.party_hint.Hinted.{Hinted}
use Rattle.walk_store.specs.declared.reply_taken.Taken.{Taken}
use Rattle.walk_store.specs.declared.reply_taken.Taken.TheVariants.{Entry}

-- "SYSVOL goes to step 3, root and link replies to step 3 or 4 by their kind"
unfoldable pub is_for_sysvol : Kind → Bool
is_for_sysvol Dc = false
is_for_sysvol Root = false
is_for_sysvol Link = false
is_for_sysvol Sysvol = true
is_for_sysvol Io = false

-- the path stands in its room, the referral cache is in order, and an entry that was taken matches the path
pub record GoingOn (refs rooms : List ℕ) (g : Progress) (t : Taken) : Type 0 where
  pub ready : Ready refs rooms g.len
  pub usable : (i : ℕ) (h : Hinted) → t ≡ Entry i h → Usable refs (take g.len rooms) i

-- what the steps of a call leave: where they rest, and both caches
pub record Leaving : Type 0 where
  pub rest : Packed
  pub refs : List ℕ
  pub doms : List ℕ

abbrev pub left_by : Rested → List ℕ → List ℕ → List ℕ → Leaving
left_by r rooms refs doms = record { rest = rested_with r rooms; refs = refs; doms = doms }

-- what a turn leaves: both caches as it has them, or as they were where the request that then waits does not fit the buffer
unfoldable pub leaves : Progress → List ℕ → List ℕ → Turn → Leaving
leaves g refs doms t = record {
  rest = packed (turned g.left g.clock t);
  refs = choose (rest_fits g.room (turned g.left g.clock t)) (encode referrals t.caches.referrals) refs;
  doms = choose (rest_fits g.room (turned g.left g.clock t)) (encode domains t.caches.domains) doms;
}
