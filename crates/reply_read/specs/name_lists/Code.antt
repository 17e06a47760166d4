-- Shapes of the code, proved equal to the rules; nothing here is to be believed.
-- What the readers hand on: spans of the reply. Each is given its meaning here.
use Rattle.std.specs.Prelude.{ℕ, ◌≤◌, ◌≡◌, Bool, true, ◌&&◌, List, map, take, eqb, Result, Ok, Err, Option, None, Some}
use Rattle.laws.specs.Lists.{every}
use Rattle.reply_bytes.specs.texts.Code.{spanned}
use Rattle.reply_read.specs.referral.Replies.{Reply, malformed, nothing, says}
use Rattle.reply_read.specs.referral.Code.{is_inside, units_read}
use Rattle.reply_read.specs.name_lists.NameLists.{domain_at}
use Rattle.reply_read.specs.declared.referral.Unread.{Unread}
use Rattle.reply_read.specs.declared.referral.Unread.TheVariants.{Malformed, Nothing}
use Rattle.reply_read.specs.declared.name_lists.DcsFound.{DcsFound}
use Rattle.reply_read.specs.declared.name_lists.NextDc.{NextDc}

-- the DC name that a reader found
unfoldable pub dc_shown : List ℕ → Option NextDc → Option (List ℕ)
dc_shown r (Some d) = Some (spanned r d.name)
dc_shown r None = None

-- it lies inside the reply, and the text after it starts at byte i
unfoldable pub dc_placed : List ℕ → ℕ → Option NextDc → Bool
dc_placed r i (Some d) = is_inside r d.name && eqb d.next i
dc_placed r i None = true

-- the domain name of the entry at e, which is read
unfoldable pub domain_name : List ℕ → ℕ → List ℕ
domain_name r e = units_read (domain_at r e)

-- every span that a reader hands on lies inside the reply, and at most 8 are handed on
pub record DcsInside (r : List ℕ) (f : DcsFound) : Type 0 where
  pub kept_within : every (is_inside r) f.kept ≡ true
  pub few : f.count ≤ 8

-- the DC names that a reader found
unfoldable pub dcs_shown : List ℕ → DcsFound → List (List ℕ)
dcs_shown r f = map (spanned r) (take f.count f.kept)

-- which of the three ways a reply is read
unfoldable pub answer_of : {A : Type 0} → Reply A → Result (Unit {0}) Unread
answer_of malformed = Err Malformed
answer_of nothing = Err Nothing
answer_of (says a) = Ok tt
