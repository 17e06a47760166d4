-- Shapes of the code, proved equal to the rules; nothing here is to be believed.
use Rattle.std.specs.Prelude.{ℕ, zero, suc, ◌+◌, ◌*◌, ◌≤◌, ◌<◌, ◌≡◌, Bool, true, false, ◌&&◌, List, [], ◌∷◌, map, length, take, leb, eqb, Result, Ok, Err, Option, None, Some}
use Rattle.laws.specs.Choice.{choose}
use Rattle.laws.specs.Lists.{every}
use Rattle.reply_bytes.specs.texts.Code.{spanned, Inside}
use Rattle.reply_bytes.specs.declared.texts.Span.{Span}
use Rattle.reply_read.specs.referral.Request.{request}
use Rattle.unc.specs.names.Paths.{Target}
use Rattle.reply_read.specs.referral.Replies.{referral_count, version_at, server_type_at, entry_flag, good_entry, entries, prefix_at, target_at, ReferralReply, Reply, malformed, nothing, says}
use Rattle.reply_read.specs.declared.referral.First.{First}
use Rattle.reply_read.specs.declared.referral.Kept.{Kept}
use Rattle.reply_read.specs.declared.referral.ReferralFound.{ReferralFound}
use Rattle.reply_read.specs.declared.referral.Unread.{Unread}
use Rattle.reply_read.specs.declared.referral.Unread.TheVariants.{Malformed, Nothing}

-- a span inside the reply
unfoldable pub is_inside : List ℕ → Span → Bool
is_inside r s = leb (s.from + 2 * s.units) (length r)

-- the path or name that a reader found
unfoldable pub text_shown : List ℕ → Option Span → Option (List ℕ)
text_shown r (Some s) = Some (spanned r s)
text_shown r None = None

-- it lies inside the reply
unfoldable pub text_inside : List ℕ → Option Span → Bool
text_inside r (Some s) = is_inside r s
text_inside r None = true

-- the units of a path or name that is read
unfoldable pub units_read : Option (List ℕ) → List ℕ
units_read None = []
units_read (Some s) = s

-- the first entry's version, ServerType and DFSPath, which all others are held to
pub record FirstEntry (r : List ℕ) (first : First) : Type 0 where
  pub version_is : first.version ≡ version_at r 8
  pub kind_is : first.kind ≡ server_type_at r 8
  pub first_is : prefix_at r 8 ≡ Some (spanned r first.prefix)
  pub first_inside : Inside r first.prefix

unfoldable pub kept_inside : List ℕ → Kept → Bool
kept_inside r k = is_inside r k.path

-- a reply whose entries are good, with what the first one fixes
pub record GoodReply (r : List ℕ) (first : First) : Type 0 where
  pub short : length r < 4294967296
  pub long : 42 ≤ length r
  pub good : every (good_entry r) (entries r) ≡ true
  pub firstly : FirstEntry r first

-- every span that a reader hands on lies inside the reply, and at most 8 are handed on
pub record ReferralInside (r : List ℕ) (f : ReferralFound) : Type 0 where
  pub prefix_within : Inside r f.prefix
  pub kept_within : every (kept_inside r) f.kept ≡ true
  pub few : f.targets ≤ 8

-- a target set opens before the target of entry number i, which starts at e
unfoldable pub opens_at : ℕ → List ℕ → ℕ → Bool
opens_at zero r e = false
opens_at (suc i) r e = eqb (version_at r e) 4 && entry_flag 4 r e

-- the targets of the entries es, all of them read, i being before them
unfoldable pub kept_here : ℕ → List ℕ → ℕ → Target
kept_here i r e = record { path = units_read (target_at r e); opens = opens_at i r e }

unfoldable pub kept_from : ℕ → List ℕ → List ℕ → List Target
kept_from i r [] = []
kept_from i r (e ∷ es) = kept_here i r e ∷ kept_from (suc i) r es

-- a kept target
unfoldable pub target_shown : List ℕ → Kept → Target
target_shown r k = record { path = spanned r k.path; opens = k.opens }

-- a reply that says nothing, by the reason
unfoldable pub unread : {A : Type 0} → Unread → Reply A
unread Malformed = malformed
unread Nothing = nothing

-- how a reply is read, given what a reader found and the meaning of what it found
unfoldable pub denoted : {F A : Type 0} → (F → A) → Result F Unread → Reply A
denoted shown (Ok f) = says (shown f)
denoted shown (Err e) = unread e

-- the number of entries, by the tests that come first for every reply
unfoldable pub entry_count : ℕ → List ℕ → Result ℕ Unread
entry_count size r =
    choose (leb 8 (length r) && leb (length r) size) (choose (eqb (referral_count r) 0) (Err Nothing) (Ok (referral_count r))) (Err Malformed)

-- what a reader found of a root, link or SYSVOL reply
unfoldable pub referral_shown : List ℕ → ReferralFound → ReferralReply
referral_shown r f = record {
  version = f.version;
  root = f.root;
  referral_servers = f.servers;
  storage_servers = f.storage;
  failback = f.failback;
  count = f.count;
  ttl = f.ttl;
  prefix = spanned r f.prefix;
  targets = map (target_shown r) (take f.targets f.kept);
}

-- a request written into a buffer of n bytes, or told to be longer
unfoldable pub asked : ℕ → List ℕ → Option ℕ
asked n name = choose (leb (length (request name)) n) (Some (length (request name))) None
