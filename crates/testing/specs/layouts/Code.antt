-- Shapes of the code, proved equal to the rules; nothing here is to be believed.
-- The readers' findings as numbers, for programs in other languages.
use Rattle.std.specs.Prelude.{ℕ, ◌+◌, ◌*◌, ◌≤◌, ◌<◌, ◌≡◌, Bool, true, false, List, [], ◌∷◌, length, get_or, Result, Ok, Err, Some}
use Rattle.laws.specs.Lists.{every}
use Rattle.reply_bytes.specs.declared.texts.Span.{Span}
use Rattle.reply_bytes.specs.texts.Code.{spanned}
use Rattle.reply_read.specs.referral.Replies.{referral_count, entries, read_referral}
use Rattle.reply_read.specs.referral.Code.{denoted, referral_shown}
use Rattle.reply_read.specs.declared.referral.Kept.{Kept}
use Rattle.reply_read.specs.declared.referral.ReferralFound.{ReferralFound}
use Rattle.reply_read.specs.declared.referral.Unread.{Unread}
use Rattle.reply_read.specs.declared.referral.Unread.TheVariants.{Malformed, Nothing}
use Rattle.reply_read.specs.name_lists.NameLists.{domain_at, good_domain_name, read_dcs}
use Rattle.reply_read.specs.name_lists.Code.{dcs_shown}
use Rattle.reply_read.specs.declared.name_lists.DcsFound.{DcsFound}

-- how a reply is read
unfoldable pub unread_number : Unread → ℕ
unread_number Malformed = 0
unread_number Nothing = 1

-- all other numbers of a reply that says nothing are 0
unfoldable pub unread_numbers : Unread → List ℕ
unread_numbers e = unread_number e ∷ []

unfoldable pub answer_number : {A : Type 0} → Result A Unread → ℕ
answer_number (Err e) = unread_number e
answer_number (Ok a) = 2

unfoldable pub bit_of : Bool → ℕ
bit_of true = 1
bit_of false = 0

unfoldable pub bits_of : ReferralFound → ℕ
bits_of f = bit_of f.root + (2 * bit_of f.servers + (4 * bit_of f.storage + 8 * bit_of f.failback))

-- the answer, version, bits, count, TTL, prefix and number of targets
unfoldable pub said_numbers : ReferralFound → List ℕ
said_numbers f = 2 ∷ f.version ∷ bits_of f ∷ f.count ∷ f.ttl ∷ f.prefix.from ∷ f.prefix.units ∷ f.targets ∷ []

unfoldable pub found_numbers : Result ReferralFound Unread → List ℕ
found_numbers (Err e) = unread_numbers e
found_numbers (Ok f) = said_numbers f

unfoldable pub target_numbers : Kept → List ℕ
target_numbers k = k.path.from ∷ k.path.units ∷ bit_of k.opens ∷ []

unfoldable pub no_kept : Kept
no_kept = record { path = record { from = 0; units = 0 }; opens = false }

-- the targets kept: none of a reply that says nothing
unfoldable pub targets_kept : Result ReferralFound Unread → List Kept
targets_kept (Err e) = []
targets_kept (Ok f) = f.kept

-- number k of what a reader found
pub record FoundNumber (size : ℕ) (asked r : List ℕ) (k v : ℕ) : Type 0 where
  pub found : Result ReferralFound Unread
  pub is : denoted (referral_shown r) found ≡ read_referral size asked r
  pub number : v ≡ get_or (found_numbers found) k 0

-- number k of its target i
pub record TargetNumber (size : ℕ) (asked r : List ℕ) (i k v : ℕ) : Type 0 where
  pub found : Result ReferralFound Unread
  pub is : denoted (referral_shown r) found ≡ read_referral size asked r
  pub number : v ≡ get_or (target_numbers (get_or (targets_kept found) i no_kept)) k 0

-- number k of its DC i
unfoldable pub span_of : Span → List ℕ
span_of s = s.from ∷ s.units ∷ []

unfoldable pub dcs_kept : Result DcsFound Unread → List Span
dcs_kept (Err e) = []
dcs_kept (Ok f) = f.kept

-- its answer and the number of its DCs
unfoldable pub said_dcs : ℕ → List ℕ
said_dcs count = 2 ∷ count ∷ []

unfoldable pub dcs_numbers : Result DcsFound Unread → List ℕ
dcs_numbers (Err e) = unread_numbers e
dcs_numbers (Ok f) = said_dcs f.count

pub record DcNumber (size : ℕ) (r : List ℕ) (i k v : ℕ) : Type 0 where
  pub found : Result DcsFound Unread
  pub is : denoted (dcs_shown r) found ≡ read_dcs size r
  pub number : v ≡ get_or (span_of (get_or (dcs_kept found) i (record { from = 0; units = 0 }))) k 0

pub record DcsNumber (size : ℕ) (r : List ℕ) (k v : ℕ) : Type 0 where
  pub found : Result DcsFound Unread
  pub is : denoted (dcs_shown r) found ≡ read_dcs size r
  pub number : v ≡ get_or (dcs_numbers found) k 0

-- a good domain reply that has an entry i
pub record GoodDomains (r : List ℕ) (i : ℕ) : Type 0 where
  pub header : 8 ≤ length r
  pub short : length r < 4294967296
  pub good : every (good_domain_name r) (entries r) ≡ true
  pub there : i < referral_count r

-- number k of its domain i
pub record DomainNumber (r : List ℕ) (i k v : ℕ) : Type 0 where
  pub span : Span
  pub is : domain_at r (get_or (entries r) i 0) ≡ Some (spanned r span)
  pub number : v ≡ get_or (span_of span) k 0
