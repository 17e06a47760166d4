-- Replies: document 01, "Layouts". A reply is a list of bytes; each field and text is what stands at its offset.
use Rattle.std.specs.Prelude.{ℕ, zero, suc, ◌+◌, Bool, true, false, ◌&&◌, ◌||◌, not, List, [], ◌∷◌, map, length, take, leb, eqb, Option, None, Some}
use Rattle.laws.specs.Choice.{choose}
use Rattle.laws.specs.Lists.{every}
use Rattle.unc.specs.names.Names.{same_name}
use Rattle.unc.specs.names.Paths.{good_path, normalised, component_count, matches, path_units, Target}
use Rattle.reply_bytes.specs.texts.Bytes.{u16_at, u32_at, flag, Text, terminated, unterminated, text_from}

-- The header: NumberOfReferrals, ReferralServers, StorageServers, TargetFailback. PathConsumed is not used.
unfoldable pub referral_count : List ℕ → ℕ
referral_count r = u16_at r 2

unfoldable pub header_flag : ℕ → List ℕ → Bool
header_flag m r = flag m (u32_at r 4)

-- Fields of the entry that starts at byte e.
unfoldable pub version_at : List ℕ → ℕ → ℕ
version_at r e = u16_at r e

unfoldable pub size_at : List ℕ → ℕ → ℕ
size_at r e = u16_at r (e + 2)

unfoldable pub server_type_at : List ℕ → ℕ → ℕ
server_type_at r e = u16_at r (e + 4)

unfoldable pub entry_flag : ℕ → List ℕ → ℕ → Bool
entry_flag m r e = flag m (u16_at r (e + 6))

-- the text whose offset, counted from the start of the entry, stands in the field f bytes into it
unfoldable pub text_of : ℕ → List ℕ → ℕ → Text
text_of f r e = text_from r (e + u16_at r (e + f))

-- Where n entries start, the first at e: "the next entry starts Size bytes on".
unfoldable pub starts : ℕ → ℕ → List ℕ → List ℕ
starts zero e r = []
starts (suc n) e r = e ∷ starts n (e + size_at r e) r

-- the entries of a reply, by their starts
unfoldable pub entries : List ℕ → List ℕ
entries r = starts (referral_count r) 8 r

-- "Size is at least the fixed length and the entry lies inside the reply"
unfoldable pub fits : ℕ → List ℕ → ℕ → Bool
fits fixed r e = leb fixed (size_at r e) && leb (e + size_at r e) (length r)

-- A path that is read, normalised: good, at most 256 units, 2 components or more; none of any other text.
unfoldable pub path_of : Text → Option (List ℕ)
path_of unterminated = None
path_of (terminated s) =
    choose (good_path s && (leb (length (normalised s)) path_units && leb 2 (component_count (normalised s)))) (Some (normalised s)) None

-- a path or name is read
unfoldable pub is_read : Option (List ℕ) → Bool
is_read None = false
is_read (Some s) = true

-- two paths are read, and are equal names
unfoldable pub same_read : Option (List ℕ) → Option (List ℕ) → Bool
same_read None q = false
same_read (Some p) None = false
same_read (Some p) (Some q) = same_name p q

-- a prefix is read, and matches
unfoldable pub matches_read : Option (List ℕ) → List ℕ → Bool
matches_read None path = false
matches_read (Some p) path = matches p path

-- what is read of each, where every one is read
unfoldable pub with_first : {A : Type 0} → A → Option (List A) → Option (List A)
with_first a None = None
with_first a (Some rest) = Some (a ∷ rest)

unfoldable pub all_read : {A : Type 0} → List (Option A) → Option (List A)
all_read [] = Some []
all_read (None ∷ xs) = None
all_read (Some a ∷ xs) = with_first a (all_read xs)

-- Root, link and SYSVOL replies. Fixed length and TTL go by the version.
unfoldable pub readable : ℕ → Bool
readable v = eqb v 3 || eqb v 4

unfoldable pub fixed_length : ℕ → ℕ
fixed_length v = 34

unfoldable pub ttl_at : ℕ → List ℕ → ℕ → ℕ
ttl_at v r e = u32_at r (e + 8)

unfoldable pub prefix_at : List ℕ → ℕ → Option (List ℕ)
prefix_at r e = path_of (text_of 12 r e)

unfoldable pub target_at : List ℕ → ℕ → Option (List ℕ)
target_at r e = path_of (text_of 16 r e)

-- the numbers of one entry, held to the first one (at 8): a known version, ServerType 1 or 0, NameListReferral clear, one version and one ServerType
unfoldable pub good_fields : List ℕ → ℕ → Bool
good_fields r e =
    readable (version_at r e)
    && (eqb (version_at r e) (version_at r 8)
    && (fits (fixed_length (version_at r e)) r e
    && (not (entry_flag 2 r e) && (leb (server_type_at r e) 1 && eqb (server_type_at r e) (server_type_at r 8)))))

-- one entry: its numbers, one DFSPath, and its target
unfoldable pub good_entry : List ℕ → ℕ → Bool
good_entry r e = good_fields r e && (same_read (prefix_at r e) (prefix_at r 8) && is_read (target_at r e))

-- What a reply to a root, link or SYSVOL request says. `count` is its number of entries, `targets` the first 8.
pub record ReferralReply : Type 0 where
  pub version : ℕ
  pub root : Bool
  pub referral_servers : Bool
  pub storage_servers : Bool
  pub failback : Bool
  pub count : ℕ
  pub ttl : ℕ
  pub prefix : List ℕ
  pub targets : List Target

-- a target whose path is read
unfoldable pub target_read : Option (List ℕ) → Bool → Option Target
target_read None opens = None
target_read (Some path) opens = Some (record { path = path; opens = opens })

-- "a boundary bit on a later one opens the next; version 3 has one set"
unfoldable pub later_target : List ℕ → ℕ → Option Target
later_target r e = target_read (target_at r e) (eqb (version_at r e) 4 && entry_flag 4 r e)

-- "The first target opens set one": no boundary is held for it
unfoldable pub kept_targets : List ℕ → List ℕ → List (Option Target)
kept_targets r [] = []
kept_targets r (e ∷ es) = target_read (target_at r e) false ∷ map (later_target r) es

-- what a reply says, with its prefix and its first 8 targets
unfoldable pub referral_said : List ℕ → List ℕ → List Target → ReferralReply
referral_said r prefix targets = record {
  version = version_at r 8;
  root = eqb (server_type_at r 8) 1;
  referral_servers = header_flag 1 r;
  storage_servers = header_flag 2 r;
  failback = eqb (version_at r 8) 4 && header_flag 4 r;
  count = referral_count r;
  ttl = ttl_at (version_at r 8) r 8;
  prefix = prefix;
  targets = targets;
}

-- the same, where these are read
unfoldable pub referral_with : List ℕ → Option (List ℕ) → Option (List Target) → Option ReferralReply
referral_with r None targets = None
referral_with r (Some prefix) None = None
referral_with r (Some prefix) (Some targets) = Some (referral_said r prefix targets)

unfoldable pub referral_in : List ℕ → Option ReferralReply
referral_in r = referral_with r (prefix_at r 8) (all_read (kept_targets r (take 8 (entries r))))

-- What a reply is read as: malformed, without an entry, or what it says.
pub data Reply (A : Type 0) : Type 0 where
  malformed : Reply A
  nothing : Reply A
  says : A → Reply A

-- what is read, or that the reply is malformed
unfoldable pub read_or : {A : Type 0} → Option A → Reply A
read_or None = malformed
read_or (Some a) = says a

-- "A reply longer than the size asked for, or under 8 bytes, is malformed; next NumberOfReferrals 0 is tested, then the rest."
unfoldable pub read_as : {A : Type 0} → ℕ → List ℕ → Bool → Option A → Reply A
read_as size r good a =
    choose (leb 8 (length r) && leb (length r) size) (choose (eqb (referral_count r) 0) nothing (choose good (read_or a) malformed)) malformed

-- a reply to a root, link or SYSVOL request for the name asked
unfoldable pub read_referral : ℕ → List ℕ → List ℕ → Reply ReferralReply
read_referral size asked r =
    read_as size r (every (good_entry r) (entries r) && matches_read (prefix_at r 8) asked) (referral_in r)
