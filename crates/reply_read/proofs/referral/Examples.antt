-- Document 01's examples marked P, on the definitions.
use mathlib.Core.Path.{◌≡◌, refl}
use mathlib.Core.Bool.{true, false}
use mathlib.Core.List.{List, [], ◌∷◌, ◌++◌}
use Prim.Native.Nat.{ℕ}
use lib.ListN.{length, take}
use Rattle.laws.specs.Choice.{choose}
use Rattle.laws.specs.Lists.{every}
use Rattle.unc.specs.names.Names.{folded, same_unit, same_name, plain, nothing_or_dots, good_component}
use Rattle.unc.specs.names.Paths.{before, pieces, components, component_count, leads, without_trail, body, good_path, normalised, begins, matches}
use Rattle.reply_bytes.specs.texts.Bytes.{u16_at, u32_at, flag, longer, text, text_from}
use Rattle.reply_read.specs.referral.Request.{bytes_of, request}
use Rattle.reply_read.specs.referral.Replies.{referral_count, header_flag, version_at, size_at, server_type_at, entry_flag, text_of, starts, entries, fits, path_of, is_read, same_read, matches_read, with_first, all_read, readable, fixed_length, ttl_at, prefix_at, target_at, good_fields, good_entry, target_read, later_target, kept_targets, referral_said, referral_with, referral_in, malformed, says, read_or, read_as, read_referral}

-- `\files\s1`
abbrev pub files : List ℕ
files = 92 ∷ 102 ∷ 105 ∷ 108 ∷ 101 ∷ 115 ∷ 92 ∷ 115 ∷ 49 ∷ []

-- `\nas1\s1`
abbrev pub nas : List ℕ
nas = 92 ∷ 110 ∷ 97 ∷ 115 ∷ 49 ∷ 92 ∷ 115 ∷ 49 ∷ []

-- "request for `\files\s1`: 22 bytes"
pub request_files : length (request files) ≡ 22
unfolding bytes_of request
request_files = refl

abbrev pub zeros : List ℕ
zeros = 0 ∷ 0 ∷ 0 ∷ 0 ∷ 0 ∷ 0 ∷ 0 ∷ 0 ∷ 0 ∷ 0 ∷ 0 ∷ 0 ∷ 0 ∷ 0 ∷ 0 ∷ 0 ∷ []

-- one version 3 entry, `\files\s1` to `\nas1\s1`, offsets 34, 34, 54; a root, TTL 300
pub reply : List ℕ
reply =
    (18 ∷ 0 ∷ 1 ∷ 0 ∷ 3 ∷ 0 ∷ 0 ∷ 0 ∷ [])
    ++ ((3 ∷ 0 ∷ 34 ∷ 0 ∷ 1 ∷ 0 ∷ 0 ∷ 0 ∷ 44 ∷ 1 ∷ 0 ∷ 0 ∷ 34 ∷ 0 ∷ 34 ∷ 0 ∷ 54 ∷ 0 ∷ [])
    ++ (zeros ++ (bytes_of (files ++ (0 ∷ [])) ++ bytes_of (nas ++ (0 ∷ [])))))

pub reply_length : length reply ≡ 80
unfolding reply bytes_of
reply_length = refl

-- "80 bytes are read"
pub reply_read : read_referral 8192 files reply ≡ says (record {
  version = 3;
  root = true;
  referral_servers = true;
  storage_servers = true;
  failback = false;
  count = 1;
  ttl = 300;
  prefix = files;
  targets = record { path = nas; opens = false } ∷ [];
})
unfolding reply bytes_of choose every folded same_unit same_name plain nothing_or_dots good_component before pieces components component_count leads without_trail body good_path normalised begins matches u16_at u32_at flag longer text text_from referral_count header_flag version_at size_at server_type_at entry_flag text_of starts entries fits path_of is_read same_read matches_read with_first all_read readable fixed_length ttl_at prefix_at target_at good_fields good_entry target_read later_target kept_targets referral_said referral_with referral_in read_or read_as read_referral
reply_read = refl

-- "79 are malformed"
pub reply_cut : read_referral 8192 files (take 79 reply) ≡ malformed
unfolding reply bytes_of choose every folded same_unit same_name plain nothing_or_dots good_component before pieces components component_count leads without_trail body good_path normalised begins matches u16_at u32_at flag longer text text_from referral_count header_flag version_at size_at server_type_at entry_flag text_of starts entries fits path_of is_read same_read matches_read with_first all_read readable fixed_length ttl_at prefix_at target_at good_fields good_entry target_read later_target kept_targets referral_said referral_with referral_in read_or read_as read_referral
reply_cut = refl
