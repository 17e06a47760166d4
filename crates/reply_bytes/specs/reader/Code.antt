-- Shapes of the code, proved equal to the rules; nothing here is to be believed.
-- Document 01, "Layouts": the header, and the fixed part of an entry, field after field.
use Rattle.std.specs.Prelude.{ℕ, ◌+◌, List}
use Rattle.reply_bytes.specs.texts.Bytes.{u16_at, u32_at}
use Rattle.reply_bytes.specs.declared.reader.Header.{Header}
use Rattle.reply_bytes.specs.declared.reader.Start.{Start}
use Rattle.reply_bytes.specs.declared.reader.Marks.{Marks}
use Rattle.reply_bytes.specs.declared.reader.Offsets.{Offsets}

-- NumberOfReferrals and the flags; PathConsumed, at 0, is not used
abbrev pub header_of : List ℕ → Header
header_of r = record { count = u16_at r 2; flags = u32_at r 4 }

-- VersionNumber and Size of the entry that starts at byte e
abbrev pub start_of : List ℕ → ℕ → Start
start_of r e = record { version = u16_at r e; size = u16_at r (e + 2) }

-- its ServerType, flags and TTL
abbrev pub entry_marks : List ℕ → ℕ → Marks
entry_marks r e = record { kind = u16_at r (e + 4); flags = u16_at r (e + 6); ttl = u32_at r (e + 8) }

-- the three numbers after TTL: DFSPathOffset, DFSAlternatePathOffset and NetworkAddressOffset; in a name list entry SpecialNameOffset, NumberOfExpandedNames and ExpandedNameOffset
abbrev pub offsets_of : List ℕ → ℕ → Offsets
offsets_of r e = record { first = u16_at r (e + 12); second = u16_at r (e + 14); third = u16_at r (e + 16) }
