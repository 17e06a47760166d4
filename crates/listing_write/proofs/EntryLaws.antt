-- Laws of an entry's lines, put one after another, and counted.
use mathlib.Core.Path.{◌≡◌, refl, sym, ap, ◌∙◌}
use mathlib.Core.Bool.{Bool}
use mathlib.Core.List.{List, [], ◌++◌, append-nil}
use Prim.Native.Nat.{ℕ, ◌+◌, ◌≤◌}
use native.Mathlib.Omega.{arith}
use lib.ListN.{length}
use Rattle.laws.specs.Lists.{pasted}
use Rattle.cache.specs.places.Layout.{text_at, flag_at, flag_unit, wide_at, unit_at, hint_unit, root_unit, interlink_unit, failback_unit, ttl_unit, taken_unit}
use Rattle.cache.specs.order.Memory.{referral_of, settings_at}
use Rattle.listing_spelling.specs.spell.Spelling.{spelled, decimal, Put}
use Rattle.listing_spelling.proofs.spell.PutLaws.{Left, left_start, left_next, left_done}
use Rattle.listing_write.specs.Form.{prefix_key, kind_key, interlink_key, failback_key, ttl_key, taken_key, hint_key, kind_word, path_line, number_line, ended, lines_text, target_lines, setting_lines, count_lines, entry_text}
use Rattle.listing_write.proofs.FormLaws.{left_fits, head_length, head_bound, entry_parts}

pub put_same : {d : List ℕ} {n : ℕ} {p q o : List ℕ} {r : ℕ} → p ≡ q → Put d n p o r → Put d n q o r
put_same {d} {n} e w = record { memory = w.memory ∙ ap (pasted d n) e; end = w.end ∙ ap (λ (x : List ℕ). n + length x) e }

-- the sum that the lines before the targets have
module _ (piece : List ℕ) {t : List ℕ} {w x h p a b c : ℕ} (text : t ≡ text_at 0 piece) (prefix : p ≡ 7 + length (spelled t) + 1)
    (wide : w ≡ wide_at ttl_unit piece) (ttl : a ≡ 4 + length (decimal w) + 1) (wide2 : x ≡ wide_at taken_unit piece) (taken : b ≡ 6 + length (decimal x) + 1)
    (unit : h ≡ unit_at hint_unit piece) (hint : c ≡ 5 + length (decimal h) + 1) where
  pub head_sum : p + 33 + a + b + c ≡ length (lines_text (setting_lines (referral_of piece) ++ count_lines (referral_of piece)))
  unfolding referral_of settings_at
  head_sum =
      let e = ap (λ (y : List ℕ). length (spelled y)) text in
      let f = ap (λ (y : ℕ). length (decimal y)) wide in
      let g = ap (λ (y : ℕ). length (decimal y)) wide2 in
      let k = ap (λ (y : ℕ). length (decimal y)) unit in
      omega (arith, head_length (referral_of piece))

  pub head_small : p + 33 + a + b + c ≤ 1400
  head_small = omega (arith, head_sum, head_bound piece)

-- prefix, kind, interlink, failback
module _ (d : List ℕ) (at : ℕ) (piece : List ℕ) (fits : at + length (lines_text (setting_lines (referral_of piece))) ≤ length d) where
  goal : List ℕ
  goal = pasted d at (lines_text (setting_lines (referral_of piece)))

  stop : ℕ
  stop = at + length (lines_text (setting_lines (referral_of piece)))

  abbrev kind_line : List ℕ
  kind_line = ended (kind_key ++ kind_word (flag_at root_unit piece))

  abbrev flag_line : List ℕ → ℕ → List ℕ
  flag_line key j = ended (number_line key (flag_unit (flag_at j piece)))

  abbrev prefix_line : List ℕ
  prefix_line = ended (path_line prefix_key (text_at 0 piece))

  settings_0 : Left goal stop d at (prefix_line ++ (kind_line ++ (flag_line interlink_key interlink_unit ++ (flag_line failback_key failback_unit ++ []))))
  unfolding goal stop lines_text setting_lines referral_of settings_at
  settings_0 = left_start d at (lines_text (setting_lines (referral_of piece))) fits

  pub prefix_fits : {t : List ℕ} → t ≡ text_at 0 piece → at + length (ended (path_line prefix_key t)) ≤ length d
  prefix_fits e = rw e (left_fits prefix_line _ settings_0 refl)

  module _ {t : List ℕ} (text : t ≡ text_at 0 piece) {m₁ : List ℕ} {r₁ : ℕ} (p₁ : Put d at (ended (path_line prefix_key t)) m₁ r₁) where
    settings_1 : Left goal stop m₁ r₁ (kind_line ++ (flag_line interlink_key interlink_unit ++ (flag_line failback_key failback_unit ++ [])))
    settings_1 = left_next prefix_line _ settings_0 refl (put_same (ap (λ (x : List ℕ). ended (path_line prefix_key x)) text) p₁)

    pub kind_fits : {b : Bool} → b ≡ flag_at root_unit piece → r₁ + length (ended (kind_key ++ kind_word b)) ≤ length m₁
    kind_fits e = rw e (left_fits kind_line _ settings_1 refl)

    module _ {k : Bool} (kind : k ≡ flag_at root_unit piece) {m₂ : List ℕ} {r₂ : ℕ} (p₂ : Put m₁ r₁ (ended (kind_key ++ kind_word k)) m₂ r₂) where
      settings_2 : Left goal stop m₂ r₂ (flag_line interlink_key interlink_unit ++ (flag_line failback_key failback_unit ++ []))
      settings_2 = left_next kind_line _ settings_1 refl (put_same (ap (λ (x : Bool). ended (kind_key ++ kind_word x)) kind) p₂)

      pub interlink_fits : {b : Bool} → b ≡ flag_at interlink_unit piece → r₂ + length (ended (number_line interlink_key (flag_unit b))) ≤ length m₂
      interlink_fits e = rw e (left_fits (flag_line interlink_key interlink_unit) _ settings_2 refl)

      module _ {f : Bool} (inter : f ≡ flag_at interlink_unit piece) {m₃ : List ℕ} {r₃ : ℕ} (p₃ : Put m₂ r₂ (ended (number_line interlink_key (flag_unit f))) m₃ r₃) where
        settings_3 : Left goal stop m₃ r₃ (flag_line failback_key failback_unit ++ [])
        settings_3 = left_next (flag_line interlink_key interlink_unit) _ settings_2 refl (put_same (ap (λ (x : Bool). ended (number_line interlink_key (flag_unit x))) inter) p₃)

        pub failback_fits : {b : Bool} → b ≡ flag_at failback_unit piece → r₃ + length (ended (number_line failback_key (flag_unit b))) ≤ length m₃
        failback_fits e = rw e (left_fits (flag_line failback_key failback_unit) _ settings_3 refl)

        pub settings_put : {b : Bool} → b ≡ flag_at failback_unit piece → {m₄ : List ℕ} {r₄ : ℕ} → Put m₃ r₃ (ended (number_line failback_key (flag_unit b))) m₄ r₄
            → Put d at (lines_text (setting_lines (referral_of piece))) m₄ r₄
        unfolding goal stop
        settings_put e p₄ =
            left_done d at (lines_text (setting_lines (referral_of piece)))
            (left_next (flag_line failback_key failback_unit) [] settings_3 refl (put_same (ap (λ (x : Bool). ended (number_line failback_key (flag_unit x))) e) p₄)) refl refl refl

-- ttl, taken, hint
module _ (d : List ℕ) (at : ℕ) (piece : List ℕ) (fits : at + length (lines_text (count_lines (referral_of piece))) ≤ length d) where
  counted : List ℕ
  counted = pasted d at (lines_text (count_lines (referral_of piece)))

  halt : ℕ
  halt = at + length (lines_text (count_lines (referral_of piece)))

  abbrev count_line : List ℕ → ℕ → List ℕ
  count_line key n = ended (number_line key n)

  counts_0 : Left counted halt d at (count_line ttl_key (wide_at ttl_unit piece) ++ (count_line taken_key (wide_at taken_unit piece) ++ (count_line hint_key (unit_at hint_unit piece) ++ [])))
  unfolding counted halt lines_text count_lines referral_of settings_at
  counts_0 = left_start d at (lines_text (count_lines (referral_of piece))) fits

  pub ttl_fits : {n : ℕ} → n ≡ wide_at ttl_unit piece → at + length (ended (number_line ttl_key n)) ≤ length d
  ttl_fits e = rw e (left_fits (count_line ttl_key (wide_at ttl_unit piece)) _ counts_0 refl)

  module _ {n₁ : ℕ} (e₁ : n₁ ≡ wide_at ttl_unit piece) {m₁ : List ℕ} {r₁ : ℕ} (p₁ : Put d at (ended (number_line ttl_key n₁)) m₁ r₁) where
    counts_1 : Left counted halt m₁ r₁ (count_line taken_key (wide_at taken_unit piece) ++ (count_line hint_key (unit_at hint_unit piece) ++ []))
    counts_1 = left_next (count_line ttl_key (wide_at ttl_unit piece)) _ counts_0 refl (put_same (ap (λ (x : ℕ). ended (number_line ttl_key x)) e₁) p₁)

    pub taken_fits : {n : ℕ} → n ≡ wide_at taken_unit piece → r₁ + length (ended (number_line taken_key n)) ≤ length m₁
    taken_fits e = rw e (left_fits (count_line taken_key (wide_at taken_unit piece)) _ counts_1 refl)

    module _ {n₂ : ℕ} (e₂ : n₂ ≡ wide_at taken_unit piece) {m₂ : List ℕ} {r₂ : ℕ} (p₂ : Put m₁ r₁ (ended (number_line taken_key n₂)) m₂ r₂) where
      counts_2 : Left counted halt m₂ r₂ (count_line hint_key (unit_at hint_unit piece) ++ [])
      counts_2 = left_next (count_line taken_key (wide_at taken_unit piece)) _ counts_1 refl (put_same (ap (λ (x : ℕ). ended (number_line taken_key x)) e₂) p₂)

      pub hint_fits : {n : ℕ} → n ≡ unit_at hint_unit piece → r₂ + length (ended (number_line hint_key n)) ≤ length m₂
      hint_fits e = rw e (left_fits (count_line hint_key (unit_at hint_unit piece)) _ counts_2 refl)

      pub counts_put : {n : ℕ} → n ≡ unit_at hint_unit piece → {m₃ : List ℕ} {r₃ : ℕ} → Put m₂ r₂ (ended (number_line hint_key n)) m₃ r₃
          → Put d at (lines_text (count_lines (referral_of piece))) m₃ r₃
      unfolding counted halt
      counts_put e p₃ =
          left_done d at (lines_text (count_lines (referral_of piece)))
          (left_next (count_line hint_key (unit_at hint_unit piece)) [] counts_2 refl (put_same (ap (λ (x : ℕ). ended (number_line hint_key x)) e) p₃)) refl refl refl

-- the three parts of an entry
module _ (d : List ℕ) (at : ℕ) (piece : List ℕ) (fits : at + length (entry_text (referral_of piece)) ≤ length d) where
  abbrev settings_text : List ℕ
  settings_text = lines_text (setting_lines (referral_of piece))

  abbrev counts_text : List ℕ
  counts_text = lines_text (count_lines (referral_of piece))

  abbrev targets_text : List ℕ
  targets_text = lines_text (target_lines (referral_of piece).targets)

  entry_0 : Left (pasted d at (entry_text (referral_of piece))) (at + length (entry_text (referral_of piece))) d at (entry_text (referral_of piece))
  entry_0 = left_start d at (entry_text (referral_of piece)) fits

  pub entry_settings_fit : at + length settings_text ≤ length d
  entry_settings_fit = left_fits settings_text (counts_text ++ targets_text) entry_0 (entry_parts (referral_of piece))

  module _ {m₁ : List ℕ} {r₁ : ℕ} (p₁ : Put d at settings_text m₁ r₁) where
    entry_1 : Left (pasted d at (entry_text (referral_of piece))) (at + length (entry_text (referral_of piece))) m₁ r₁ (counts_text ++ targets_text)
    entry_1 = left_next settings_text (counts_text ++ targets_text) entry_0 (entry_parts (referral_of piece)) p₁

    pub entry_counts_fit : r₁ + length counts_text ≤ length m₁
    entry_counts_fit = left_fits counts_text targets_text entry_1 refl

    module _ {m₂ : List ℕ} {r₂ : ℕ} (p₂ : Put m₁ r₁ counts_text m₂ r₂) where
      pub entry_targets_fit : r₂ + length targets_text ≤ length m₂
      entry_targets_fit = (left_next counts_text targets_text entry_1 refl p₂).fits

      pub entry_put : {m₃ : List ℕ} {r₃ : ℕ} → Put m₂ r₂ targets_text m₃ r₃ → Put d at (entry_text (referral_of piece)) m₃ r₃
      entry_put p₃ =
          left_done d at (entry_text (referral_of piece))
          (left_next targets_text [] (left_next counts_text targets_text entry_1 refl p₂) (sym (append-nil targets_text)) p₃) refl refl refl

pub left_same : {goal : List ℕ} {stop : ℕ} {d : List ℕ} {n : ℕ} {p q : List ℕ} → p ≡ q → Left goal stop d n p → Left goal stop d n q
left_same {goal} {stop} {d} {n} e l = rw e at l
