-- Laws of the numbers handed out: the one at each place, and past the last.
use mathlib.Core.Path.{◌≡◌, refl, sym, ap, ◌∙◌}
use mathlib.Core.Bool.{true}
use mathlib.Core.List.{List, ◌∷◌}
use Prim.Native.Nat.{ℕ, zero, suc, ◌+◌, ◌-◌, ◌<◌}
use native.Mathlib.Omega.{arith}
use lib.ListN.{get_or}
use Rattle.laws.proofs.Every.{every_at}
use Rattle.reply_bytes.specs.declared.texts.Span.{Span}
use Rattle.reply_read.specs.referral.Replies.{referral_count, size_at, starts, entries}
use Rattle.reply_read.specs.referral.Code.{text_shown}
use Rattle.reply_read.specs.name_lists.NameLists.{domain_at, good_domain_name}
use Rattle.std.specs.Prelude.{Result, Ok, Err, Option, None}
use Rattle.reply_read.specs.declared.referral.Unread.{Unread}
use Rattle.reply_read.specs.declared.referral.Unread.TheVariants.{Malformed, Nothing}
use Rattle.reply_read.proofs.referral.TextLaws.{text_bad}
use Rattle.reply_read.proofs.referral.EntryLaws.{unread, starts_cons}
use Rattle.reply_read.proofs.referral.SaysLaws.{length_entries}
use Rattle.reply_read.proofs.name_lists.ListLaws.{domain_read}
use Rattle.testing.specs.layouts.Code.{unread_number, answer_number, bit_of, target_numbers, no_kept, span_of, GoodDomains}

-- a target and a DC that are not there
pub no_target_number : (k : ℕ) → 0 ≡ get_or (target_numbers no_kept) k 0
unfolding target_numbers no_kept bit_of
no_target_number zero = refl
no_target_number (suc zero) = refl
no_target_number (suc (suc zero)) = refl
no_target_number (suc (suc (suc k))) = refl

pub no_span_number : (k : ℕ) → 0 ≡ get_or (span_of (record { from = 0; units = 0 })) k 0
unfolding span_of
no_span_number zero = refl
no_span_number (suc zero) = refl
no_span_number (suc (suc k)) = refl

-- a good domain reply has a name in each of its entries
pub domain_there_lem : (r : List ℕ) (i : ℕ) → GoodDomains r i → (e : ℕ) → e ≡ get_or (entries r) i 0 → {v : Option Span} → text_shown r v ≡ domain_at r e → v ≡ None → ⊥
domain_there_lem r i g e p f h =
    unread (text_bad r h f)
    (domain_read r e (ap (good_domain_name r) p ∙ every_at (good_domain_name r) (entries r) g.good i 0 (omega (arith, g.there, length_entries r))))

-- A reply that says something, by its number.
pub says_two : (a : Result (Unit {0}) Unread) → answer_number a ≡ 2 → Ok tt ≡ a
unfolding answer_number unread_number
says_two (Ok u) h = refl
says_two (Err Malformed) h = absurd (omega arith)
says_two (Err Nothing) h = absurd (omega arith)

pub two_says : {a : Result (Unit {0}) Unread} → Ok tt ≡ a → answer_number a ≡ 2
unfolding answer_number
two_says e = ap answer_number (sym e)

-- entry i, j of n entries passed
pub entry_first : (r : List ℕ) (i : ℕ) → get_or (entries r) i 0 ≡ get_or (starts (referral_count r - 0) 8 r) (i - 0) 0
unfolding entries
entry_first r i =
    let p : referral_count r ≡ referral_count r - 0 = omega arith in
    let q : i ≡ i - 0 = omega arith in
    λ x. get_or (starts (p x) 8 r) (q x) 0

pub entry_next : (r : List ℕ) (n i j e : ℕ) {z : ℕ} → j < i → j < n → z ≡ e + size_at r e
    → get_or (starts (n - j) e r) (i - j) 0 ≡ get_or (starts (n - (j + 1)) z r) (i - (j + 1)) 0
entry_next r n i j e {z} h k g =
    let p : i - j ≡ suc (i - (j + 1)) = omega arith in
    ap (λ (x : List ℕ). get_or x (i - j) 0) (starts_cons (λ x. true) r n j e k)
    ∙ (ap (λ (m : ℕ). get_or (e ∷ starts (n - (j + 1)) (e + size_at r e) r) m 0) p ∙ ap (λ (x : ℕ). get_or (starts (n - (j + 1)) x r) (i - (j + 1)) 0) (sym g))

pub entry_here : (r : List ℕ) (n i j e : ℕ) → j ≡ i → j < n → get_or (starts (n - j) e r) (i - j) 0 ≡ e
entry_here r n i j e h k =
    let p : i - j ≡ 0 = omega arith in
    ap (λ (x : List ℕ). get_or x (i - j) 0) (starts_cons (λ x. true) r n j e k) ∙ ap (λ (m : ℕ). get_or (e ∷ starts (n - (j + 1)) (e + size_at r e) r) m 0) p
