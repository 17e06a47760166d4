-- Laws of the loop over the entries of a domain reply.
use Rattle.std.specs.Prelude.{Option, Some, None}
use mathlib.Core.Path.{◌≡◌, sym, ap, ◌∙◌}
use mathlib.Core.Bool.{true}
use mathlib.Core.List.{List, ◌∷◌, ◌++◌, map}
use Prim.Native.Nat.{ℕ, ◌+◌, ◌-◌, ◌*◌, ◌≤◌, ◌<◌}
use native.Mathlib.Omega.{arith}
use lib.ListN.{length, take, length-map, length-take}
use borrow.Author.Tests.{le-leb}
use Rattle.laws.specs.Lists.{every}
use Rattle.laws.proofs.Choices.{and_both}
use Rattle.unc.specs.names.Names.{good_name}
use Rattle.reply_bytes.specs.texts.Code.{spanned}
use Rattle.reply_bytes.specs.declared.texts.Span.{Span}
use Rattle.reply_read.specs.referral.Replies.{referral_count, size_at, starts, entries}
use Rattle.reply_read.specs.referral.Code.{is_inside}
use Rattle.reply_read.proofs.referral.EntryLaws.{starts_cons, starts_none, entries_start}
use Rattle.reply_read.specs.name_lists.NameLists.{good_domain_name, domain_at}
use Rattle.reply_read.specs.name_lists.Code.{domain_name}
use Rattle.reply_read.specs.referral.Code.{text_shown, text_inside}
use Rattle.reply_read.proofs.referral.TextLaws.{text_inside_lem}
use Rattle.reply_read.proofs.name_lists.SaysLaws.{name_taken, left_fits, left_name, left_next, left_read}
use Rattle.cache_store.specs.entry_after_reply.Stored.{once}
use Rattle.cache_store.specs.domain_cache.Code.{good_name_span, with_name, shown, Fit, Added, WellFormed, Gathered}
use Rattle.cache_store.specs.declared.domain_cache.Names.{Names}
use Rattle.cache_store.proofs.domain_cache.OnceLaws.{unlike, once_start, once_step, once_all, once_full, none_kept}

-- i of n entries are passed, the next starts at e
pub record Going (r : List ℕ) (n : ℕ) (v : Names) (e i : ℕ) : Type 0 where
  pub past : i ≤ n
  pub fit : Fit r v
  pub left : every (good_domain_name r) (starts (n - i) e r) ≡ true
  pub all : once (map (domain_name r) (entries r)) ≡ shown r v ++ unlike (shown r v) (once (map (domain_name r) (starts (n - i) e r)))

pub going_start : (r : List ℕ) (n : ℕ) (v : Names) → WellFormed r → n ≡ referral_count r → v.count ≡ 0 → length v.kept ≡ 33 → Going r n v 8 0
unfolding entries
going_start r n v w e h l =
    let q : referral_count r ≡ n - 0 = omega arith in
    record {
      past = omega arith;
      fit = none_kept r v h l;
      left = sym (entries_start (good_domain_name r) r e) ∙ w.good;
      all = once_start (once_list r)
          ∙ (λ i. map (spanned r) (take (sym h i) v.kept) ++ unlike (map (spanned r) (take (sym h i) v.kept)) (once (map (domain_name r) (starts (q i) 8 r))));
    }
  where
    once_list : List ℕ → List (List ℕ)
    once_list x = map (domain_name x) (entries x)

module _ (r : List ℕ) (n : ℕ) (v : Names) (e i : ℕ) (g : Going r n v e i) where
  length_shown : length (shown r v) ≡ v.count
  length_shown =
      let room : length v.kept ≡ 33 = g.fit.room in
      let few : v.count ≤ 33 = g.fit.few in
      simp (length-map, length-take) (omega arith)

  module _ (h : i < n) where
    pub going_fits : (18 ≤ size_at r e) × (e + size_at r e ≤ length r)
    going_fits = left_fits r n i e h g.left

    -- the name at e, taken
    module _ {t : Option Span} (d : text_shown r t ≡ domain_at r e) where
      pub going_none : t ≡ None → ⊥
      going_none = left_read r n i e h g.left d

      pub going_name : (s : Span) → t ≡ Some s → text_inside r t ≡ true → good_name_span r s ≡ true
      unfolding good_name_span is_inside
      going_name s k u =
          and_both (le-leb (s.from + 2 * s.units) (length r) (text_inside_lem r s k u)) (ap good_name (name_taken r e s d k) ∙ left_name r n i e h g.left)

    pub going_next : (s : Span) (w : Names) (z : ℕ) → spanned r s ≡ domain_name r e → Added r v s w → z ≡ e + size_at r e → Going r n w z (i + 1)
    going_next s w z p a f = record {
      past = omega arith;
      fit = a.fit;
      left = left_next r n i e h g.left f;
      all = once_step (shown r v) (domain_name r e) (map (domain_name r) (starts (n - (i + 1)) z r))
          (g.all
          ∙ ap (λ (l : List ℕ). shown r v ++ unlike (shown r v) (once (map (domain_name r) l)))
          (starts_cons (λ x. true) r n i e h ∙ ap (λ (y : ℕ). e ∷ starts (n - (i + 1)) y r) (sym f)))
          ∙ ap (λ (x : List (List ℕ)). x ++ unlike x (once (map (domain_name r) (starts (n - (i + 1)) z r)))) (ap (with_name (shown r v)) (sym p) ∙ sym a.are);
    }

  pub going_full : v.count ≡ 33 → Gathered r v
  going_full h = record { fit = g.fit; are = once_full (shown r v) (map (domain_name r) (starts (n - i) e r)) g.all (length_shown ∙ h) }

  pub going_end : n ≤ i → Gathered r v
  going_end h = record {
    fit = g.fit;
    are = once_all (shown r v) g.all (ap (map (domain_name r)) (starts_none (λ x. true) r n i e h)) (let few : v.count ≤ 33 = g.fit.few in omega (arith, length_shown));
  }
