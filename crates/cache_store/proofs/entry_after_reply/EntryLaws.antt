-- Laws of an entry written anew in its place: by its settings, by its hint, or whole.
use mathlib.Core.Path.{◌≡◌, refl, sym, ap, ◌∙◌}
use mathlib.Core.Bool.{true}
use mathlib.Core.List.{List, [], ◌∷◌}
use Prim.Native.Nat.{ℕ, ◌≤◌}
use native.Mathlib.Omega.{arith}
use lib.ListN.{length}
use borrow.Author.Tests.{le-leb}
use Rattle.laws.specs.Lists.{every}
use Rattle.laws.proofs.Choices.{and_left, and_right, and_both}
use Rattle.cache.specs.places.Layout.{written}
use Rattle.cache.specs.places.Code.{put_settings, key_only}
use Rattle.cache.proofs.places.PutLaws.{put_settings_lem, key_only_lem}
use Rattle.unc.specs.names.Paths.{Target}
use Rattle.cache.specs.order.Entries.{Referral}
use Rattle.cache.specs.order.Order.{good_prefix, good_target, good_referral}
use Rattle.cache.specs.order.Memory.{settings_units, referral_units}
use Rattle.cache.proofs.order.KindLaws.{GoodReferral, referral_told, referral_shape, prefix_short}
use Rattle.cache_entry.specs.write_entry.Code.{add_all, add_target, begun, settings}
use Rattle.cache_entry.proofs.write_entry.WritingLaws.{short}
use Rattle.cache_entry.proofs.write_entry.PieceLaws.{paths_of, marks_of, targets_written, key_shape_lem, begun_written}

-- the settings that are written are the entry's
settings_of_lem : (e : Referral) → settings e.settings.root e.settings.interlink e.settings.failback e.settings.ttl e.settings.taken ≡ settings_units e.settings
unfolding settings settings_units
settings_of_lem e = refl

-- targets that are good fit their rooms
pub good_short : (ts : List Target) → every good_target ts ≡ true → every short ts ≡ true
unfolding every good_target
good_short [] h = refl
good_short (t ∷ ts) h =
    and_both (le-leb (length t.path) 256 (prefix_short t.path (and_left (good_prefix t.path) _ h))) (good_short ts (and_right (good_prefix t.path) _ h))

-- a place that holds the key alone becomes that of an entry with hint 0
module _ (e : Referral) (good : good_referral e ≡ true) (first : e.hint ≡ 0) where
  g : GoodReferral e
  g = referral_told e good

  filled : (targets : List Target) → targets ≡ e.targets → (piece : List ℕ) → piece ≡ written (e.prefix ∷ []) 0 [] []
      → put_settings (settings e.settings.root e.settings.interlink e.settings.failback e.settings.ttl e.settings.taken) (add_all add_target 0 targets piece) ≡ referral_units e
  unfolding referral_units
  filled targets q piece p =
      let k : length e.prefix ≤ 256 = prefix_short e.prefix g.prefixed in
      let f : length e.targets ≤ 8 = g.few in
      let t = targets_written e.prefix [] 0 [] [] 0 e.targets (key_shape_lem e.prefix k) refl refl (omega arith) (good_short e.targets g.each) in
      (λ i. put_settings (settings_of_lem e i) (add_all add_target 0 (q i) (p i)))
      ∙ (ap (put_settings (settings_units e.settings)) t.0
      ∙ (put_settings_lem (e.prefix ∷ paths_of e.targets) 0 (marks_of e.targets) [] (settings_units e.settings) t.1 (referral_shape e good) (omega arith)
      ∙ ap (λ (h : ℕ). written (e.prefix ∷ paths_of e.targets) h (marks_of e.targets) (settings_units e.settings)) (sym first)))

  -- from a new place, and from that of an entry with the same prefix
  pub entry_inserted : (targets : List Target) → targets ≡ e.targets → (q : List ℕ)
      → put_settings (settings e.settings.root e.settings.interlink e.settings.failback e.settings.ttl e.settings.taken) (add_all add_target 0 targets (begun e.prefix q)) ≡ referral_units e
  entry_inserted targets f q = filled targets f (begun e.prefix q) (begun_written e.prefix q (prefix_short e.prefix g.prefixed))

  pub entry_replaced : (old : Referral) → good_referral old ≡ true → old.prefix ≡ e.prefix → (targets : List Target) → targets ≡ e.targets
      → put_settings (settings e.settings.root e.settings.interlink e.settings.failback e.settings.ttl e.settings.taken) (add_all add_target 0 targets (key_only (referral_units old))) ≡ referral_units e
  unfolding referral_units
  entry_replaced old h p targets f =
      filled targets f (key_only (referral_units old))
      (key_only_lem old.prefix (paths_of old.targets) old.hint (marks_of old.targets) (settings_units old.settings) (referral_shape old h)
      ∙ ap (λ (x : List ℕ). written (x ∷ []) 0 [] []) p)

-- an entry of which the settings alone change
pub entry_settled : (e f : Referral) → good_referral e ≡ true → good_referral f ≡ true → e.prefix ≡ f.prefix → e.targets ≡ f.targets → e.hint ≡ f.hint
    → put_settings (settings f.settings.root f.settings.interlink f.settings.failback f.settings.ttl f.settings.taken) (referral_units e) ≡ referral_units f
unfolding referral_units settings_units settings
entry_settled e f h k p q r =
    put_settings_lem (e.prefix ∷ paths_of e.targets) e.hint (marks_of e.targets) (settings_units e.settings) (settings_units f.settings) (referral_shape e h)
    (record {
      few_texts = (referral_shape e h).few_texts;
      short = (referral_shape e h).short;
      few_marks = (referral_shape e h).few_marks;
      few_settings = (referral_shape f k).few_settings;
    })
    (omega arith)
    ∙ (λ i. written (p i ∷ paths_of (q i)) (r i) (marks_of (q i)) (settings_units f.settings))
