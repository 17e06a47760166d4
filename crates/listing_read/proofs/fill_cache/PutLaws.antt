-- Laws of a text, and of a target, that is written into its place.
use mathlib.Core.Path.{◌≡◌, refl, sym, ◌∙◌}
use mathlib.Core.List.{List, [], ◌∷◌}
use Prim.Native.Nat.{ℕ, ◌+◌, ◌-◌, ◌*◌, ◌≤◌, ◌<◌}
use native.Mathlib.Omega.{arith}
use lib.ListN.{length, get_or, drop, replicate}
use Rattle.laws.specs.Choice.{choose}
use Rattle.laws.specs.Lists.{pasted, roomed}
use Rattle.laws.proofs.Orders.{Lies, low, within, high, lies}
use Rattle.laws.proofs.Pasting.{length_pasted, get_d_pasted_low, get_d_pasted_in, get_d_pasted_high, by_parts, pasted_room, length_roomed}
use Rattle.cache.specs.places.Layout.{place_count, flag_unit, count_unit, mark_units}
use Rattle.cache.specs.places.Code.{changed, put_unit}
use Rattle.listing_spelling.specs.spell.Spelling.{Put}
use Rattle.cache_entry.specs.write_entry.Code.{add_text, add_target}
use Rattle.cache_entry.proofs.write_entry.WritingLaws.{text_added, then_changed, keeps_added, keeps_unit}
use Rattle.listing_spelling.specs.unspell.Reading.{unspelled}
use Rattle.listing_read.specs.fill_cache.Code.{value_at, PathAt, PathRead, TargetRead}

-- two pieces that do not touch, in either order
pasted_swap : (d : List ℕ) (a : ℕ) (p : List ℕ) (b : ℕ) (q : List ℕ) → a + length p ≤ b → b + length q ≤ length d
    → pasted (pasted d b q) a p ≡ pasted (pasted d a p) b q
pasted_swap d a p b q h k =
    let u : length (pasted d b q) ≡ length d = length_pasted d b q k in
    let v : length (pasted d a p) ≡ length d = length_pasted d a p (omega arith) in
    by_parts a (length p) (pasted (pasted d b q) a p) (pasted (pasted d a p) b q)
    (length_pasted (pasted d b q) a p (omega arith) ∙ (u ∙ sym (length_pasted (pasted d a p) b q (omega arith) ∙ v)))
    (λ i z l.
    get_d_pasted_low (pasted d b q) a p (omega arith) i z l
    ∙ (get_d_pasted_low d b q k i z (omega arith)
    ∙ sym (get_d_pasted_low (pasted d a p) b q (omega arith) i z (omega arith) ∙ get_d_pasted_low d a p (omega arith) i z l)))
    (λ j z l m.
    get_d_pasted_in (pasted d b q) a p (omega arith) j z l
    ∙ sym (get_d_pasted_low (pasted d a p) b q (omega arith) (a + j) z (omega arith) ∙ get_d_pasted_in d a p (omega arith) j z l))
    (λ i z l m. get_d_pasted_high (pasted d b q) a p (omega arith) i z l ∙ past i z l (lies b (length q) i))
  where
    past : (i : ℕ) (z : ℕ) → a + length p ≤ i → Lies b (length q) i → get_or (pasted d b q) i z ≡ get_or (pasted (pasted d a p) b q) i z
    past i z l (low m) =
        get_d_pasted_low d b q k i z m
        ∙ sym (get_d_pasted_low (pasted d a p) b q (let v = length_pasted d a p (omega arith) in omega arith) i z m ∙ get_d_pasted_high d a p (omega arith) i z l)
    past i z l (within j m) =
        get_d_pasted_in d b q k j z m
        ∙ sym (get_d_pasted_in (pasted d a p) b q (let v = length_pasted d a p (omega arith) in omega arith) j z m)
    past i z l (high m) =
        get_d_pasted_high d b q k i z m
        ∙ sym (get_d_pasted_high (pasted d a p) b q (let v = length_pasted d a p (omega arith) in omega arith) i z m ∙ get_d_pasted_high d a p (omega arith) i z l)

-- a text, the zeros after it, its length, and that it is the last
pub value_put : (raw : List ℕ) (i : ℕ) → i < place_count raw → (j : ℕ) (t : List ℕ) → j < 9 → length t ≤ 256 → {a b c o : List ℕ} {stop : ℕ}
    → Put raw (i * 2336 + 32 + j * 256) t a stop → b ≡ pasted a stop (replicate (i * 2336 + 32 + j * 256 + 256 - stop) 0)
    → c ≡ pasted b (i * 2336 + j) ((stop - (i * 2336 + 32 + j * 256)) ∷ []) → o ≡ changed i (put_unit count_unit j) c → o ≡ changed i (add_text j t) raw
value_put raw i fits j t h k {a} {b} {c} {o} {stop} w e f g =
    let s : ℕ = i * 2336 + 32 + j * 256 in
    let m : stop ≡ s + length t = w.end in
    let x : s + 256 - stop ≡ 256 - length t = omega arith in
    let y : stop - s ≡ length t = omega arith in
    let r : b ≡ pasted raw s (roomed 256 t) = pasted_room raw s 256 t w.memory (e ∙ (λ n. pasted a (m n) (replicate (x n) 0))) (omega arith) (omega arith) in
    let l : length (roomed 256 t) ≡ 256 = length_roomed 256 t k in
    text_added raw i fits j (length t) t refl refl
    (f ∙ ((λ n. pasted (r n) (i * 2336 + j) (y n ∷ [])) ∙ pasted_swap raw (i * 2336 + j) (length t ∷ []) s (roomed 256 t) (omega arith) (omega arith))) g h k

-- a target, and that it opens no set
pub target_put : (raw : List ℕ) (i : ℕ) → i < place_count raw → (m n : ℕ) (text : List ℕ) → m < 8 → PathAt (drop n text) → {a o : List ℕ} {r : ℕ}
    → PathRead n text i (1 + m) raw a r → o ≡ changed i (put_unit (mark_units + m) 0) a → TargetRead n text i m raw o r
unfolding add_target flag_unit choose
target_put raw i fits m n text h p w e =
    let t : List ℕ = unspelled (value_at 7 (drop n text)) in
    record {
      memory = then_changed raw i fits (add_text (1 + m) t) (put_unit (mark_units + m) 0) (keeps_added (1 + m) t (omega arith) p.short) (keeps_unit (mark_units + m) 0 (omega arith)) w.memory e;
      next = w.next;
    }
