-- Laws of requests.
use Rattle.std.specs.Prelude.{Some, None}
use mathlib.Core.Path.{◌≡◌, refl, sym, ap, ◌∙◌}
use mathlib.Core.Bool.{true, false}
use mathlib.Core.List.{List, [], ◌∷◌, ◌++◌, append_assoc}
use Prim.Native.Nat.{ℕ, ◌+◌, ◌-◌, ◌*◌, ◌/◌, ◌%◌, ◌≤◌, ◌<◌}
use native.Mathlib.Numerals.{add-one}
use native.Mathlib.Omega.{arith}
use lib.Dec.{leb}
use lib.ListN.{length, get_or, take, set, length-append, length-take}
use lib.Seq.{take-suc}
use borrow.Author.Tests.{le-leb, lt-leb}
use Rattle.laws.specs.Lists.{pasted}
use Rattle.laws.proofs.Choices.{choose_yes, choose_no}
use Rattle.laws.proofs.Pasting.{set_pasted, length_pasted, pasted_join, pasted_nil}
use Rattle.reply_read.specs.referral.Request.{bytes_of, request}
use Rattle.reply_read.specs.referral.Code.{asked}
use Rattle.reply_read.specs.referral.Request.{buffer_with}

pub length_bytes : (s : List ℕ) → length (bytes_of s) ≡ 2 * length s
unfolding bytes_of
length_bytes [] = refl
length_bytes (u ∷ s) = let h : length (bytes_of s) ≡ 2 * length s = length_bytes s in omega arith

bytes_append : (s t : List ℕ) → bytes_of (s ++ t) ≡ bytes_of s ++ bytes_of t
unfolding bytes_of
bytes_append [] t = refl
bytes_append (u ∷ s) t = ap (λ (x : List ℕ). u % 256 ∷ (u / 256 ∷ x)) (bytes_append s t)

-- the parts of a request
request_parts : (name : List ℕ) → request name ≡ bytes_of (4 ∷ []) ++ (bytes_of name ++ bytes_of (0 ∷ []))
unfolding request
request_parts name = bytes_append (4 ∷ []) (name ++ (0 ∷ [])) ∙ ap (λ (x : List ℕ). bytes_of (4 ∷ []) ++ x) (bytes_append name (0 ∷ []))

pub length_request : (name : List ℕ) → length (request name) ≡ 4 + 2 * length name
unfolding request
length_request name =
    let h : length (name ++ (0 ∷ [])) ≡ length name + 1 = length-append name (0 ∷ []) in
    length_bytes (4 ∷ (name ++ (0 ∷ []))) ∙ omega arith

-- one unit stored
pub pair_stored : (d : List ℕ) (at u : ℕ) → at + 1 < length d → set (set d at (u % 256)) (at + 1) (u / 256) ≡ pasted d at (bytes_of (u ∷ []))
unfolding bytes_of
pair_stored d at u h =
    let l : length (pasted d at (u % 256 ∷ [])) ≡ length d = length_pasted d at (u % 256 ∷ []) (omega arith) in
    ap (λ (x : List ℕ). set x (at + 1) (u / 256)) (set_pasted d at (u % 256) (omega arith))
    ∙ (set_pasted (pasted d at (u % 256 ∷ [])) (at + 1) (u / 256) (omega arith)
    ∙ pasted_join d at (u % 256 ∷ []) (u / 256 ∷ []) (omega arith))

-- one more of many
pub units_next : (d : List ℕ) (at : ℕ) (s : List ℕ) (i : ℕ) {m o : List ℕ} → m ≡ pasted d at (bytes_of (take i s))
    → o ≡ pasted m (at + 2 * i) (bytes_of (get_or s i 0 ∷ [])) → i < length s → at + 2 * length s ≤ length d → o ≡ pasted d at (bytes_of (take (i + 1) s))
units_next d at s i e f h u =
    let t : length (take i s) ≡ i = simp length-take (omega arith) in
    let l : length (bytes_of (take i s)) ≡ 2 * i = length_bytes (take i s) ∙ ap (λ (k : ℕ). 2 * k) t in
    let n : length (bytes_of (get_or s i 0 ∷ [])) ≡ 2 * 1 = length_bytes (get_or s i 0 ∷ []) in
    f
    ∙ (ap (λ (x : List ℕ). pasted x (at + 2 * i) (bytes_of (get_or s i 0 ∷ []))) e
    ∙ (ap (λ (k : ℕ). pasted (pasted d at (bytes_of (take i s))) (at + k) (bytes_of (get_or s i 0 ∷ []))) (sym l)
    ∙ (pasted_join d at (bytes_of (take i s)) (bytes_of (get_or s i 0 ∷ [])) (omega arith)
    ∙ ap (pasted d at) (sym (ap bytes_of (ap (λ (k : ℕ). take k s) (add-one i) ∙ take-suc s i 0 h) ∙ bytes_append (take i s) (get_or s i 0 ∷ []))))))

pub units_start : (d : List ℕ) (at : ℕ) → d ≡ pasted d at (bytes_of [])
unfolding bytes_of
units_start d at = sym (pasted_nil d at)

-- the request written in three pieces
module _ (d name : List ℕ) {n : ℕ} (e : n ≡ length (request name)) where
  pub request_short : length d < n → (None ≡ asked (length d) name) × (d ≡ buffer_with name d)
  unfolding asked buffer_with
  request_short h =
      let q : leb (length (request name)) (length d) ≡ false = lt-leb (length (request name)) (length d) (omega arith) in
      (sym (choose_no _ None q), sym (choose_no _ d q))

  pub request_written : n ≤ length d → {a b o : List ℕ} → a ≡ pasted d 0 (bytes_of (4 ∷ [])) → b ≡ pasted a 2 (bytes_of name)
      → o ≡ pasted b (n - 2) (bytes_of (0 ∷ [])) → (Some n ≡ asked (length d) name) × (o ≡ buffer_with name d)
  unfolding asked buffer_with
  request_written h {a} {b} f g k =
      let q : leb (length (request name)) (length d) ≡ true = le-leb (length (request name)) (length d) (omega arith) in
      let p : length (request name) ≡ 4 + 2 * length name = length_request name in
      let l : length (bytes_of (4 ∷ [])) ≡ 2 * 1 = length_bytes (4 ∷ []) in
      let m : length (bytes_of (0 ∷ [])) ≡ 2 * 1 = length_bytes (0 ∷ []) in
      let v : length (bytes_of name) ≡ 2 * length name = length_bytes name in
      let w : length (bytes_of (4 ∷ []) ++ bytes_of name) ≡ 2 + 2 * length name = length-append (bytes_of (4 ∷ [])) (bytes_of name) ∙ omega arith in
      let c : 2 ≡ 0 + length (bytes_of (4 ∷ [])) = omega arith in
      let x : b ≡ pasted d 0 (bytes_of (4 ∷ []) ++ bytes_of name) =
      g ∙ ((λ i. pasted (f i) (c i) (bytes_of name)) ∙ pasted_join d 0 (bytes_of (4 ∷ [])) (bytes_of name) (omega arith)) in
      let z : n - 2 ≡ 0 + length (bytes_of (4 ∷ []) ++ bytes_of name) = omega arith in
      let t : pasted b (n - 2) (bytes_of (0 ∷ [])) ≡ pasted d 0 (request name) =
      (λ i. pasted (x i) (z i) (bytes_of (0 ∷ [])))
      ∙ (pasted_join d 0 (bytes_of (4 ∷ []) ++ bytes_of name) (bytes_of (0 ∷ [])) (omega arith)
      ∙ ap (pasted d 0) (append_assoc (bytes_of (4 ∷ [])) (bytes_of name) (bytes_of (0 ∷ [])) ∙ sym (request_parts name))) in
      (sym (choose_yes (Some (length (request name))) None q ∙ (λ i. Some (sym e i))), k ∙ (t ∙ sym (choose_yes (pasted d 0 (request name)) d q)))
