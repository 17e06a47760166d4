-- A line of any length is read as its rule says, whatever of it is kept.
use mathlib.Core.Path.{◌≡◌, refl, sym, ap, ◌∙◌}
use mathlib.Core.Bool.{Bool, true, false, ◌&&◌}
use mathlib.Core.List.{List, [], ◌∷◌, ◌++◌, append-nil}
use mathlib.Core.Logic.{◌⊎◌, inl, inr}
use Prim.Native.Nat.{ℕ, zero, suc, ◌+◌, ◌%◌, ◌≤◌, ◌<◌, min}
use native.Mathlib.Nat.{add-zero, add-suc}
use native.Mathlib.Omega.{arith}
use lib.ListN.{length, take, drop, get_or, length-take, length-append, length-drop, drop_of_length-le, take-append-drop}
use lib.Seq.{take_all, drop-append-le, drop-cons}
use lib.Dec.{eqb}
use borrow.Author.Tests.{eq-eqb, eqb-true, le-leb, lt-leb}
use Rattle.laws.specs.Choice.{choose}
use Rattle.laws.specs.Lists.{every, pasted, part}
use Rattle.laws.specs.Listed.{same_list}
use Rattle.laws.proofs.Choices.{choose_yes, choose_no, and_right, and_no_left, and_no_right, and_yes_left}
use Rattle.laws.proofs.Orders.{told, lt_or_le}
use Rattle.laws.proofs.Tests.{both_ways}
use Rattle.laws.proofs.Every.{every_append}
use Rattle.laws.proofs.Parts.{take_part}
use Rattle.listing_read.specs.line.Lines.{value_of, line_has_key}
use Rattle.listing_read.proofs.line.LineLaws.{key_fits}
use Rattle.script_lines.specs.line_bytes.Hexes.{is_hex, hex_number, hex_bytes}
use Rattle.script_lines.specs.line_bytes.Held.{one_more, next_rest, rest_from}
use Rattle.script_lines.specs.declared.line_bytes.Rest.{Rest}
use Rattle.script_lines.specs.declared.line_bytes.Rest.TheVariants.{None, Even, Odd, Other}
use Rattle.script_lines.specs.lines.Script.{reply_key, after, with_reply, ReadInto, read_into, is_status, is_reply, whole_bytes, takes_reply, input_read, takes_after, is_whole, takes, line_taken}
use Rattle.script_lines.specs.declared.lines.Last.TheVariants as last
use Rattle.script_lines.specs.declared.lines.Script.{Script}

-- one digit more
odd_even : (n : ℕ) → eqb (n % 2) 1 ≡ eqb (suc n % 2) 0
odd_even n = both_ways _ _ (λ h. let e = eqb-true (n % 2) 1 h in eq-eqb (suc n % 2) 0 (omega arith)) (λ h. let e = eqb-true (suc n % 2) 0 h in eq-eqb (n % 2) 1 (omega arith))

even_odd : (n : ℕ) → eqb (n % 2) 0 ≡ eqb (suc n % 2) 1
even_odd n = both_ways _ _ (λ h. let e = eqb-true (n % 2) 0 h in eq-eqb (suc n % 2) 1 (omega arith)) (λ h. let e = eqb-true (suc n % 2) 1 h in eq-eqb (n % 2) 0 (omega arith))

one_more_lem : (n : ℕ) (r : Rest) → whole_bytes n (one_more r) ≡ whole_bytes (suc n) r
unfolding whole_bytes one_more
one_more_lem n None = odd_even n
one_more_lem n Even = odd_even n
one_more_lem n Odd = even_odd n
one_more_lem n Other = refl

and_true : (b : Bool) → b ≡ (b && true)
and_true true = refl
and_true false = refl

next_hex : (r : Rest) (u : ℕ) → is_hex u ≡ true → next_rest r u ≡ one_more r
unfolding next_rest
next_hex r u h = choose_yes _ _ h

next_other : (r : Rest) (u : ℕ) → is_hex u ≡ false → next_rest r u ≡ Other
unfolding next_rest
next_other r u h = choose_no _ _ h

other : (n : ℕ) (b : Bool) → (whole_bytes n Other && b) ≡ false
unfolding whole_bytes
other n b = refl

-- the digits that are not kept count as the kept ones do
rest_counts : (n : ℕ) (r : Rest) (l : List ℕ) → whole_bytes n (rest_from r l) ≡ (whole_bytes (n + length l) r && every is_hex l)
unfolding rest_from every
rest_counts n r [] = ap (λ (m : ℕ). whole_bytes m r) (sym (add-zero n)) ∙ and_true (whole_bytes (n + 0) r)
rest_counts n r (u ∷ l) = rest_counts n (next_rest r u) l ∙ step (told (is_hex u))
  where
    step : (is_hex u ≡ true) ⊎ (is_hex u ≡ false) → (whole_bytes (n + length l) (next_rest r u) && every is_hex l) ≡ (whole_bytes (n + suc (length l)) r && (is_hex u && every is_hex l))
    step (inl h) =
        ap (λ (x : Rest). whole_bytes (n + length l) x && every is_hex l) (next_hex r u h)
        ∙ (ap (λ (b : Bool). b && every is_hex l) (one_more_lem (n + length l) r ∙ ap (λ (m : ℕ). whole_bytes m r) (sym (add-suc n (length l))))
        ∙ ap (λ (b : Bool). whole_bytes (n + suc (length l)) r && b) (sym (and_yes_left (every is_hex l) h)))
    step (inr h) =
        ap (λ (x : Rest). whole_bytes (n + length l) x && every is_hex l) (next_other r u h)
        ∙ (other (n + length l) (every is_hex l) ∙ sym (and_no_right (whole_bytes (n + suc (length l)) r) (and_no_left (every is_hex l) h)))

-- only of nothing there is no rest
more_some : (r : Rest) → is_whole (one_more r) ≡ false
unfolding is_whole one_more
more_some None = refl
more_some Even = refl
more_some Odd = refl
more_some Other = refl

other_some : is_whole Other ≡ false
unfolding is_whole
other_some = refl

next_some : (r : Rest) (u : ℕ) → is_whole (next_rest r u) ≡ false
next_some r u = go (told (is_hex u))
  where
    go : (is_hex u ≡ true) ⊎ (is_hex u ≡ false) → is_whole (next_rest r u) ≡ false
    go (inl h) = ap is_whole (next_hex r u h) ∙ more_some r
    go (inr h) = ap is_whole (next_other r u h) ∙ other_some

some_stays : (r : Rest) (l : List ℕ) → is_whole r ≡ false → is_whole (rest_from r l) ≡ false
unfolding rest_from
some_stays r [] h = h
some_stays r (u ∷ l) h = some_stays (next_rest r u) l (next_some r u)

module _ (most : ℕ) (line : List ℕ) where
  pub whole_short : length line ≤ most → is_whole (rest_from None (drop most line)) ≡ true
  unfolding rest_from is_whole
  whole_short h = rw (drop_of_length-le line h)

  pub whole_long : most < length line → is_whole (rest_from None (drop most line)) ≡ false
  unfolding rest_from
  whole_long h = rw (drop-cons line most 0 h) (some_stays (next_rest None (get_or line most 0)) (drop (suc most) line) (next_some None (get_or line most 0)))

  key_kept : 6 ≤ most → line_has_key reply_key (take most line) ≡ line_has_key reply_key line
  unfolding line_has_key part
  key_kept h = ap (same_list reply_key) (take_part 6 0 most line ∙ ap (λ (n : ℕ). take n line) (let z : min most 6 ≡ 6 = omega arith in z))

  pub reply_kept : (s : Script) → 6 ≤ most → is_reply s (take most line) ≡ is_reply s line
  unfolding is_reply
  reply_kept s h = ap (λ (b : Bool). is_status s.last && b) (key_kept h)

  value_kept : 6 ≤ most → 6 ≤ length line → value_of reply_key line ≡ value_of reply_key (take most line) ++ drop most line
  unfolding value_of
  value_kept h l =
      ap (drop 6) (sym (take-append-drop most line)) ∙ drop-append-le 6 (take most line) (drop most line) (simp length-take (omega arith))

bytes_first : (n : ℕ) (a b : List ℕ) → n + n ≤ length a → take n (hex_bytes (a ++ b)) ≡ take n (hex_bytes a)
unfolding hex_bytes
bytes_first zero a b h = refl
bytes_first (suc n) [] b h = absurd (omega arith)
bytes_first (suc n) (x ∷ []) b h = absurd (omega arith)
bytes_first (suc n) (x ∷ y ∷ a) b h = ap (λ (l : List ℕ). hex_number (x ∷ y ∷ []) ∷ l) (bytes_first n a b (omega arith))

all_first : (n : ℕ) (a b : List ℕ) → (b ≡ []) ⊎ (n + n ≤ length a) → take n (hex_bytes (a ++ b)) ≡ take n (hex_bytes a)
all_first n a b (inl e) = ap (λ (l : List ℕ). take n (hex_bytes l)) (ap (λ (l : List ℕ). a ++ l) e ∙ append-nil a)
all_first n a b (inr h) = bytes_first n a b h

turned : (a b c : Bool) → ((a && b) && c) ≡ (a && (c && b))
turned true true true = refl
turned true true false = refl
turned true false true = refl
turned true false false = refl
turned false b c = refl

-- a reply of which the first bytes are kept
module _ (s : Script) (v k d : List ℕ) (cut : v ≡ k ++ d) (room : List ℕ) where
  tests : (whole_bytes (length k) (rest_from None d) && every is_hex k) ≡ (whole_bytes (length v) None && every is_hex v)
  tests =
      ap (λ (b : Bool). b && every is_hex k) (rest_counts (length k) None d)
      ∙ (turned (whole_bytes (length k + length d) None) (every is_hex d) (every is_hex k)
      ∙ (ap (λ (n : ℕ). whole_bytes n None && (every is_hex k && every is_hex d)) (sym (length-append k d) ∙ sym (ap length cut))
      ∙ ap (λ (b : Bool). whole_bytes (length v) None && b) (sym (every_append is_hex k d) ∙ sym (ap (every is_hex) cut))))

  bytes : (d ≡ []) ⊎ (length room + length room ≤ length k) → take (length room) (hex_bytes k) ≡ take (length room) (hex_bytes v)
  bytes h = sym (ap (λ (l : List ℕ). take (length room) (hex_bytes l)) cut ∙ all_first (length room) k d h)

module _ (s : Script) (most : ℕ) (line room : List ℕ) (enough : 6 + (length room + length room) ≤ most) (key : line_has_key reply_key line ≡ true) where
  cut : value_of reply_key line ≡ value_of reply_key (take most line) ++ drop most line
  cut = value_kept most line (omega arith) (key_fits reply_key line refl key)

  few_or_many : (drop most line ≡ []) ⊎ (length room + length room ≤ length (value_of reply_key (take most line)))
  unfolding value_of
  few_or_many = go (lt_or_le most (length line))
    where
      go : (most < length line) ⊎ (length line ≤ most) → (drop most line ≡ []) ⊎ (length room + length room ≤ length (drop 6 (take most line)))
      go (inl h) = inr (simp (length-drop, length-take) (omega arith))
      go (inr h) = inl (drop_of_length-le line h)

  pub reply_held : takes_reply s (take most line) (rest_from None (drop most line)) room ≡ takes_reply s line None room
  unfolding takes_reply
  reply_held =
      ap
      (λ (b : Bool). choose b (read_into (after last.Reply (with_reply (length (take (length room) (hex_bytes (value_of reply_key (take most line))))) s)) (pasted room 0 (take (length room) (hex_bytes (value_of reply_key (take most line)))))) (read_into (after last.Other s) room))
      (tests s (value_of reply_key line) (value_of reply_key (take most line)) (drop most line) cut room)
      ∙ ap
      (λ (l : List ℕ). choose (whole_bytes (length (value_of reply_key line)) None && every is_hex (value_of reply_key line)) (read_into (after last.Reply (with_reply (length l) s)) (pasted room 0 l)) (read_into (after last.Other s) room))
      (bytes s (value_of reply_key line) (value_of reply_key (take most line)) (drop most line) cut room few_or_many)

key_of : (s : Script) (line : List ℕ) → is_reply s line ≡ true → line_has_key reply_key line ≡ true
unfolding is_reply
key_of s line h = and_right (is_status s.last) (line_has_key reply_key line) h

-- a line
module _ (s : Script) (most : ℕ) (line path boot reply : List ℕ) (enough : 6 + (length reply + length reply) ≤ most) where
  as_reply : is_reply s line ≡ true → takes s (take most line) (rest_from None (drop most line)) path boot reply ≡ line_taken most s line path boot reply
  unfolding takes line_taken
  as_reply h =
      choose_yes _ _ (reply_kept most line s (omega arith) ∙ h)
      ∙ (ap (λ (t : ReadInto). input_read t.script path boot t.room) (reply_held s most line reply enough (key_of s line h)) ∙ sym (choose_yes _ _ h))

  as_short : is_reply s line ≡ false → length line ≤ most → takes s (take most line) (rest_from None (drop most line)) path boot reply ≡ line_taken most s line path boot reply
  unfolding takes line_taken
  as_short h l =
      choose_no _ _ (reply_kept most line s (omega arith) ∙ h)
      ∙ (choose_yes _ _ (whole_short most line l)
      ∙ (ap (λ (x : List ℕ). input_read (takes_after s.last s x path boot).script (takes_after s.last s x path boot).path (takes_after s.last s x path boot).boot reply) (take_all most line l)
      ∙ sym (choose_no _ _ h ∙ choose_yes _ _ (le-leb (length line) most l))))

  as_long : is_reply s line ≡ false → most < length line → takes s (take most line) (rest_from None (drop most line)) path boot reply ≡ line_taken most s line path boot reply
  unfolding takes line_taken
  as_long h l =
      choose_no _ _ (reply_kept most line s (omega arith) ∙ h)
      ∙ (choose_no _ _ (whole_long most line l) ∙ sym (choose_no _ _ h ∙ choose_no _ _ (lt-leb (length line) most l)))

  -- what is kept of a line and known of its rest is enough to read it
  pub line_taken_lem : takes s (take most line) (rest_from None (drop most line)) path boot reply ≡ line_taken most s line path boot reply
  line_taken_lem = go (told (is_reply s line)) (lt_or_le most (length line))
    where
      go : (is_reply s line ≡ true) ⊎ (is_reply s line ≡ false) → (most < length line) ⊎ (length line ≤ most)
          → takes s (take most line) (rest_from None (drop most line)) path boot reply ≡ line_taken most s line path boot reply
      go (inl h) l = as_reply h
      go (inr h) (inl l) = as_long h l
      go (inr h) (inr l) = as_short h l
