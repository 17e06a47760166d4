-- Laws of calls over a walk in units.
use mathlib.Core.Path.{◌≡◌, refl, sym, ap, ◌∙◌}
use mathlib.Core.Bool.{Bool, true, false, ◌&&◌}
use mathlib.Core.List.{List, ◌++◌, append-nil}
use mathlib.Core.Logic.{◌⊎◌, inl, inr}
use Prim.Native.Nat.{ℕ, ◌+◌, ◌-◌, ◌≤◌, ◌<◌, min}
use native.Mathlib.Omega.{arith}
use lib.ListN.{length, take, drop, length-append, length-take, length-drop, drop_of_length-le}
use lib.Seq.{length-take-le, take_all, drop_at}
use lib.Dec.{eqb, leb}
use borrow.Author.Tests.{eq-eqb, ne_eqb, eqb-true}
use Rattle.std.specs.Option.{unwrap_or}
use Rattle.std.specs.Prelude.{Result, Ok, Err, ⊤, MatchResult, Option, Some, None}
use Rattle.std.specs.Result.{result_unwrap_or}
use Rattle.laws.specs.Choice.{choose}
use Rattle.laws.specs.Lists.{pasted}
use Rattle.laws.specs.Listed.{same_list}
use Rattle.laws.proofs.Choices.{choose_yes, choose_no, and_no_right}
use Rattle.laws.proofs.Orders.{lt_or_le}
use Rattle.laws.proofs.Tests.{eq_or_ne}
use Rattle.unc.specs.names.Paths.{good_path, normalised, path_units}
use Rattle.cache.specs.order.Memory.{referrals, domains, in_order}
use Rattle.cache_store.specs.domain_cache.Code as dom
use Rattle.walk_form.specs.held.Walks.{good_limit, good_settings, lent, in_form, path_in, tried_in, boot_in}
use Rattle.walk_form.specs.declared.held.Walk.{Walk}
use Rattle.walk_form.proofs.held.FormLaws.{form_told}
use Rattle.walk_steps.specs.steps.Steps.{Turn}
use Rattle.walk_steps.specs.steps.Held.{caches_of}
use Rattle.walk_form.specs.held.Walks.{core_in}
use Rattle.walk_form.specs.packed.Packing.{packed_walk, unpacked}
use Rattle.walk_form.proofs.packed.PackLaws.{length_packed}
use Rattle.walk_calls.specs.call_end.Closing.{Left, refused, closes}
use Rattle.walk_calls.specs.call_end.Code.{verdict_of, left}
use Rattle.walk_calls.specs.calls.Calls.{Answered, refused_answer, refusal_number, start_call, start_rest, answer_call, answers, rest_in, referral_event, io_event, referral_call, io_call}
use Rattle.walk_calls.specs.calls.Code.{answered}
use Rattle.walk_calls.specs.call_end.Closing.{Verdict}
use Rattle.walk_calls.specs.declared.call_end.Refusal.{Refusal}
use Rattle.walk_calls.specs.declared.call_end.Refusal.TheVariants.{BadPath, LongPath, BadSettings, NotInOrder, OutOfForm, ShortBuffer}
use Rattle.walk_shown.specs.question.Shown.{Given, given, shown_number, party_call, name_call, path_call, question_call, end_call}
use Rattle.walk_shown.specs.declared.question.ShowError.{ShowError}
use Rattle.walk_shown.specs.declared.question.ShowError.TheVariants as unshown
use Rattle.listing_write.specs.Listed.{list_refusal}
use Rattle.listing_write.specs.declared.ListError.{ListError}
use Rattle.listing_write.specs.declared.ListError.TheVariants as unlisted
use Rattle.dfsc_memory.specs.Units.{no_walk, held_in, walk_in, units_left, head_after, in_units, start_units, answer_left, answer_in_units, referral_answer_units, io_answer_units, shown_result, seen, as_seen, party_seen, name_seen, question_seen, path_seen, end_seen}
use Rattle.dfsc_memory.specs.Code.{closed_units}

-- the packed form and the texts, as parts of the units that are there
module _ (units : List ℕ) {n : ℕ} (e : n ≡ min 32 (length units)) where
  pub head_within : n ≤ length units
  head_within = omega arith

  pub head_take : take n units ≡ take 32 units
  head_take = go (lt_or_le (length units) 32)
    where
      go : (length units < 32) ⊎ (32 ≤ length units) → take n units ≡ take 32 units
      go (inl l) = take_all n units (omega arith) ∙ sym (take_all 32 units (omega arith))
      go (inr l) = let z : n ≡ 32 = omega arith in ap (λ (m : ℕ). take m units) z

  head_drop : drop n units ≡ drop 32 units
  head_drop = go (lt_or_le (length units) 32)
    where
      go : (length units < 32) ⊎ (32 ≤ length units) → drop n units ≡ drop 32 units
      go (inl l) =
          let a : length units ≤ n = omega arith in
          let b : length units ≤ 32 = omega arith in
          drop_of_length-le units a ∙ sym (drop_of_length-le units b)
      go (inr l) = let z : n ≡ 32 = omega arith in ap (λ (m : ℕ). drop m units) z

  pub head_rest : take (length units - n) (drop n units) ≡ drop 32 units
  head_rest = take_all (length units - n) (drop n units) (omega (arith, length-drop n units)) ∙ head_drop

  -- the walk in them
  pub held_given : (r : Option Walk) → r ≡ unpacked (take n units) → {w d : Walk} → d ≡ no_walk → w ≡ unwrap_or r d → w ≡ walk_in units
  unfolding walk_in held_in
  held_given None u k e = e ∙ (k ∙ ap held_in (u ∙ ap unpacked head_take))
  held_given (Some x) u k e = e ∙ ap held_in (u ∙ ap unpacked head_take)

  -- the units after a call
  written : (w : Walk) (t : List ℕ) → 32 ≤ length units → pasted (take n units ++ t) 0 (packed_walk w) ≡ packed_walk w ++ t
  unfolding pasted
  written w t l =
      let z : length (take n units) ≡ n = length-take-le n units (omega arith) in
      let k : length (take n units) ≡ 0 + length (packed_walk w) = omega (arith, length_packed w) in
      ap (λ (x : List ℕ). packed_walk w ++ x) (drop_at (take n units) t (0 + length (packed_walk w)) k)

  closed_as : (m : ℕ) (w : Walk) (t : List ℕ) → (m ≡ 0 → 32 ≤ length units) → closed_units m w (take n units ++ t) ≡ head_after m w units ++ t
  unfolding closed_units head_after
  closed_as m w t h = go (eq_or_ne m 0)
    where
      go : (m ≡ 0) ⊎ (m ≡ 0 → ⊥)
          → choose (eqb m 0) (pasted (take n units ++ t) 0 (packed_walk w)) (take n units ++ t) ≡ choose (eqb m 0) (packed_walk w) (take 32 units) ++ t
      go (inl z) =
          choose_yes _ _ (eq-eqb m 0 z) ∙ (written w t (h z) ∙ ap (λ (x : List ℕ). x ++ t) (sym (choose_yes (packed_walk w) (take 32 units) (eq-eqb m 0 z))))
      go (inr z) =
          choose_no _ _ (ne_eqb m 0 z) ∙ (λ j. (head_take ∙ sym (choose_no (packed_walk w) (take 32 units) (ne_eqb m 0 z))) j ++ t)

  -- the units after their rest was lent and left as t
  back : (t : List ℕ) → take n units ++ (t ++ drop (length units - n) (drop n units)) ≡ take n units ++ t
  back t =
      let z : length (drop n units) ≤ length units - n = omega (arith, length-drop n units) in
      ap (λ (x : List ℕ). take n units ++ (t ++ x)) (drop_of_length-le (drop n units) z) ∙ ap (λ (x : List ℕ). take n units ++ x) (append-nil t)

  pub closed_left : (o : Result Walk Refusal) (w : Walk) (t : List ℕ) {out u : List ℕ} {r : ℕ} {l : Left} → (refusal_number (verdict_of o) ≡ 0 → 32 ≤ length units) → left o w t out ≡ l
      → r ≡ refusal_number (verdict_of o) → u ≡ closed_units (refusal_number (verdict_of o)) (result_unwrap_or o w) (take n units ++ (t ++ drop (length units - n) (drop n units)))
      → units_left r u out ≡ in_units units l
  unfolding in_units
  closed_left o w t {out} f h a b =
      (λ j. units_left (a j) ((b ∙ (ap (closed_units (refusal_number (verdict_of o)) (result_unwrap_or o w)) (back t) ∙ closed_as (refusal_number (verdict_of o)) (result_unwrap_or o w) t f)) j) out) ∙ ap (in_units units) h

  head_fits : (t : List ℕ) → 32 ≤ length units → 32 ≤ length (take n units ++ (t ++ drop (length units - n) (drop n units)))
  head_fits t l = omega (arith, length-append (take n units) (t ++ drop (length units - n) (drop n units)), length-take-le n units head_within)

-- number 0 is a call that is taken
number_taken : (v : Verdict) → refusal_number v ≡ 0 → v ≡ Ok tt
unfolding refusal_number
number_taken (Ok u) h = refl
number_taken (Err BadPath) h = absurd (omega arith)
number_taken (Err LongPath) h = absurd (omega arith)
number_taken (Err BadSettings) h = absurd (omega arith)
number_taken (Err NotInOrder) h = absurd (omega arith)
number_taken (Err OutOfForm) h = absurd (omega arith)
number_taken (Err ShortBuffer) h = absurd (omega arith)

-- a start that is taken has its units
start_taken : (refs doms texts : List ℕ) (walk : Walk) (path boot : List ℕ) (limit size clock : ℕ) (out : List ℕ)
    → (start_call refs doms texts walk path boot limit size clock out).verdict ≡ Ok tt → length texts ≡ 768
unfolding start_call choose
start_taken refs doms texts walk path boot limit size clock out h =
    eqb-true (length texts) 768
    (go (in_order referrals refs && in_order domains doms) (good_path path) (leb (length (normalised path)) path_units) (good_settings limit size boot) (eqb (length texts) 768) h)
  where
    taken : Left
    taken = closes limit boot (start_rest refs doms path limit size clock) walk texts out

    go : (a b d f g : Bool)
        → (choose a (choose b (choose d (choose f (choose g taken (refused (Err OutOfForm) walk texts out)) (refused (Err BadSettings) walk texts out)) (refused (Err LongPath) walk texts out)) (refused (Err BadPath) walk texts out)) (refused (Err NotInOrder) walk texts out)).verdict ≡ Ok tt
        → g ≡ true
    go true true true true true e = refl
    go true true true true false e = absurd (let z : ◌≡◌ {A = ℕ} 0 1 = cc in omega arith)
    go true true true false g e = absurd (let z : ◌≡◌ {A = ℕ} 0 1 = cc in omega arith)
    go true true false f g e = absurd (let z : ◌≡◌ {A = ℕ} 0 1 = cc in omega arith)
    go true false d f g e = absurd (let z : ◌≡◌ {A = ℕ} 0 1 = cc in omega arith)
    go false b d f g e = absurd (let z : ◌≡◌ {A = ℕ} 0 1 = cc in omega arith)

texts_long : (units : List ℕ) (n : ℕ) → length (take (length units - n) (drop n units)) ≡ 768 → n ≡ min 32 (length units) → 32 ≤ length units
texts_long units n l e = omega (arith, length-take (length units - n) (drop n units), length-drop n units)

module _ (refs doms units path boot : List ℕ) (limit size clock : ℕ) (out : List ℕ) {n : ℕ} (e : n ≡ min 32 (length units))
    (o : Result Walk Refusal) (t : List ℕ) {out' : List ℕ} (h : left o no_walk t out' ≡ start_call refs doms (take (length units - n) (drop n units)) no_walk path boot limit size clock out) where
  start_fits : refusal_number (verdict_of o) ≡ 0 → 32 ≤ length units
  start_fits z =
      texts_long units n
      (start_taken refs doms (take (length units - n) (drop n units)) no_walk path boot limit size clock out (sym (ap (λ (l : Left). l.verdict) h) ∙ number_taken (verdict_of o) z))
      e

  pub start_room : refusal_number (verdict_of o) ≡ 0 → 32 ≤ length (take n units ++ (t ++ drop (length units - n) (drop n units)))
  start_room z = head_fits units e t (start_fits z)

  pub start_closed : {u : List ℕ} {r : ℕ} → r ≡ refusal_number (verdict_of o) → u ≡ closed_units (refusal_number (verdict_of o)) (result_unwrap_or o no_walk) (take n units ++ (t ++ drop (length units - n) (drop n units)))
      → units_left r u out' ≡ start_units refs doms units path boot limit size clock out
  unfolding start_units
  start_closed a b =
      closed_left units e o no_walk t start_fits (h ∙ (λ j. start_call refs doms (head_rest units e j) no_walk path boot limit size clock out)) a b

-- an answer that is taken has its units
answer_taken : (event : Option Turn) (clock : ℕ) (walk : Walk) (texts out refs doms : List ℕ) → (answer_call event clock walk texts out refs doms).left.verdict ≡ Ok tt
    → length texts ≡ 768
unfolding answer_call choose
answer_taken event clock walk texts out refs doms h =
    (form_told walk texts (go (in_order referrals refs && in_order domains doms) (in_form walk texts) h)).long
  where
    go : (a b : Bool)
        → (choose a (choose b (answers event clock walk texts out refs doms) (refused_answer (Err OutOfForm) walk texts out refs doms)) (refused_answer (Err NotInOrder) walk texts out refs doms)).left.verdict ≡ Ok tt
        → b ≡ true
    go true true e = refl
    go true false e = absurd (let z : ◌≡◌ {A = ℕ} 0 1 = cc in omega arith)
    go false b e = absurd (let z : ◌≡◌ {A = ℕ} 0 1 = cc in omega arith)

-- a call of an answer, given the texts and the walk
module _ (call : List ℕ → Walk → Answered) (taken : (texts : List ℕ) (w : Walk) → (call texts w).left.verdict ≡ Ok tt → length texts ≡ 768)
    (units : List ℕ) {n : ℕ} (e : n ≡ min 32 (length units)) {w : Walk} (a : w ≡ walk_in units)
    (o : Result Walk Refusal) (t : List ℕ) {out refs doms : List ℕ} (h : answered o w t out refs doms ≡ call (take (length units - n) (drop n units)) w) where
  answer_fits : refusal_number (verdict_of o) ≡ 0 → 32 ≤ length units
  answer_fits z =
      texts_long units n (taken (take (length units - n) (drop n units)) w (sym (ap (λ (l : Answered). l.left.verdict) h) ∙ number_taken (verdict_of o) z)) e

  answer_room : refusal_number (verdict_of o) ≡ 0 → 32 ≤ length (take n units ++ (t ++ drop (length units - n) (drop n units)))
  answer_room z = head_fits units e t (answer_fits z)

  whole : answered o w t out refs doms ≡ call (drop 32 units) (walk_in units)
  whole = h ∙ (λ j. call (head_rest units e j) (a j))

  answer_closed : {u : List ℕ} {r : ℕ} → r ≡ refusal_number (verdict_of o)
      → u ≡ closed_units (refusal_number (verdict_of o)) (result_unwrap_or o w) (take n units ++ (t ++ drop (length units - n) (drop n units)))
      → answer_left r u out refs doms ≡ answer_in_units units (call (drop 32 units) (walk_in units))
  unfolding answer_in_units
  answer_closed k b = λ j. record {
    left = closed_left units e o w t answer_fits (ap (λ (l : Answered). l.left) whole) k b j;
    refs = (whole j).refs;
    doms = (whole j).doms;
  }

module _ (refs doms units : List ℕ) (status : ℕ) (reply : List ℕ) (clock : ℕ) (out : List ℕ) {n : ℕ} (e : n ≡ min 32 (length units)) {w : Walk} (a : w ≡ walk_in units)
    (o : Result Walk Refusal) (t : List ℕ) {out' refs' doms' : List ℕ}
    (h : answered o w t out' refs' doms' ≡ referral_call refs doms (take (length units - n) (drop n units)) w status reply clock out) where
  asked_taken : (texts : List ℕ) (v : Walk) → (referral_call refs doms texts v status reply clock out).left.verdict ≡ Ok tt → length texts ≡ 768
  unfolding referral_call
  asked_taken texts v k =
      answer_taken (referral_event (caches_of refs doms) (core_in v texts) (rest_in v texts) status reply clock) clock v texts out refs doms k

  pub referral_room : refusal_number (verdict_of o) ≡ 0 → 32 ≤ length (take n units ++ (t ++ drop (length units - n) (drop n units)))
  referral_room = answer_room (λ texts v. referral_call refs doms texts v status reply clock out) asked_taken units e a o t h

  pub referral_closed : {u : List ℕ} {r : ℕ} → r ≡ refusal_number (verdict_of o)
      → u ≡ closed_units (refusal_number (verdict_of o)) (result_unwrap_or o w) (take n units ++ (t ++ drop (length units - n) (drop n units)))
      → answer_left r u out' refs' doms' ≡ referral_answer_units refs doms units status reply clock out
  unfolding referral_answer_units
  referral_closed k b = answer_closed (λ texts v. referral_call refs doms texts v status reply clock out) asked_taken units e a o t h k b

module _ (refs doms units : List ℕ) (status clock : ℕ) (out : List ℕ) {n : ℕ} (e : n ≡ min 32 (length units)) {w : Walk} (a : w ≡ walk_in units)
    (o : Result Walk Refusal) (t : List ℕ) {out' refs' doms' : List ℕ}
    (h : answered o w t out' refs' doms' ≡ io_call refs doms (take (length units - n) (drop n units)) w status clock out) where
  tried_taken : (texts : List ℕ) (v : Walk) → (io_call refs doms texts v status clock out).left.verdict ≡ Ok tt → length texts ≡ 768
  unfolding io_call
  tried_taken texts v k = answer_taken (io_event (caches_of refs doms) (core_in v texts) (rest_in v texts) status) clock v texts out refs doms k

  pub io_room : refusal_number (verdict_of o) ≡ 0 → 32 ≤ length (take n units ++ (t ++ drop (length units - n) (drop n units)))
  io_room = answer_room (λ texts v. io_call refs doms texts v status clock out) tried_taken units e a o t h

  pub io_closed : {u : List ℕ} {r : ℕ} → r ≡ refusal_number (verdict_of o)
      → u ≡ closed_units (refusal_number (verdict_of o)) (result_unwrap_or o w) (take n units ++ (t ++ drop (length units - n) (drop n units)))
      → answer_left r u out' refs' doms' ≡ io_answer_units refs doms units status clock out
  unfolding io_answer_units
  io_closed k b = answer_closed (λ texts v. io_call refs doms texts v status clock out) tried_taken units e a o t h k b

-- the end of a call: nothing is written where it is refused
pub taken_number : {a : Result Walk Refusal} (w : Walk) → a ≡ Ok w → refusal_number (verdict_of a) ≡ 0
unfolding refusal_number
taken_number w h = ap (λ (r : Result Walk Refusal). refusal_number (verdict_of r)) h

module _ (units : List ℕ) {a : Result Walk Refusal} where
  pub close_refused : (e : Refusal) → a ≡ Err e → (w : Walk) → units ≡ closed_units (refusal_number (verdict_of a)) (result_unwrap_or a w) units
  unfolding closed_units
  close_refused e h w =
      sym (choose_no _ _ (ne_eqb _ 0 (λ z. let taken : Err e ≡ Ok tt = number_taken (Err e) (ap (λ (r : Result Walk Refusal). refusal_number (verdict_of r)) (sym h) ∙ z) in
      absurd (let y : ◌≡◌ {A = ℕ} 0 1 = cc in omega arith))))

  pub close_taken : (w : Walk) → a ≡ Ok w → {u : List ℕ} → u ≡ pasted units 0 (packed_walk w) → (v : Walk) → u ≡ closed_units (refusal_number (verdict_of a)) (result_unwrap_or a v) units
  unfolding closed_units
  close_taken w h k v =
      k
      ∙ (ap (λ (r : Result Walk Refusal). pasted units 0 (packed_walk (result_unwrap_or r v))) (sym h)
      ∙ sym (choose_yes _ _ (eq-eqb _ 0 (taken_number w h))))

-- what is shown
seen_as : {s : Result ℕ ShowError} {r : ℕ} {o : List ℕ} {g : Given} → r ≡ shown_result s → given s o ≡ g → seen r o ≡ as_seen g
unfolding as_seen
seen_as {o = o} e h = (λ j. seen (e j) o) ∙ ap as_seen h

module _ (units out : List ℕ) {n : ℕ} (e : n ≡ min 32 (length units)) {w : Walk} (a : w ≡ walk_in units) {s : Result ℕ ShowError} {r : ℕ} {o : List ℕ} (k : r ≡ shown_result s) where
  pub party_seen_lem : (refs doms : List ℕ) → given s o ≡ party_call refs doms w (take (length units - n) (drop n units)) out → seen r o ≡ party_seen refs doms units out
  unfolding party_seen
  party_seen_lem refs doms h = seen_as k (h ∙ (λ j. party_call refs doms (a j) (head_rest units e j) out))

  pub name_seen_lem : given s o ≡ name_call w (take (length units - n) (drop n units)) out → seen r o ≡ name_seen units out
  unfolding name_seen
  name_seen_lem h = seen_as k (h ∙ (λ j. name_call (a j) (head_rest units e j) out))

  pub question_seen_lem : given s o ≡ question_call w (take (length units - n) (drop n units)) out → seen r o ≡ question_seen units out
  unfolding question_seen
  question_seen_lem h = seen_as k (h ∙ (λ j. question_call (a j) (head_rest units e j) out))

  pub path_seen_lem : given s o ≡ path_call w (take (length units - n) (drop n units)) out → seen r o ≡ path_seen units out
  unfolding path_seen
  path_seen_lem h = seen_as k (h ∙ (λ j. path_call (a j) (head_rest units e j) out))

  pub end_seen_lem : given s o ≡ end_call w (take (length units - n) (drop n units)) out → seen r o ≡ end_seen units out
  unfolding end_seen
  end_seen_lem h = seen_as k (h ∙ (λ j. end_call (a j) (head_rest units e j) out))

pub error_small : (e : ShowError) → shown_number (Err e) ≤ 27
unfolding shown_number
error_small unshown.NotInOrder = omega arith
error_small unshown.OutOfForm = omega arith
error_small unshown.ShortBuffer = omega arith
error_small unshown.NoEntry = omega arith

pub list_small : (e : ListError) → list_refusal (Err e) ≤ 10
unfolding list_refusal
list_small unlisted.NotInOrder = omega arith
list_small unlisted.TooShort = omega arith

-- the number of a call that gives back nothing
pub number_of : {E : Type 0} (f : Result ⊤ E → ℕ) → f (Ok tt) ≡ 0 → {a : Result ⊤ E} {n : ℕ} → MatchResult a (λ u. n ≡ 0) (λ e. n ≡ f (Err e)) → n ≡ f a
number_of f z {a = Ok u} h = h ∙ sym z
number_of f z {a = Err e} h = h

-- the domain request
module _ {v : Option ℕ} {m : ℕ} (e : dom.asked_number v ≡ m) where
  pub asked_bytes : (n : ℕ) → v ≡ Some n → 0 ≡ m
  unfolding dom.asked_number
  asked_bytes n h = ap dom.asked_number (sym h) ∙ e

  pub asked_short : v ≡ None → 10 ≡ m
  unfolding dom.asked_number
  asked_short h = ap dom.asked_number (sym h) ∙ e

-- units that are not of the form are a walk out of form
pub no_form : (units : List ℕ) → unpacked (take 32 units) ≡ None → in_form (walk_in units) (drop 32 units) ≡ false
unfolding in_form walk_in held_in no_walk good_settings good_limit
no_form units h =
    ap (λ (u : Option Walk). in_form (held_in u) (drop 32 units)) h
    ∙ and_no_right (eqb (length (drop 32 units)) 768)
    (and_no_right (same_list (lent (path_in no_walk (drop 32 units)) (tried_in no_walk (drop 32 units)) (boot_in no_walk (drop 32 units))) (drop 32 units)) refl)
