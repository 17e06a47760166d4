-- After a call that was taken just one outcome is printed: the question that waits, or the end.
use mathlib.Core.Path.{◌≡◌, refl, sym, ap, ◌∙◌}
use mathlib.Core.Bool.{Bool, true, false, ◌&&◌}
use mathlib.Core.List.{List, [], ◌∷◌, ◌++◌, append-nil}
use mathlib.Core.Logic.{◌⊎◌, inl, inr}
use Prim.Native.Nat.{ℕ, ◌+◌, ◌≤◌, ◌<◌}
use native.Mathlib.Omega.{arith}
use lib.ListN.{length, take, get_or}
use Rattle.std.specs.Prelude.{Result, Ok, Err, Option}
use Rattle.laws.specs.Choice.{choose}
use Rattle.laws.specs.Lists.{pasted, part}
use Rattle.laws.proofs.Choices.{choose_yes, and_left, and_right}
use Rattle.laws.proofs.Pasting.{part_pasted, get_d_pasted_in}
use Rattle.unc.specs.names.Paths.{first_of}
use Rattle.unc.proofs.names.PieceLaws.{spans}
use Rattle.cache.specs.order.Order.{good_prefix}
use Rattle.cache.specs.order.Memory.{referrals, domains, in_order}
use Rattle.cache.proofs.order.MemoryLaws.{order_good}
use Rattle.walk_steps.specs.steps.Steps.{Core, Question, Rest, waits, ended, is_in_use, name_asked, end_number}
use Rattle.walk_steps.specs.steps.Held.{caches_of, tried_of, question_of}
use Rattle.walk_steps.specs.declared.steps.Kind.{Kind}
use Rattle.walk_steps.specs.declared.steps.Kind.TheVariants.{Dc, Root, Link, Sysvol, Io}
use Rattle.walk_steps.specs.declared.steps.End.{End}
use Rattle.walk_steps.specs.declared.steps.End.TheVariants.{Done, NotDfs, NoDc, Failed, LimitReached, Malformed, TooLong, Gone}
use Rattle.walk_steps.specs.declared.steps.Next.{Next}
use Rattle.walk_steps.specs.declared.steps.Next.TheVariants.{Asks, Ends}
use Rattle.walk_form.specs.declared.held.Walk.{Walk}
use Rattle.walk_form.specs.held.Walks.{in_form, next_in_form, path_in, tried_in, boot_in}
use Rattle.walk_form.proofs.held.FormLaws.{Formed, form_told, waiting_told}
use Rattle.walk_form.specs.packed.Packing.{kind_number, kind_at}
use Rattle.walk_form.specs.held.Walks.{core_in}
use Rattle.walk_calls.specs.calls.Calls.{rest_at, rest_in}
use Rattle.walk_shown.specs.question.Shown.{Given, given, shows, shows_some, party_text, question_shown, party_at, end_path, end_shown, name_at, name_call, path_at, path_call, party_call, question_at, question_call, end_at, end_call}
use Rattle.walk_shown.specs.declared.question.ShowError.{ShowError}
use Rattle.walk_shown.specs.declared.question.ShowError.TheVariants.{OutOfForm}
use Rattle.walk_shown.proofs.question.ShownLaws.{put_whole}
use Rattle.script_output.specs.printed.Printed.{question_lines, end_lines}
use Rattle.script_output.proofs.printed.PrintedLaws.{kind_shown}
use Rattle.script_output.specs.outcome.Telling.{if_shown, question_told, end_told, room, three, waiting_lines, ended_lines, outcome_lines}
use Rattle.script_output.specs.outcome.One.{PrintsQuestion, PrintsEnd, PrintsOne}
use Rattle.script_output.proofs.outcome.TellingLaws.{room_units_lem}
use Rattle.script_output.proofs.outcome.PartyLaws.{Texted, party_texted}

none_shown : (s : Result ℕ ShowError) → if_shown s (λ n. []) ≡ []
unfolding if_shown
none_shown (Ok n) = refl
none_shown (Err e) = refl

-- a walk out of form shows nothing; one that waits shows no path of an end, and one that has ended no name of a question
one_told : (form : Bool) (r : Rest) (w : Core) (moves : ℕ) (party numbers numbers' : Given)
    → (question_told party (choose form (name_at w r room) (given (Err OutOfForm) room)) numbers ≡ [])
    ⊎ (end_told (choose form (path_at w moves r room) (given (Err OutOfForm) room)) numbers' ≡ [])
unfolding question_told end_told if_shown name_at path_at choose
one_told false r w moves party numbers numbers' = inr refl
one_told true (waits q) w moves party numbers numbers' = inr refl
one_told true (ended e status tried) w moves party numbers numbers' = inl (none_shown party.answer)

pub one_outcome : (refs doms : List ℕ) (walk : Walk) (texts : List ℕ) → (waiting_lines refs doms walk texts ≡ []) ⊎ (ended_lines walk texts ≡ [])
unfolding waiting_lines ended_lines name_call path_call
one_outcome refs doms walk texts =
    one_told (in_form walk texts) (rest_in walk texts) (core_in walk texts) walk.moves (party_call refs doms walk texts room) (question_call walk texts three)
    (end_call walk texts three)

-- what is printed after a call that was taken is both, one after the other
taken_lines : (refs doms : List ℕ) (walk : Walk) (texts : List ℕ) → outcome_lines 0 refs doms walk texts ≡ waiting_lines refs doms walk texts ++ ended_lines walk texts
unfolding outcome_lines
taken_lines refs doms walk texts = choose_yes _ _ refl

-- a text or numbers that fit are told as they are
module _ (text out : List ℕ) (h : length text ≤ length out) where
  text_back : take (length text) (pasted out 0 text) ≡ text
  unfolding part
  text_back = part_pasted out 0 text (omega arith)

  unit_back : (j : ℕ) → j < length text → get_or (pasted out 0 text) j 0 ≡ get_or text j 0
  unit_back j l = let z : 0 + j ≡ j = omega arith in ap (λ (i : ℕ). get_or (pasted out 0 text) i 0) (sym z) ∙ get_d_pasted_in out 0 text (omega arith) j 0 l

  shows_whole : shows text out ≡ given (Ok (length text)) (pasted out 0 text)
  shows_whole = sym (put_whole text out h refl)

module _ (out nums : List ℕ) (k : 3 ≤ length nums) where
  question_told_lem : (party name : List ℕ) (kind size moves : ℕ) → length party ≤ length out → length name ≤ length out
      → question_told (shows party out) (shows name out) (shows (kind ∷ size ∷ moves ∷ []) nums) ≡ question_lines (kind_at kind) party name size
  unfolding question_told if_shown
  question_told_lem party name kind size moves p n =
      (λ i. question_told (shows_whole party out p i) (shows_whole name out n i) (shows_whole (kind ∷ size ∷ moves ∷ []) nums k i))
      ∙ (λ i.
      question_lines (kind_at (unit_back (kind ∷ size ∷ moves ∷ []) nums k 0 (omega arith) i)) (text_back party out p i) (text_back name out n i)
      (unit_back (kind ∷ size ∷ moves ∷ []) nums k 1 (omega arith) i))

  end_told_lem : (path : List ℕ) (number status moves : ℕ) → length path ≤ length out
      → end_told (shows path out) (shows (number ∷ status ∷ moves ∷ []) nums) ≡ end_lines number status path moves
  unfolding end_told if_shown
  end_told_lem path number status moves p =
      (λ i. end_told (shows_whole path out p i) (shows_whole (number ∷ status ∷ moves ∷ []) nums k i))
      ∙ (λ i.
      end_lines (unit_back (number ∷ status ∷ moves ∷ []) nums k 0 (omega arith) i) (unit_back (number ∷ status ∷ moves ∷ []) nums k 1 (omega arith) i)
      (text_back path out p i) (unit_back (number ∷ status ∷ moves ∷ []) nums k 2 (omega arith) i))

-- the texts of a walk in form fit the rooms
three_long : length three ≡ 3
unfolding three
three_long = refl

first_few : (k : ℕ) (path : List ℕ) → length path ≤ 256 → length (first_of k path) ≤ 256
first_few k path h = omega (arith, (spans k path).inside)

name_few : (w : Core) (q : Question) → length w.path ≤ 256 → length q.tried ≤ 256 → length (name_asked w q) ≤ 256
unfolding name_asked
name_few w q p t = go q.kind
  where
    go : (k : Kind) → length (name_asked w (record { kind = k; entry = q.entry; party = q.party; began = q.began; size = q.size; tried = q.tried; uncovered = q.uncovered })) ≤ 256
    go Dc = first_few 1 w.path p
    go Root = first_few 2 w.path p
    go Link = p
    go Sysvol = first_few 2 w.path p
    go Io = t

end_few : (e : End) (path tried : List ℕ) → length path ≤ 256 → length tried ≤ 256 → length (end_path e path tried) ≤ 256
unfolding end_path
end_few Done path tried p t = t
end_few NotDfs path tried p t = p
end_few NoDc path tried p t = p
end_few Failed path tried p t = p
end_few LimitReached path tried p t = p
end_few Malformed path tried p t = p
end_few TooLong path tried p t = p
end_few Gone path tried p t = p

-- a rest that is held: its path tried, and the form of its question
tried_held : (tried : List ℕ) (n : Next) → tried_of (rest_at tried n) ≡ tried
unfolding rest_at tried_of question_of
tried_held tried (Asks q) = refl
tried_held tried (Ends e status) = refl

good_held : (path tried : List ℕ) (n : Next) (q : Question) → next_in_form path tried n ≡ true → rest_at tried n ≡ waits q → good_prefix path ≡ true
unfolding rest_at
good_held path tried (Asks a) q h e = (waiting_told path tried a h).good
good_held path tried (Ends x status) q h e = absurd (let z : ◌≡◌ {A = ℕ} 0 1 = cc in omega arith)

module _ (refs doms : List ℕ) (walk : Walk) (texts : List ℕ) (form : in_form walk texts ≡ true) where
  formed : Formed walk texts
  formed = form_told walk texts form

  path_few : length (core_in walk texts).path ≤ 256
  unfolding core_in
  path_few = omega (arith, formed.path_length, formed.path_most)

  tried_few : (r : Rest) → rest_in walk texts ≡ r → length (tried_of r) ≤ 256
  unfolding rest_in
  tried_few r h =
      let z : length (tried_in walk texts) ≡ length (tried_of r) = ap length (sym (tried_held (tried_in walk texts) walk.next) ∙ ap tried_of h) in
      omega (arith, formed.tried_length, formed.tried_most)

  -- what is shown of a walk in form, by its rest
  name_at_lem : {r : Rest} → rest_in walk texts ≡ r → name_call walk texts room ≡ name_at (core_in walk texts) r room
  unfolding name_call
  name_at_lem h = choose_yes _ _ form ∙ ap (λ (r : Rest). name_at (core_in walk texts) r room) h

  path_at_lem : {r : Rest} → rest_in walk texts ≡ r → path_call walk texts room ≡ path_at (core_in walk texts) walk.moves r room
  unfolding path_call
  path_at_lem h = choose_yes _ _ form ∙ ap (λ (r : Rest). path_at (core_in walk texts) walk.moves r room) h

  question_at_lem : {r : Rest} → rest_in walk texts ≡ r → question_call walk texts three ≡ question_at walk.moves r three
  unfolding question_call
  question_at_lem h = choose_yes _ _ form ∙ ap (λ (r : Rest). question_at walk.moves r three) h

  end_at_lem : {r : Rest} → rest_in walk texts ≡ r → end_call walk texts three ≡ end_at walk.moves r three
  unfolding end_call
  end_at_lem h = choose_yes _ _ form ∙ ap (λ (r : Rest). end_at walk.moves r three) h

  -- a walk that has ended prints its end
  module _ (e : End) (status : ℕ) (tried : List ℕ) (h : rest_in walk texts ≡ ended e status tried) where
    end_lines_lem : ended_lines walk texts ≡ end_lines (end_number e) status (end_path e (core_in walk texts).path tried) walk.moves
    unfolding ended_lines path_at end_at end_shown tried_of
    end_lines_lem =
        (λ i. end_told (path_at_lem h i) (end_at_lem h i))
        ∙ end_told_lem room three (omega (arith, three_long)) (end_path e (core_in walk texts).path tried) (end_number e) status walk.moves
        (omega (arith, room_units_lem, end_few e (core_in walk texts).path tried path_few (tried_few (ended e status tried) h)))

    no_question : waiting_lines refs doms walk texts ≡ []
    unfolding waiting_lines question_told if_shown name_at
    no_question =
        (λ i. question_told (party_call refs doms walk texts room) (name_at_lem h i) (question_call walk texts three)) ∙ none_shown (party_call refs doms walk texts room).answer

    pub ended_printed : PrintsEnd refs doms walk texts e status tried
    unfolding PrintsEnd
    ended_printed = taken_lines refs doms walk texts ∙ (λ i. no_question i ++ end_lines_lem i)

  -- a walk that waits prints its question, over caches in order where its entry in use is there
  module _ (q : Question) (h : rest_in walk texts ≡ waits q) where
    no_end : ended_lines walk texts ≡ []
    unfolding ended_lines end_told if_shown path_at
    no_end = λ i. end_told (path_at_lem h i) (end_call walk texts three)

    path_good_lem : good_prefix (core_in walk texts).path ≡ true
    unfolding rest_in core_in
    path_good_lem = good_held (path_in walk texts) (tried_in walk texts) walk.next q formed.next h

    module _ (order : (in_order referrals refs && in_order domains doms) ≡ true) (there : is_in_use (caches_of refs doms) (core_in walk texts) q ≡ true) where
      party : Texted (party_text (caches_of refs doms) (core_in walk texts) (boot_in walk texts) q)
      unfolding caches_of
      party =
          party_texted (caches_of refs doms) (order_good referrals refs (and_left (in_order referrals refs) _ order)) (order_good domains doms (and_right (in_order referrals refs) _ order))
          (core_in walk texts) path_good_lem (boot_in walk texts) (omega (arith, formed.boot_length, formed.boot_most)) q there

      party_at_lem : party_call refs doms walk texts room ≡ shows party.text room
      unfolding party_call party_at question_shown shows_some
      party_at_lem =
          choose_yes _ _ order
          ∙ (choose_yes _ _ form
          ∙ (ap (λ (r : Rest). party_at (caches_of refs doms) (core_in walk texts) (boot_in walk texts) r room) h ∙ ap (λ (o : Option (List ℕ)). shows_some o room) party.here))

      question_lines_lem : waiting_lines refs doms walk texts ≡ question_lines q.kind party.text (name_asked (core_in walk texts) q) q.size
      unfolding waiting_lines name_at question_at tried_of
      question_lines_lem =
          (λ i. question_told (party_at_lem i) (name_at_lem h i) (question_at_lem h i))
          ∙ (question_told_lem room three (omega (arith, three_long)) party.text (name_asked (core_in walk texts) q) (kind_number q.kind) q.size walk.moves
          (omega (arith, room_units_lem, party.short)) (omega (arith, room_units_lem, name_few (core_in walk texts) q path_few (tried_few (waits q) h)))
          ∙ ap (λ (k : Kind). question_lines k party.text (name_asked (core_in walk texts) q) q.size) (kind_shown q.kind))

      pub waiting_printed : PrintsQuestion refs doms walk texts q
      unfolding question_shown
      waiting_printed = record {
        party = party.text;
        shown = party.here;
        printed = taken_lines refs doms walk texts ∙ ((λ i. question_lines_lem i ++ no_end i) ∙ append-nil _);
      }

-- A walk in form, over caches in order, prints just one outcome, where the entry that its question uses is there.
pub prints_one : (refs doms : List ℕ) (walk : Walk) (texts : List ℕ) → (in_order referrals refs && in_order domains doms) ≡ true → in_form walk texts ≡ true
    → ((q : Question) → rest_in walk texts ≡ waits q → is_in_use (caches_of refs doms) (core_in walk texts) q ≡ true)
    → PrintsOne refs doms walk texts (rest_in walk texts)
unfolding PrintsOne
prints_one refs doms walk texts order form there = go (rest_in walk texts) refl
  where
    go : (r : Rest) → rest_in walk texts ≡ r → PrintsOne refs doms walk texts r
    go (waits q) h = waiting_printed refs doms walk texts form q h order (there q h)
    go (ended e status tried) h = ended_printed refs doms walk texts form e status tried h
