-- What an answer that is due has, for the functions that take it.
use mathlib.Core.Path.{◌≡◌, refl, sym, ap, ◌∙◌, subst}
use mathlib.Core.Bool.{Bool, true, false}
use mathlib.Core.List.{List, []}
use mathlib.Core.Logic.{inl, inr}
use Prim.Native.Nat.{ℕ, ◌-◌, ◌≤◌}
use native.Mathlib.Omega.{arith}
use lib.ListN.{length, take, drop}
use lib.Seq.{length-take-le, drop_at}
use Rattle.std.specs.Prelude.{Result}
use Rattle.laws.specs.Lists.{pasted, roomed}
use Rattle.laws.proofs.Tests.{not_both}
use Rattle.laws.proofs.Pasting.{pasted_whole, length_roomed, take_roomed}
use Rattle.unc.specs.names.Paths.{first_of, matches}
use Rattle.unc.proofs.names.PieceLaws.{spans}
use Rattle.walk_steps.specs.walk_texts.Texts.{texts_of}
use Rattle.walk_steps.proofs.walk_texts.TextLaws.{path_in_lem}
use Rattle.cache.specs.order.Order.{good_prefix}
use Rattle.walk_steps.specs.steps.Steps.{Turn, turned, referral_answered, io_answered}
use Rattle.walk_steps.specs.steps.Held.{caches_of, core_of, question_of}
use Rattle.walk_steps.specs.declared.steps.Kind.{Kind}
use Rattle.walk_steps.specs.declared.steps.Kind.TheVariants.{Dc, Root, Link, Sysvol, Io}
use Rattle.walk_steps.specs.declared.steps.Asking.{Asking}
use Rattle.walk_steps.specs.steps.Code.{core_at}
use Rattle.walk_steps.specs.declared.steps.Progress.{Progress}
use Rattle.walk_steps.specs.declared.steps.Rested.{Rested}
use Rattle.walk_steps.specs.cycle.Code.{rested_with, packed}
use Rattle.walk_store.specs.after_reply.Code.{Leaving, left_by, leaves}
use Rattle.walk_store.proofs.after_reply.RestLaws.{Kept, rest_left, rest_path}
use Rattle.walk_answers.specs.referral_answer.Code.{Awaiting}
use Rattle.walk_answers.specs.io_answer.Code.{Trying}
use Rattle.walk_answers.specs.io_answer.Code as tries
use Rattle.walk_form.specs.held.Walks.{path_in, tried_in, boot_in, has_tried, next_in_form}
use Rattle.walk_form.specs.declared.held.Walk.{Walk}
use Rattle.walk_form.proofs.held.FormLaws.{Formed, form_told, first_rooms, Waiting, waiting_told, Prefixed, io_named, link_named, dc_named, sysvol_named, Rooted, root_named, request_tried}
use Rattle.walk_calls.specs.call_end.Code.{left, closed_rest}
use Rattle.walk_calls.specs.declared.call_end.Refusal.{Refusal}
use Rattle.walk_calls.proofs.call_end.RestLaws.{closed_rest_lem}
use Rattle.walk_form.specs.held.Walks.{core_in}
use Rattle.walk_calls.specs.answer_steps.Code.{AnswerDue, progress_of, io_turn, referral_turn, closed, closing}
use Rattle.walk_calls.proofs.answer_steps.TurnLaws.{kept_referral, kept_io}

pub tried_io : (k : Kind) → has_tried k ≡ true → k ≡ Io
unfolding has_tried
tried_io Dc h = absurd (not_both h refl)
tried_io Root h = absurd (not_both h refl)
tried_io Link h = absurd (not_both h refl)
tried_io Sysvol h = absurd (not_both h refl)
tried_io Io h = refl

-- what names the entry of a request is a part of the path
module _ {path tried : List ℕ} {q : Asking} (w : Waiting path tried q) where
  first_within : q.entry ≡ length (first_of 1 path) → q.entry ≤ length path
  first_within e = omega (arith, (spans 1 path).inside)

  root_within : Rooted path q → q.entry ≤ length path
  root_within (inl z) = omega (arith, z.0)
  root_within (inr e) = first_within e

  entry_within : (k : Kind) → q.kind ≡ k → q.entry ≤ length path
  entry_within Dc e = first_within (dc_named w e)
  entry_within Root e = root_within (root_named w e)
  entry_within Link e = (link_named w e).within
  entry_within Sysvol e = first_within (sysvol_named w e)
  entry_within Io e = (io_named w e).within

-- what a walk hands on
pub progress_is : (walk : Walk) (clock room : ℕ)
    → record { len = walk.path; left = walk.limit - walk.moves; hit = walk.hit; size = walk.size; clock = clock; room = room } ≡ progress_of walk clock room
unfolding progress_of
progress_is walk clock room = refl

-- a copy of the first two rooms
pub rooms_copied : (texts d : List ℕ) {m : List ℕ} → length texts ≡ 768 → length d ≡ 512 → m ≡ pasted d 0 (take 512 texts) → m ≡ take 512 texts
rooms_copied texts d k l e = e ∙ pasted_whole d (take 512 texts) (length-take-le 512 texts (omega arith) ∙ sym l)

-- what is due, and the texts in the copy
module _ {refs doms : List ℕ} {walk : Walk} {texts : List ℕ} {q : Asking} {has : Bool} (d : AnswerDue refs doms walk texts q has) where
  formed : Formed walk texts
  formed = form_told walk texts d.form

  waiting : Waiting (path_in walk texts) (tried_in walk texts) q
  waiting = waiting_told (path_in walk texts) (tried_in walk texts) q (ap (next_in_form (path_in walk texts) (tried_in walk texts)) (sym d.next) ∙ formed.next)

  pub due_texts : length texts ≡ 768
  due_texts = formed.long

  pub due_limit : walk.limit ≤ 64
  due_limit = formed.limit_most

  pub due_moves : walk.moves ≤ walk.limit
  due_moves = formed.moves

  short : length (path_in walk texts) ≤ 256
  short = omega (arith, formed.path_length, formed.path_most)

  module _ {m : List ℕ} (e : m ≡ take 512 texts) where
    as_rooms : m ≡ texts_of (path_in walk texts) (tried_in walk texts)
    as_rooms = e ∙ first_rooms formed

    path_there : take walk.path m ≡ path_in walk texts
    path_there = (λ j. take (sym formed.path_length j) (as_rooms j)) ∙ path_in_lem (path_in walk texts) (tried_in walk texts)

    tried_there : tries.tried_room walk.tried m ≡ tried_in walk texts
    unfolding tries.tried_room texts_of
    tried_there =
        (λ j. take (sym formed.tried_length j) (drop 256 (as_rooms j)))
        ∙ (ap (take (length (tried_in walk texts))) (drop_at (roomed 256 (path_in walk texts)) (roomed 256 (tried_in walk texts)) 256 (length_roomed 256 (path_in walk texts) short))
        ∙ take_roomed 256 (tried_in walk texts))

    copy_long : length m ≡ 512
    copy_long = ap length e ∙ length-take-le 512 texts (omega (arith, formed.long))

    trying : has ≡ true → (clock room : ℕ) → Trying refs doms m (progress_of walk clock room) q walk.tried
    unfolding progress_of
    trying h clock room =
        let io : q.kind ≡ Io = tried_io q.kind (d.kind ∙ h) in
        let p : Prefixed (path_in walk texts) q = io_named waiting io in
        record {
          order = d.order;
          doms_order = d.doms_order;
          few = formed.path_most;
          tried_few = formed.tried_most;
          long = copy_long;
          stands = as_rooms ∙ (λ j. texts_of (sym path_there j) (sym tried_there j));
          good = ap good_prefix path_there ∙ waiting.good;
          waits_io = io;
          inside = omega (arith, p.within, formed.path_length);
          matched = (λ j. matches (take q.entry (path_there j)) (path_there j)) ∙ p.matching;
        }

    awaiting : has ≡ false → (clock room : ℕ) → Awaiting refs doms m (progress_of walk clock room) q
    unfolding progress_of
    awaiting h clock room =
        let t : tried_in walk texts ≡ [] = request_tried waiting (d.kind ∙ h) in
        record {
          refs_order = d.order;
          doms_order = d.doms_order;
          standing = record { few = formed.path_most; stands = as_rooms ∙ (λ j. texts_of (sym path_there j) (t j)) };
          good = ap good_prefix path_there ∙ waiting.good;
          inside = omega (arith, entry_within waiting q.kind refl, formed.path_length);
        }

    pub trying_at : has ≡ true → (clock room : ℕ) {g : Progress} → g ≡ progress_of walk clock room → Trying refs doms m g q walk.tried
    trying_at h clock room p = subst (λ (x : Progress). Trying refs doms m x q walk.tried) (sym p) (trying h clock room)

    pub awaiting_at : has ≡ false → (clock room : ℕ) {g : Progress} → g ≡ progress_of walk clock room → Awaiting refs doms m g q
    awaiting_at h clock room p = subst (λ (x : Progress). Awaiting refs doms m x q) (sym p) (awaiting h clock room)

    -- the turns, from the copy
    io_copied : (status clock room : ℕ)
        → io_answered (caches_of refs doms) (core_at (progress_of walk clock room) m) (question_of q (tries.tried_room walk.tried m)) status ≡ io_turn refs doms texts walk q status
    unfolding io_turn core_in progress_of
    io_copied status clock room = λ j. io_answered (caches_of refs doms) (core_of (path_there j) walk.size walk.hit) (question_of q (tried_there j)) status

    referral_copied : (status : ℕ) (reply : List ℕ) (clock room : ℕ)
        → referral_answered (caches_of refs doms) (core_at (progress_of walk clock room) m) (question_of q []) status reply clock ≡ referral_turn refs doms texts walk q status reply clock
    unfolding referral_turn core_in progress_of
    referral_copied status reply clock room = λ j. referral_answered (caches_of refs doms) (core_of (path_there j) walk.size walk.hit) (question_of q []) status reply clock

    module _ (status clock room : ℕ) {g : Progress} (p : g ≡ progress_of walk clock room) {x : Leaving} where
      pub io_leaves : x ≡ leaves g refs doms (io_answered (caches_of refs doms) (core_at g m) (question_of q (tries.tried_room walk.tried m)) status)
          → x ≡ leaves (progress_of walk clock room) refs doms (io_turn refs doms texts walk q status)
      io_leaves h =
          h
          ∙ ((λ j. leaves (p j) refs doms (io_answered (caches_of refs doms) (core_at (p j) m) (question_of q (tries.tried_room walk.tried m)) status))
          ∙ ap (leaves (progress_of walk clock room) refs doms) (io_copied status clock room))

      pub referral_leaves : (reply : List ℕ) → x ≡ leaves g refs doms (referral_answered (caches_of refs doms) (core_at g m) (question_of q []) status reply g.clock)
          → x ≡ leaves (progress_of walk clock room) refs doms (referral_turn refs doms texts walk q status reply clock)
      unfolding progress_of
      referral_leaves reply h =
          h
          ∙ ((λ j. leaves (p j) refs doms (referral_answered (caches_of refs doms) (core_at (p j) m) (question_of q []) status reply (p j).clock))
          ∙ ap (leaves (progress_of walk clock room) refs doms) (referral_copied status reply clock room))

  -- an answer that rests is closed
  module _ (t : Turn) (clock room : ℕ) (k : Kept (walk.limit - walk.moves) (core_in walk texts) (turned (walk.limit - walk.moves) clock t)) {r : Rested} {o more then : List ℕ}
      (e : left_by r o more then ≡ leaves (progress_of walk clock room) refs doms t) where
    rests_so : rested_with r o ≡ packed (turned (walk.limit - walk.moves) clock t)
    unfolding leaves progress_of
    rests_so = ap (λ (x : Leaving). x.rest) e

    pub answer_left_lem : r.left ≤ walk.limit
    answer_left_lem = omega (arith, rest_left _ r o rests_so (walk.limit - walk.moves) (core_in walk texts) k)

    pub answer_path : r.path ≤ 256
    answer_path = rest_path _ r o rests_so (walk.limit - walk.moves) (core_in walk texts) k

    pub answer_closed : (out : List ℕ) → room ≡ length out → (v : Result Walk Refusal) {s u : List ℕ}
        → left v walk s u ≡ closed_rest walk.limit walk.size (boot_in walk texts) r o walk texts out → closed v walk s u more then ≡ closing clock walk texts out refs doms t
    unfolding core_in closing
    answer_closed out n v h =
        λ j.
        record {
          ending = (h ∙ closed_rest_lem _ r o rests_so walk.limit walk.size (boot_in walk texts) walk texts out k.size_kept) j;
          refs = (ap (λ (x : Leaving). x.refs) e ∙ ap (λ (m : ℕ). (leaves (progress_of walk clock m) refs doms t).refs) n) j;
          doms = (ap (λ (x : Leaving). x.doms) e ∙ ap (λ (m : ℕ). (leaves (progress_of walk clock m) refs doms t).doms) n) j;
        }

  pub io_kept : (status clock : ℕ) → Kept (walk.limit - walk.moves) (core_in walk texts) (turned (walk.limit - walk.moves) clock (io_turn refs doms texts walk q status))
  unfolding io_turn core_in
  io_kept status clock = kept_io (walk.limit - walk.moves) clock (caches_of refs doms) (core_in walk texts) (question_of q (tried_in walk texts)) status short

  pub referral_kept : (status : ℕ) (reply : List ℕ) (clock : ℕ)
      → Kept (walk.limit - walk.moves) (core_in walk texts) (turned (walk.limit - walk.moves) clock (referral_turn refs doms texts walk q status reply clock))
  unfolding referral_turn core_in
  referral_kept status reply clock = kept_referral (walk.limit - walk.moves) clock (caches_of refs doms) (core_in walk texts) (question_of q []) status reply short

  -- a request has no path tried
  pub none_tried : has ≡ false → tried_in walk texts ≡ []
  none_tried h = request_tried waiting (d.kind ∙ h)
