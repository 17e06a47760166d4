-- No step calls for end 24: only the limit brings it.
use Rattle.std.specs.Prelude.{Option, None, Some}
use mathlib.Core.Path.{◌≡◌, refl, ap, subst}
use mathlib.Core.Bool.{Bool, true, false}
use mathlib.Core.List.{List}
use Prim.Native.Nat.{ℕ}
use native.Mathlib.Omega.{arith}
use Rattle.laws.specs.Choice.{choose}
use Rattle.laws.proofs.Tests.{not_both}
use Rattle.cache.specs.order.Entries.{Referral}
use Rattle.reply_read.specs.referral.Replies as replies
use Rattle.reply_read.specs.referral.Replies.{malformed, nothing, says}
use Rattle.walk_steps.specs.steps.Steps.{Caches, Core, Question, Called, stops, ends, asks, replaces, Turn, Rest, ended, onward, step2, step2_with, step4, step7, started, from_step2, failed_host, failed, referral_fails, empty_end, dc_answer, after_store, stored_turn, referral_answer, referral_succeeds, referral_answered, io_fails, io_with, io_answered, longest, with_path}
use Rattle.walk_steps.specs.declared.steps.Kind.{Kind}
use Rattle.walk_steps.specs.declared.steps.Kind.TheVariants.{Dc, Root, Link, Sysvol, Io}
use Rattle.walk_steps.specs.declared.steps.End.{End}
use Rattle.walk_steps.specs.declared.steps.End.TheVariants.{Done, NotDfs, NoDc, Failed, LimitReached, Malformed, TooLong, Gone}
use Rattle.walk_calls.specs.calls.Calls.{referral_event, io_event}
use Rattle.theorems.proofs.keeps.CalledLaws.{picked}
use Rattle.theorems.specs.limit.Unlimited.{Move, Makes, here, goes_on, Halts, at_end, is_put, try_long, path_long}

abbrev at_limit : End → Bool
at_limit Done = false
at_limit NotDfs = false
at_limit NoDc = false
at_limit Failed = false
at_limit LimitReached = true
at_limit Malformed = false
at_limit TooLong = false
at_limit Gone = false

-- what is called for is no end 24
pub data NoLimit : Called → Type 0 where
  an_end : {e : End} {status : ℕ} {tried : List ℕ} → at_limit e ≡ false → NoLimit (stops e status tried)
  a_question : {q : Question} → NoLimit (asks q)
  a_path : {p : List ℕ} → NoLimit (replaces p)

-- either way
either_way : {A : Type 0} (P : A → Type 0) (t : Bool) {a b : A} → P a → P b → P (choose t a b)
either_way P t {a} {b} x y = picked P t a b (λ e. x) (λ e. y)

abbrev NoLimitIn : Turn → Type 0
NoLimitIn t = NoLimit t.called

done : {status : ℕ} {tried : List ℕ} → NoLimit (stops Done status tried)
done = an_end refl

not_dfs : {status : ℕ} → NoLimit (ends NotDfs status)
not_dfs = an_end refl

no_dc_lem : {status : ℕ} → NoLimit (ends NoDc status)
no_dc_lem = an_end refl

has_failed : {status : ℕ} → NoLimit (ends Failed status)
has_failed = an_end refl

is_malformed : {status : ℕ} → NoLimit (ends Malformed status)
is_malformed = an_end refl

is_gone : {status : ℕ} → NoLimit (ends Gone status)
is_gone = an_end refl

four : (w : Core) (e : Referral) → NoLimit (step4 w e)
unfolding step4
four w e = either_way NoLimit _ a_path a_question

seven : (w : Core) (e : Referral) → NoLimit (step7 w e)
unfolding step7
seven w e = either_way NoLimit _ a_question (four w e)

two_with : (c : Caches) (w : Core) (clock : ℕ) (e : Option Referral) → NoLimit (step2_with c w clock e)
unfolding step2_with
two_with c w clock None = a_question
two_with c w clock (Some e) = either_way NoLimit _ a_question (seven w e)

two : (c : Caches) (w : Core) (clock : ℕ) → NoLimit (step2 c w clock)
unfolding step2
two c w clock = two_with c w clock (longest w.path c.referrals)

pub started_no : (c : Caches) (w : Core) (clock : ℕ) → NoLimitIn (started c w clock)
unfolding started from_step2
started_no c w clock = either_way NoLimitIn _ not_dfs (two c w clock)

onward_no : (n : ℕ) (q : Question) (ask : ℕ → Question) (last : Called) → NoLimit last → NoLimit (onward n q ask last)
unfolding onward
onward_no n q ask last h = either_way NoLimit _ h a_question

host_no : (w : Core) (status : ℕ) → NoLimit (failed_host w status)
unfolding failed_host
host_no w status = either_way NoLimit _ has_failed not_dfs

failed_no : (c : Caches) (w : Core) (q : Question) (status : ℕ) (k : Kind) → q.kind ≡ k → NoLimit (failed c w q status)
unfolding failed
failed_no c w q status Dc e = rw e no_dc_lem
failed_no c w q status Root e = rw e (either_way NoLimit _ (host_no w status) (onward_no _ _ _ _ no_dc_lem))
failed_no c w q status Link e = rw e (onward_no _ _ _ _ has_failed)
failed_no c w q status Sysvol e = rw e no_dc_lem
failed_no c w q status Io e = rw e has_failed

fails_no : (c : Caches) (w : Core) (q : Question) (status : ℕ) → NoLimit (referral_fails c w q status)
unfolding referral_fails
fails_no c w q status = either_way NoLimit _ a_question (failed_no c w q status q.kind refl)

empty_no : (k : Kind) (status : ℕ) → NoLimit (ends (empty_end k) status)
unfolding empty_end
empty_no Dc status = no_dc_lem
empty_no Root status = has_failed
empty_no Link status = has_failed
empty_no Sysvol status = no_dc_lem
empty_no Io status = has_failed

dcs_no : (c : Caches) (w : Core) (r : replies.Reply (List (List ℕ))) → NoLimitIn (dc_answer c w r)
unfolding dc_answer
dcs_no c w malformed = is_malformed
dcs_no c w nothing = empty_no Dc _
dcs_no c w (says names) = a_question

after_no : (k : Kind) (w : Core) (e : Referral) → NoLimit (after_store k w e)
unfolding after_store
after_no Dc w e = seven w e
after_no Root w e = seven w e
after_no Link w e = seven w e
after_no Sysvol w e = a_question
after_no Io w e = seven w e

reply_no : (c : Caches) (w : Core) (q : Question) (clock : ℕ) (r : replies.Reply replies.ReferralReply) → NoLimitIn (referral_answer c w q clock r)
unfolding referral_answer stored_turn
reply_no c w q clock malformed = is_malformed
reply_no c w q clock nothing = empty_no q.kind _
reply_no c w q clock (says r) = either_way NoLimitIn _ has_failed (after_no q.kind w _)

succeeds_no : (c : Caches) (w : Core) (q : Question) (reply : List ℕ) (clock : ℕ) (k : Kind) → q.kind ≡ k → NoLimitIn (referral_succeeds c w q reply clock)
unfolding referral_succeeds
succeeds_no c w q reply clock Dc e = rw e (dcs_no c w _)
succeeds_no c w q reply clock Root e = rw e (reply_no c w _ clock _)
succeeds_no c w q reply clock Link e = rw e (reply_no c w _ clock _)
succeeds_no c w q reply clock Sysvol e = rw e (reply_no c w _ clock _)
succeeds_no c w q reply clock Io e = rw e is_malformed

referral_no : (c : Caches) (w : Core) (q : Question) (status : ℕ) (reply : List ℕ) (clock : ℕ) → NoLimitIn (referral_answered c w q status reply clock)
unfolding referral_answered
referral_no c w q status reply clock =
    either_way NoLimitIn _ (either_way NoLimitIn _ (fails_no c w q status) (succeeds_no c w q reply clock q.kind refl)) is_gone

io_fails_no : (w : Core) (q : Question) (status : ℕ) (e : Referral) → NoLimit (io_fails w q status e)
unfolding io_fails
io_fails_no w q status e =
    either_way NoLimit _ (either_way NoLimit _ a_question has_failed) (either_way NoLimit _ (onward_no _ _ _ _ has_failed) has_failed)

io_with_no : (c : Caches) (w : Core) (q : Question) (status : ℕ) (e : Option Referral) → NoLimitIn (io_with c w q status e)
unfolding io_with
io_with_no c w q status None = is_gone
io_with_no c w q status (Some e) = either_way NoLimitIn _ (io_fails_no w q status e) done

io_no : (c : Caches) (w : Core) (q : Question) (status : ℕ) → NoLimitIn (io_answered c w q status)
unfolding io_answered
io_no c w q status = either_way NoLimitIn _ (io_with_no c w q status _) is_gone

-- the events of the two answers
some_of : {t : Turn} {x : Turn} → Some x ≡ Some t → x ≡ t
some_of e = cc

chosen : (b : Bool) {x t : Turn} → choose b None (Some x) ≡ Some t → x ≡ t
unfolding choose
chosen true e = absurd (let z : ◌≡◌ {A = ℕ} 0 1 = cc in omega arith)
chosen false e = some_of e

chosen_first : (b : Bool) {x t : Turn} → choose b (Some x) None ≡ Some t → x ≡ t
unfolding choose
chosen_first true e = some_of e
chosen_first false e = absurd (let z : ◌≡◌ {A = ℕ} 0 1 = cc in omega arith)

pub referral_event_no : (c : Caches) (w : Core) (r : Rest) (status : ℕ) (reply : List ℕ) (clock : ℕ) {t : Turn} → referral_event c w r status reply clock ≡ Some t → NoLimitIn t
unfolding referral_event
referral_event_no c w (ended e s tried) status reply clock h = absurd (let z : ◌≡◌ {A = ℕ} 0 1 = cc in omega arith)
referral_event_no c w (Rest.waits q) status reply clock h = subst NoLimitIn (chosen _ h) (referral_no c w q status reply clock)

pub io_event_no : (c : Caches) (w : Core) (r : Rest) (status : ℕ) {t : Turn} → io_event c w r status ≡ Some t → NoLimitIn t
unfolding io_event
io_event_no c w (ended e s tried) status h = absurd (let z : ◌≡◌ {A = ℕ} 0 1 = cc in omega arith)
io_event_no c w (Rest.waits q) status h = subst NoLimitIn (chosen_first _ h) (io_no c w q status)

-- nor after any replacement, so that no rest without a limit is end 24
makes_no : {c : Caches} {clock : ℕ} {w v : Core} {a b : Called} {ms : List Move} → Makes c clock w a ms v b → NoLimit a → NoLimit b
makes_no here n = n
makes_no {c = c} {clock = clock} (goes_on {w = w} {p = p} h m) n = makes_no m (two c (with_path p w) clock)

halts_no : {a : Called} {r : Rest} {status : ℕ} {tried : List ℕ} → Halts a r → NoLimit a → r ≡ ended LimitReached status tried → ⊥
halts_no (at_end {e = e}) (an_end h) f =
    let g : e ≡ LimitReached = cc in not_both (ap at_limit g) h
halts_no (is_put g) n f = let z : ◌≡◌ {A = ℕ} 0 1 = cc in omega arith
halts_no (try_long g) n f = let z : ◌≡◌ {A = ℕ} 0 1 = cc in omega arith
halts_no (path_long g) n f = let z : ◌≡◌ {A = ℕ} 0 1 = cc in omega arith

pub rests_no : {c : Caches} {clock : ℕ} {w v : Core} {a b : Called} {ms : List Move} {r : Rest} {status : ℕ} {tried : List ℕ} → NoLimit a → Makes c clock w a ms v b → Halts b r
    → r ≡ ended LimitReached status tried → ⊥
rests_no n m h e = halts_no h (makes_no m n) e
