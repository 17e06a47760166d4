-- The calls of a host: what each one gives back and leaves in the lent memory.
use Rattle.std.specs.Prelude.{ℕ, ◌-◌, false, ◌&&◌, List, length, eqb, leb, Ok, Err, Option, None, Some}
use Rattle.laws.specs.Choice.{choose}
use Rattle.unc.specs.names.Paths.{good_path, normalised, path_units}
use Rattle.cache.specs.order.Memory.{referrals, domains, encode, in_order}
use Rattle.walk_steps.specs.steps.Steps.{Caches, Core, Rest, waits, ended, Turn, Resting, started, referral_answered, io_answered, turned}
use Rattle.walk_steps.specs.steps.Held.{caches_of, core_of, question_of}
use Rattle.walk_steps.specs.declared.steps.Next.{Next}
use Rattle.walk_steps.specs.declared.steps.Next.TheVariants.{Asks, Ends}
use Rattle.walk_steps.specs.question_request.Questions.{rest_fits}
use Rattle.walk_form.specs.held.Walks.{good_settings, has_tried, in_form, tried_in, boot_in, core_in}
use Rattle.walk_form.specs.declared.held.Walk.{Walk}
use Rattle.walk_calls.specs.call_end.Closing.{Verdict, Left, refused, closes}
use Rattle.walk_calls.specs.declared.call_end.Refusal.TheVariants.{BadPath, LongPath, BadSettings, NotInOrder, OutOfForm, ShortBuffer}

-- the numbers of refusals: "1 bad path, 2 path good but over 256 units, 3 limit, size or bootstrap DC, 4 either cache not in order, 5 walk
-- ended, out of form, or waiting for another kind of answer, 10 output buffer shorter than the request"; 0 where the call is taken
unfoldable pub refusal_number : Verdict → ℕ
refusal_number (Ok u) = 0
refusal_number (Err BadPath) = 1
refusal_number (Err LongPath) = 2
refusal_number (Err BadSettings) = 3
refusal_number (Err NotInOrder) = 4
refusal_number (Err OutOfForm) = 5
refusal_number (Err ShortBuffer) = 10

-- where the steps rest after a start
unfoldable pub start_rest : List ℕ → List ℕ → List ℕ → ℕ → ℕ → ℕ → Resting
start_rest refs doms path limit size clock =
    turned limit clock (started (caches_of refs doms) (core_of (normalised path) size false) clock)

-- `start`: refusals 4, 1, 2, 3, then 5 where the memory for the texts has another length, then 10
unfoldable pub start_call : List ℕ → List ℕ → List ℕ → Walk → List ℕ → List ℕ → ℕ → ℕ → ℕ → List ℕ → Left
start_call refs doms texts walk path boot limit size clock out =
    choose (in_order referrals refs && in_order domains doms)
    (choose (good_path path)
    (choose (leb (length (normalised path)) path_units)
    (choose (good_settings limit size boot)
    (choose (eqb (length texts) 768)
    (closes limit boot (start_rest refs doms path limit size clock) walk texts out)
    (refused (Err OutOfForm) walk texts out))
    (refused (Err BadSettings) walk texts out))
    (refused (Err LongPath) walk texts out))
    (refused (Err BadPath) walk texts out))
    (refused (Err NotInOrder) walk texts out)

-- what an answer leaves: that, and both caches
pub record Answered : Type 0 where
  pub left : Left
  pub refs : List ℕ
  pub doms : List ℕ

-- a refused answer changes nothing
abbrev pub refused_answer : Verdict → Walk → List ℕ → List ℕ → List ℕ → List ℕ → Answered
refused_answer v walk texts out refs doms = record { left = refused v walk texts out; refs = refs; doms = doms }

-- where a walk that is held rests
unfoldable pub rest_at : List ℕ → Next → Rest
rest_at tried (Asks q) = waits (question_of q tried)
rest_at tried (Ends e status) = ended e status tried

unfoldable pub rest_in : Walk → List ℕ → Rest
rest_in w texts = rest_at (tried_in w texts) w.next

-- the event of an answer: to a referral request, and to an I/O try, which is the question that has a path tried; none where the walk has ended or
-- waits for an answer of the other kind
unfoldable pub referral_event : Caches → Core → Rest → ℕ → List ℕ → ℕ → Option Turn
referral_event c w (ended e s tried) status reply clock = None
referral_event c w (waits q) status reply clock = choose (has_tried q.kind) None (Some (referral_answered c w q status reply clock))

unfoldable pub io_event : Caches → Core → Rest → ℕ → Option Turn
io_event c w (ended e s tried) status = None
io_event c w (waits q) status = choose (has_tried q.kind) (Some (io_answered c w q status)) None

-- an event whose steps come to rest: both caches are as the event left them; 10 leaves them as they were
unfoldable pub answers : Option Turn → ℕ → Walk → List ℕ → List ℕ → List ℕ → List ℕ → Answered
answers None clock walk texts out refs doms = refused_answer (Err OutOfForm) walk texts out refs doms
answers (Some t) clock walk texts out refs doms =
    choose (rest_fits (length out) (turned (walk.limit - walk.moves) clock t))
    (record {
      left = closes walk.limit (boot_in walk texts) (turned (walk.limit - walk.moves) clock t) walk texts out;
      refs = encode referrals t.caches.referrals;
      doms = encode domains t.caches.domains;
    })
    (refused_answer (Err ShortBuffer) walk texts out refs doms)

-- an answer's refusals: 4, 5, then 10
unfoldable pub answer_call : Option Turn → ℕ → Walk → List ℕ → List ℕ → List ℕ → List ℕ → Answered
answer_call event clock walk texts out refs doms =
    choose (in_order referrals refs && in_order domains doms)
    (choose (in_form walk texts)
    (answers event clock walk texts out refs doms)
    (refused_answer (Err OutOfForm) walk texts out refs doms))
    (refused_answer (Err NotInOrder) walk texts out refs doms)

-- `answer_referral` and `answer_io`
unfoldable pub referral_call : List ℕ → List ℕ → List ℕ → Walk → ℕ → List ℕ → ℕ → List ℕ → Answered
referral_call refs doms texts walk status reply clock out =
    answer_call (referral_event (caches_of refs doms) (core_in walk texts) (rest_in walk texts) status reply clock) clock walk texts out refs doms

unfoldable pub io_call : List ℕ → List ℕ → List ℕ → Walk → ℕ → ℕ → List ℕ → Answered
io_call refs doms texts walk status clock out =
    answer_call (io_event (caches_of refs doms) (core_in walk texts) (rest_in walk texts) status) clock walk texts out refs doms
