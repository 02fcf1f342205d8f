-- What comes to a node about a transaction may come: what holds of all nodes and channels, and what shows the transaction, give all that its coming asks.
use Rattle.qs_world_refine.proofs.Words.{◌≡◌, ◌≢◌, ℕ, ◌+◌, ◌≤◌, ◌==◌, ◌||◌, not, Bool, true, false, List, [], ◌∷◌, length, Option, Some, None, refl, sym, ap, subst, ◌∙◌, arith, if◌then◌else◌, unwrap_or, list_any, list_all, filter, lookup, is_at, nat_tests, ServerNo, Tid, IpcValue, queue_at, server_cmp, waits_in, QueueValue, no_queue, count_of, Delivery, is_standing_loan, Lent, is_abort, is_undecided, Participant, is_lent, Work, part_of, Open, Committed, Aborted, Face, ShowsFace, node_no, face}
use Rattle.qs_world_refine.proofs.Words.{face_at, outcome_seen, AgreesWith, Scene, server_no, may_be_served, Stands, are_queues_apart, none_is}
use Rattle.qs_base.specs.declared.identifiers.Outcome.{Outcome}
use Rattle.qs_base.specs.declared.identifiers.Outcome.TheVariants as outcomes
use Rattle.qs_ipc.specs.Ipc as ipc
use Rattle.qs_ipc.specs.Queue.{is_of}
use Rattle.qs_tm.specs.Manager as tm
use Rattle.qs_world_agree.specs.World.{World}
use Rattle.qs_world_refine.specs.NodeFaces.{waiting_at}
use Rattle.qs_world_refine.specs.SoundSteps.{AnswersFor}
use Rattle.qs_world_refine.specs.Steady.{is_other_server}
use Rattle.qs_world_refine.proofs.Heads.{Learnt, shown_here, aborted_cell, face_is}
use Rattle.qs_world_refine.proofs.SoundKnown.{nothing_waits, nothing_lent}
use Rattle.qs_world_refine.proofs.SoundParts.{and_both}
use Rattle.qs_base_lemmas.proofs.Tests.{next_not_zero}

-- ---- nothing waits where no queue has a request of it

any_none : (t : Tid) (waiting : List Delivery) → count_of t waiting ≡ 0 → list_any (is_of t) waiting ≡ false
any_none t [] none = refl
any_none t (d ∷ rest) none = by (is_of t d) none (any_none t rest)
  where
    by : (b : Bool) → (if b then count_of t rest + 1 else count_of t rest) ≡ 0 → (count_of t rest ≡ 0 → list_any (is_of t) rest ≡ false) → (b || list_any (is_of t) rest) ≡ false
    by true some more = absurd (next_not_zero (count_of t rest) some)
    by false none more = more none

-- each queue is the one that is found
none_apart : (s : ServerNo) (rest : IpcValue) → list_all (is_other_server s) rest ≡ true → lookup (is_at (server_cmp (server_no s.0))) rest ≡ None
none_apart s [] apart = refl
none_apart s (e ∷ rest) apart = rw (other e.0.0 both.0) (none_apart s rest both.1)
  where
    both : (is_other_server s e ≡ true) × (list_all (is_other_server s) rest ≡ true)
    both = and_both (is_other_server s e) (list_all (is_other_server s) rest) apart

    other : (k : ℕ) → not (k == s.0) ≡ true → is_at (server_cmp (server_no s.0)) (server_no k) ≡ false
    other k off = grind (arith, nat_tests, off)

pub queues_none : (t : Tid) (queues : IpcValue) → are_queues_apart queues ≡ true → ((s : ℕ) → count_of t (queue_at queues (server_no s)).waiting ≡ 0) → ipc.waits t queues ≡ false
queues_none t [] apart none = refl
queues_none t (e ∷ rest) apart none = neither (any_none t e.1.waiting first) (queues_none t rest both.1 later)
  where
    both : (list_all (is_other_server e.0) rest ≡ true) × (are_queues_apart rest ≡ true)
    both = and_both (list_all (is_other_server e.0) rest) (are_queues_apart rest) apart

    neither : {a b : Bool} → a ≡ false → b ≡ false → (a || b) ≡ false
    neither x y = rw (x, y) refl

    count_in : Option QueueValue → ℕ
    count_in o = count_of t (unwrap_or o no_queue).waiting

    self : (k : ℕ) → is_at (server_cmp (server_no k)) (server_no k) ≡ true
    self k = grind (arith, nat_tests)

    found : lookup (is_at (server_cmp (server_no e.0.0))) (e ∷ rest) ≡ Some e.1
    found = rw (self e.0.0) refl

    first : count_of t e.1.waiting ≡ 0
    first = sym (ap count_in found) ∙ none e.0.0

    later : (s : ℕ) → count_of t (queue_at rest (server_no s)).waiting ≡ 0
    later s = by (is_at (server_cmp (server_no s)) e.0) refl
      where
        same : (k : ℕ) → is_at (server_cmp (server_no s)) (server_no k) ≡ true → s ≡ k
        same k so = grind (arith, nat_tests, so)

        by : (b : Bool) → is_at (server_cmp (server_no s)) e.0 ≡ b → count_of t (queue_at rest (server_no s)).waiting ≡ 0
        by true at = ap count_in (subst (λ (k : ℕ). lookup (is_at (server_cmp (server_no k))) rest ≡ None) (sym (same e.0.0 at)) (none_apart e.0 rest both.0))
        by false off = let past : lookup (is_at (server_cmp (server_no s))) (e ∷ rest) ≡ lookup (is_at (server_cmp (server_no s))) rest = rw off refl in sym (ap count_in past) ∙ none s

-- no loan stands where none is counted
loans_none : (t : Tid) (inc : ℕ) (loans : List Lent) → length (filter (is_standing_loan t inc) loans) ≡ 0 → list_any (is_standing_loan t inc) loans ≡ false
loans_none t inc [] none = refl
loans_none t inc (loan ∷ rest) none = by (is_standing_loan t inc loan) none (loans_none t inc rest)
  where
    by : (b : Bool) → length (if b then loan ∷ filter (is_standing_loan t inc) rest else filter (is_standing_loan t inc) rest) ≡ 0 → (length (filter (is_standing_loan t inc) rest) ≡ 0 → list_any (is_standing_loan t inc) rest ≡ false) → (b || list_any (is_standing_loan t inc) rest) ≡ false
    by true some more = absurd (next_not_zero (length (filter (is_standing_loan t inc) rest)) (omega (arith, some)))
    by false none more = more none

module _ (t : Tid) (scene : Scene) (n : ℕ) (work : Work) (w : World) (is : Stands t scene n work w) (learnt : Learnt t work w) where
  -- ---- once commit is decided nothing waits, and no loan stands

  module _ (apart : are_queues_apart work.node.queues ≡ true) (committed : w.cell ≡ Committed) where
    quiet : (face_at work.node t).outcome ≡ Open → (ipc.waits t work.node.queues ≡ false) × (is_lent t work.node ≡ false)
    quiet open_now = (queues_none t work.node.queues apart (λ s. none (w.arrived q s) (w.served q s) (waiting_at work.node t s) (here.waits s) (settled.served q s)), loans_none t work.node.setting.inc work.node.kept.now.loans (sym here.loans ∙ settled.loans q))
      where
        q : ℕ
        q = Rattle.qs_world_refine.specs.Places.place n (scene.inc n)

        here : Rattle.qs_world_refine.specs.Faces.ShowsOpen (face_at work.node t) q w
        here = (shown_here t scene n work w is).running open_now

        settled : Rattle.qs_world_agree.specs.Laws.IsSettled w
        settled = is.lawful.settled committed

        none : (a b c : ℕ) → a ≡ b + c → b ≡ a → c ≡ 0
        none a b c sum same = omega (arith, sum, same)

    pub nothing_open : (ipc.waits t work.node.queues ≡ false) × (is_lent t work.node ≡ false)
    nothing_open = by (part_of t work) refl
      where
        unserved : may_be_served work.node t ≡ false → (ipc.waits t work.node.queues ≡ false) × (is_lent t work.node ≡ false)
        unserved off = (nothing_waits work.node t off is.sound, nothing_lent work.node t off is.sound)

        at : (part : Participant) → part_of t work ≡ Some part → (o : Option Outcome) → part.outcome ≡ o → (ipc.waits t work.node.queues ≡ false) × (is_lent t work.node ≡ false)
        at part known None open_now = quiet (ap (λ (f : Face). f.outcome) (face_is t scene n work w is part known) ∙ ap (λ (o : Option Outcome). outcome_seen o (part.engage.home || part.involved)) open_now)
        at part known (Some outcomes.Commit) decided = unserved (ap (λ (o : Option Participant). elim o [ None ↦ false | Some p ↦ is_undecided p || is_abort p.outcome ]) known ∙ ap (λ (o : Option Outcome). Rattle.std.specs.Prelude.is_none o || is_abort o) decided)
        at part known (Some outcomes.Abort) decided = absurd (let other : Committed ≡ Aborted = sym committed ∙ aborted_cell t scene n work w is part known decided in cc (other))

        by : (o : Option Participant) → part_of t work ≡ o → (ipc.waits t work.node.queues ≡ false) × (is_lent t work.node ≡ false)
        by None unknown = unserved (ap (λ (o : Option Participant). elim o [ None ↦ false | Some p ↦ is_undecided p || is_abort p.outcome ]) unknown)
        by (Some part) known = at part known part.outcome refl

  -- a Tell says nothing else than what the node knows
  pub agrees_commit : w.cell ≡ Committed → AgreesWith t outcomes.Commit work
  agrees_commit committed part outcomes.Commit known decided = refl
  agrees_commit committed part outcomes.Abort known decided = absurd (let other : Committed ≡ Aborted = sym committed ∙ aborted_cell t scene n work w is part known decided in cc (other))

  pub agrees_abort : w.cell ≡ Aborted → AgreesWith t outcomes.Abort work
  agrees_abort aborted part outcomes.Abort known decided = refl
  agrees_abort aborted part outcomes.Commit known decided = absurd (let other : Committed ≡ Aborted = sym (learnt part known decided) ∙ aborted in cc (other))

  -- a request comes to none that knows the commit
  pub may_take : w.cell ≢ Committed → tm.told_of t true (λ part. is_undecided part || is_abort part.outcome) work.node.manager ≡ true
  may_take open_now = by (part_of t work) refl
    where
      at : (part : Participant) → part_of t work ≡ Some part → (o : Option Outcome) → part.outcome ≡ o → (Rattle.std.specs.Prelude.is_none o || is_abort o) ≡ true
      at part known None is = refl
      at part known (Some outcomes.Abort) is = refl
      at part known (Some outcomes.Commit) is = absurd (open_now (learnt part known is))

      by : (o : Option Participant) → part_of t work ≡ o → (elim o [ None ↦ true | Some p ↦ is_undecided p || is_abort p.outcome ]) ≡ true
      by None unknown = refl
      by (Some part) known = at part known part.outcome refl

  -- what answers for requests answers for no more than were sent
  pub answers_for : (m up_to : ℕ) → up_to ≤ w.sent (Rattle.qs_world_refine.specs.Places.place n (scene.inc n)) m → AnswersFor (node_no m) t up_to work
  answers_for m up_to below part known undecided = subst (λ (k : ℕ). up_to ≤ k) (here.sent open_face m ∙ ap (λ (f : Face). f.sent m) face_same) below
    where
      here : ShowsFace (face_at work.node t) (Rattle.qs_world_refine.specs.Places.place n (scene.inc n)) w
      here = shown_here t scene n work w is

      face_same : face_at work.node t ≡ face work.node t part
      face_same = face_is t scene n work w is part known

      open_face : (face_at work.node t).outcome ≢ Committed
      open_face committed = let its : (face_at work.node t).outcome ≡ Open = ap (λ (f : Face). f.outcome) face_same ∙ ap (λ (o : Option Outcome). outcome_seen o (part.engage.home || part.involved)) (none_is part.outcome undecided) in
          let other : Open ≡ Committed = sym its ∙ committed in cc (other)
