-- In the first step of an incarnation a node looks at what its log left open, and what stood of a transaction stands.
use Rattle.qs_world_refine.proofs.Words.{◌≡◌, ◌⊎◌, inl, inr, ℕ, ◌==◌, ◌&&◌, not, nat_lt, Bool, true, false, List, [], ◌∷◌, ◌++◌, Option, Some, None, fold, map, refl, sym, subst, ap, ◌∙◌, arith, if◌then◌else◌, eqb-true, nat_tests, NodeNo, Tid, same_node, listed, Record, Participant, is_other, send, log_if, tid_of, give_notices, resume_home, resume_part, resume_tid, known_tids, Work, part_of, with_node, record_learnt, end_record, IsElsewhere, Scene, same_flag, Stands, GoesOn, Goes, same_Some}
use Rattle.qs_base.specs.declared.identifiers.Outcome.{Outcome}
use Rattle.qs_base.specs.declared.identifiers.Outcome.TheVariants as outcomes
use Rattle.qs_packet.specs.declared.message.Message.TheVariants as messages
use Rattle.qs_record.specs.declared.record.Record.TheVariants as records
use Rattle.qs_world_agree.specs.World.{World}
use Rattle.qs_world_refine.specs.RestartWhole.{BeginIncarnationGoes}
use Rattle.qs_world_refine.proofs.DecidedStands.{KeepOutcomes, outcome_itself, outcome_on, outcome_sends, outcome_notices, outcome_logged, decided_stands}
use Rattle.qs_world_refine.proofs.During.{Leaves, leaves_itself, leaves_on, send_leaves}
use Rattle.qs_world_refine.proofs.Frames.{out_leaves, sends_leave}
use Rattle.qs_world_refine.proofs.InquireSent.{resume_doubt}
use Rattle.qs_world_refine.proofs.KindsKept.{KeepsKinds, fold_kinds, send_kinds, sends_kinds, notices_kinds, log_kinds}
use Rattle.qs_world_refine.proofs.LogFrames.{Apart}
use Rattle.qs_world_refine.proofs.Others.{log_if_leaves, notices_leave}
use Rattle.qs_world_refine.proofs.PassCarried.{Carries, carries_send}
use Rattle.qs_world_refine.proofs.Resuming.{resume_commit, resume_abort}
use Rattle.qs_world_refine.proofs.SettleRules.{beside, beside_apart, stands_on, clear_carried, answers_carried}
use Rattle.qs_world_refine.proofs.SettleStands.{stands_itself, stands_left, goes_further, is_elsewhere, whole_known}
use Rattle.qs_world_refine.proofs.SoundHolds.{known_sound}
use Rattle.qs_world_refine.proofs.SoundRestart.{resume_tid_sound}
use Rattle.qs_world_refine.proofs.SoundViews.{seen}
use Rattle.qs_world_refine.proofs.Turns.{Entry, turns, AllApart, turns_leave, turns_sound, fold_split, Never, Once, turn_of}

-- ---- every other transaction

module _ (t tid : Tid) (apart : Apart t tid) where
  aborted_apart : (part : Participant) (r : Record) → record_learnt tid outcomes.Abort part ≡ Some r → Apart t (tid_of r)
  aborted_apart part r is = by part.log.prepared is
    where
      by : (b : Bool) → (if b then Some (end_record tid outcomes.Abort) else None) ≡ Some r → Apart t (tid_of r)
      by true is = rw (sym (same_Some (records.Aborted tid) r is)) apart
      by false is = absurd (cc is)

  resume_leaves : (work : Work) → Leaves t work (resume_tid work tid)
  resume_leaves work = by (part_of tid work)
    where
      home : (o : Outcome) (part : Participant) → Leaves t work (resume_home tid part o work)
      home outcomes.Commit part = sends_leave t (listed part.tell) (messages.Tell tid outcomes.Commit) work (rw apart refl)
      home outcomes.Abort part = leaves_on t work (give_notices tid outcomes.Abort work) (resume_home tid part outcomes.Abort work) (notices_leave t tid outcomes.Abort work apart)
          (log_if_leaves t (record_learnt tid outcomes.Abort part) (give_notices tid outcomes.Abort work) (aborted_apart part))

      resumed : (part : Participant) (o : Option Outcome) → Leaves t work (elim o [ None ↦ send tid.home (messages.Inquire tid) work | Some outcome ↦ resume_home tid part outcome work ])
      resumed part None = send_leaves t tid.home (messages.Inquire tid) work (rw apart refl)
      resumed part (Some outcome) = home outcome part

      by : (o : Option Participant) → Leaves t work (elim o [ None ↦ work | Some part ↦ resume_part tid part work ])
      by None = leaves_itself t work
      by (Some part) = resumed part part.outcome

resume_kinds : (work : Work) (tid : Tid) → KeepsKinds work (resume_tid work tid)
resume_kinds work tid = by (part_of tid work)
  where
    home : (o : Outcome) (part : Participant) → KeepsKinds work (resume_home tid part o work)
    home outcomes.Commit part has = sends_kinds (listed part.tell) (messages.Tell tid outcomes.Commit) work has
    home outcomes.Abort part has = log_kinds (record_learnt tid outcomes.Abort part) (give_notices tid outcomes.Abort work) (notices_kinds tid outcomes.Abort work has)

    resumed : (part : Participant) (o : Option Outcome) → KeepsKinds work (elim o [ None ↦ send tid.home (messages.Inquire tid) work | Some outcome ↦ resume_home tid part outcome work ])
    resumed part None has = send_kinds tid.home (messages.Inquire tid) work has
    resumed part (Some outcome) has = home outcome part has

    by : (o : Option Participant) → KeepsKinds work (elim o [ None ↦ work | Some part ↦ resume_part tid part work ])
    by None has = has
    by (Some part) has = resumed part part.outcome has

-- ---- its own turn

module _ (tid : Tid) (scene : Scene) (n : ℕ) (work : Work) (w : World) (is : Stands tid scene n work w) (part : Participant) (known : part_of tid work ≡ Some part)
    (drawn : part.outcome ≡ None → part.involved ≡ true) (of_home : part.outcome ≡ Some outcomes.Commit → part.engage.home ≡ true) where
  turn_is : resume_tid work tid ≡ resume_part tid part work
  turn_is = ap (λ (o : Option Participant). elim o [ None ↦ work | Some part ↦ resume_part tid part work ]) known

  left : Leaves (beside tid) work (resume_tid work tid)
  left = resume_leaves (beside tid) tid (beside_apart tid) work

  inquires : part.outcome ≡ None → (tid.home.0 == n) ≡ false → GoesOn tid scene n (resume_tid work tid) w
  inquires undecided away = stands_on tid scene n work (resume_tid work tid) w is
      (subst (λ (k : Work). Goes tid scene n k w) (sym turn_is) (resume_doubt tid scene n work part w is.lawful is.shown is.at (whole_known tid scene n work w is part known) undecided (drawn undecided) there.away is.home_in))
      left (resume_tid_sound work tid) (resume_kinds work tid)
      (clear_carried tid scene n work (resume_tid work tid) w is part known undecided (carries part known)) (answers_carried tid scene n work (resume_tid work tid) w is part known undecided (carries part known))
    where
      there : IsElsewhere tid scene n work part
      there = is_elsewhere tid scene n work w is part known undecided away

      sent_is : resume_tid work tid ≡ send tid.home (messages.Inquire tid) work
      sent_is = turn_is ∙ ap (λ (o : Option Outcome). elim o [ None ↦ send tid.home (messages.Inquire tid) work | Some outcome ↦ resume_home tid part outcome work ]) undecided

      carries : Carries tid work (resume_tid work tid)
      carries = subst (λ (k : Work). Carries tid work k) (sym sent_is) (carries_send tid tid.home (messages.Inquire tid) work)

  -- the home inquires of nobody
  stays : part.outcome ≡ None → (tid.home.0 == n) ≡ true → GoesOn tid scene n (resume_tid work tid) w
  stays undecided here = subst (λ (k : Work). GoesOn tid scene n k w) (sym same) (stands_itself tid scene n work w is)
    where
      own : is_other work.node.setting tid.home ≡ false
      own = off (same_node work.node.setting.node tid.home) (nat_lt tid.home.0 work.node.setting.nodes) (rw is.at.node (turned tid.home.0 here))
        where
          turned : (a : ℕ) → (a == n) ≡ true → (n == a) ≡ true
          turned a e = grind (arith, nat_tests, e)

          off : (a b : Bool) → a ≡ true → (not a && b) ≡ false
          off a b e = rw e refl

      same : resume_tid work tid ≡ work
      same = turn_is ∙ (ap (λ (o : Option Outcome). elim o [ None ↦ send tid.home (messages.Inquire tid) work | Some outcome ↦ resume_home tid part outcome work ]) undecided
          ∙ ap (λ (b : Bool). if b then record work { out = record work.out { messages = work.out.messages ++ record { to = tid.home; message = messages.Inquire tid } ∷ [] } } else work) own)

  home_is : (outcome : Outcome) → part.outcome ≡ Some outcome → resume_tid work tid ≡ resume_home tid part outcome work
  home_is outcome decided = turn_is ∙ ap (λ (o : Option Outcome). elim o [ None ↦ send tid.home (messages.Inquire tid) work | Some outcome ↦ resume_home tid part outcome work ]) decided

  tells : part.outcome ≡ Some outcomes.Commit → GoesOn tid scene n (resume_tid work tid) w
  tells decided = decided_stands tid scene n work (resume_tid work tid) w is part known outcomes.Commit decided
      (subst (λ (k : Work). KeepOutcomes tid work k) (sym (home_is outcomes.Commit decided)) (outcome_sends tid (listed part.tell) (messages.Tell tid outcomes.Commit) work))
      (subst (λ (k : Work). Goes tid scene n k w) (sym (home_is outcomes.Commit decided)) (told n at_node is)) left (resume_tid_sound work tid) (resume_kinds work tid)
    where
      at_node : tid.home.0 ≡ n
      at_node = eqb-true tid.home.0 n (sym (ap (λ (m : NodeNo). same_node tid.home m) is.at.node) ∙ on part.engage.home (same_node tid.home work.node.setting.node) (of_home decided) (known_sound tid work.node part known is.sound).homed)
        where
          on : (a b : Bool) → a ≡ true → same_flag a b ≡ true → b ≡ true
          on true b e so = so
          on false b e so = absurd (cc e)

      told : (k : ℕ) → tid.home.0 ≡ k → Stands tid scene k work w → Goes tid scene k (resume_home tid part outcomes.Commit work) w
      told k same = subst (λ (j : ℕ). Stands tid scene j work w → Goes tid scene j (resume_home tid part outcomes.Commit work) w) same
          (λ own. resume_commit tid scene work part w own.shown own.at (whole_known tid scene tid.home.0 work w own part known) (of_home decided) decided)

  ends : part.outcome ≡ Some outcomes.Abort → GoesOn tid scene n (resume_tid work tid) w
  ends decided = decided_stands tid scene n work (resume_tid work tid) w is part known outcomes.Abort decided
      (subst (λ (k : Work). KeepOutcomes tid work k) (sym (home_is outcomes.Abort decided)) (outcome_on tid work (give_notices tid outcomes.Abort work) (resume_home tid part outcomes.Abort work) (outcome_notices tid outcomes.Abort work) (logs part.log.prepared)))
      (subst (λ (k : Work). Goes tid scene n k w) (sym (home_is outcomes.Abort decided)) (resume_abort tid scene n work part w is.shown)) left (resume_tid_sound work tid) (resume_kinds work tid)
    where
      logs : (b : Bool) → KeepOutcomes tid (give_notices tid outcomes.Abort work) (log_if (if b then Some (records.Aborted tid) else None) (give_notices tid outcomes.Abort work))
      logs true = outcome_logged tid (records.Aborted tid) (give_notices tid outcomes.Abort work) refl
      logs false = outcome_itself tid (give_notices tid outcomes.Abort work)

  pub own_turn : GoesOn tid scene n (resume_tid work tid) w
  own_turn = by part.outcome refl
    where
      by : (o : Option Outcome) → part.outcome ≡ o → GoesOn tid scene n (resume_tid work tid) w
      by None undecided = placed (tid.home.0 == n) refl
        where
          placed : (b : Bool) → (tid.home.0 == n) ≡ b → GoesOn tid scene n (resume_tid work tid) w
          placed true here = stays undecided here
          placed false away = inquires undecided away
      by (Some outcomes.Commit) decided = tells decided
      by (Some outcomes.Abort) decided = ends decided

-- ---- all of them

abbrev every : Entry → Bool
every e = true

all_known : (es : List Entry) → map (λ (e : Entry). e.0) es ≡ turns every es
all_known [] = refl
all_known (e ∷ es) = ap (λ (l : List Tid). e.0 ∷ l) (all_known es)

module _ (t : Tid) (scene : Scene) (n : ℕ) where
  others : (tids : List Tid) (work : Work) (w : World) → AllApart t tids → Stands t scene n work w → Stands t scene n (fold resume_tid work tids) w
  others tids work w apart is = stands_left t scene n work (fold resume_tid work tids) w (turns_leave t resume_tid (λ tid off work. resume_leaves t tid off work) tids work apart)
      (turns_sound resume_tid (λ work tid. resume_tid_sound work tid) tids work is.sound) (fold_kinds resume_tid resume_kinds tids work is.kinds) is

  resumes : (work : Work) (w : World) (part_fits : (part : Participant) → part_of t work ≡ Some part → (part.outcome ≡ None → part.involved ≡ true) × (part.outcome ≡ Some outcomes.Commit → part.engage.home ≡ true))
      → Stands t scene n work w → GoesOn t scene n (fold resume_tid work (turns every work.node.manager.known)) w
  resumes work w fits is = by (turn_of t every work.node.manager.known (seen work.node is.sound).ordered)
    where
      by : Never t every work.node.manager.known ⊎ Once t every work.node.manager.known → GoesOn t scene n (fold resume_tid work (turns every work.node.manager.known)) w
      by (inl never) = stands_itself t scene n (fold resume_tid work (turns every work.node.manager.known)) w (others (turns every work.node.manager.known) work w never.apart is)
      by (inr once) = subst (λ (k : Work). GoesOn t scene n k w) (sym (ap (fold resume_tid work) once.is ∙ fold_split resume_tid once.front t once.back work))
          (goes_further t scene n (fold resume_tid (resume_tid reached t) once.back) w own.next own.leads
          (stands_itself t scene n (fold resume_tid (resume_tid reached t) once.back) own.next (others once.back (resume_tid reached t) own.next once.after own.stands)))
        where
          reached : Work
          reached = fold resume_tid work once.front

          same_part : part_of t reached ≡ part_of t work
          same_part = (turns_leave t resume_tid (λ tid off work. resume_leaves t tid off work) once.front work once.before).node.part

          own : GoesOn t scene n (resume_tid reached t) w
          own = own_turn t scene n reached w (others once.front work w once.before is) once.part (same_part ∙ once.known) (fits once.part once.known).0 (fits once.part once.known).1

pub begin_incarnation_goes : BeginIncarnationGoes
begin_incarnation_goes t scene n work w taken is = by work.node.is_first refl
  where
    begun : Work
    begun = with_node (λ node. record node { is_first = false }) work

    now : Stands t scene n begun w
    now = stands_left t scene n work begun w (out_leaves t work begun (record { around = record { setting = refl; waits = λ s. refl; loans = refl; past = refl }; part = refl }) refl refl) is.sound is.kinds is

    by : (b : Bool) → work.node.is_first ≡ b → GoesOn t scene n (if b then fold resume_tid begun (known_tids begun) else work) w
    by true first = subst (λ (l : List Tid). GoesOn t scene n (fold resume_tid begun l) w) (sym (all_known work.node.manager.known))
        (resumes t scene n begun w (λ part known. (taken.undecided first part known, taken.committed first part known)) now)
    by false later = stands_itself t scene n work w is
