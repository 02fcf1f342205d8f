-- A message that comes leaves standing what stood of a transaction, where it is about another one, or says nothing to the machine.
use Rattle.qs_world_refine.proofs.Words.{◌≡◌, ℕ, ◌&&◌, not, nat_lt, Bool, true, false, List, [], Option, Some, None, refl, sym, subst, ap, ◌∙◌, if◌then◌else◌, is_none, is_at, tid_cmp, Member, NodeNo, Tid, uncovered, is_node, listed, same_node, Cause, Reply, Message, is_undecided, Outstanding, Participant, ask_came, asked_by, become_asked, block, refusal_came, pass_unknown, send, reply_came, take_reply, Work, here, part_of, with_manager, message_came, node_no, said, Scene, handed, StaysSound}
use Rattle.qs_world_refine.proofs.Words.{FitsMessage, Stands, GoesOn, IsAt, IsNext, Goes, ne_eqb}
use Rattle.qs_base.specs.declared.identifiers.Outcome.{Outcome}
use Rattle.qs_packet.specs.declared.message.Message.TheVariants as messages
use Rattle.qs_tm.specs.Manager as tm
use Rattle.qs_tm.specs.Participant as participant
use Rattle.qs_world_agree.specs.World.{World}
use Rattle.qs_world_refine.specs.MessageWhole.{ForeignStands, AnsweredStands, AskVoteStands, RefusalStands}
use Rattle.qs_world_refine.proofs.DecidedStands.{KeepOutcomes, outcome_itself, decided_stands}
use Rattle.qs_world_refine.proofs.During.{Leaves, leaves_itself, send_leaves}
use Rattle.qs_world_refine.proofs.Handing.{handed_quiet}
use Rattle.qs_world_refine.proofs.Keeping.{keeps_goes, nothing_goes}
use Rattle.qs_world_refine.proofs.KindsKept.{KeepsKinds}
use Rattle.qs_world_refine.proofs.Known.{undecided_is}
use Rattle.qs_world_refine.proofs.Maps.{lookup_changed}
use Rattle.qs_world_refine.proofs.MessageKinds.{message_kinds}
use Rattle.qs_world_refine.proofs.OthersCame.{message_leaves, reply_leaves, ask_leaves, refusal_leaves}
use Rattle.qs_world_refine.proofs.PassCarried.{Carries, carries_itself, carries_on, carries_each, carries_send}
use Rattle.qs_world_refine.proofs.QuietCame.{reply_keeps, refusal_shown, ask_came_goes}
use Rattle.qs_world_refine.proofs.RuleGoes.{says_nothing}
use Rattle.qs_world_refine.proofs.ServeCounts.{KeepsCounts, reply_counts}
use Rattle.qs_world_refine.proofs.SettleRules.{beside, beside_apart, stands_on, clear_carried, answers_carried}
use Rattle.qs_world_refine.proofs.SettleStands.{stands_left, at_same}
use Rattle.qs_world_refine.proofs.SoundHappen.{message_sound}
use Rattle.qs_world_refine.proofs.SoundRules.{ask_came_sound, refusal_came_sound, reply_came_sound}
use Rattle.std.proofs.lemmas.Bool.{lt-ltb}

-- ---- it is handed up, and says nothing of the transaction

handed_stands : (t : Tid) (scene : Scene) (n m i : ℕ) (message : Message) (rest : List Message) (work : Work) (w : World) → IsNext scene n m i message rest → said t message ≡ [] → Stands t scene n work w → Stands t (handed scene m i n rest) n work w
handed_stands t scene n m i message rest work w next nothing is = record {
  at = record { in_run = is.at.in_run; up = is.at.up; node = is.at.node; nodes = is.at.nodes; inc = is.at.inc };
  home_in = is.home_in;
  sound = is.sound;
  kinds = is.kinds;
  lawful = is.lawful;
  shown = handed_quiet t scene n m i message rest work w next nothing is.shown;
  clear = is.clear;
  superior = is.superior;
}

-- ---- it comes from another node of the run

pub handed_at : (t : Tid) (scene : Scene) (n m i : ℕ) (rest : List Message) (work new : Work) → Leaves (beside t) work new → IsAt scene n work → IsAt (handed scene m i n rest) n new
handed_at t scene n m i rest work new left at =
    let now : IsAt scene n new = at_same t scene n work new left.node.around.setting at in
    record { in_run = now.in_run; up = now.up; node = now.node; nodes = now.nodes; inc = now.inc }

pub fits_sound : (t : Tid) (scene : Scene) (n m i : ℕ) (message : Message) (rest : List Message) (work : Work) (w : World) → IsNext scene n m i message rest → Stands t scene n work w → FitsMessage (node_no m) message work
    → StaysSound work (message_came (node_no m) message work)
fits_sound t scene n m i message rest work w next is fits = message_sound (node_no m) message work in_run other fits
  where
    in_run : nat_lt m work.node.setting.nodes ≡ true
    in_run = rw is.at.nodes (lt-ltb m scene.size next.from.in_run)

    other : same_node (node_no m) work.node.setting.node ≡ false
    other = rw is.at.node (ne_eqb m n next.from.other)

-- ---- about another transaction

pub foreign_stands : ForeignStands
foreign_stands t scene n m i message rest work w next fits apart is = record {
  next = w;
  leads = record { events = []; run = refl };
  stands = stands_left t (handed scene m i n rest) n work (message_came (node_no m) message work) w (message_leaves t (node_no m) message work apart)
      (fits_sound t scene n m i message rest work w next is fits is.sound) (message_kinds (node_no m) message work is.kinds)
      (handed_stands t scene n m i message rest work w next (says_nothing t message apart) is);
}

-- ---- about this one: what is undecided, decided or unknown

module _ (tid : Tid) (scene : Scene) (n : ℕ) (work new : Work) (w : World) (is : Stands tid scene n work w) (goes : Goes tid scene n new w) (left : Leaves (beside tid) work new) (sound : StaysSound work new) (kinds : KeepsKinds work new) where
  whatever : (part_of tid work ≡ None → Leaves tid work new) → ((part : Participant) → part_of tid work ≡ Some part → part.outcome ≡ None → Carries tid work new) → ((part : Participant) (outcome : Outcome) → part_of tid work ≡ Some part → part.outcome ≡ Some outcome → KeepOutcomes tid work new) → GoesOn tid scene n new w
  whatever unknown undecided decided = by (part_of tid work) refl
    where
      known : (part : Participant) → part_of tid work ≡ Some part → (o : Option Outcome) → part.outcome ≡ o → GoesOn tid scene n new w
      known part at None open_now = stands_on tid scene n work new w is goes left sound kinds
          (clear_carried tid scene n work new w is part at open_now (undecided part at open_now part at)) (answers_carried tid scene n work new w is part at open_now (undecided part at open_now part at))
      known part at (Some outcome) is_decided = decided_stands tid scene n work new w is part at outcome is_decided (decided part outcome at is_decided) goes left sound kinds

      by : (o : Option Participant) → part_of tid work ≡ o → GoesOn tid scene n new w
      by None none = record { next = w; leads = record { events = []; run = refl }; stands = stands_left tid scene n work new w (unknown none) (sound is.sound) (kinds is.kinds) is }
      by (Some part) at = known part at part.outcome refl

module _ (tid : Tid) (work : Work) where
  -- a reply that comes
  reply_unknown : (member : Member) (number : ℕ) (reply : Reply) → part_of tid work ≡ None → Leaves tid work (reply_came tid member number reply work)
  reply_unknown member number reply none = subst (λ (k : Work). Leaves tid work k) (sym same) (leaves_itself tid work)
    where
      waits : (o : Option Participant) → o ≡ None → ◌≡◌ {A = Option Outstanding} (elim o [ None ↦ None | Some part ↦ participant.waiting_for member number part ]) None
      waits o is = rw is refl

      same : reply_came tid member number reply work ≡ work
      same = ap (λ (o : Option Outstanding). elim o [ None ↦ work | Some request ↦ take_reply tid reply request (with_manager (tm.drop_waiting tid member number) work) ]) (waits (part_of tid work) none)

  reply_carries : (member : Member) (number : ℕ) (reply : Reply) → Carries tid work (reply_came tid member number reply work)
  reply_carries member number reply part known =
      let counts : KeepsCounts tid work (reply_came tid member number reply work) part = reply_counts tid member number reply work part known in
      record { next = counts.next; known = counts.known; outcome = counts.outcome; superior = λ m has. sym counts.superior ∙ has; unprepared = λ off. (sym counts.prepared ∙ off, counts.records) }

  reply_outcomes : (member : Member) (number : ℕ) (reply : Reply) → KeepOutcomes tid work (reply_came tid member number reply work)
  reply_outcomes member number reply part known =
      let counts : KeepsCounts tid work (reply_came tid member number reply work) part = reply_counts tid member number reply work part known in
      record { next = counts.next; known = counts.known; outcome = counts.outcome; superior = λ m has. sym counts.superior ∙ has }

  -- it is asked to vote
  module _ (peer : NodeNo) where
    ask_unknown : part_of tid work ≡ None → Leaves tid work (ask_came peer tid work)
    ask_unknown none = subst (λ (k : Work). Leaves tid work k) (sym (ap (λ (o : Option Participant). elim o [ None ↦ work | Some part ↦ if is_undecided part then asked_by peer tid part work else work ]) none)) (leaves_itself tid work)

    ask_undecided : (part : Participant) → part_of tid work ≡ Some part → part.outcome ≡ None → Carries tid work (ask_came peer tid work)
    ask_undecided part known undecided = subst (λ (k : Work). Carries tid work k) (sym (undecided_is tid (asked_by peer tid) work part known undecided)) (by (is_node peer part.engage.superior && (not part.engage.home && not part.asked)))
      where
        asked : Work
        asked = with_manager (tm.ask tid) work

        asks : Carries tid work (with_manager (tm.ask tid) work)
        asks p at = record {
          next = participant.ask p;
          known = lookup_changed (is_at (tid_cmp tid)) participant.ask work.node.manager.known p at;
          outcome = refl;
          superior = λ m has. has;
          unprepared = λ off. (off, refl);
        }

        by : (b : Bool) → Carries tid work (if b then become_asked tid part work else work)
        by true = carries_on tid work (with_manager (tm.ask tid) work) (become_asked tid part work) asks
            (carries_each tid (λ work to. send to (messages.AskVote tid) work) (λ work to. carries_send tid to (messages.AskVote tid) work) (listed (uncovered part.engage)) (with_manager (tm.ask tid) work))
        by false = carries_itself tid work

    ask_decided : (part : Participant) (outcome : Outcome) → part_of tid work ≡ Some part → part.outcome ≡ Some outcome → KeepOutcomes tid work (ask_came peer tid work)
    ask_decided part outcome known decided = subst (λ (k : Work). KeepOutcomes tid work k) (sym same) (outcome_itself tid work)
      where
        same : ask_came peer tid work ≡ work
        same = ap (λ (o : Option Participant). elim o [ None ↦ work | Some part ↦ if is_undecided part then asked_by peer tid part work else work ]) known ∙ ap (λ (o : Option Outcome). if is_none o then asked_by peer tid part work else work) decided

  -- a refusal
  module _ (cause : Cause) where
    refusal_unknown : part_of tid work ≡ None → Leaves tid work (refusal_came tid cause work)
    refusal_unknown none = subst (λ (k : Work). Leaves tid work k) (sym (ap (λ (o : Option Participant). elim o [ None ↦ pass_unknown tid cause work | Some part ↦ if is_undecided part then block tid cause work else work ]) none)) (passed (same_node tid.home (here work)))
      where
        passed : (b : Bool) → Leaves tid work (if b then work else send tid.home (messages.VotedAbort tid cause) work)
        passed true = leaves_itself tid work
        passed false = send_leaves tid tid.home (messages.VotedAbort tid cause) work refl

    refusal_is : (part : Participant) → part_of tid work ≡ Some part → (o : Option Outcome) → part.outcome ≡ o → refusal_came tid cause work ≡ (if is_none o then block tid cause work else work)
    refusal_is part known o is = ap (λ (o : Option Participant). elim o [ None ↦ pass_unknown tid cause work | Some part ↦ if is_undecided part then block tid cause work else work ]) known ∙ ap (λ (o : Option Outcome). if is_none o then block tid cause work else work) is

    refusal_undecided : (part : Participant) → part_of tid work ≡ Some part → part.outcome ≡ None → Carries tid work (refusal_came tid cause work)
    refusal_undecided part known undecided = subst (λ (k : Work). Carries tid work k) (sym (refusal_is part known None undecided)) (λ p at. record {
      next = participant.add_cause cause (participant.refused p);
      known = lookup_changed (is_at (tid_cmp tid)) (participant.add_cause cause) (tm.refused tid work.node.manager).known (participant.refused p) (lookup_changed (is_at (tid_cmp tid)) participant.refused work.node.manager.known p at);
      outcome = refl;
      superior = λ m has. has;
      unprepared = λ off. (off, refl);
    })

    refusal_decided : (part : Participant) (outcome : Outcome) → part_of tid work ≡ Some part → part.outcome ≡ Some outcome → KeepOutcomes tid work (refusal_came tid cause work)
    refusal_decided part outcome known decided = subst (λ (k : Work). KeepOutcomes tid work k) (sym (refusal_is part known (Some outcome) decided)) (outcome_itself tid work)

-- ---- they come

pub answered_stands : AnsweredStands
answered_stands t scene n m i number member reply rest work w next is =
    let now : Stands t (handed scene m i n rest) n work w = handed_stands t scene n m i (messages.Answered t member number reply) rest work w next refl is in
    whatever t (handed scene m i n rest) n work (reply_came t member number reply work) w now
    (keeps_goes t (handed scene m i n rest) n work (reply_came t member number reply work) w (reply_keeps t member number reply work) now.shown)
    (reply_leaves (beside t) t (beside_apart t) member number reply work) (reply_came_sound t member number reply work) (message_kinds (node_no m) (messages.Answered t member number reply) work)
    (reply_unknown t work member number reply) (λ part known undecided. reply_carries t work member number reply) (λ part outcome known decided. reply_outcomes t work member number reply)

pub ask_vote_stands : AskVoteStands
ask_vote_stands t scene n m i rest work w next is =
    let now : Stands t (handed scene m i n rest) n work w = handed_stands t scene n m i (messages.AskVote t) rest work w next refl is in
    whatever t (handed scene m i n rest) n work (ask_came (node_no m) t work) w now
    (ask_came_goes t (handed scene m i n rest) n work w now.at now.shown (node_no m))
    (ask_leaves (beside t) t (beside_apart t) (node_no m) work) (ask_came_sound (node_no m) t work) (message_kinds (node_no m) (messages.AskVote t) work)
    (ask_unknown t work (node_no m)) (ask_undecided t work (node_no m)) (ask_decided t work (node_no m))

pub refusal_stands : RefusalStands
refusal_stands t scene n m i cause rest work w next is =
    let now : Stands t (handed scene m i n rest) n work w = handed_stands t scene n m i (messages.VotedAbort t cause) rest work w next refl is in
    whatever t (handed scene m i n rest) n work (refusal_came t cause work) w now
    (nothing_goes t (handed scene m i n rest) n (refusal_came t cause work) w (refusal_shown t (handed scene m i n rest) n cause work w now.at now.shown))
    (refusal_leaves (beside t) t (beside_apart t) cause work) (refusal_came_sound t cause work) (message_kinds (node_no m) (messages.VotedAbort t cause) work)
    (refusal_unknown t work cause) (refusal_undecided t work cause) (refusal_decided t work cause)
