-- From deeds to the whole rules by which outcomes are told and taken in, inquiries are answered, and word of a restart is taken.
use Rattle.qs_world_walk.proofs.Words.{Event, Later, List, NodeNo, None, Option, Outcome, Participant, Some, Stage, Table, Tid, Work, after, false, if◌then◌else◌, inr, is_undecided, listed, not, part_of, refl, same_node, send, true, with_manager, ℕ}
use Rattle.qs_world_walk.proofs.Words.{◌&&◌, ◌≡◌}
use Rattle.qs_tm.specs.Outcomes.{is_abort, is_told_again, named_by}
use Rattle.qs_tm.specs.Participant.{is_owed_by}
use Rattle.qs_node_step.specs.Answering.{answer_known, answer_unknown, inquiry_at_home, was_committed}
use Rattle.qs_node_step.specs.Asking.{block}
use Rattle.qs_node_step.specs.Restarts.{find_gone, inquire, is_orphaned_by, name_again, notice_decided, notice_part, tell_again}
use Rattle.qs_node_step.specs.Telling.{keep_abort_told, learn, learn_unknown, names_at, take_names, take_outcome}
use Rattle.qs_world_walk.specs.May.{IsHome}
use Rattle.qs_base.specs.declared.identifiers.Outcome.TheVariants as outcomes
use Rattle.qs_ops.specs.declared.answer.Cause.TheVariants as causes
use Rattle.qs_tm.specs.Manager as tm
use Rattle.qs_packet.specs.declared.message.Message.TheVariants as messages
use Rattle.qs_node_step.specs.declared.event.Event.TheVariants as events
use Rattle.qs_world_walk.proofs.First as first
use Rattle.qs_world_walk.proofs.Shapes as shapes
use Rattle.qs_world_walk.specs.Deed as d

module _ (event : Event) (I : Stage → Work → Type 0) (k : Table event I) where
  abbrev P : Work → Type 0
  P work = I after work

  abbrev Keeps : Work → Work → Type 0
  Keeps work new = P work → P new

  -- ---- the outcome is told and taken in

  take_outcome_keeps : (peer : NodeNo) (tid : Tid) (outcome : Outcome) (work : Work) → event ≡ events.Received peer (messages.Tell tid outcome) → IsHome false tid work → Keeps work (take_outcome tid outcome work)
  take_outcome_keeps peer tid outcome work is away = shapes.elim_keeps P (part_of tid work) (learn_unknown tid outcome work) (λ part. if is_undecided part then learn tid outcome part work else work) work (unknown outcome is)
      (λ part known. shapes.if_keeps P (is_undecided part) (learn tid outcome part work) work work
      (λ free h. first.learn_logged event I k (Later false) tid outcome part (with_manager (tm.took_outcome tid outcome) work) (k (d.TakesOutcome tid outcome) tt work (away, ((peer, is), (part, record { known = known; undecided = free }))) h)) (λ over h. h))
    where
      unknown : (o : Outcome) → event ≡ events.Received peer (messages.Tell tid o) → part_of tid work ≡ None → Keeps work (learn_unknown tid o work)
      unknown outcomes.Commit is none = λ h. h
      unknown outcomes.Abort is none = k (d.KeepsAbort tid) tt work (away, ((peer, is), none))

  pub tell_keeps : (peer : NodeNo) (tid : Tid) (outcome : Outcome) (work : Work) → event ≡ events.Received peer (messages.Tell tid outcome) → IsHome false tid work → Keeps work (send peer (messages.Told tid (names_at tid outcome work)) (take_outcome tid outcome work))
  tell_keeps peer tid outcome work is away h = first.send_keeps event I k after peer (messages.Told tid (names_at tid outcome work)) (take_outcome tid outcome work) tt (take_outcome_keeps peer tid outcome work is away h)

  pub names_keeps : (peer : NodeNo) (tid : Tid) (further : List NodeNo) (work : Work) → event ≡ events.Received peer (messages.Told tid further) → IsHome true tid work → Keeps work (take_names tid further work)
  names_keeps peer tid further work is home h = first.send_each_keeps event I k after (listed (tm.new_names tid further work.node.manager)) (messages.Tell tid outcomes.Abort) (with_manager (tm.take_names tid further) work) (λ w to. tt)
      (k (d.TakesNames tid further) tt work (home, (peer, is)) h)

  pub inquiry_keeps : (peer : NodeNo) (tid : Tid) (work : Work) → event ≡ events.Received peer (messages.Inquire tid) → IsHome true tid work → Keeps work (inquiry_at_home peer tid work)
  inquiry_keeps peer tid work is home = shapes.elim_keeps P (part_of tid work) (answer_unknown peer tid work) (λ part. answer_known peer tid part.outcome work) work
      (λ none. shapes.if_keeps P (was_committed tid work.node) (send peer (messages.Tell tid outcomes.Commit) work) (send peer (messages.Tell tid outcomes.Abort) (keep_abort_told tid peer work)) work
      (λ was. first.send_keeps event I k after peer (messages.Tell tid outcomes.Commit) work tt)
      (λ was h. first.send_keeps event I k after peer (messages.Tell tid outcomes.Abort) (keep_abort_told tid peer work) tt (k (d.KeepsTold tid peer) tt work (home, (none, inr (is, was))) h)))
      (λ part known. of home part known part.outcome refl)
    where
      of : IsHome true tid work → (part : Participant) → part_of tid work ≡ Some part → (o : Option Outcome) → part.outcome ≡ o → Keeps work (answer_known peer tid o work)
      of home part known None so = k (d.AddsTold tid peer) tt work (home, (is, (part, (known, so))))
      of home part known (Some outcomes.Commit) so = first.send_keeps event I k after peer (messages.Tell tid outcomes.Commit) work tt
      of home part known (Some outcomes.Abort) so = λ h. first.send_keeps event I k after peer (messages.Tell tid outcomes.Abort) (with_manager (tm.add_tell tid peer) work) tt (k (d.AddsTell tid peer) tt work (home, (is, (part, (known, so)))) h)

  -- ---- another node restarted

  pub notice_keeps : (peer : NodeNo) (old new : ℕ) (tid : Tid) (part : Participant) (work : Work) → event ≡ events.PeerRestarted peer old new → part_of tid work ≡ Some part → Keeps work (notice_part peer old new tid part (with_manager (tm.restarted tid peer) work))
  notice_keeps peer old new tid part work is known h = of part part.outcome (k (d.Notices tid peer) tt work ((old, new, is), (part, known)) h)
    where
      seen : Work
      seen = with_manager (tm.restarted tid peer) work

      gone : (part : Participant) (w : Work) → Keeps w (find_gone peer old tid part w)
      gone part w = shapes.if_keeps P (is_owed_by peer part) (block tid (causes.Gone peer old) w) w w (λ owes. k (d.Blocks tid (causes.Gone peer old)) tt w (inr (peer, (old, new, (is, (refl, (part, owes))))))) (λ owes h. h)

      asks : (part : Participant) (w : Work) → Keeps w (inquire peer new tid part w)
      asks part w = shapes.if_keeps P (not part.engage.home && is_orphaned_by peer new tid part) (send tid.home (messages.Inquire tid) w) w w (λ is. first.send_keeps event I k after tid.home (messages.Inquire tid) w tt) (λ is h. h)

      decided : (part : Participant) (outcome : Outcome) (w : Work) → Keeps w (notice_decided peer tid outcome part w)
      decided part outcome w = shapes.if_keeps P part.engage.home (tell_again peer tid outcome part w) (name_again peer tid part w) w
          (λ is. shapes.if_keeps P (is_told_again peer part) (send peer (messages.Tell tid outcome) w) w w (λ again. first.send_keeps event I k after peer (messages.Tell tid outcome) w tt) (λ again h. h))
          (λ is. shapes.if_keeps P (is_abort part.outcome && same_node tid.home peer) (send peer (messages.Told tid (listed (named_by tid.home part))) w) w w (λ names. first.send_keeps event I k after peer (messages.Told tid (listed (named_by tid.home part))) w tt) (λ names h. h))

      of : (part : Participant) (o : Option Outcome) → Keeps seen (elim o [ None ↦ inquire peer new tid part (find_gone peer old tid part seen) | Some outcome ↦ notice_decided peer tid outcome part seen ])
      of part None h = asks part (find_gone peer old tid part seen) (gone part seen h)
      of part (Some outcome) h = decided part outcome seen h
