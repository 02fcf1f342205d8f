-- What deeds and whole rules keep is kept as outcomes are told and taken in, as inquiries are answered, and as other nodes restart.
use Rattle.qs_world_walk.proofs.Words.{Bool, Event, List, NodeNo, None, Option, Outcome, Participant, Some, Stage, Tid, Whole, Work, after, before, false, here, inl, part_of, refl, same_node, send, true, with_manager, with_queues, ℕ, ◌≡◌}
use Rattle.std.specs.List.{list_any}
use Rattle.qs_node_step.specs.Answering.{inquiry_at_home, inquiry_came}
use Rattle.qs_node_step.specs.Restarts.{notice_part, notice_tid, peer_restarted}
use Rattle.qs_node_step.specs.Telling.{end_told, is_other_node, keep_abort_told, names_at, take_names, take_outcome, tell_came, told_at_home, told_came, told_known, told_unknown}
use Rattle.qs_world_walk.specs.May.{IsHome}
use Rattle.qs_base.specs.declared.identifiers.Outcome.TheVariants as outcomes
use Rattle.qs_ipc.specs.Ipc as ipc
use Rattle.qs_tm.specs.Manager as tm
use Rattle.qs_packet.specs.declared.message.Message.TheVariants as messages
use Rattle.qs_node_step.specs.declared.event.Event.TheVariants as events
use Rattle.qs_world_walk.proofs.Shapes as shapes
use Rattle.qs_world_walk.specs.Deed as d

module _ (event : Event) (I : Stage → Work → Type 0) (r : Whole event I) where
  abbrev P : Work → Type 0
  P work = I after work

  abbrev Keeps : Work → Work → Type 0
  Keeps work new = P work → P new

  pub tell_keeps : (peer : NodeNo) (tid : Tid) (outcome : Outcome) (work : Work) → event ≡ events.Received peer (messages.Tell tid outcome) → Keeps work (tell_came peer tid outcome work)
  tell_keeps peer tid outcome work is = shapes.if_keeps P (same_node tid.home (here work)) work (send peer (messages.Told tid (names_at tid outcome work)) (take_outcome tid outcome work)) work (λ home h. h) (r.tells peer tid outcome work is)

  pub told_keeps : (peer : NodeNo) (tid : Tid) (further : List NodeNo) (work : Work) → event ≡ events.Received peer (messages.Told tid further) → Keeps work (told_came peer tid further work)
  told_keeps peer tid further work is = shapes.if_keeps P (same_node tid.home (here work)) (told_at_home peer tid further work) work work
      (λ home. shapes.elim_keeps P (part_of tid work) (told_unknown peer tid further work) (λ part. told_known peer tid further part.outcome work) work
      (λ none. shapes.if_keeps P (list_any (is_other_node tid) further) (take_names tid further (keep_abort_told tid peer work)) work work
      (λ others h. r.names peer tid further (keep_abort_told tid peer work) is home (r.does (d.KeepsTold tid peer) tt work tt (home, (none, inl (further, (is, others)))) h)) (λ others h. h))
      (λ part known. of home part known part.outcome refl)) (λ away h. h)
    where
      ended : IsHome true tid work → (part : Participant) → part_of tid work ≡ Some part → part.outcome ≡ Some outcomes.Commit → (b : Bool) → tm.all_acknowledged tid peer work.node.manager ≡ b → Keeps work (end_told b tid (with_manager (tm.acknowledged tid peer) work))
      ended home part known commits false all = r.does (d.Acknowledges tid peer) tt work tt (home, ((further, is), ((part, (known, commits)), all)))
      ended home part known commits true all = r.does (d.EndsCommit tid peer) tt work tt (home, ((further, is), ((part, (known, commits)), all)))

      of : IsHome true tid work → (part : Participant) → part_of tid work ≡ Some part → (o : Option Outcome) → part.outcome ≡ o → Keeps work (told_known peer tid further o work)
      of home part known None so = λ h. h
      of home part known (Some outcomes.Commit) so = ended home part known so (tm.all_acknowledged tid peer work.node.manager) refl
      of home part known (Some outcomes.Abort) so = r.names peer tid further work is home

  pub inquiry_keeps : (peer : NodeNo) (tid : Tid) (work : Work) → event ≡ events.Received peer (messages.Inquire tid) → Keeps work (inquiry_came peer tid work)
  inquiry_keeps peer tid work is = shapes.if_keeps P (same_node tid.home (here work)) (inquiry_at_home peer tid work) work work (r.inquired peer tid work is) (λ away h. h)

  notice_keeps : (peer : NodeNo) (old new : ℕ) → event ≡ events.PeerRestarted peer old new → (work : Work) (tid : Tid) → Keeps work (notice_tid peer old new work tid)
  notice_keeps peer old new is work tid = shapes.elim_keeps P (part_of tid work) work (λ part. notice_part peer old new tid part (with_manager (tm.restarted tid peer) work)) work (λ none h. h) (λ part known. r.notices peer old new tid part work is known)

  pub peer_restarted_keeps : (peer : NodeNo) (old new : ℕ) (work : Work) → event ≡ events.PeerRestarted peer old new → I before work → P (peer_restarted peer old new work)
  peer_restarted_keeps peer old new work is h = shapes.fold_keeps P (notice_tid peer old new) (notice_keeps peer old new is) (tm.concerned peer work.node.manager) (with_queues (ipc.mark_queues peer) work) (r.does (d.Stales peer) tt work tt (old, new, is) h)
