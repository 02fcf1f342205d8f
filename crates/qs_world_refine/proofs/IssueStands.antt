-- A request of a transaction that a node runs leaves standing what stood, of this one and of every other.
use Rattle.qs_world_refine.proofs.Words.{◌≡◌, inl, ℕ, nat_lt, Bool, true, false, [], Option, Some, None, refl, sym, subst, ap, ◌∙◌, if◌then◌else◌, same_tid, ClientNo, Member, Tid, next_sent, same_node, is_for, Op, client_server, is_undecided, Outstanding, Participant, with_issued, request_as, request_command, enter_issue, with_local, issue_as, issue_here, issue_away, next_number, Work, here, part_of, with_queues, face, Scene, StaysSound, Stands, GoesOn, Goes}
use Rattle.qs_ipc.specs.Ipc as ipc
use Rattle.qs_tm.specs.Manager as tm
use Rattle.qs_tm.specs.Participant as participant
use Rattle.qs_node_step.specs.Requests.{next_local}
use Rattle.qs_world_agree.specs.World.{World}
use Rattle.qs_world_refine.specs.Steps.{Knows}
use Rattle.qs_world_refine.proofs.Alike.{SameFace}
use Rattle.qs_world_refine.proofs.Frames.{out_leaves}
use Rattle.qs_world_refine.proofs.HomeAborts.{none_is}
use Rattle.qs_world_refine.proofs.IssueOut.{away_goes}
use Rattle.qs_world_refine.proofs.Keeping.{keeps_on, keeps_goes, leaves_keeps, part_keeps}
use Rattle.qs_world_refine.proofs.KindsKept.{issue_kinds}
use Rattle.qs_world_refine.proofs.Known.{told_is}
use Rattle.qs_world_refine.proofs.PassCarried.{issue_as_carries}
use Rattle.qs_world_refine.proofs.PassGoes.{engaged}
use Rattle.qs_world_refine.proofs.RuleGoes.{issue_here as issue_here_goes}
use Rattle.qs_world_refine.proofs.SettleFrames.{issue_as_leaves}
use Rattle.qs_world_refine.proofs.SettleRules.{beside, beside_apart, stands_on, clear_carried, answers_carried}
use Rattle.qs_world_refine.proofs.SettleStands.{stands_itself, stands_left, whole_known}
use Rattle.qs_world_refine.proofs.SoundHolds.{is_open, is_held, held_is, told_part}
use Rattle.qs_world_refine.proofs.SoundIssue.{issue_as_holds}
use Rattle.qs_world_refine.proofs.SoundKnown.{same_is}
use Rattle.qs_world_refine.proofs.SoundParts.{and_both}

module _ (tid : Tid) (scene : Scene) (n : ℕ) (request : Outstanding) (op : Op) (work : Work) (w : World) (is : Stands tid scene n work w) (part : Participant) (known : part_of tid work ≡ Some part) (open_now : is_open part ≡ true)
    (in_run : nat_lt request.member.node.0 work.node.setting.nodes ≡ true) (numbered : next_number tid request.member.node work ≡ Some request.number) where
  undecided : part.outcome ≡ None
  undecided = none_is part (and_both (is_undecided part) (is_held part) open_now).0

  knows : Knows tid work part
  knows = whole_known tid scene n work w is part known

  on : (face work.node tid part).on ≡ true
  on = engaged tid work part is.sound known undecided (held_is part (and_both (is_undecided part) (is_held part) open_now).1)

  -- an operation that is not one of the member's is not put: no event
  refused : is_for request.member.server op ≡ false → Goes tid scene n (issue_here tid request op work) w
  refused its = subst (λ (k : Work). Goes tid scene n k w) (sym dropped) (keeps_goes tid scene n work issued w
      (keeps_on tid work entered issued (keeps_on tid work acted entered (leaves_keeps tid work acted (out_leaves tid work acted (record { around = record { setting = refl; waits = λ s. refl; loans = refl; past = refl }; part = refl }) refl refl))
      (part_keeps tid (participant.issued request) acted hidden))
      (leaves_keeps tid entered issued (out_leaves tid entered issued (record { around = record { setting = refl; waits = λ s. refl; loans = refl; past = refl }; part = refl }) refl refl))) is.shown)
    where
      acted : Work
      acted = Rattle.qs_node_step.specs.Bringing.enter (Rattle.qs_book_journal.specs.declared.entry.Act.TheVariants.Issue tid (Rattle.qs_node_step.specs.Bringing.member_here work request.issuer) request.member request.number op) work

      entered : Work
      entered = enter_issue tid request op work

      issued : Work
      issued = with_local tid request.number entered

      dropped : issue_here tid request op work ≡ issued
      dropped = ap (λ (b : Bool). if b then with_queues (ipc.enqueue request.member.server (record { tid = tid; from = here work; number = request.number; op = op; stale = false })) issued else issued) its

      hidden : (part : Participant) → SameFace (face acted.node tid part) (face acted.node tid (participant.issued request part))
      hidden part = record { is_home = refl; on = refl; superior = refl; last = λ m. refl; sent = λ m. refl; covered = λ m. refl; waits = λ s. refl; uncast = λ s. refl; loans = refl; asked = refl; blocked = refl; involved = refl; told = λ m. refl; outcome = refl; tell = λ m. refl }

  issues : Goes tid scene n (issue_as tid request op work) w
  issues = by (same_node request.member.node (here work)) refl
    where
      put : (b : Bool) → is_for request.member.server op ≡ b → Goes tid scene n (issue_here tid request op work) w
      put true its = issue_here_goes tid scene n request op work part w is.shown is.at knows undecided its (inl on)
      put false its = refused its

      sent_number : same_node request.member.node (here work) ≡ false → next_sent request.member.node part.engage ≡ Some request.number
      sent_number other =
          sym (told_is tid None (λ part. next_sent request.member.node part.engage) work.node.manager part known)
          ∙ (sym (ap (λ (b : Bool). if b then next_local tid work.node else tm.sent_as tid request.member.node work.node.manager) other) ∙ numbered)

      by : (b : Bool) → same_node request.member.node (here work) ≡ b → Goes tid scene n (if b then issue_here tid request op work else issue_away tid request op work) w
      by true same = put (is_for request.member.server op) refl
      by false other = away_goes tid scene n request op work part w is.at knows undecided on is.lawful is.shown in_run other (sent_number other)

  sound : StaysSound work (issue_as tid request op work)
  sound so = (issue_as_holds tid request op work in_run (so, ap (λ (o : Option Participant). elim o [ None ↦ false | Some p ↦ is_open p ]) known ∙ open_now)).0

  pub issue_stands : GoesOn tid scene n (issue_as tid request op work) w
  issue_stands = stands_on tid scene n work (issue_as tid request op work) w is issues
      (issue_as_leaves (beside tid) tid (beside_apart tid) request op work) sound (issue_kinds tid request op work)
      (clear_carried tid scene n work (issue_as tid request op work) w is part known undecided (issue_as_carries tid request op work part known))
      (answers_carried tid scene n work (issue_as tid request op work) w is part known undecided (issue_as_carries tid request op work part known))

-- ---- a command that requests

module _ (t tid : Tid) (scene : Scene) (n : ℕ) (client : ClientNo) (member : Member) (op : Op) where
  request_as_stands : (number : ℕ) (work : Work) (w : World) → nat_lt member.node.0 work.node.setting.nodes ≡ true → next_number tid member.node work ≡ Some number → tm.told_of tid false is_open work.node.manager ≡ true → Stands t scene n work w
      → GoesOn t scene n (request_as client tid member op number work) w
  request_as_stands number work w in_run numbered runs is = by (same_tid t tid) refl (part_of tid marked) refl
    where
      marked : Work
      marked = with_issued client (record { tid = tid; member = member; number = number }) work

      request : Outstanding
      request = record { issuer = client_server client; member = member; number = number; count = 0 }

      now : Stands t scene n marked w
      now = stands_left t scene n work marked w (out_leaves t work marked (record { around = record { setting = refl; waits = λ s. refl; loans = refl; past = refl }; part = refl }) refl refl) is.sound is.kinds is

      sound : StaysSound marked (issue_as tid request op marked)
      sound so = (issue_as_holds tid request op marked in_run (so, runs)).0

      by : (b : Bool) → same_tid t tid ≡ b → (o : Option Participant) → part_of tid marked ≡ o → GoesOn t scene n (issue_as tid request op marked) w
      by false apart o at = record {
        next = w;
        leads = record { events = []; run = refl };
        stands = stands_left t scene n marked (issue_as tid request op marked) w (issue_as_leaves t tid apart request op marked) (sound now.sound) (issue_kinds tid request op marked now.kinds) now;
      }
      by true same None none =
          let never : tm.told_of tid false is_open work.node.manager ≡ false = ap (λ (o : Option Participant). elim o [ None ↦ false | Some p ↦ is_open p ]) none in
          absurd (cc (never, runs))
      by true same (Some part) known = subst (λ (k : Tid). Stands k scene n marked w → GoesOn k scene n (issue_as tid request op marked) w) (sym (same_is t tid same))
          (λ own. issue_stands tid scene n request op marked w own part known (told_part is_open tid marked.node.manager part known runs) in_run numbered) now

  pub request_stands : (work : Work) (w : World) → nat_lt member.node.0 work.node.setting.nodes ≡ true → tm.told_of tid false is_open work.node.manager ≡ true → Stands t scene n work w → GoesOn t scene n (request_command client tid member op work) w
  request_stands work w in_run runs is = by (next_number tid member.node work) refl
    where
      by : (o : Option ℕ) → next_number tid member.node work ≡ o → GoesOn t scene n (elim o [ None ↦ work | Some number ↦ request_as client tid member op number work ]) w
      by None none = stands_itself t scene n work w is
      by (Some number) some = request_as_stands number work w in_run some runs is
