-- A node stays sound where a client, or files that owe a note, issue a request.
use Rattle.qs_world_refine.proofs.Words.{◌≡◌, ℕ, ◌+◌, ◌==◌, ◌&&◌, ◌||◌, not, nat_lt, Bool, true, false, Option, Some, None, refl, sym, ap, subst, ◌∙◌, if◌then◌else◌, Member, ServerNo, Tid, peer_of, with_peer, last_number, same_node, is_for, Delivery, Op, is_abort, is_undecided, Outstanding, Participant, send, next_number, enter_issue, with_local, issue_here, issue_away, issue_as, issue, ask_on, is_asked, label_of, NodeValue, Work, here, part_of, with_manager, with_queues, is_sound, may_be_served}
use Rattle.qs_world_refine.proofs.Words.{or_left}
use Rattle.qs_ipc.specs.Ipc as ipc
use Rattle.qs_packet.specs.declared.message.Message.TheVariants as messages
use Rattle.qs_tm.specs.Manager as tm
use Rattle.qs_tm.specs.Participant as participant
use Rattle.qs_world_refine.proofs.SoundParts.{and_both, both_and}
use Rattle.qs_world_refine.proofs.SoundRules.{send_node}
use Rattle.qs_world_refine.proofs.SoundSent.{issue_away_sound}
use Rattle.qs_world_refine.proofs.SoundHolds.{Holds, holds_step, told_with, told_part, is_open, open_held}
use Rattle.qs_world_refine.proofs.SoundQueued.{enqueue_sound}
use Rattle.qs_world_refine.proofs.SoundViews.{is_apart, seen}

abbrev pub StaysOpen : Tid → Work → Work → Type 0
StaysOpen tid work new = Holds is_open tid work.node → Holds is_open tid new.node

module _ (tid : Tid) (request : Outstanding) (op : Op) where
  issued_holds : (work : Work) → Holds is_open tid work.node → Holds is_open tid (enter_issue tid request op work).node
  issued_holds work holds = holds_step is_open is_open tid (participant.issued request) work.node (λ part is s. (refl, (is, s))) holds

  -- to a server of this node
  pub issue_here_holds : (work : Work) → Holds is_open tid work.node → Holds is_open tid (issue_here tid request op work).node
  issue_here_holds work holds = (by (is_for request.member.server op) refl (part_of tid issued) refl, kept (is_for request.member.server op))
    where
      issued : Work
      issued = with_local tid request.number (enter_issue tid request op work)

      now : Holds is_open tid issued.node
      now = issued_holds work holds

      delivery : Delivery
      delivery = record { tid = tid; from = here work; number = request.number; op = op; stale = false }

      own : nat_lt work.node.setting.node.0 work.node.setting.nodes ≡ true
      own = (and_both (nat_lt work.node.setting.node.0 work.node.setting.nodes) _ (and_both (nat_lt work.node.setting.node.0 work.node.setting.nodes && _) _ (seen work.node holds.0).fits).0).0

      kept : (b : Bool) → tm.told_of tid false is_open (if b then with_queues (ipc.enqueue request.member.server delivery) issued else issued).node.manager ≡ true
      kept true = now.1
      kept false = now.1

      served : (part : Participant) → part_of tid issued ≡ Some part → is_open part ≡ true → may_be_served issued.node tid ≡ true
      served part known is = ap (λ (o : Option Participant). elim o [ None ↦ false | Some p ↦ is_undecided p || is_abort p.outcome ]) known
          ∙ or_left (is_undecided part) (is_abort part.outcome) (and_both (is_undecided part) (not (is_apart part)) is).0

      by : (b : Bool) → is_for request.member.server op ≡ b → (o : Option Participant) → part_of tid issued ≡ o → is_sound (if b then with_queues (ipc.enqueue request.member.server delivery) issued else issued).node ≡ true
      by false its o at = now.0
      by true its None none =
          let never : tm.told_of tid false is_open issued.node.manager ≡ false = ap (λ (o : Option Participant). elim o [ None ↦ false | Some p ↦ is_open p ]) none in
          let is : tm.told_of tid false is_open issued.node.manager ≡ true = now.1 in
          absurd (cc (never, is))
      by true its (Some part) known =
          let is : is_open part ≡ true = told_part is_open tid issued.node.manager part known now.1 in
          enqueue_sound request.member.server delivery issued.node part known (open_held part is)
          (both_and (is_for request.member.server op) _ its (both_and (may_be_served issued.node tid) (nat_lt work.node.setting.node.0 work.node.setting.nodes) (served part known is) own)) now.0

  -- to another node
  sent_open : (part : Participant) → is_open (participant.sent request.member.node part) ≡ is_open part
  sent_open part = by ((peer_of part.engage request.member.node).sent == last_number)
    where
      by : (b : Bool) → is_open (record part { engage = if b then part.engage else with_peer request.member.node (record (peer_of part.engage request.member.node) { sent = (peer_of part.engage request.member.node).sent + 1 }) part.engage; involved = true }) ≡ is_open part
      by true = refl
      by false = refl

  pub issue_away_holds : (work : Work) → nat_lt request.member.node.0 work.node.setting.nodes ≡ true → same_node request.member.node work.node.setting.node ≡ false
      → Holds is_open tid work.node → Holds is_open tid (issue_away tid request op work).node
  issue_away_holds work in_run other holds = (issue_away_sound tid request op work in_run other holds.0, asked (is_asked tid work))
    where
      sent : Work
      sent = with_manager (tm.sent tid request.member.node) (enter_issue tid request op work)

      posted : Work
      posted = send request.member.node (messages.Request tid (label_of tid work.node) request.member request.number request.issuer op) sent

      open_sent : tm.told_of tid false is_open sent.node.manager ≡ true
      open_sent = told_with tid false is_open (participant.sent request.member.node) (enter_issue tid request op work).node.manager
          ∙ (same ∙ (issued_holds work holds).1)
        where
          same : tm.told_of tid false (λ p. is_open (participant.sent request.member.node p)) (enter_issue tid request op work).node.manager ≡ tm.told_of tid false is_open (enter_issue tid request op work).node.manager
          same = by (tm.part_of tid (enter_issue tid request op work).node.manager)
            where
              by : (o : Option Participant) → ◌≡◌ {A = Bool} (elim o [ None ↦ false | Some p ↦ is_open (participant.sent request.member.node p) ]) (elim o [ None ↦ false | Some p ↦ is_open p ])
              by None = refl
              by (Some p) = sent_open p

      open_posted : tm.told_of tid false is_open posted.node.manager ≡ true
      open_posted = subst (λ (n : NodeValue). tm.told_of tid false is_open n.manager ≡ true) (sym (send_node request.member.node (messages.Request tid (label_of tid work.node) request.member request.number request.issuer op) sent)) open_sent

      asked : (b : Bool) → tm.told_of tid false is_open (ask_on b tid request.member.node posted).node.manager ≡ true
      asked true = subst (λ (n : NodeValue). tm.told_of tid false is_open n.manager ≡ true) (sym (send_node request.member.node (messages.AskVote tid) posted)) open_posted
      asked false = open_posted

  pub issue_as_holds : (work : Work) → nat_lt request.member.node.0 work.node.setting.nodes ≡ true → Holds is_open tid work.node → Holds is_open tid (issue_as tid request op work).node
  issue_as_holds work in_run holds = by (same_node request.member.node (here work)) refl
    where
      by : (b : Bool) → same_node request.member.node (here work) ≡ b → Holds is_open tid (if b then issue_here tid request op work else issue_away tid request op work).node
      by true its = issue_here_holds work holds
      by false other = issue_away_holds work in_run other holds

pub issue_holds : (tid : Tid) (issuer : ServerNo) (member : Member) (op : Op) (count : ℕ) (work : Work) → nat_lt member.node.0 work.node.setting.nodes ≡ true
    → Holds is_open tid work.node → Holds is_open tid (issue tid issuer member op count work).node
issue_holds tid issuer member op count work in_run = by (next_number tid member.node work)
  where
    by : (o : Option ℕ) → StaysOpen tid work (elim o [ None ↦ work | Some number ↦ issue_as tid (record { issuer = issuer; member = member; number = number; count = count }) op work ])
    by None holds = holds
    by (Some number) holds = issue_as_holds tid (record { issuer = issuer; member = member; number = number; count = count }) op work in_run holds
