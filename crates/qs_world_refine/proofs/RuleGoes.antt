-- The laws of rules, each from its file.
use Rattle.qs_world_refine.proofs.Words.{◌≡◌, ℕ, Bool, true, false, List, [], Option, Some, None, refl, sym, subst, ap, ◌∙◌, if◌then◌else◌, Tid, Message, is_undecided, Participant, refusal_came, count, become_asked, enter_ask, message_came, reply_came, Work, part_of, Scene, sight_during, ShowsWork, handed, node_no, said, all_said, IsForeign, face_at, SightGoes, sight_taken, IsAt, IsToldSet, Goes}
use Rattle.qs_packet.specs.declared.message.Message.TheVariants as messages
use Rattle.qs_world_refine.specs.RuleLaws.{VotedYesGoes, CoveredGoes, IssueAwayGoes, RequestGoes, RequestHomeGoes, CloserIgnored, TellCommitGoes, AnswerSuperiorGoes, IssueHereGoes, OwnerAsksGoes, ForeignGoes, AnsweredGoes, RefusalGoes, AskVoteGoes, RecoverableGoes, VolatileGoes, ReadOnlyGoes, AgainstGoes}
use Rattle.qs_world_refine.proofs.CloserCame.{closer_goes}
use Rattle.qs_world_refine.proofs.Frames.{out_leaves}
use Rattle.qs_world_refine.proofs.IssueAway.{issue_goes}
use Rattle.qs_world_refine.proofs.IssueHere.{issue_here_goes}
use Rattle.qs_world_refine.proofs.Alike.{same_itself}
use Rattle.qs_world_refine.proofs.During.{Leaves, quiet_itself, leaves_shown, face_here, runs, meets}
use Rattle.qs_world_refine.proofs.Handing.{handed_quiet, taken_shown, head_said}
use Rattle.qs_world_refine.proofs.Keeping.{keeps_goes, nothing_goes}
use Rattle.qs_world_refine.proofs.QuietCame.{reply_keeps, refusal_shown, ask_goes, ask_came_goes}
use Rattle.qs_world_refine.proofs.OthersCame.{message_leaves}
use Rattle.qs_world_refine.proofs.RequestCame.{request_goes}
use Rattle.qs_world_refine.proofs.RequestHome.{request_home_goes}
use Rattle.qs_world_refine.proofs.Same.{tid_same}
use Rattle.qs_world_refine.proofs.SayYes.{yes_goes}
use Rattle.qs_world_refine.proofs.Taking.{ignore}
use Rattle.qs_world_refine.proofs.TellCame.{tell_goes}
use Rattle.qs_world_refine.proofs.VoteCast.{read_goes, volatile_goes, against_goes}
use Rattle.qs_world_refine.proofs.VoteWith.{vote_goes}

at_handed : (scene : Scene) (n m i : ℕ) (rest : List Message) (work : Work) → IsAt scene n work → IsAt (handed scene m i n rest) n work
at_handed scene n m i rest work at = record { in_run = at.in_run; up = at.up; node = at.node; nodes = at.nodes; inc = at.inc }

pub voted_yes : VotedYesGoes
voted_yes tid scene n m i up_to told rest work part w lawful shown at next knows undecided sets lacks home_in =
    closer_goes tid scene n m i up_to told (messages.VotedYes tid up_to told) rest work part w at next (rw (tid_same tid) refl) knows undecided sets lacks home_in shown

pub covered : CoveredGoes
covered tid scene n m i up_to rest work part w lawful shown at next knows undecided lacks home_in =
    closer_goes tid scene n m i up_to [] (messages.Covered tid up_to) rest work part w at next (rw (tid_same tid) refl) knows undecided nobody lacks home_in shown
  where
    nobody : IsToldSet tid []
    nobody k named = absurd (cc named)

pub issue_away : IssueAwayGoes
issue_away tid scene n m i request op work part w lawful shown at peer to_is knows undecided numbered may =
    issue_goes tid scene n m request op work part w at peer.in_run peer.other to_is knows undecided numbered may lawful shown i peer

pub recoverable : RecoverableGoes
recoverable tid scene n s work part w shown at knows undecided server_in may class =
    vote_goes tid scene n s work part w at knows undecided server_in may.asked may.idle may.unlent may.due class shown

pub volatile : VolatileGoes
volatile tid scene n s work part w shown at knows undecided server_in may class = volatile_goes tid scene n s work part w at knows server_in undecided may shown class

pub read_only : ReadOnlyGoes
read_only tid scene n s work part w shown at knows undecided server_in may class = read_goes tid scene n s work part w at knows server_in undecided may shown class

pub against : AgainstGoes
against tid scene n s reason work part w shown at knows undecided server_in may class = against_goes tid scene n s work part w at knows server_in undecided may shown reason class

pub request : RequestGoes
request tid scene n m i number label member issuer op rest work w lawful shown at next manager_is elsewhere home_in its whole away outcome =
    request_goes tid scene n m i number label member issuer op rest work w at next manager_is elsewhere home_in its whole away lawful shown outcome

-- ---- messages that say nothing to the machine: once they are handed up, the node takes them

pub answered : AnsweredGoes
answered tid scene n m i number member reply rest work w shown next =
    keeps_goes tid (handed scene m i n rest) n work (reply_came tid member number reply work) w (reply_keeps tid member number reply work)
    (handed_quiet tid scene n m i (messages.Answered tid member number reply) rest work w next refl shown)

pub refusal : RefusalGoes
refusal tid scene n m i cause rest work w shown at next =
    nothing_goes tid (handed scene m i n rest) n (refusal_came tid cause work) w
    (refusal_shown tid (handed scene m i n rest) n cause work w (at_handed scene n m i rest work at) (handed_quiet tid scene n m i (messages.VotedAbort tid cause) rest work w next refl shown))

pub ask_vote : AskVoteGoes
ask_vote tid scene n m i rest work w shown at next =
    ask_came_goes tid (handed scene m i n rest) n work w (at_handed scene n m i rest work at) (handed_quiet tid scene n m i (messages.AskVote tid) rest work w next refl shown) (node_no m)

pub request_home : RequestHomeGoes
request_home tid scene n m i number label member issuer op rest work part w lawful shown at next knows home free here_is its first =
    request_home_goes tid scene n m i number label member issuer op rest work part w at next knows home free here_is its first lawful shown

-- ---- what is not counted

pub ignored : CloserIgnored
ignored tid scene n m i up_to told rest work w shown at next off decided = record {
  next = turn.next;
  leads = turn.leads;
  shown = subst (λ (k : Work). ShowsWork tid (handed scene m i n rest) n k turn.next) (sym (rule_is (part_of tid work) decided))
      (taken_shown tid scene n m i (messages.VotedYes tid up_to told) rest work work turn.next next (quiet_itself tid work) ((sight_during tid scene n work).face n) turn.shown (rw (face_here tid scene n work) (same_itself (face_at work.node tid))));
}
  where
    turn : SightGoes tid (sight_taken (sight_during tid scene n work) n m i ((sight_during tid scene n work).face n) (all_said tid rest)) w
    turn = ignore tid (sight_during tid scene n work) w n m i up_to told (all_said tid rest) shown (runs tid scene n work at) (meets tid scene n m i work next.from)
        (head_said tid scene n m i (messages.VotedYes tid up_to told) rest work.out.messages next ∙ rw (tid_same tid) refl)
        (rw (face_here tid scene n work) off)

    rule_is : (o : Option Participant) → elim o [ None ↦ false | Some part ↦ is_undecided part ] ≡ false → elim o [ None ↦ work | Some part ↦ if is_undecided part then count (node_no m) tid up_to told work else work ] ≡ work
    rule_is None is = refl
    rule_is (Some part) is = ap (λ (b : Bool). if b then count (node_no m) tid up_to told work else work) is

-- ---- every other transaction

pub says_nothing : (t : Tid) (message : Message) → IsForeign t message → said t message ≡ []
says_nothing t messages.Hello apart = refl
says_nothing t (messages.Request tid label member number issuer op) apart = rw apart refl
says_nothing t (messages.Answered tid member number reply) apart = refl
says_nothing t (messages.AskVote tid) apart = refl
says_nothing t (messages.Covered tid up_to) apart = rw apart refl
says_nothing t (messages.VotedYes tid up_to told) apart = rw apart refl
says_nothing t (messages.VotedAbort tid cause) apart = refl
says_nothing t (messages.Tell tid outcome) apart = rw apart refl
says_nothing t (messages.Told tid further) apart = rw apart refl
says_nothing t (messages.Inquire tid) apart = rw apart refl

pub foreign : ForeignGoes
foreign t scene n m i message rest work w shown next apart =
    nothing_goes t (handed scene m i n rest) n (message_came (node_no m) message work) w
    (leaves_shown t (handed scene m i n rest) n work (message_came (node_no m) message work) w (message_leaves t (node_no m) message work apart)
    (handed_quiet t scene n m i message rest work w next (says_nothing t message apart) shown))

-- ---- the outcome is told

pub tell_commit : TellCommitGoes
tell_commit tid scene n m i rest work part w lawful shown at next from_home knows undecided away prepares clear =
    tell_goes tid scene n m i rest work part w at next from_home knows undecided away shown lawful prepares clear

-- ---- a node that is ready

pub answer_superior : AnswerSuperiorGoes
answer_superior tid scene n m i work part w lawful shown at peer knows undecided has elsewhere home_in ready =
    yes_goes tid scene n m i work part w at peer knows undecided has elsewhere home_in ready lawful shown

-- ---- what clients command

pub issue_here : IssueHereGoes
issue_here tid scene n request op work part w shown at knows undecided its may = issue_here_goes tid scene n request op work part w at knows undecided its may shown

pub owner_asks : OwnerAsksGoes
owner_asks tid scene n work part w shown at knows = by part.asked
  where
    entered : Leaves tid work (enter_ask tid work)
    entered = out_leaves tid work (enter_ask tid work) (record { around = record { setting = refl; waits = λ s. refl; loans = refl; past = refl }; part = refl }) refl refl

    by : (b : Bool) → Goes tid scene n (if b then work else become_asked tid part (enter_ask tid work)) w
    by true = nothing_goes tid scene n work w shown
    by false = ask_goes tid scene n (enter_ask tid work) w (record { in_run = at.in_run; up = at.up; node = at.node; nodes = at.nodes; inc = at.inc }) (leaves_shown tid scene n work (enter_ask tid work) w entered shown) part knows.known
