-- A node sends a request to another one, no incarnation of which is known: Issue_unmet.
use Rattle.qs_world_refine.proofs.Words.{◌≡◌, ℕ, ◌+◌, ◌==◌, true, arith, subst, sym, ap, ◌∙◌, nat_tests, NodeNo, Face, Requested, SightGoes, sight_waiting, sight_during, Sight, ShowsSight}
use Rattle.qs_world_agree.specs.World.{with_at}
use Rattle.qs_world_refine.specs.WaitingLaws.{IssueAwaitsGoes}
use Rattle.qs_world_refine.proofs.During.{runs}
use Rattle.qs_world_refine.proofs.IssueAway as issued
use Rattle.qs_world_refine.proofs.IssuingUnmet as event
use Rattle.qs_world_refine.proofs.Unmet.{wait_shown}

pub issue_awaits : IssueAwaitsGoes
issue_awaits tid scene n m request op work part w lawful shown at peer to_is knows undecided numbered may =
    issued.issued_goes tid scene n m request op work part w at peer.in_run peer.other to_is knows undecided numbered may lawful shown turn.next turn.leads
    (wait_shown tid scene n request.member.node (issued.message tid scene n m request op work part w at peer.in_run peer.other to_is knows undecided numbered may lawful shown) (Requested ((x.face n).sent m + 1) request.member.server.0) work
    (issued.before tid scene n m request op work part w at peer.in_run peer.other to_is knows undecided numbered may lawful shown) turn.next
    (issued.quiet tid scene n m request op work part w at peer.in_run peer.other to_is knows undecided numbered may lawful shown)
    (issued.request_said tid scene n m request op work part w at peer.in_run peer.other to_is knows undecided numbered may lawful shown) none_known sent_face
    (subst (λ (k : ℕ). ShowsSight tid (sight_waiting x n k sent_face (Requested ((x.face n).sent m + 1) request.member.server.0)) turn.next) (sym to_number) turn.shown)
    (issued.same_face tid scene n m request op work part w at peer.in_run peer.other to_is knows undecided numbered may lawful shown))
  where
    x : Sight
    x = sight_during tid scene n work

    sent_face : Face
    sent_face = record ((sight_during tid scene n work).face n) { sent = with_at ((sight_during tid scene n work).face n).sent m (((sight_during tid scene n work).face n).sent m + 1); involved = true }

    to_number : request.member.node.0 ≡ m
    to_number = ap (λ (k : NodeNo). k.0) to_is

    none_known : (scene.knows n request.member.node.0 == 0) ≡ true
    none_known = zero_is (scene.knows n request.member.node.0) (ap (λ (k : ℕ). scene.knows n k) to_number ∙ peer.none)
      where
        zero_is : (k : ℕ) → k ≡ 0 → (k == 0) ≡ true
        zero_is k is = grind (arith, nat_tests, is)

    turn : SightGoes tid (sight_waiting (sight_during tid scene n work) n m sent_face (Requested (((sight_during tid scene n work).face n).sent m + 1) request.member.server.0)) w
    turn = event.issue_unmet tid (sight_during tid scene n work) w n m request.member.server.0 lawful shown (runs tid scene n work at) peer.in_run peer.other peer.none
        (issued.may_now tid scene n m request op work part w at peer.in_run peer.other to_is knows undecided numbered may lawful shown)
