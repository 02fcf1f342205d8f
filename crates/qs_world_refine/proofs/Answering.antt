-- A node that is ready answers its superior, whether that has restarted since or not.
use Rattle.qs_world_refine.proofs.Words.{◌≡◌, ◌≢◌, ◌==◌, Bool, true, false, refl, sym, ap, ◌∙◌, eqb-true, eqb-false, place, SightGoes, sight_agreed}
use Rattle.qs_world_refine.specs.EventLaws.{AnswerGoes}
use Rattle.qs_world_refine.proofs.AgreeingLost as lost
use Rattle.qs_world_refine.proofs.Around.{known_is}
use Rattle.qs_world_refine.proofs.EventGoes.{agree}
use Rattle.qs_world_refine.proofs.Facts.{invariant}

pub answer : AnswerGoes
answer tid x w n m i told lawful shown at peer away not_home ready superior names =
    by (w.peer (place n (x.inc n)) (w.superior (place n (x.inc n))) == w.engager (place n (x.inc n))) refl
  where
    superior_is : w.superior (place n (x.inc n)) ≡ m
    superior_is = (shown.faces n at.in_run at.up).superior ready.on away ∙ superior

    peer_is : w.peer (place n (x.inc n)) (w.superior (place n (x.inc n))) ≡ place m i
    peer_is = ap (w.peer (place n (x.inc n))) superior_is ∙ (shown.stage.peers n m at.in_run peer.in_run at.up ∙ rw peer.knows (known_is m i peer.some))

    by : (b : Bool) → (w.peer (place n (x.inc n)) (w.superior (place n (x.inc n))) == w.engager (place n (x.inc n))) ≡ b → SightGoes tid (sight_agreed x n m i told) w
    by true is = agree tid x w n m i told lawful shown at peer away not_home ready superior (sym (eqb-true (w.peer (place n (x.inc n)) (w.superior (place n (x.inc n)))) (w.engager (place n (x.inc n))) is) ∙ peer_is) names
    by false is = record {
      next = lost.after_lost (place n (x.inc n)) w;
      leads = lost.leads tid x w n m i told shown at.in_run peer.in_run at.up peer.knows peer.some away not_home ready superior restarted names ((invariant w lawful).counts.covered_sent (place n (x.inc n)));
      shown = lost.after tid x w n m i told shown at.in_run peer.in_run at.up peer.knows peer.some away not_home ready superior restarted names ((invariant w lawful).counts.covered_sent (place n (x.inc n)));
    }
      where
        restarted : w.peer (place n (x.inc n)) (w.superior (place n (x.inc n))) ≢ w.engager (place n (x.inc n))
        restarted e = eqb-false (w.peer (place n (x.inc n)) (w.superior (place n (x.inc n)))) (w.engager (place n (x.inc n))) is e
