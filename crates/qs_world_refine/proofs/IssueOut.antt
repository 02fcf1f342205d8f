-- A node that is engaged issues a request to another one, known or not.
use Rattle.qs_world_refine.proofs.Words.{◌≡◌, ◌≢◌, inl, ℕ, ◌<◌, ◌==◌, nat_lt, Bool, true, false, Some, None, refl, subst, arith, eqb-true, nat_tests, NodeNo, Tid, next_sent, same_node, Op, Outstanding, Participant, issue_away, Work, here, IsLawful, face, Scene, ShowsWork, IsAt, Goes, never_both}
use Rattle.qs_world_agree.specs.World.{World}
use Rattle.qs_world_refine.specs.Steps.{Knows}
use Rattle.qs_world_refine.proofs.IssueAwaits.{issue_awaits}
use Rattle.qs_world_refine.proofs.RuleGoes.{issue_away as issue_away_goes}

module _ (tid : Tid) (scene : Scene) (n : ℕ) (request : Outstanding) (op : Op) (work : Work) (part : Participant) (w : World)
    (at : IsAt scene n work) (knows : Knows tid work part) (undecided : part.outcome ≡ None) (on : (face work.node tid part).on ≡ true) (lawful : IsLawful w) (shown : ShowsWork tid scene n work w) where
  abbrev to : NodeNo
  to = request.member.node

  pub away_goes : nat_lt to.0 work.node.setting.nodes ≡ true → same_node to (here work) ≡ false → next_sent to part.engage ≡ Some request.number → Goes tid scene n (issue_away tid request op work) w
  away_goes within other numbered = by (scene.knows n to.0 == 0) refl
    where
      in_run : to.0 < scene.size
      in_run = subst (λ (k : ℕ). to.0 < k) at.nodes (grind (arith, nat_tests, within))

      apart : to.0 ≢ n
      apart e = never_both (same_node to (here work)) (rw at.node (grind (arith, nat_tests, e))) other

      by : (b : Bool) → (scene.knows n to.0 == 0) ≡ b → Goes tid scene n (issue_away tid request op work) w
      by true none = issue_awaits tid scene n to.0 request op work part w lawful shown at (record { in_run = in_run; other = apart; none = eqb-true (scene.knows n to.0) 0 none }) refl knows undecided numbered (inl on)
      by false some = issue_away_goes tid scene n to.0 (scene.knows n to.0) request op work part w lawful shown at (record { in_run = in_run; other = apart; knows = refl; some = grind (arith, nat_tests, some) }) refl knows undecided numbered (inl on)
