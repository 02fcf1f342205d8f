-- A request that is issued to another node waits then: for its reply to files, to the owner at its home, or to a client that has a loan and commands nothing else.
use Rattle.qs_world_runs.proofs.Words.{◌≡◌, ◌⊎◌, inl, inr, Bool, true, false, List, [], ◌∷◌, ◌++◌, Some, refl, ap, subst, sym, if◌then◌else◌, Tid, Op, enter_issue, issue_away, issue_here, Work, Outstanding, Participant, is_engaged, part_changed, Among, IsWaiting, WaitsAt}
use Rattle.qs_node_step.specs.State.{part_of}
use Rattle.qs_tm.specs.Participant as participant
use Rattle.qs_world_runs.specs.Awaited.{HoldsIt, IssuesWait}
use Rattle.qs_world_runs.proofs.AwaitedTurns.{away_on}

among_last : {A : Type 0} (x : A) (xs : List A) → Among x (xs ++ x ∷ [])
among_last x [] = inl refl
among_last x (y ∷ xs) = inr (among_last x xs)

module _ (tid : Tid) (request : Outstanding) (op : Op) (work : Work) (part : Participant) (known : part_of tid work ≡ Some part) (open_now : part.outcome ≡ Rattle.std.proofs.Common.None) (engaged : is_engaged part ≡ true) (holds : HoldsIt tid request part work) where
  entered_waits : WaitsAt tid request.member request.number (enter_issue tid request op work).node
  entered_waits = record {
    part = participant.issued request part;
    known = part_changed tid (participant.issued request) work.node.manager part known;
    undecided = open_now;
    engaged = engaged;
    request = request;
    to_member = refl;
    numbered = refl;
    among = among_last request part.waiting;
    holds = holds;
  }

  away_waits : IsWaiting tid request.member request.number (issue_away tid request op work).node
  away_waits = by (away_on ⊥ tid request.member request.number tid request op work (inl entered_waits))
    where
      by : IsWaiting tid request.member request.number (issue_away tid request op work).node ⊎ ⊥ → IsWaiting tid request.member request.number (issue_away tid request op work).node
      by (inl w) = w
      by (inr none) = absurd none

pub issues_wait : IssuesWait
issues_wait tid request op work part known open_now engaged away holds = subst (λ (b : Bool). IsWaiting tid request.member request.number (if b then issue_here tid request op work else issue_away tid request op work).node) (sym away) (away_waits tid request op work part known open_now engaged holds)
