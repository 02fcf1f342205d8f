use Rattle.std.proofs.Common.{◌≡◌, ℕ, ap, arith, subst}
use Rattle.qs_session.specs.Seen.{SessionValue}
use Rattle.qs_cell_peers.proofs.Beginning.{AreBegun, are_sessions, begun_at, begun_more, begun_over, none_begun, size_begun}
use Rattle.qs_cell_peers.proofs.sessions.Sessions.new.Goals as goal
use Rattle.qs_cell_peers.proofs.sessions.Sessions.new.Goals.{After-loop-number, else-number-me, then-number-me+in_ok-push}

pub loop-number-init : goal.loop-number-init
loop-number-init c = rw c.new-sessions.ensures.items (none_begun c.args.me c.args.inc)

pub loop-number-preserved : goal.loop-number-preserved
loop-number-preserved c =
    elim c.if-number-me.branch [
      | then-number-me+in_ok-push w ↦ rw (w.sessions-is, w.in_ok-push.ensures.items)
          (begun_more c.args.me c.args.inc c.loop-number.number c.loop-number.sessions.items w.new.result c.loop-number.invariant w.if-number-me.true w.new.ensures)
      | else-number-me w ↦ rw w.sessions-is (begun_over c.args.me c.args.inc c.loop-number.number c.loop-number.sessions.items c.loop-number.invariant w.if-number-me.false)
    ]

all_begun : (c : After-loop-number) → AreBegun c.args.me c.args.inc c.args.nodes c.loop-number.sessions.items
all_begun c =
    let all : c.loop-number.number ≡ c.args.nodes = omega arith in
    subst (λ (k : ℕ). AreBegun c.args.me c.args.inc k c.loop-number.sessions.items) all c.loop-number.invariant

pub invariant_of-result : goal.invariant_of-result
invariant_of-result c = are_sessions c.args.me c.args.inc c.args.nodes c.loop-number.sessions.items (all_begun c) c.requires.me c.requires.nodes c.requires.inc

pub returns-clause-size : goal.returns-clause-size
returns-clause-size c = size_begun c.args.me c.args.inc c.args.nodes c.loop-number.sessions.items (all_begun (goal.at.returns-clause-size c).After-loop-number) c.requires.me

pub returns-clause-fresh : goal.returns-clause-fresh
returns-clause-fresh c = λ m peer.
    ap (λ (s : SessionValue). s.end) (begun_at c.args.me c.args.inc c.args.nodes c.loop-number.sessions.items (all_begun (goal.at.returns-clause-fresh c).After-loop-number) c.requires.me m peer)
