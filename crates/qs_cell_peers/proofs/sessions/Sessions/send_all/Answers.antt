use Rattle.std.proofs.Common.{◌≡◌, ◌<◌, ℕ, Bool, List, [], ◌∷◌, ◌++◌, ap, arith, length, subst, sym, take, drop, ◌+◌, ◌∙◌, Result, Err}
use Rattle.std.proofs.lemmas.List.{drop_more, take_all, take-append-drop, take_more}
use Rattle.std.specs.Prelude.{IsErrAnd}
use Rattle.qs_base.specs.declared.memory.GrowFault.{GrowFault}
use Rattle.qs_packet.specs.declared.packet.Packet.{Packet}
use Rattle.qs_node_step.specs.declared.event.Sending.{Sending}
use Rattle.qs_cell_peers.specs.Sessions.{ends_of, is_peer_of}
use Rattle.qs_cell_peers.proofs.Sends.{AllGiven, HasSent, lacks_here, lacks_none, more_given, more_go, more_sent, same_peers, still_go}
use Rattle.qs_cell_peers.proofs.sessions.Sessions.send_all.Goals as goal

pub loop-sending-preserved : goal.loop-sending-preserved
loop-sending-preserved c =
    let old = c.args.self.now in
    let mid = c.loop-sending.self in
    let so_far = c.loop-sending.invariant in
    let at = c.loop-sending.sending-index in
    let lt : at < length c.args.sendings.now = omega arith in
    let ys = take at c.args.sendings.now in
    let s = c.sending-item.result in
    subst (λ (l : List Sending). HasSent c.args.stamp l old c.send_one.new.packets c.send_one.new.self)
    (sym (take_more c.args.sendings.now at s lt ∙ ap (λ (x : Sending). take at c.args.sendings.now ++ x ∷ []) (sym c.sending-item.is)))
    (record {
      ends = more_sent old mid ys s so_far.ends c.send_one.new.self c.in_ok-send_one.ensures.ends;
      packets = λ m peer. more_go old mid ys s so_far.ends c.args.stamp m _ _ peer (so_far.packets m peer)
          (c.in_ok-send_one.ensures.packets m (ap (λ (f : ℕ → Bool). f m) (same_peers old mid so_far.ends.size so_far.ends.me) ∙ peer));
      from = still_go old mid c.loop-sending.packets c.send_one.new.packets so_far.ends.size so_far.ends.me c.in_ok-send_one.ensures.from so_far.from;
      spelled = c.in_ok-send_one.ensures.spelled so_far.spelled;
      given = more_given old mid ys s so_far.ends so_far.given c.in_ok-send_one.ensures.enough;
    })

pub returns-clause-enough : goal.returns-clause-enough
returns-clause-enough c =
    let all = take_all c.loop-sending.sending-index c.args.sendings.now (omega arith) in
    lacks_none c.args.self.now c.args.sendings.now (subst (λ (l : List Sending). AllGiven (is_peer_of c.args.self.now) (ends_of c.args.self.now) l) all c.loop-sending.invariant.given)

pub returns-in_err-send_one-clause-last : goal.returns-in_err-send_one-clause-last
returns-in_err-send_one-clause-last c = λ value is.
    let at = c.loop-sending.sending-index in
    let s = c.sending-item.result in
    let all = c.args.sendings.now in
    let lt : at < length all = omega arith in
    let split : all ≡ take at all ++ s ∷ drop (at + 1) all = sym (take-append-drop at all) ∙ ap (λ (l : List Sending). take at all ++ l) (drop_more all at s lt ∙ ap (λ (x : Sending). x ∷ drop (at + 1) all) (sym c.sending-item.is)) in
    let one = c.send_one.ensures.last value (c.in_err-send_one.was ∙ ap Err (sym (subst (λ (r : Result (List Packet) GrowFault). IsErrAnd r (λ (e : GrowFault). e ≡ c.in_err-send_one.field-0.0)) is c.from_residual.ensures.1))) in
    (one.0, lacks_here c.args.self.now c.loop-sending.self (take at all) (drop (at + 1) all) all s c.loop-sending.invariant.ends split one.1 one.2)
