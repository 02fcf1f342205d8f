-- The messages of a step go, and then, where time passes, the sessions tick.
use Rattle.std.proofs.Common.{◌≡◌, ℕ, Bool, true, false, List, ◌++◌, sym, ap, subst, ◌∙◌, append-nil, arith}
use Rattle.std.specs.Prelude.{map}
use Rattle.std.specs.List.{All, filter}
use Rattle.std.proofs.lemmas.List.{map-append}
use Rattle.std.proofs.lemmas.List.Elements.{All-append, filter-append}
use Rattle.qs_base.specs.declared.identifiers.NodeNo.{NodeNo}
use Rattle.qs_session_channels.specs.End as end
use Rattle.qs_packet.specs.Grammar.{IsPacket}
use Rattle.qs_packet.specs.declared.message.Message.{Message}
use Rattle.qs_packet.specs.declared.packet.Packet.{Packet}
use Rattle.qs_node_step.specs.declared.event.Sending.{Sending}
use Rattle.qs_session.specs.Seen.{seen}
use Rattle.qs_cell_peers.specs.Peers.{goes_from, is_to}
use Rattle.qs_cell_peers.specs.Sessions.{EndAs, SessionsValue, all_sent, ends_of, is_peer_of, sent_to}
use Rattle.qs_cell_peers.specs.Steps.{Sends}
use Rattle.qs_cell_peers.specs.Ticks.{all_ticked, tick_to}
use Rattle.qs_cell_peers.proofs.Sends.{same_peers}
use Rattle.qs_cell_peers.proofs.Ticking.{all_ticked_same, tick_to_same}

-- the packets go from this node, to others of its run
abbrev GoFrom : SessionsValue → List Packet → Type 0
GoFrom sessions packets = All (λ p. goes_from sessions.size sessions.me.0 p ≡ true) packets

abbrev Went : SessionsValue → List Sending → ℕ → List Packet → Type 0
Went old sendings stamp put = (m : ℕ) → is_peer_of old m ≡ true → map seen (filter (is_to m) put) ≡ sent_to (is_peer_of old) stamp m (ends_of old) sendings

module _ (ticks : Bool) (stamp : ℕ) (sendings : List Sending) (old mid : SessionsValue) (put : List Packet)
    (ends : EndAs old (all_sent (is_peer_of old) (ends_of old) sendings) mid) (went : Went old sendings stamp put) (from : GoFrom old put) (spelled : All IsPacket put) where
  pub sends_alone : ticks ≡ false → Sends ticks stamp sendings old put mid
  sends_alone is = subst (λ (b : Bool). Sends b stamp sendings old put mid) (sym is) (record {
    ends = ends;
    packets = λ m peer. went m peer ∙ sym (append-nil (sent_to (is_peer_of old) stamp m (ends_of old) sendings));
    from = from;
    spelled = spelled;
  })

  at_old : {A : Type 0} (f : ℕ → NodeNo → A) → f mid.size mid.me ≡ f old.size old.me
  at_old f = ap (λ (k : ℕ). f k mid.me) ends.size ∙ ap (f old.size) ends.me

  its_peer : (m : ℕ) → is_peer_of old m ≡ true → is_peer_of mid m ≡ true
  its_peer m peer = ap (λ (f : ℕ → Bool). f m) (same_peers old mid ends.size ends.me) ∙ peer

  pub sends_and_ticks : ticks ≡ true → (due all : List Packet) (new : SessionsValue) → EndAs mid (all_ticked mid.size mid.me.0 (ends_of mid)) new
      → ((m : ℕ) → is_peer_of mid m ≡ true → map seen (filter (is_to m) due) ≡ tick_to mid.size mid.me.0 stamp m (ends_of mid)) → GoFrom mid due → All IsPacket due → all ≡ put ++ due
      → Sends ticks stamp sendings old all new
  sends_and_ticks is due all new ticked is_due due_from due_spelled is_all = subst (λ (b : Bool). Sends b stamp sendings old all new) (sym is) (record {
    ends = record {
      size = ticked.size ∙ ends.size;
      me = ticked.me ∙ ends.me;
      ends_are = λ m peer. ticked.ends_are m (its_peer m peer) ∙ (at_old (λ k n. all_ticked k n.0 (ends_of mid) m)
          ∙ all_ticked_same old.size old.me.0 (ends_of mid) (all_sent (is_peer_of old) (ends_of old) sendings) ends.ends_are old.size (omega arith) m peer);
    };
    packets = λ m peer. ap (λ (l : List Packet). map seen (filter (is_to m) l)) is_all
        ∙ (ap (map seen) (filter-append (is_to m) put due)
        ∙ (map-append seen (filter (is_to m) put) (filter (is_to m) due)
        ∙ (ap (λ (l : List (end.Packet Message)). l ++ map seen (filter (is_to m) due)) (went m peer)
        ∙ ap (λ (l : List (end.Packet Message)). sent_to (is_peer_of old) stamp m (ends_of old) sendings ++ l)
        (is_due m (its_peer m peer) ∙ (at_old (λ k n. tick_to k n.0 stamp m (ends_of mid))
        ∙ tick_to_same old.size old.me.0 (ends_of mid) (all_sent (is_peer_of old) (ends_of old) sendings) ends.ends_are stamp m old.size (omega arith))))));
    from = subst (GoFrom old) (sym is_all) (All-append (λ p. goes_from old.size old.me.0 p ≡ true) put due from (subst (λ (f : Packet → Bool). All (λ p. f p ≡ true) due) (at_old (λ k n. goes_from k n.0)) due_from));
    spelled = subst (All IsPacket) (sym is_all) (All-append IsPacket put due spelled due_spelled);
  })
