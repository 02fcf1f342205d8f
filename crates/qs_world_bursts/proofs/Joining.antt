-- Where the threads have joined, each link stands between the traces of its two nodes as before: what was popped from a ring had been pushed there, and is named so.
use Rattle.std.proofs.Common.{◌≡◌, ◌≢◌, refl, sym, ℕ, ◌<◌, true, List, [], ◌++◌, drop, length}
use Rattle.std.specs.Prelude.{All}
use Rattle.std.specs.List.{flat_map}
use Rattle.std.proofs.lemmas.List.Elements.{All-filter}
use Rattle.qs_cell.specs.Hearing.{Post}
use Rattle.qs_cell_peers.proofs.Places.{is_peer_from, peer_is}
use Rattle.qs_cell_peers.specs.Links.{into_of, out_of}
use Rattle.qs_cell_peers.specs.Peers.{is_peer, is_to}
use Rattle.qs_link.specs.Lane.{DrawValue}
use Rattle.qs_link.specs.Planned.{PutAll}
use Rattle.qs_link.specs.declared.outgoing.LinkFault.{LinkFault}
use Rattle.qs_packet.specs.declared.packet.Packet.{Packet}
use Rattle.rtrb.specs.Ring.{received, sent}
use Rattle.qs_world_bursts.specs.Telling.{AreFifo, ComeNamed, TellsOfActs, ToldAfterActs}
use Rattle.qs_world_links.proofs.Ends.{all_front}
use Rattle.qs_world_links.proofs.Linked.{link_same}
use Rattle.qs_world_links.proofs.Linking.{each_link_goes_on, each_link_is_named}
use Rattle.qs_world_links.specs.Between.{Goes, IsFrom, IsLinkOf}
use Rattle.qs_world_links.specs.Everywhere.{LinksAreTold}
use Rattle.qs_world_links.specs.Posts.{trace_in}
use Rattle.qs_world_traces.specs.Links.{put_to, puts_of}

module _ {D : Type 0} (nodes : ℕ) (plans : ℕ → ℕ → List LinkFault) (old new : ℕ → Post D) (tells : (n : ℕ) → n < nodes → TellsOfActs nodes n (old n) (new n)) (fifo : AreFifo nodes new) (linked : LinksAreTold nodes plans old) where
  -- of the link from node m to node n
  module _ (m n : ℕ) (low_m : m < nodes) (low_n : n < nodes) (apart : m ≢ n) where
    abbrev sender : TellsOfActs nodes m (old m) (new m)
    sender = tells m low_m

    abbrev receiver : TellsOfActs nodes n (old n) (new n)
    receiver = tells n low_n

    from : All (IsFrom m) (put_to n sender.steps)
    from = All-filter (is_to n) (IsFrom m) (flat_map puts_of sender.steps) sender.from

    put : PutAll (put_to n sender.steps) (out_of (old m).links n) (out_of (new m).links n)
    put = sender.put n (is_peer_from nodes m n low_n (λ same. apart (sym same)))

    peer : is_peer nodes n m ≡ true
    peer = is_peer_from nodes n m low_m apart

    -- its receiving end with all that came, before any of it was taken
    abbrev came : DrawValue Packet
    came = record { ring = (into_of (new n).links m).ring; inbox = (into_of (old n).links m).inbox ++ receiver.on m }

    untaken : IsLinkOf (plans m n) m n (trace_in (old m) ++ sender.steps) (trace_in (old n) ++ []) (out_of (new m).links n) came
    untaken = each_link_goes_on (plans m n) m n (trace_in (old m)) sender.steps (trace_in (old n)) [] (out_of (old m).links n) (out_of (new m).links n) (into_of (old n).links m) came
        (linked.links m n low_m low_n apart) from put
        (record { on = receiver.on m; inbox = refl; received = receiver.received m peer; ring = receiver.ring m peer }) (fifo m n low_m low_n apart)

    named : All (Goes m n) ((into_of (old n).links m).inbox ++ receiver.on m)
    named = all_front (Goes m n) came.inbox (drop (length (received came.ring)) (sent (out_of (new m).links n).feed.ring))
        (all_front (Goes m n) (came.inbox ++ drop (length (received came.ring)) (sent (out_of (new m).links n).feed.ring)) (out_of (new m).links n).feed.outbox
        (each_link_is_named (plans m n) m n (trace_in (old m) ++ sender.steps) (trace_in (old n) ++ []) (out_of (new m).links n) came untaken))

  come_named : (n : ℕ) (low : n < nodes) → ComeNamed nodes n (old n).links (tells n low).on
  come_named n low m other = named m n (peer_is nodes n m other).0 low (peer_is nodes n m other).1

  each_link : (m n : ℕ) → m < nodes → n < nodes → m ≢ n → IsLinkOf (plans m n) m n (trace_in (new m)) (trace_in (new n)) (out_of (new m).links n) (into_of (new n).links m)
  each_link m n low_m low_n apart =
      link_same (plans m n) m n (trace_in (old m) ++ (sender m n low_m low_n apart).steps) (trace_in (new m)) (trace_in (old n) ++ (receiver m n low_m low_n apart).steps) (trace_in (new n))
      (out_of (new m).links n) (out_of (new m).links n) (into_of (new n).links m) (into_of (new n).links m) (sender m n low_m low_n apart).trace (receiver m n low_m low_n apart).trace refl refl
      (each_link_goes_on (plans m n) m n (trace_in (old m)) (sender m n low_m low_n apart).steps (trace_in (old n)) (receiver m n low_m low_n apart).steps
      (out_of (old m).links n) (out_of (new m).links n) (into_of (old n).links m) (into_of (new n).links m)
      (linked.links m n low_m low_n apart) (from m n low_m low_n apart) (put m n low_m low_n apart)
      (record {
        on = (receiver m n low_m low_n apart).on m;
        inbox = (receiver m n low_m low_n apart).took (come_named n low_n) m (peer m n low_m low_n apart);
        received = (receiver m n low_m low_n apart).received m (peer m n low_m low_n apart);
        ring = (receiver m n low_m low_n apart).ring m (peer m n low_m low_n apart);
      }) (fifo m n low_m low_n apart))

pub each_joined : {D : Type 0} (nodes : ℕ) (plans : ℕ → ℕ → List LinkFault) (old new : ℕ → Post D) → ToldAfterActs nodes plans old new
each_joined nodes plans old new tells fifo linked = record { of = λ n low. (tells n low).post; links = each_link nodes plans old new tells fifo linked }
