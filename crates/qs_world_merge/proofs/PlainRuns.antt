-- The stamp of the step that posted a message changes nothing of what its receiver does.
use Rattle.qs_world_merge.proofs.Words.{◌≡◌, ℕ, ◌==◌, ◌<◌, Bool, true, false, List, [], ◌∷◌, Option, Some, None, refl, sym, ap, subst, ◌∙◌, if◌then◌else◌, ◌&&◌, cond, is_some, not, End, Packet, answer, Among, Network, is_crash, Event, Parcel, Source, Commanded, Queues, Clock, Brought, Move, Cut, Stop, Rise, Meet, Take, cut_with, event_of, may_move, may_serve, may_step, is_later, moved, step_with, plain_packet, PacketWorld, start, AnswersOwn, AnswersOnly, IsMadeAt, LocalRun, TimedMove, answers_with, event_in, node_of, client_at, InKeyOrder, is_after, of_node, AllPut, PutBy, SourcePut, WasPut, move_key}
use Rattle.std.proofs.Common.{◌+◌, nat_lt}
use Rattle.qs_session_channels.specs.End as end
use Rattle.qs_session_channels.specs.End.{Answer, left}
use Rattle.qs_session_channels.specs.Network as network
use Rattle.qs_packet.specs.declared.message.Message.{Message}
use Rattle.qs_world_packets.specs.PacketMoves.{Step, Tick, answer_at, event_by, is_aside, received_by}
use Rattle.qs_world_merge.specs.LocalRuns.{MayLocally}
use Rattle.qs_world_merge.specs.PlainPackets.{AllPlain, AreAlike, EachPlainMergeRuns, PutPlain, SourcePlain, WasPlain, restamped, restamped_move, restamped_source}
use Rattle.qs_world_merge.proofs.OneRun.{each_merge_runs}

-- ---- an end answers and keeps the same

abbrev restamped_answer : ℕ → Answer Parcel → Answer Parcel
restamped_answer s (end.OldPeer known got) = end.OldPeer known got
restamped_answer s (end.NewPeer old new) = end.NewPeer old new
restamped_answer s (end.OldSelf mine got) = end.OldSelf mine got
restamped_answer s end.Hello = end.Hello
restamped_answer s (end.Repeat number) = end.Repeat number
restamped_answer s (end.Early number expected) = end.Early number expected
restamped_answer s (end.Message x) = end.Message (record { stamp = s; message = x.message })

answers_alike : (s : ℕ) (e : End Parcel) (p : Packet Parcel) → answer e (restamped s p) ≡ restamped_answer s (answer e p)
answers_alike s e p = by (nat_lt p.inc e.known) (nat_lt e.known p.inc) (not (p.to_inc == e.mine)) (p.number == 0) (nat_lt p.number (e.taken + 1)) (nat_lt (e.taken + 1) p.number)
  where
    by : (a b c d f g : Bool)
        → ◌≡◌ {A = Answer Parcel} (if a then end.OldPeer e.known p.inc else if b then end.NewPeer e.known p.inc else if c then end.OldSelf e.mine p.to_inc else if d then end.Hello else if f then end.Repeat p.number else if g then end.Early p.number (e.taken + 1) else end.Message (record { stamp = s; message = p.message.message }))
        (restamped_answer s (if a then end.OldPeer e.known p.inc else if b then end.NewPeer e.known p.inc else if c then end.OldSelf e.mine p.to_inc else if d then end.Hello else if f then end.Repeat p.number else if g then end.Early p.number (e.taken + 1) else end.Message p.message))
    by true b c d f g = refl
    by false true c d f g = refl
    by false false true d f g = refl
    by false false false true f g = refl
    by false false false false true g = refl
    by false false false false false true = refl
    by false false false false false false = refl

left_same : (s : ℕ) (a : Answer Parcel) (e : End Parcel) (p : Packet Parcel) → left (restamped_answer s a) e (restamped s p) ≡ left a e p
left_same s (end.OldPeer known got) e p = refl
left_same s (end.NewPeer old new) e p = refl
left_same s (end.OldSelf mine got) e p = refl
left_same s end.Hello e p = refl
left_same s (end.Repeat number) e p = refl
left_same s (end.Early number expected) e p = refl
left_same s (end.Message x) e p = refl

brought_same : (s m : ℕ) (a : Answer Parcel) → event_by m (restamped_answer s a) ≡ event_by m a
brought_same s m (end.OldPeer known got) = refl
brought_same s m (end.NewPeer old new) = refl
brought_same s m (end.OldSelf mine got) = refl
brought_same s m end.Hello = refl
brought_same s m (end.Repeat number) = refl
brought_same s m (end.Early number expected) = refl
brought_same s m (end.Message x) = refl

aside_same : (s : ℕ) (a : Answer Parcel) → is_aside (restamped_answer s a) ≡ is_aside a
aside_same s (end.OldPeer known got) = refl
aside_same s (end.NewPeer old new) = refl
aside_same s (end.OldSelf mine got) = refl
aside_same s end.Hello = refl
aside_same s (end.Repeat number) = refl
aside_same s (end.Early number expected) = refl
aside_same s (end.Message x) = refl

-- ---- and so does the world

received_same : (s : ℕ) (w : PacketWorld) (n m : ℕ) (p : Packet Parcel) → received_by w n m (restamped s p) ≡ received_by w n m p
received_same s w n m p = ap (λ (e : End Parcel). record w.network { end = network.with_at2 w.network.end n m e }) (ap (λ (a : Answer Parcel). left a (w.network.end n m) (restamped s p)) (answers_alike s (w.network.end n m) p) ∙ left_same s (answer (w.network.end n m) p) (w.network.end n m) p)

event_same : (s : ℕ) (w : PacketWorld) (n stamp : ℕ) (source : Source) → event_of w n stamp (restamped_source s source) ≡ event_of w n stamp source
event_same s w n stamp (Commanded k) = refl
event_same s w n stamp Queues = refl
event_same s w n stamp Clock = refl
event_same s w n stamp (Brought m p) = ap (λ (o : Option Event). if nat_lt p.stamp stamp then o else None) (ap (event_by m) (answers_alike s (w.network.end n m) p) ∙ brought_same s m (answer_at w n m p))

step_same : (s : ℕ) (w : PacketWorld) (n stamp free : ℕ) (source : Source) (o : Option Event) → step_with w n stamp free (restamped_source s source) o ≡ step_with w n stamp free source o
step_same s w n stamp free source None = refl
step_same s w n stamp free (Commanded k) (Some event) = refl
step_same s w n stamp free Queues (Some event) = refl
step_same s w n stamp free Clock (Some event) = refl
step_same s w n stamp free (Brought m p) (Some event) = ap with_net (received_same s w n m p)
  where
    with_net : Network Parcel → PacketWorld
    with_net net = step_with (record w { network = net }) n stamp free Clock (Some event)

moved_same : (s : ℕ) (move : Move) (w : PacketWorld) → moved (restamped_move s move) w ≡ moved move w
moved_same s (Step n stamp free source) w = ap (λ (o : Option Event). step_with w n stamp free (restamped_source s source) o) (event_same s w n stamp source) ∙ step_same s w n stamp free source (event_of w n stamp source)
moved_same s (Cut n stamp free source is_kept cause) w = ap (λ (o : Option Event). cut_with w n stamp free is_kept cause o) (event_same s w n stamp source)
moved_same s (Stop n stamp cause) w = refl
moved_same s (Rise n stamp inc) w = refl
moved_same s (Meet n stamp m p) w = ap (λ (net : Network Parcel). record (moved (Meet n stamp m p) w) { network = net }) (received_same s w n m p)
moved_same s (Take n m p) w = ap (λ (net : Network Parcel). record w { network = net }) (received_same s w n m p)
moved_same s (Tick n m stamp) w = refl

serve_same : (s : ℕ) (w : PacketWorld) (n : ℕ) (source : Source) → may_serve (w.hosts n).node (restamped_source s source) ≡ may_serve (w.hosts n).node source
serve_same s w n (Commanded k) = refl
serve_same s w n Queues = refl
serve_same s w n Clock = refl
serve_same s w n (Brought m p) = refl

may_step_same : (s : ℕ) (w : PacketWorld) (n stamp : ℕ) (source : Source) → may_step w n stamp (restamped_source s source) ≡ may_step w n stamp source
may_step_same s w n stamp source = ap (λ (o : Option Event). w.network.up n && (is_later w n stamp && (is_some o && may_serve (w.hosts n).node (restamped_source s source)))) (event_same s w n stamp source)
    ∙ ap (λ (b : Bool). w.network.up n && (is_later w n stamp && (is_some (event_of w n stamp source) && b))) (serve_same s w n source)

may_same : (s : ℕ) (move : Move) (w : PacketWorld) → may_move w (restamped_move s move) ≡ may_move w move
may_same s (Step n stamp free source) w = may_step_same s w n stamp source
may_same s (Cut n stamp free source is_kept cause) w = ap (λ (b : Bool). b && is_crash cause) (may_step_same s w n stamp source)
may_same s (Stop n stamp cause) w = refl
may_same s (Rise n stamp inc) w = refl
may_same s (Meet n stamp m p) w = refl
may_same s (Take n m p) w = ap (λ (b : Bool). w.network.up n && b) (ap is_aside (answers_alike s (w.network.end n m) p) ∙ aside_same s (answer_at w n m p))
may_same s (Tick n m stamp) w = refl

node_same : (s : ℕ) (move : Move) → node_of (restamped_move s move) ≡ node_of move
node_same s (Step n stamp free source) = refl
node_same s (Cut n stamp free source is_kept cause) = refl
node_same s (Stop n stamp cause) = refl
node_same s (Rise n stamp inc) = refl
node_same s (Meet n stamp m p) = refl
node_same s (Take n m p) = refl
node_same s (Tick n m stamp) = refl

at_same : (s at : ℕ) (move : Move) → IsMadeAt at move → IsMadeAt at (restamped_move s move)
at_same s at (Step n stamp free source) is = is
at_same s at (Cut n stamp free source is_kept cause) is = is
at_same s at (Stop n stamp cause) is = is
at_same s at (Rise n stamp inc) is = is
at_same s at (Meet n stamp m p) is = is
at_same s at (Take n m p) is = is
at_same s at (Tick n m stamp) is = is

own_same : (s : ℕ) (clients_at : ℕ → ℕ) (w : PacketWorld) (move : Move) → AnswersOwn clients_at w move → AnswersOwn clients_at w (restamped_move s move)
own_same s clients_at w (Step n stamp free source) own = subst (λ (o : Option Event). AnswersOnly clients_at n (answers_with w n free o)) (sym (event_same s w n stamp source)) own
own_same s clients_at w (Cut n stamp free source is_kept cause) own = tt
own_same s clients_at w (Stop n stamp cause) own = tt
own_same s clients_at w (Rise n stamp inc) own = tt
own_same s clients_at w (Meet n stamp m p) own = tt
own_same s clients_at w (Take n m p) own = tt
own_same s clients_at w (Tick n m stamp) own = tt

comes_same : (s : ℕ) (w : PacketWorld) (move : Move) → event_in w (restamped_move s move) ≡ event_in w move
comes_same s w (Step n stamp free source) = event_same s w n stamp source
comes_same s w (Cut n stamp free source is_kept cause) = event_same s w n stamp source
comes_same s w (Stop n stamp cause) = refl
comes_same s w (Rise n stamp inc) = refl
comes_same s w (Meet n stamp m p) = refl
comes_same s w (Take n m p) = refl
comes_same s w (Tick n m stamp) = refl

-- ---- lists of moves

abbrev restamp : ℕ → TimedMove → TimedMove
restamp s t = record t { move = restamped_move s t.move }

here_same : (s : ℕ) (clients_at : ℕ → ℕ) (n at : ℕ) (w : PacketWorld) (t : TimedMove) → MayLocally clients_at n at w t → MayLocally clients_at n at w (restamp s t)
here_same s clients_at n at w t may = record {
  of_node = node_same s t.move ∙ may.of_node;
  rises = may.rises;
  made_at = at_same s t.stamp t.move may.made_at;
  may = may_same s t.move w ∙ may.may;
  event_is = comes_same s w t.move ∙ may.event_is;
  own = own_same s clients_at w t.move may.own;
}

-- the stamp with which its message was posted, as it was put
module _ (size : ℕ) (ends : ℕ → PacketWorld) where
  abbrev source_stamp : (n : ℕ) (source : Source) → SourcePlain size ends n source → ℕ
  source_stamp n (Commanded k) put = 0
  source_stamp n Queues put = 0
  source_stamp n Clock put = 0
  source_stamp n (Brought m p) put = put.packet.message.stamp

  abbrev posted_at : (move : Move) → WasPlain size ends move → ℕ
  posted_at (Step n stamp free source) put = source_stamp n source put
  posted_at (Cut n stamp free source is_kept cause) put = source_stamp n source put
  posted_at (Stop n stamp cause) put = 0
  posted_at (Rise n stamp inc) put = 0
  posted_at (Meet n stamp m p) put = put.packet.message.stamp
  posted_at (Take n m p) put = put.packet.message.stamp
  posted_at (Tick n m stamp) put = 0

  abbrev posted_moves : (ts : List TimedMove) → AllPlain size ends ts → List TimedMove
  posted_moves [] put = []
  posted_moves (t ∷ ts) put = restamp (posted_at t.move put.0) t ∷ posted_moves ts put.1

  -- ---- the moves with these stamps

  run_posted : (clients_at : ℕ → ℕ) (n at : ℕ) (w : PacketWorld) (ts : List TimedMove) (put : AllPlain size ends ts) (new : PacketWorld) → LocalRun clients_at n at w (of_node move_key n ts) new → LocalRun clients_at n at w (of_node move_key n (posted_moves ts put)) new
  run_posted clients_at n at w [] put new run = run
  run_posted clients_at n at w (t ∷ ts) put new run = subst (λ (k : ℕ). LocalRun clients_at n at w (cond (k == n) (restamp s t ∷ of_node move_key n (posted_moves ts put.1)) (of_node move_key n (posted_moves ts put.1))) new) (sym (node_same s t.move))
      (by (node_of t.move == n) (λ later v more. run_posted clients_at n later v ts put.1 new more) run)
    where
      s : ℕ
      s = posted_at t.move put.0

      by : (b : Bool) → ((later : ℕ) (v : PacketWorld) → LocalRun clients_at n later v (of_node move_key n ts) new → LocalRun clients_at n later v (of_node move_key n (posted_moves ts put.1)) new)
          → LocalRun clients_at n at w (cond b (t ∷ of_node move_key n ts) (of_node move_key n ts)) new → LocalRun clients_at n at w (cond b (restamp s t ∷ of_node move_key n (posted_moves ts put.1)) (of_node move_key n (posted_moves ts put.1))) new
      by true rest run = (here_same s clients_at n at w t run.0, subst (λ (v : PacketWorld). LocalRun clients_at n t.stamp v (of_node move_key n (posted_moves ts put.1)) new) (sym (moved_same s t.move w)) (rest t.stamp (moved t.move w) run.1))
      by false rest run = rest at w run

  order_posted : (last : ℕ × ℕ) (ts : List TimedMove) (put : AllPlain size ends ts) → InKeyOrder move_key size last ts → InKeyOrder move_key size last (posted_moves ts put)
  order_posted last [] put order = order
  order_posted last (t ∷ ts) put order =
      subst (λ (k : ℕ). (k < size) × (is_after last t.stamp k ≡ true) × InKeyOrder move_key size (t.stamp, k) (posted_moves ts put.1)) (sym (node_same (posted_at t.move put.0) t.move)) (order.0, order.1, order_posted (move_key t) ts put.1 order.2)

  packet_is : (q p : Packet Parcel) → plain_packet q ≡ plain_packet p → q ≡ restamped q.message.stamp p
  packet_is q p same = ap (λ (r : Packet Message). record { inc = r.inc; to_inc = r.to_inc; number = r.number; ack = r.ack; stamp = r.stamp; message = record { stamp = q.message.stamp; message = r.message } }) same

  put_by : (n m : ℕ) (p : Packet Parcel) (put : PutPlain size ends n m p) → PutBy size ends n m (restamped put.packet.message.stamp p)
  put_by n m p put = (put.in_run, subst (λ (q : Packet Parcel). Among ((ends m).network.packets m n) q) (packet_is put.packet p put.same) put.among)

  source_put : (n : ℕ) (source : Source) (put : SourcePlain size ends n source) → SourcePut size ends n (restamped_source (source_stamp n source put) source)
  source_put n (Commanded k) put = tt
  source_put n Queues put = tt
  source_put n Clock put = tt
  source_put n (Brought m p) put = put_by n m p put

  was_put : (move : Move) (put : WasPlain size ends move) → WasPut size ends (restamped_move (posted_at move put) move)
  was_put (Step n stamp free source) put = source_put n source put
  was_put (Cut n stamp free source is_kept cause) put = source_put n source put
  was_put (Stop n stamp cause) put = tt
  was_put (Rise n stamp inc) put = tt
  was_put (Meet n stamp m p) put = put_by n m p put
  was_put (Take n m p) put = put_by n m p put
  was_put (Tick n m stamp) put = tt

  put_posted : (ts : List TimedMove) (put : AllPlain size ends ts) → AllPut size ends (posted_moves ts put)
  put_posted [] put = tt
  put_posted (t ∷ ts) put = (was_put t.move put.0, put_posted ts put.1)

  alike_posted : (ts : List TimedMove) (put : AllPlain size ends ts) → AreAlike ts (posted_moves ts put)
  alike_posted [] put = tt
  alike_posted (t ∷ ts) put = (refl, refl, (posted_at t.move put.0, refl), alike_posted ts put.1)

pub each_plain_merge_runs : EachPlainMergeRuns
each_plain_merge_runs o merged ends local = record {
  moves = posted_moves o.size ends merged local.put;
  alike = alike_posted o.size ends merged local.put;
  is = each_merge_runs o (posted_moves o.size ends merged local.put) ends (record {
    in_order = order_posted o.size ends (0, 0) merged local.put local.in_order;
    each = λ n in_run. run_posted o.size ends (client_at o) n 0 (start o) merged local.put (ends n) (local.each n in_run);
    put = put_posted o.size ends merged local.put;
  });
}
