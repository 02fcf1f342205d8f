-- What stands of a transaction as its node finds that another one restarted, at the scene where that is known.
use Rattle.qs_world_refine.proofs.Words.{◌≡◌, ℕ, ◌<◌, ◌≤◌, ◌==◌, ◌&&◌, nat_lt, Bool, true, false, List, [], ◌∷◌, fold, refl, sym, ap, ◌∙◌, arith, if◌then◌else◌, eqb-true, NodeNo, Tid, peer_of, same_node, Participant, Work, Leads, node_no, noticed, Scene, ShowsWork, StaysSound, Stands, IsAt, listed, no_nodes, put_node, put_where, union, PeerPart, Nodes, is_abort, is_owed_by, send, name_again, IsWhole}
use Rattle.qs_tm.specs.Participant as participant
use Rattle.qs_world_agree.specs.World.{World}
use Rattle.qs_world_refine.proofs.During.{Leaves}
use Rattle.qs_world_refine.proofs.Facts.{lawful_on}
use Rattle.qs_world_refine.proofs.KindsKept.{KeepsKinds}
use Rattle.qs_world_refine.proofs.SettleRules.{beside, IsClear, Answers}
use Rattle.qs_world_refine.proofs.SettleStands.{at_same}
use Rattle.qs_engage.specs.Engage.{has_sent}
use Rattle.qs_engage.specs.Nodes.{all_nodes, drop_node}
use Rattle.qs_world_refine.proofs.Arrays.{peer_put}
use Rattle.qs_packet.specs.declared.message.Message.TheVariants as messages

module _ (t : Tid) (scene : Scene) (n m old new : ℕ) where
  abbrev later : Scene
  later = noticed scene n m new

  -- at the scene where the restart is known
  pub knows_more : old < new → scene.knows n m ≡ old → (k : ℕ) → 1 ≤ scene.knows n k → 1 ≤ later.knows n k
  knows_more less knows k some = by (n == n) (k == m)
    where
      by : (a b : Bool) → 1 ≤ (if a && b then new else scene.knows n k)
      by true true = omega (arith, less)
      by true false = some
      by false b = some

  pub stands_later : (work now : Work) (w v : World) → ((k : ℕ) → 1 ≤ scene.knows n k → 1 ≤ later.knows n k) → Stands t scene n work w → Leads w v → ShowsWork t later n now v → Leaves (beside t) work now → StaysSound work now → KeepsKinds work now
      → IsClear t scene n now → Answers t scene n now → Stands t later n now v
  stands_later work now w v more is leads shown left sound kinds clear answers =
      let at : IsAt scene n now = at_same t scene n work now left.node.around.setting is.at in
      record {
        at = record { in_run = at.in_run; up = at.up; node = at.node; nodes = at.nodes; inc = at.inc };
        home_in = is.home_in;
        sound = sound is.sound;
        kinds = kinds is.kinds;
        lawful = lawful_on w v is.lawful leads;
        shown = shown;
        clear = clear;
        superior = λ part k known has. more k (answers part k known has);
      }

-- ---- whom it drew in stays as the numbers of requests begin anew

where_same : (f g : NodeNo → Bool) → ((q : NodeNo) → g q ≡ f q) → (list : List NodeNo) (nodes : Nodes) → fold (put_where g) nodes list ≡ fold (put_where f) nodes list
where_same f g same [] nodes = refl
where_same f g same (q ∷ list) nodes = ap (λ (b : Bool). fold (put_where g) (if b then put_node nodes q else nodes) list) (same q) ∙ where_same f g same list (if f q then put_node nodes q else nodes)

module _ (t : Tid) (m : ℕ) (small : m < 16) (part : Participant) (whole : IsWhole part) where
  sent_same : (q : NodeNo) → has_sent q (participant.restarted (node_no m) part).engage ≡ has_sent q part.engage
  sent_same q = ap (λ (e : PeerPart). nat_lt 0 e.sent) (peer_put m q.0 (record (peer_of part.engage (node_no m)) { last = 0 }) part.engage (rw whole.peers small)) ∙ by (q.0 == m) refl
    where
      by : (b : Bool) → (q.0 == m) ≡ b → nat_lt 0 (if b then record (peer_of part.engage (node_no m)) { last = 0 } else peer_of part.engage (node_no q.0)).sent ≡ nat_lt 0 (peer_of part.engage (node_no q.0)).sent
      by true is = ap (λ (k : ℕ). nat_lt 0 (peer_of part.engage (node_no k)).sent) (sym (eqb-true q.0 m is))
      by false is = refl

  pub names_same : (work : Work) → name_again (node_no m) t (participant.restarted (node_no m) part) work ≡ name_again (node_no m) t part work
  names_same work = ap (λ (nodes : Nodes). if is_abort part.outcome && same_node t.home (node_no m) then send (node_no m) (messages.Told t (listed (drop_node (union nodes part.told) t.home))) work else work)
      (where_same (λ q. has_sent q part.engage) (λ q. has_sent q (participant.restarted (node_no m) part).engage) sent_same all_nodes no_nodes)
