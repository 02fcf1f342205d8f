-- A rule that changes what one server has, what the machine keeps of its member, and what the node keeps of it.
use Rattle.qs_world_lawful.proofs.Words.{◌≡◌, ℕ, ◌+◌, List, Option, Some, None, refl, sym, ap, subst, ◌∙◌, length, unwrap_or, option_map, lookup, is_at, tid_cmp, Member, NodeNo, ServerNo, Tid, changed_at_here, changed_alike, ServerValue, changes_in, Act, TransactionValue, no_part, life, life_cmp, changed_value, Life, Part, BookValue, find_transaction, inc_at, with_transaction, effect, Participant, with_server, entry_of, face_of, Holds, HoldsTid, share_of, HoldsServers, is_seen, HoldsWaits, is_idle}
use Rattle.qs_book_machine.specs.Book.{with_node}
use Rattle.qs_book_machine.specs.Nodes as machine
use Rattle.qs_tm.specs.Manager as tm
use Rattle.qs_node_step.specs.State.{NodeValue}
use Rattle.qs_world_lawful.proofs.Apart.{Apart}
use Rattle.qs_world_lawful.proofs.Faces.{part_apart, part_changed}
use Rattle.qs_world_lawful.proofs.Files.{files_apart, files_keep, idle_in}
use Rattle.qs_world_lawful.proofs.Frames.{SameState, seen, clients_on, told_of}
use Rattle.qs_world_lawful.proofs.Steps.{one_changed, servers_still, tx_seen, same_owners, changed_length}

-- what a change of one life leaves of a part, it leaves of each
pub parts_alike : {A : Type 0} (of : Part → A) (l : Life) (g : Part → Part) → ((p : Part) → of (g p) ≡ of p) → (parts : List (Life × Part)) (member : Member) (inc : ℕ)
    → of (unwrap_or (lookup (is_at (life_cmp (life member inc))) (changed_value (is_at (life_cmp l)) g parts)) no_part) ≡ of (unwrap_or (lookup (is_at (life_cmp (life member inc))) parts) no_part)
parts_alike {A} of l g keeps parts member inc = by (lookup (is_at (life_cmp (life member inc))) (changed_value (is_at (life_cmp l)) g parts)) (lookup (is_at (life_cmp (life member inc))) parts) (changed_alike (is_at (life_cmp l)) of g keeps (is_at (life_cmp (life member inc))) parts)
  where
    by : (a b : Option Part) → option_map of a ≡ option_map of b → of (unwrap_or a no_part) ≡ of (unwrap_or b no_part)
    by None None e = refl
    by None (Some y) e = absurd (cc e)
    by (Some x) None e = absurd (cc e)
    by (Some x) (Some y) e = cc e

pub inc_here : (stamp : ℕ) (book : BookValue) (node : NodeValue) → Holds stamp book node → inc_at book (record { 0 = node.setting.node.0 }) ≡ node.setting.inc
inc_here stamp book node h = ap (λ (o : Option machine.NodeValue). elim o [ None ↦ 0 | Some s ↦ s.inc ]) h.there ∙ h.same.inc

module _ (stamp : ℕ) (book : BookValue) (node : NodeValue) (server : ServerNo) (tid : Tid) (part : Participant) (tx : TransactionValue) (h : Holds stamp book node)
    (known : tm.part_of tid node.manager ≡ Some part) (found : find_transaction book tid ≡ Some tx)
    (act : Act) (f : TransactionValue → TransactionValue) (w : machine.NodeValue → machine.NodeValue) (u : ServerValue → ServerValue) (p : Participant → Participant)
    (does : effect book (entry_of node.setting.node.0 stamp act) ≡ record (with_transaction tid f (with_node node.setting.node.0 w book)) { stamp = stamp; node = node.setting.node.0; place = book.place + 1 }) where
  abbrev here : NodeNo
  here = node.setting.node

  abbrev pub member_node : NodeValue
  member_node = record node { servers = with_server server u node.servers; manager = tm.with_part tid p node.manager }

  abbrev target : BookValue
  target = record (with_transaction tid f (with_node here.0 w book)) { stamp = stamp; node = here.0; place = book.place + 1 }

  pub by_member : ((x : TransactionValue) → seen (f x) ≡ seen x) → ((s : machine.NodeValue) → SameState s (w s)) → ((q : Participant) → told_of (p q) ≡ told_of q)
      → ((t : Tid) → Apart tid t → (value : ServerValue) → length (changes_in (u value) t) ≡ length (changes_in value t))
      → HoldsTid here node.setting.inc tid (f tx) (record (face_of node tid) { known = Some (p part); changes = length (changes_in (with_server server u node.servers).files tid) })
      → ((x : TransactionValue) → (f x).crossed ≡ x.crossed)
      → HoldsServers (is_seen book here) (w h.state) (with_server server u node.servers)
      → ((t : Tid) → Apart tid t → (value : ServerValue) → share_of (u value).table t ≡ share_of value.table t)
      → HoldsWaits here node.setting.inc tid (f tx) (face_of node tid).waiting (with_server server u node.servers)
      → Holds stamp (effect book (entry_of here.0 stamp act)) member_node
  by_member keeps state told apart own uncrossed servers shares waits = subst (λ (b : BookValue). Holds stamp b member_node) (sym does)
      (one_changed stamp book target node member_node h tid f tx found refl (w h.state) (state h.state) (changed_at_here w book.nodes here.0 h.state h.there) (changed_length here.0 w book.nodes) refl refl
      (record { setting = refl; at = refl; in_inc = refl }) refl
      (λ t far. record { known = part_apart tid t p node.manager far; local = refl; changes = files_apart server u node.servers t (apart t far); loans = refl; waiting = λ s. refl })
      (subst (λ (o : Option Participant). HoldsTid here node.setting.inc tid (f tx) (record (face_of member_node tid) { known = o })) (sym (part_changed tid p node.manager part known)) own)
      (clients_on book target node member_node (tx_seen tid f keeps book target refl) (same_owners book target refl) (record { setting = refl; at = refl; in_inc = refl }) (record { commands = refl; labels = refl; outcomes = refl }) h.clients
      (λ t. changed_alike (is_at (tid_cmp tid)) told_of p told (is_at (tid_cmp t)) node.manager.known))
      (servers_still tid f uncrossed book target refl here (w h.state) (with_server server u node.servers) servers)
      (λ t far. files_keep (idle_in t) server u node.servers (λ value. ap is_idle (shares t far value))) waits)
