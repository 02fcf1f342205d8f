-- What is said of a sound node, part by part, so that a rule proves only the part that it changes.
use Rattle.qs_world_refine.proofs.Words.{◌≡◌, ◌&&◌, not, Bool, true, refl, list_all, Tid, same_node, is_undecided, Participant, NodeValue, is_sound, fits_setting, in_order, is_sound_part, is_sound_queue, is_sound_loan, is_sound_label, where_so, same_flag, is_whole, is_sound_peer, is_sound_member, is_sound_superior, is_engaged, is_sound_home, tells_nobody}
use Rattle.qs_engage.specs.Nodes.{all_nodes, has_node}
use Rattle.qs_tm.specs.Members.{all_servers}
use Rattle.qs_world_refine.specs.Sound.{is_idle, is_sound_log}
use Rattle.qs_world_refine.proofs.SoundParts.{and_both}

-- ---- a node

pub record NodeTests (a b c d e f : Bool) : Type 0 where
  pub fits : a ≡ true
  pub ordered : b ≡ true
  pub parts : c ≡ true
  pub queues : d ≡ true
  pub loans : e ≡ true
  pub labels : f ≡ true

node_tests : (a b c d e f : Bool) → ((a && (b && c)) && (d && (e && f))) ≡ true → NodeTests a b c d e f
node_tests a b c d e f is =
    let whole : ((a && (b && c)) ≡ true) × ((d && (e && f)) ≡ true) = and_both (a && (b && c)) (d && (e && f)) is in
    let front : (a ≡ true) × ((b && c) ≡ true) = and_both a (b && c) whole.0 in
    let known : (b ≡ true) × (c ≡ true) = and_both b c front.1 in
    let back : (d ≡ true) × ((e && f) ≡ true) = and_both d (e && f) whole.1 in
    let last : (e ≡ true) × (f ≡ true) = and_both e f back.1 in
    record { fits = front.0; ordered = known.0; parts = known.1; queues = back.0; loans = last.0; labels = last.1 }

node_test : (a b c d e f : Bool) → NodeTests a b c d e f → ((a && (b && c)) && (d && (e && f))) ≡ true
node_test a b c d e f t = rw (t.fits, t.ordered, t.parts, t.queues, t.loans, t.labels) refl

abbrev pub NodeSound : NodeValue → Type 0
NodeSound node = NodeTests (fits_setting node) (in_order node.manager.known) (list_all (is_sound_part node) node.manager.known)
    (list_all (is_sound_queue node) node.queues) (list_all (is_sound_loan node) node.kept.now.loans) (list_all (is_sound_label node) node.kept.now.labels)

pub seen : (node : NodeValue) → is_sound node ≡ true → NodeSound node
seen node is = node_tests (fits_setting node) (in_order node.manager.known) (list_all (is_sound_part node) node.manager.known)
    (list_all (is_sound_queue node) node.queues) (list_all (is_sound_loan node) node.kept.now.loans) (list_all (is_sound_label node) node.kept.now.labels) is

pub sound_as : (node : NodeValue) → NodeSound node → is_sound node ≡ true
sound_as node t = node_test (fits_setting node) (in_order node.manager.known) (list_all (is_sound_part node) node.manager.known)
    (list_all (is_sound_queue node) node.queues) (list_all (is_sound_loan node) node.kept.now.loans) (list_all (is_sound_label node) node.kept.now.labels) t

-- ---- a participant

pub record PartTests (w f p m s n i h l x : Bool) : Type 0 where
  pub whole : w ≡ true
  pub homed : f ≡ true
  pub peers : p ≡ true
  pub members : m ≡ true
  pub superior : s ≡ true
  pub outside : n ≡ true
  pub idle : i ≡ true
  pub began : h ≡ true
  pub logged : l ≡ true
  pub silent : x ≡ true

part_tests : (w f p m s n i h l x : Bool) → (((w && f) && (p && (m && s))) && ((n && (i && h)) && (l && x))) ≡ true → PartTests w f p m s n i h l x
part_tests w f p m s n i h l x is =
    let all : (((w && f) && (p && (m && s))) ≡ true) × (((n && (i && h)) && (l && x)) ≡ true) = and_both ((w && f) && (p && (m && s))) ((n && (i && h)) && (l && x)) is in
    let front : ((w && f) ≡ true) × ((p && (m && s)) ≡ true) = and_both (w && f) (p && (m && s)) all.0 in
    let first : (w ≡ true) × (f ≡ true) = and_both w f front.0 in
    let peers : (p ≡ true) × ((m && s) ≡ true) = and_both p (m && s) front.1 in
    let members : (m ≡ true) × (s ≡ true) = and_both m s peers.1 in
    let back : ((n && (i && h)) ≡ true) × ((l && x) ≡ true) = and_both (n && (i && h)) (l && x) all.1 in
    let middle : (n ≡ true) × ((i && h) ≡ true) = and_both n (i && h) back.0 in
    let still : (i ≡ true) × (h ≡ true) = and_both i h middle.1 in
    let last : (l ≡ true) × (x ≡ true) = and_both l x back.1 in
    record {
      whole = first.0;
      homed = first.1;
      peers = peers.0;
      members = members.0;
      superior = members.1;
      outside = middle.0;
      idle = still.0;
      began = still.1;
      logged = last.0;
      silent = last.1;
    }

part_test : (w f p m s n i h l x : Bool) → PartTests w f p m s n i h l x → (((w && f) && (p && (m && s))) && ((n && (i && h)) && (l && x))) ≡ true
part_test w f p m s n i h l x is = rw (is.whole, is.homed, is.peers, is.members, is.superior, is.outside, is.idle, is.began, is.logged, is.silent) refl

-- elsewhere than at the home, undecided, and without a superior
abbrev pub is_apart : Participant → Bool
is_apart part = not part.engage.home && (is_undecided part && not (is_engaged part))

abbrev pub PartSound : NodeValue → Tid → Participant → Type 0
PartSound node tid part = PartTests (is_whole part) (same_flag part.engage.home (same_node tid.home node.setting.node))
    (list_all (is_sound_peer node part) all_nodes) (list_all (is_sound_member part) all_servers) (is_sound_superior node part)
    (not (has_node part.told tid.home))
    (where_so (is_apart part) (is_idle node tid part)) (is_sound_home node tid part) (is_sound_log part) (tells_nobody part)

pub part_seen : (node : NodeValue) (tid : Tid) (part : Participant) → is_sound_part node (tid, part) ≡ true → PartSound node tid part
part_seen node tid part is = part_tests (is_whole part) (same_flag part.engage.home (same_node tid.home node.setting.node))
    (list_all (is_sound_peer node part) all_nodes) (list_all (is_sound_member part) all_servers) (is_sound_superior node part)
    (not (has_node part.told tid.home))
    (where_so (is_apart part) (is_idle node tid part)) (is_sound_home node tid part) (is_sound_log part) (tells_nobody part) is

pub part_as : (node : NodeValue) (tid : Tid) (part : Participant) → PartSound node tid part → is_sound_part node (tid, part) ≡ true
part_as node tid part t = part_test (is_whole part) (same_flag part.engage.home (same_node tid.home node.setting.node))
    (list_all (is_sound_peer node part) all_nodes) (list_all (is_sound_member part) all_servers) (is_sound_superior node part)
    (not (has_node part.told tid.home))
    (where_so (is_apart part) (is_idle node tid part)) (is_sound_home node tid part) (is_sound_log part) (tells_nobody part) t
