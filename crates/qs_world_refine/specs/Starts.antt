-- Where nothing was heard of a transaction, and what the agreement machine begins with there.
use Rattle.std.specs.Prelude.{◌≡◌, ℕ, ◌%◌, ◌==◌, ◌<◌, ◌≤◌, Bool, true, false, not, ◌&&◌, [], None, nat_lt, if◌then◌else◌}
use Rattle.std.specs.List.{list_all, list_any}
use Rattle.qs_base.specs.Order.{same_tid}
use Rattle.qs_base.specs.declared.identifiers.Tid.{Tid}
use Rattle.qs_ops.specs.Members.{class_of}
use Rattle.qs_record.specs.declared.record.Record.{Record}
use Rattle.qs_restart.specs.Recovery.{Recovery, names_transaction, is_untold_of}
use Rattle.qs_tm.specs.Manager as tm
use Rattle.qs_node_step.specs.Answering.{was_committed}
use Rattle.qs_node_step.specs.Bringing.{tid_of}
use Rattle.qs_node_step.specs.State.{Work, part_of}
use Rattle.qs_world.specs.World.{Opening}
use Rattle.qs_world_agree.specs.World as machine
use Rattle.qs_world_refine.specs.Places.{place, known_place, home_place, class_in}
use Rattle.qs_world_refine.specs.Faces.{Face}
use Rattle.qs_world_refine.specs.Sights.{Sight, is_in_doubt}

-- ---- nothing is seen of it

-- nothing came, went or was served; the home runs it from its beginning
pub record IsNewFace (home : Bool) (f : Face) : Type 0 where
  pub is_home : f.is_home ≡ home
  pub on : f.on ≡ home
  pub superior : f.superior ≡ 0
  pub last : (m : ℕ) → f.last m ≡ 0
  pub sent : (m : ℕ) → f.sent m ≡ 0
  pub covered : (m : ℕ) → f.covered m ≡ 0
  pub waits : (s : ℕ) → f.waits s ≡ 0
  pub uncast : (s : ℕ) → f.uncast s ≡ 0
  pub loans : f.loans ≡ 0
  pub asked : f.asked ≡ false
  pub blocked : f.blocked ≡ false
  pub involved : f.involved ≡ false
  pub told : (m : ℕ) → f.told m ≡ false
  pub outcome : f.outcome ≡ machine.Open
  pub tell : (m : ℕ) → f.tell m ≡ false
  pub acknowledged : (m : ℕ) → f.acknowledged m ≡ false

-- the log has no vote of it in doubt and no Commit
pub record SaysNothing (tid : Tid) (found : Recovery) : Type 0 where
  pub prepared : (s : ℕ) → is_in_doubt tid s found ≡ false
  pub committed : list_any (same_tid tid) found.committed ≡ false
  pub untold : list_any (is_untold_of tid) found.untold ≡ false

-- the node in its present incarnation is where the transaction begins
abbrev pub begins_at : Tid → Sight → ℕ → Bool
begins_at tid x n = (tid.home.0 == n) && (tid.inc == x.inc n)

pub record IsUnseen (tid : Tid) (x : Sight) : Type 0 where
  pub small : x.size ≤ 16
  pub numbered : names_transaction tid ≡ true
  pub home_in : tid.home.0 < x.size
  pub faces : (n : ℕ) → n < x.size → x.up n ≡ true → IsNewFace (begins_at tid x n) (x.face n)
  pub links : (n i m j : ℕ) → x.said n i m j ≡ []
  pub unmet : (n m : ℕ) → x.unmet n m ≡ []
  pub logs : (n : ℕ) → n < x.size → SaysNothing tid (x.found n)

-- ---- what its machine finds as it begins

abbrev pub node_of : ℕ → ℕ
node_of p = p % 256

abbrev pub opening_seen : Tid → Sight → machine.Opening
opening_seen tid x = record {
  node = node_of;
  class = λ n s. class_in (class_of s);
  home = home_place tid;
  present = λ n. place n (x.inc n);
  up = λ p. x.up (node_of p) && (p == place (node_of p) (x.inc (node_of p)));
  peer = λ p m. if (p == place (node_of p) (x.inc (node_of p))) && nat_lt m x.size then known_place m (x.knows (node_of p) m) else 0;  -- no other place of a node knows anybody
}

-- its home runs, in the incarnation in which it begins, and nobody knows a later incarnation than there is
pub record MayBegin (tid : Tid) (x : Sight) : Type 0 where
  pub small : x.size ≤ 16
  pub home_up : x.up tid.home.0 ≡ true
  pub home_in : tid.home.0 < x.size
  pub home_now : tid.inc ≡ x.inc tid.home.0
  pub known : (n m : ℕ) → x.knows n m ≤ x.inc m

-- ---- a node where a client may begin one: the number that it gives is new

pub record MayBeginAt (work : Work) : Type 0 where
  pub node : work.node.manager.node ≡ work.node.setting.node
  pub inc : work.node.manager.inc ≡ work.node.setting.inc
  pub unknown : part_of (tm.next_tid work.node.manager) work ≡ None
  pub fresh : was_committed (tm.next_tid work.node.manager) work.node ≡ false

-- ---- a world as it begins, with logs that have no record of it

abbrev pub is_of_other : Tid → Record → Bool
is_of_other tid rec = not (same_tid tid (tid_of rec))

abbrev pub HasNoRecord : Tid → Opening → Type 0
HasNoRecord tid o = (n : ℕ) → n < o.size → list_all (is_of_other tid) (o.logs n) ≡ true
